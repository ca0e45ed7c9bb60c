-- The errors of document 000, with document 01's number for each. Assumes nothing.
use Rattle.std.specs.Prelude.{ℕ}
use Rattle.machine.specs.Value.{Value}

-- An unknown opcode carries its byte, an uncaught exception the thrown value (000: the value's text).
pub data JsVmError : Type 0 where
  execution_limit_exceeded : JsVmError
  unknown_opcode : ℕ → JsVmError
  ip_out_of_bounds stack_underflow stack_overflow : JsVmError
  uncaught_exception : Value → JsVmError
  not_callable invalid_function_id no_call_frame : JsVmError

abbrev pub error_number : JsVmError → ℕ
error_number execution_limit_exceeded = 12
error_number (unknown_opcode b) = 13
error_number ip_out_of_bounds = 14
error_number stack_underflow = 15
error_number stack_overflow = 16
error_number (uncaught_exception v) = 17
error_number not_callable = 18
error_number invalid_function_id = 19
error_number no_call_frame = 20
