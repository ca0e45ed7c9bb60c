-- The machine's error and store of those in the code, the papers' number of each, and its text. Assumes nothing.
use Rattle.machine.specs.Error as M
use Rattle.machine.specs.State as St
use Rattle.value.specs.declared.JsVmError.{JsVmError}
use Rattle.value.specs.declared.JsVmError.TheVariants.{ExecutionLimitExceeded, UnknownOpcode, IpOutOfBounds, StackUnderflow, StackOverflow, UncaughtException, NotCallable, InvalidFunctionId, NoCallFrame}
use Rattle.value.specs.declared.Space.{Space}
use Rattle.value.specs.declared.Space.TheVariants.{Frames, Slots, Handlers, Functions, Objects, Properties, Globals, Text, Output}
use Rattle.std.specs.Prelude.{ℕ, List, ◌++◌, codes, decimal}
use Rattle.value.specs.declared.Stop.{Stop}
use Rattle.value.specs.declared.Stop.TheVariants.{Failed, Refused}
use Rattle.value.specs.Words.{value_of}

abbrev pub error_of : JsVmError → M.JsVmError
error_of ExecutionLimitExceeded = M.execution_limit_exceeded
error_of (UnknownOpcode b) = M.unknown_opcode b
error_of IpOutOfBounds = M.ip_out_of_bounds
error_of StackUnderflow = M.stack_underflow
error_of StackOverflow = M.stack_overflow
error_of (UncaughtException v) = M.uncaught_exception (value_of v)
error_of NotCallable = M.not_callable
error_of InvalidFunctionId = M.invalid_function_id
error_of NoCallFrame = M.no_call_frame

abbrev pub space_of : Space → St.Store
space_of Frames = St.frame_store
space_of Slots = St.slot_store
space_of Handlers = St.handler_store
space_of Functions = St.function_store
space_of Objects = St.object_store
space_of Properties = St.property_store
space_of Globals = St.global_store
space_of Text = St.text_store
space_of Output = St.output_store

-- document 01's number of what stops an act
abbrev pub stop_number : Stop → ℕ
stop_number (Failed e) = M.error_number (error_of e)
stop_number (Refused q) = St.question (space_of q)

-- document 000's words; the value of an exception that is not caught is told beside them, by whoever has its bytes
abbrev pub error_text : JsVmError → List ℕ
error_text ExecutionLimitExceeded = codes "Execution limit exceeded"
error_text (UnknownOpcode b) = codes "Unknown opcode: " ++ decimal b
error_text IpOutOfBounds = codes "IP out of bounds"
error_text StackUnderflow = codes "Stack underflow"
error_text StackOverflow = codes "Stack overflow"
error_text (UncaughtException _) = codes "Uncaught exception"
error_text NotCallable = codes "Not callable"
error_text InvalidFunctionId = codes "Invalid function ID"
error_text NoCallFrame = codes "No call frame"

abbrev pub space_text : Space → List ℕ
space_text Frames = codes "the frames are full"
space_text Slots = codes "the slots are full"
space_text Handlers = codes "the handlers are full"
space_text Functions = codes "the functions are full"
space_text Objects = codes "the objects are full"
space_text Properties = codes "the properties are full"
space_text Globals = codes "the globals are full"
space_text Text = codes "the text store is full"
space_text Output = codes "the output is full"

abbrev pub stop_text : Stop → List ℕ
stop_text (Failed e) = error_text e
stop_text (Refused q) = space_text q
