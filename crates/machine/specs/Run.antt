-- Steps and runs: module 5 of document 01. Assumes nothing.
use Rattle.std.specs.Prelude.{List, [], ◌∷◌, ℕ, zero, suc, ◌+◌, ltb, get_or}
use Rattle.std.specs.Prelude.{if◌then◌else◌}
use Rattle.machine.specs.Value.{Value, undefined}
use Rattle.machine.specs.Error.{JsVmError, error_number, execution_limit_exceeded, unknown_opcode, ip_out_of_bounds, stack_underflow, stack_overflow, uncaught_exception, not_callable, invalid_function_id, no_call_frame}
use Rattle.machine.specs.State.{State, Frame, Store, running, question}
use Rattle.machine.specs.Act.{pop_frame}
use Rattle.machine.specs.Program.{Program, next, look, make, End, finished, failed, How, went, refused, Outcome, exec}
use Rattle.machine.specs.Instruction.{instruction, finish, fetch}

-- A step

-- What a step is: an opcode begun (an unknown byte too), a frame taken off because its `ip` is at or past the code's end, or a finish with no
-- frame.
pub data Kind : Type 0 where
  begun : ℕ → Kind
  run_out no_frame : Kind

abbrev pub kind_in : State → List Frame → Kind
kind_in s [] = no_frame
kind_in s (f ∷ fs) =
    if ltb f.ip (running s f).size
    then begun (get_or s.code ((running s f).at + f.ip) 0)
    else run_out

abbrev pub kind_of : State → Kind
kind_of s = kind_in s s.frames

abbrev pub body : Kind → Program
body (begun b) = fetch instruction
body run_out = make pop_frame next
body no_frame = look λ s. finish s.operands

pub record Step : Type 0 where
  pub before : State
  pub kind : Kind
  pub outcome : Outcome

abbrev pub step : State → Step
step s = record { before = s; kind = kind_of s; outcome = exec (body (kind_of s)) s }

-- A space refusal restores the state from before the instruction.
abbrev pub settled : State → How → State → State
settled before went s = s
settled before (How.ended e) s = s
settled before (refused q) s = before

abbrev pub after : State → Outcome → State
after before o = settled before o.how o.state

-- A run

-- How a run ends: as an instruction ended it, or because a store was full.
pub data Result : Type 0 where
  ended : End → Result
  full : Store → Result

-- Document 01's number for each case, 0 where the run finished, and the value that the answer carries: the result, or the thrown value of 17.
abbrev pub end_number : Result → ℕ
end_number (ended (finished v)) = 0
end_number (ended (failed e)) = error_number e
end_number (full q) = question q

abbrev pub thrown_value : JsVmError → Value
thrown_value execution_limit_exceeded = undefined
thrown_value (unknown_opcode b) = undefined
thrown_value ip_out_of_bounds = undefined
thrown_value stack_underflow = undefined
thrown_value stack_overflow = undefined
thrown_value (uncaught_exception v) = v
thrown_value not_callable = undefined
thrown_value invalid_function_id = undefined
thrown_value no_call_frame = undefined

abbrev pub end_value : Result → Value
end_value (ended (finished v)) = v
end_value (ended (failed e)) = thrown_value e
end_value (full q) = undefined

pub record Ran : Type 0 where
  pub steps : List Step
  pub made : ℕ
  pub result : Result
  pub state : State

abbrev pub stopped : ℕ → Result → State → Ran
stopped n e s = record { steps = []; made = n; result = e; state = s }

abbrev pub stepped : Step → Ran → Ran
stepped t r = record { steps = t ∷ r.steps; made = r.made; result = r.result; state = r.state }

-- After a step, the n-th one: r is what comes of the next steps.
abbrev pub go_on : How → ℕ → State → Ran → Ran
go_on went n s r = r
go_on (How.ended e) n s r = stopped n (Result.ended e) s
go_on (refused q) n s r = stopped n (full q) s

-- k steps may still be made, and n have been: question 12.
abbrev pub steps : ℕ → ℕ → State → Ran
steps zero n s = stopped n (Result.ended (failed execution_limit_exceeded)) s
steps (suc k) n s =
    let t = step s in
    let s' = after s t.outcome in
    let r = steps k (n + 1) s' in
    stepped t (go_on t.outcome.how (n + 1) s' r)

-- `max_steps`
abbrev pub max_steps : ℕ
max_steps = 100000

-- the same, shut: no proof counts it down
unfoldable pub step_limit : ℕ
step_limit = max_steps
