-- How an EnterTry comes out: change 1 of document 02. Assumes nothing.
use Rattle.std.specs.Prelude.{◌≡◌, Bool, true, false, List, [], ◌∷◌, ◌+◌, ltb, length}
use Rattle.machine.specs.Error.{ip_out_of_bounds}
use Rattle.machine.specs.State.{State, Frame, handler_store, limit, running}
use Rattle.machine.specs.Program.{failed, How, went, ended, refused}
use Rattle.machine.specs.Run.{begun, Step}

-- 14 where its operand is cut off, else 22 where as many handlers are pending as there may be, else it goes on.
abbrev pub tried : Bool → Bool → How
tried false left = ended (failed ip_out_of_bounds)
tried true false = refused handler_store
tried true true = went

-- Are both bytes of the operand there, behind the opcode at the newest frame's place?
abbrev pub whole : State → List Frame → Bool
whole s [] = false
whole s (f ∷ fs) = ltb (f.ip + 2) (running s f).size

abbrev pub Tried : Step → Type 0
Tried t = t.kind ≡ begun 75
    → t.outcome.how ≡ tried (whole t.before t.before.frames) (ltb (length t.before.handlers) (limit handler_store))
