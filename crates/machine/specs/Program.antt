-- Programs: how an instruction or a host call is put together from acts, and what comes of it.
-- A program ends, looks at the state, or makes an act and goes on. Assumes nothing.
use Rattle.std.specs.Prelude.{Bool, true, false, List, [], ◌∷◌, ◌+◌, leb}
use Rattle.std.proofs.Math.Option.{Option, none, some}
use Rattle.machine.specs.Value.{Value}
use Rattle.machine.specs.Error.{JsVmError}
use Rattle.machine.specs.State.{State, Store, limit, used}
use Rattle.machine.specs.Act.{Act, apply, error, Need, needs, Held, brings}

-- How an instruction ends the run: `Ok` with a value or `Err` of 000. A full store is no end of this kind: only `exec` gives it.
pub data End : Type 0 where
  finished : Value → End
  failed : JsVmError → End

pub data Program : Type 0 where
  next : Program
  end : End → Program
  look : (State → Program) → Program
  make : Act → Program → Program

-- What happens on the way: a space question that an act asks, with its answer; and an act, with the texts that it brings.
pub data Event : Type 0 where
  asked : Act → Need → Bool → Event
  did : Act → List Held → Event

-- How a program comes to its end: it went on to the next instruction, it ended the run, or a store refused.
pub data How : Type 0 where
  went : How
  ended : End → How
  refused : Store → How

pub record Outcome : Type 0 where
  pub events : List Event
  pub how : How
  pub state : State

abbrev pub over : How → State → Outcome
over h s = record { events = []; how = h; state = s }

abbrev pub noting : Event → Outcome → Outcome
noting e o = record { events = e ∷ o.events; how = o.how; state = o.state }

-- The machine answers a space question from what its stores hold.
abbrev pub fits : State → Need → Bool
fits s n = leb (used s n.of + n.amount) (limit n.of)

-- An answer, and what comes after a yes.
abbrev pub answered : Bool → Act → State → Need → Outcome → Outcome
answered true a s n o = noting (asked a n true) o
answered false a s n o = noting (asked a n false) (over (refused n.of) s)

-- One question after the other; o is what comes after a yes to all.
abbrev pub asking : Act → State → List Need → Outcome → Outcome
asking a s [] o = o
asking a s (n ∷ ns) o = let more = asking a s ns o in answered (fits s n) a s n more

-- An error of 000 leaves the state as it stands there.
abbrev pub unless_error : Option JsVmError → State → Outcome → Outcome
unless_error (some e) s o = over (ended (failed e)) s
unless_error none s o = o

abbrev pub exec : Program → State → Outcome
exec next s = over went s
exec (end e) s = over (ended e) s
exec (look f) s = exec (f s) s
exec (make a p) s =
    let o = exec p (apply a s) in
    let made = noting (did a (brings a s)) o in
    let allowed = asking a s (needs a s) made in
    unless_error (error a s) s allowed
