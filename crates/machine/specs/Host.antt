-- Module 6 of document 01: the host calls. Assumes nothing.
use Rattle.std.specs.Prelude.{Bool, true, false, ◌&&◌, List, [], ◌∷◌, ℕ, ◌+◌, leb, ltb, length, get_or}
use Rattle.std.proofs.Math.Option.{Option, none, some}
use Rattle.machine.specs.Basic.{is_ascii}
use Rattle.machine.specs.Value.{Text, Value}
use Rattle.machine.specs.Image.{Template, Read, image}
use Rattle.machine.specs.State.{State, Bytes, bytes, fresh, store_of, bytes_of, global, question}
use Rattle.machine.specs.Convert.{to_js_string}
use Rattle.machine.specs.Error.{error_number}
use Rattle.machine.specs.Act.{Act, Given}
use Rattle.machine.specs.Program.{Program, next, make, End, Event, How, Outcome, exec}
use Rattle.machine.specs.Run.{Step, Result, Ran, steps, step_limit}

-- A buffer is given by its length.
pub data Call : Type 0 where
  load : List ℕ → Call
  register : ℕ → ℕ → Call
  set_global : List ℕ → Given → Call
  read_global : List ℕ → Call
  run : ℕ → Call
  text : Given → ℕ → Call
  drain : ℕ → Call
  clear : Call

-- A refusal's number alone; an image's or a function's number; nothing; a value; how a run ended, with its steps; the bytes written at the
-- buffer's start, which are all that changes there.
pub data Answer : Type 0 where
  refusal : ℕ → Answer
  numbered : ℕ → Answer
  done : Answer
  valued : Value → Answer
  ran : Result → ℕ → Answer
  wrote : List ℕ → Answer

-- The host's values: question 29 for bytes, question 30 for a handle, against the counts as the call finds them.

abbrev pub bytes_fine : Given → Bool
bytes_fine (Given.plain v) = true
bytes_fine (Given.as_bytes bs) = is_ascii bs

abbrev pub is_inside : Bytes → Text → Bool
is_inside m t = leb (t.at + t.size) (length (store_of m t.store)) && is_ascii (bytes_of m t)

abbrev pub handle_fine : Bytes → Value → Bool
handle_fine m Value.undefined = true
handle_fine m Value.null = true
handle_fine m (Value.boolean b) = true
handle_fine m (Value.number n) = true
handle_fine m (Value.text t) = is_inside m t
handle_fine m (Value.object o) = true
handle_fine m (Value.function f) = true

abbrev pub given_fine : Bytes → Given → Bool
given_fine m (Given.plain v) = handle_fine m v
given_fine m (Given.as_bytes bs) = true

abbrev pub given_text : Bytes → Given → List ℕ
given_text m (Given.plain v) = to_js_string m v
given_text m (Given.as_bytes bs) = bs

-- What a call asks before its space questions: the number of the first question that is answered no.

abbrev pub ask : ℕ → Bool → Option ℕ → Option ℕ
ask n true more = more
ask n false more = some n

-- Questions 1 to 7
abbrev pub refusal_read : Read (List Template) → Option ℕ
refusal_read (Read.refused n) = some n
refusal_read (Read.got ts at rest) = none

abbrev pub questions : Call → State → Option ℕ
questions (load bs) s = refusal_read (image (length s.code) bs)
questions (register i t) s = ask 10 (ltb i (length s.images)) (ask 32 (leb 1 t && ltb t (length (get_or s.images i []))) none)
questions (set_global n g) s = ask 29 (is_ascii n && bytes_fine g) (ask 30 (given_fine (bytes s) g) none)
questions (read_global n) s = ask 29 (is_ascii n) none
questions (run i) s = ask 10 (ltb i (length s.images)) none
questions (text g n) s = ask 29 (bytes_fine g) (ask 30 (given_fine (bytes s) g) (ask 31 (leb (length (given_text (bytes s) g)) n) none))
questions (drain n) s = ask 31 (leb (length s.output) n) none
questions clear s = none

-- What it then makes, asking its space questions: 8 and 9; 23; 26 and 27; 11. Of a run, before its first step.
abbrev pub makes : Call → Program
makes (load bs) = make (Act.load bs) next
makes (register i t) = make (Act.add_function i t) next
makes (set_global n g) = make (Act.put_global n g) next
makes (read_global n) = next
makes (run i) = make (Act.push_frame i 0 []) next
makes (text g n) = next
makes (drain n) = make Act.empty_output next
makes clear = next

-- A call of a history: what it asked and made before a first step, the steps of its run, its answer, and the state that it leaves.
pub record Called : Type 0 where
  pub call : Call
  pub before : State
  pub events : List Event
  pub steps : List Step
  pub answer : Answer
  pub after : State

abbrev pub simply : Call → State → List Event → Answer → State → Called
simply c s es a s' = record { call = c; before = s; events = es; steps = []; answer = a; after = s' }

abbrev pub ran_from : Call → State → List Event → Ran → Called
ran_from c s es r = record { call = c; before = s; events = es; steps = r.steps; answer = Answer.ran r.result r.made; after = r.state }

-- An accepted call, of which o has come: a run makes its steps, and clear gives the fresh engine.
abbrev pub accepted : Call → State → Outcome → Called
accepted (load bs) s o = simply (load bs) s o.events (numbered (length s.images)) o.state
accepted (register i t) s o = simply (register i t) s o.events (numbered (length s.functions)) o.state
accepted (set_global n g) s o = simply (set_global n g) s o.events done o.state
accepted (read_global n) s o = simply (read_global n) s o.events (valued (global s n)) o.state
accepted (run i) s o = ran_from (run i) s o.events (steps step_limit 0 o.state)
accepted (text g n) s o = simply (text g n) s o.events (wrote (given_text (bytes s) g)) o.state
accepted (drain n) s o = simply (drain n) s o.events (wrote s.output) o.state
accepted clear s o = simply clear s o.events done fresh

-- A refused call returns its number alone and alters nothing.
abbrev pub refused_call : Call → State → List Event → ℕ → Called
refused_call c s es n = simply c s es (refusal n) s

-- No act of a host call has an error of 000; the number is written down all the same.
abbrev pub ended_number : End → ℕ
ended_number (End.finished v) = 0
ended_number (End.failed e) = error_number e

abbrev pub settled_call : How → Call → State → Outcome → Called
settled_call How.went c s o = accepted c s o
settled_call (How.ended e) c s o = refused_call c s o.events (ended_number e)
settled_call (How.refused q) c s o = refused_call c s o.events (question q)

abbrev pub performed : Option ℕ → Call → State → Called
performed (some n) c s = refused_call c s [] n
performed none c s = let o = exec (makes c) s in settled_call o.how c s o

abbrev pub perform : Call → State → Called
perform c s = performed (questions c s) c s

-- Question 33 comes first in every call: are the lent stores of listed size?
abbrev pub perform_on : Bool → Call → State → Called
perform_on true c s = perform c s
perform_on false c s = refused_call c s [] 33

-- The calls of a list, each on the state that the last one left.
abbrev pub history : State → List Call → List Called
history s [] = []
history s (c ∷ cs) = let d = perform c s in d ∷ history d.after cs

abbrev pub leaves : State → List Call → State
leaves s [] = s
leaves s (c ∷ cs) = leaves (perform c s).after cs
