-- The writer's state and answers as the machine's. Assumes nothing.
use Rattle.std.specs.Prelude.{◌≡◌, Bool, ◌&&◌, List, ℕ, zero, suc, ◌+◌, leb, Result, Ok, Err, codes}
use Rattle.std.proofs.Math.Option.{Option, none, some}
use Rattle.machine.specs.Writer as W
use Rattle.writer.specs.declared.Writer.{Writer}
use Rattle.writer.specs.declared.WriteError.{WriteError}
use Rattle.writer.specs.declared.WriteError.TheVariants.{IllFormed, BufferTooShort}
use Rattle.writer.specs.declared.Stage.{Stage}
use Rattle.writer.specs.declared.Stage.TheVariants.{Unbegun, Begun, Opened, Coded, Finished}

abbrev pub stage_of : ℕ → W.Stage
stage_of zero = W.unbegun
stage_of (suc zero) = W.begun
stage_of (suc (suc zero)) = W.opened
stage_of (suc (suc (suc zero))) = W.coded
stage_of (suc (suc (suc (suc n)))) = W.finished

-- The number that stands for a stage: any above 3 reads as finished, and 4 is the one that is written.
abbrev pub stage_number : W.Stage → ℕ
stage_number W.unbegun = 0
stage_number W.begun = 1
stage_number W.opened = 2
stage_number W.coded = 3
stage_number W.finished = 4

abbrev pub stage_by : Stage → W.Stage
stage_by Unbegun = W.unbegun
stage_by Begun = W.begun
stage_by Opened = W.opened
stage_by Coded = W.coded
stage_by Finished = W.finished

-- Document 02's number of a refusal, and what is printed of it.
abbrev pub number_of : WriteError → ℕ
number_of IllFormed = 34
number_of BufferTooShort = 31

abbrev pub text_of : WriteError → List ℕ
text_of IllFormed = codes "a call out of order, or a count or length above 65,535"
text_of BufferTooShort = codes "the buffer is too short"

abbrev pub writer_of : Writer → W.Writer
writer_of w = record { stage = stage_of w.stage; size = w.size; templates = w.templates; at = w.at; constants = w.constants }

abbrev pub session_of : Writer → List ℕ → W.Session
session_of w b = record { writer = writer_of w; buffer = b }

abbrev pub takes_in : W.Writer → Bool
takes_in w = leb (w.at + 8) w.size && W.is_open w.stage

-- The number of an answer, and the writer that it leaves to the host.
abbrev pub refusal : Result Writer WriteError → Option ℕ
refusal (Ok y) = none
refusal (Err e) = some (number_of e)

abbrev pub left : Result Writer WriteError → Writer → Writer
left (Ok y) w = y
left (Err e) w = w

abbrev pub answer : W.Call → Writer → List ℕ → Option ℕ
answer c w b = W.asked_on (W.in_place c (writer_of w)) c (session_of w b)

-- The stage that an accepted call leaves has its own number, so that each word of the writer is fixed.
abbrev pub Numbered : Result Writer WriteError → Type 0
Numbered (Ok y) = y.stage ≡ stage_number (stage_of y.stage)
Numbered (Err e) = Unit {0}

-- THE CONTRACT of a call, over any writer and any buffer: its answer, the writer and every byte of the buffer are the machine's.
pub record Does (c : W.Call) (w : Writer) (b : List ℕ) (r : Result Writer WriteError) (b' : List ℕ) : Type 0 where
  pub said : refusal r ≡ answer c w b
  pub session : session_of (left r w) b' ≡ W.performed (answer c w b) c (session_of w b)
  pub numbered : Numbered r
