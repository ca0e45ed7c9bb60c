-- What C is told of the image writer's answers, and what the answer reads as there. Assumes nothing.
use Rattle.std.specs.Prelude.{◌≡◌, refl, List, ℕ, ◌==◌, if◌then◌else◌, Result, Ok, Err}
use Rattle.std.proofs.Common.{sym, subst}
use Rattle.machine.specs.Writer as W
use Rattle.writer.specs.declared.Writer.{Writer}
use Rattle.writer.specs.declared.WriteError.{WriteError}
use Rattle.writer.specs.declared.WriteError.TheVariants.{IllFormed, BufferTooShort}
use Rattle.writer.specs.View.{number_of, Does}
use Rattle.answers.specs.declared.WriteTold.{WriteTold}

abbrev pub told_write : Writer → Result Writer WriteError → WriteTold
told_write w (Ok y) = record { number = 0; writer = y }
told_write w (Err e) = record { number = number_of e; writer = w }

-- The answer of a number and a writer; `only` below rules out a number that is none of these three.
abbrev written_as : ℕ → Writer → Result Writer WriteError
written_as n y = if n == 0 then Ok y else if n == 31 then Err BufferTooShort else Err IllFormed

abbrev pub written_by : WriteTold → Result Writer WriteError
written_by r = written_as r.number r.writer

-- THE CONTRACT of an exported call: what is read is the writer's answer, and nothing but that is told.
pub record TellsWrite (c : W.Call) (w : Writer) (b : List ℕ) (r : WriteTold) (b' : List ℕ) : Type 0 where
  pub does : Does c w b (written_by r) b'
  pub only : r ≡ told_write w (written_by r)

module _ {c : W.Call} {w : Writer} {b b' : List ℕ} where
  by : (x : Result Writer WriteError) → Does c w b x b' → TellsWrite c w b (told_write w x) b'
  by (Ok y) d = record { does = d; only = refl }
  by (Err IllFormed) d = record { does = d; only = refl }
  by (Err BufferTooShort) d = record { does = d; only = refl }

  pub write_told_lem : (x : Result Writer WriteError) {r : WriteTold} → r ≡ told_write w x → Does c w b x b' → TellsWrite c w b r b'
  write_told_lem x e d = subst (λ (r : WriteTold). TellsWrite c w b r b') (sym e) (by x d)
