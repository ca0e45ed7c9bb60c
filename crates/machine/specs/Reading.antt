-- Change 3 of document 02: a number text read in one pass. After any byte, what was read is one of these readings, and nothing else is needed to go on.
-- `parse_js_number` of module 1 stays the meaning of a text. Assumes nothing.
use Rattle.std.specs.Prelude.{Bool, true, false, List, [], ◌∷◌, ◌++◌, ℕ, ◌+◌, ◌-◌, ◌*◌, eqb}
use Rattle.std.specs.Prelude.{if◌then◌else◌}
use Rattle.machine.specs.Number as N

-- Blanks only; whether a `-` came, and the digits' worth; the same, with a blank behind them; no number, whatever follows.
pub data Reading : Type 0 where
  leading : Reading
  digits : Bool → ℕ → Reading
  trailing : Bool → ℕ → Reading
  invalid : Reading

abbrev pub start : Reading
start = leading

-- A byte where a digit may stand.
abbrev pub digit : Bool → ℕ → ℕ → Reading
digit minus n b = if N.is_digit b then digits minus (N.wrap (n * 10 + (b - 48))) else invalid

-- One byte more.
abbrev pub next : Reading → ℕ → Reading
next leading b = if N.is_blank b then leading else if eqb b 45 then digits true 0 else digit false 0 b
next (digits minus n) b = if N.is_blank b then trailing minus n else digit minus n b
next (trailing minus n) b = if N.is_blank b then trailing minus n else invalid
next invalid b = invalid

-- More bytes: from a reading and these bytes alone.
abbrev pub resume : Reading → List ℕ → Reading
resume r [] = r
resume r (b ∷ bs) = resume (next r b) bs

-- The number of a text that ends here.
abbrev pub signed_whole : Bool → ℕ → ℕ
signed_whole minus n = if minus then N.neg (N.whole n) else N.whole n

abbrev pub finish : Reading → ℕ
finish leading = 0
finish (digits minus n) = signed_whole minus n
finish (trailing minus n) = signed_whole minus n
finish invalid = N.nan

-- A reading as three numbers: its stage, 1 for a `-`, the digits' worth.
pub record Saved : Type 0 where
  pub stage : ℕ
  pub minus : ℕ
  pub worth : ℕ

abbrev pub sign : Bool → ℕ
sign true = 1
sign false = 0

abbrev pub save : Reading → Saved
save leading = record { stage = 0; minus = 0; worth = 0 }
save (digits minus n) = record { stage = 1; minus = sign minus; worth = n }
save (trailing minus n) = record { stage = 2; minus = sign minus; worth = n }
save invalid = record { stage = 3; minus = 0; worth = 0 }

-- The reading that goes on from three numbers, whatever they are.
abbrev pub restore : Saved → Reading
restore p =
    if eqb p.stage 0 then leading else
    if eqb p.stage 1 then digits (eqb p.minus 1) p.worth else
    if eqb p.stage 2 then trailing (eqb p.minus 1) p.worth else invalid

-- A text that comes in parts: after each, nothing is kept but three numbers.
abbrev pub one_part : Saved → List ℕ → Saved
one_part p bs = save (resume (restore p) bs)

abbrev pub in_parts : Saved → List (List ℕ) → Saved
in_parts p [] = p
in_parts p (bs ∷ rest) = in_parts (one_part p bs) rest

abbrev pub joined : List (List ℕ) → List ℕ
joined [] = []
joined (bs ∷ rest) = bs ++ joined rest
