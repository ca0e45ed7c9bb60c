-- Change 4 of document 02: the text that 000 gives a number, on which numbers `format_js_number` gives another, and what the text call answers of a number. Assumes
-- nothing.
use Rattle.std.specs.Prelude.{Bool, not, ◌&&◌, ◌||◌, List, [], ◌∷◌, ◌++◌, ℕ, ◌-◌, ◌%◌, ◌^◌, eqb, leb, length}
use Rattle.std.specs.Prelude.{if◌then◌else◌}
use Rattle.machine.specs.Number as N
use Rattle.machine.specs.Host.{Answer, wrote, refusal}

-- `format_js_number` of 000: the floor, after a minus its magnitude; then, unless the number is whole, a point and the digits above the floor.
abbrev pub floor_text : ℕ → List ℕ
floor_text a = if N.is_negative a then 45 ∷ N.decimal (2 ^ 32 - N.floor a) else N.decimal (N.floor a)

abbrev pub original_text : ℕ → List ℕ
original_text a =
    if eqb a N.nan then 78 ∷ 97 ∷ 78 ∷ [] else
    if eqb (a % 2 ^ 32) 0 then floor_text a else
    floor_text a ++ 46 ∷ N.fraction a

-- Negative fractions, and points that no digit would follow.
abbrev pub amended : ℕ → Bool
amended a = not (eqb a N.nan) && not (eqb (a % 2 ^ 32) 0) && (N.is_negative a || eqb (N.millionths a) 0)

-- The most bytes that the text of a number has (proofs/NumberText).
abbrev pub longest_text : ℕ
longest_text = 18

-- The text call of a number, with a buffer of so many bytes.
abbrev pub number_answer : ℕ → ℕ → Answer
number_answer a room = if leb (length (N.format_js_number a)) room then wrote (N.format_js_number a) else refusal 31
