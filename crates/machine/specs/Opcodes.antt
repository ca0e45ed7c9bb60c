-- The table of opcodes: change 6 of document 02. For each byte it has the operand bytes that follow, the least operands taken, and the operands pushed. A row is
-- found by trying the instruction's rule (`row_of`), with no case for an opcode; `Listed` is what it says of every step. Assumes nothing.
use Rattle.std.specs.Prelude.{◌≡◌, ◌↔◌, Bool, false, not, ◌||◌, List, [], ◌∷◌, ℕ, zero, suc, ◌+◌, ◌-◌, ◌<◌, eqb, length, replicate}
use Rattle.std.specs.Prelude.{if◌then◌else◌}
use Rattle.machine.specs.Value.{object}
use Rattle.machine.specs.State.{State}
use Rattle.machine.specs.Program.{Program, How, went, ended, refused, Outcome, exec}
use Rattle.machine.specs.Instruction.{current, current_ip, instruction}
use Rattle.machine.specs.Run.{Result, begun, Step, after, end_number}

pub record Row : Type 0 where
  pub bytes : ℕ
  pub taken : ℕ
  pub pushed : ℕ

abbrev pub row : ℕ → ℕ → ℕ → Row
row b t p = record { bytes = b; taken = t; pushed = p }

-- The number that an instruction gives, 0 where it gives none.
abbrev pub number : How → ℕ
number went = 0
number (ended e) = end_number (Result.ended e)
number (refused q) = end_number (Result.full q)

-- Trying a rule

-- One frame with n bytes of code left, each of them b, and m operands. These are objects, with which a Call goes on.
abbrev pub trial : ℕ → ℕ → ℕ → State
trial b n m = record {
  code = replicate n b;
  images = (record { parameters = 0; locals = 0; constants = []; at = 0; size = n } ∷ []) ∷ [];
  operands = replicate m (object 0);
  slots = [];
  frames = record { image = 0; template = 0; ip = 0; base = 0; count = 0 } ∷ [];
  handlers = [];
  functions = [];
  objects = [];
  properties = [];
  globals = [];
  text = [];
  output = [];
}

-- What comes of it: the number, and the operands that stand afterwards, 0 where it does not go on in its frame.
pub record Attempt : Type 0 where
  pub number : ℕ
  pub standing : ℕ

abbrev pub standing_in : How → State → ℕ
standing_in went s = if eqb (length s.frames) 1 then length s.operands else 0
standing_in (ended e) s = 0
standing_in (refused q) s = 0

abbrev pub attempted : Outcome → Attempt
attempted o = record { number = number o.how; standing = standing_in o.how o.state }

abbrev pub attempt : Program → ℕ → ℕ → ℕ → Attempt
attempt p b n m = attempted (exec p (trial b n m))

-- The least number from i on at which f does not give e, looked for k times.
abbrev pub least : (ℕ → ℕ) → ℕ → ℕ → ℕ → ℕ
least f e zero i = i
least f e (suc k) i = if eqb (f i) e then least f e k (i + 1) else i

-- The row that attempts give: 255 for an unknown opcode; 254 as taken where the operand bytes say how many, since then what stands afterwards depends on them; and 0
-- as pushed where it does not go on in its frame.
module _ (f : ℕ → ℕ → ℕ → Attempt) where
  abbrev pub bytes_from : ℕ
  bytes_from = least (λ n. (f 0 n 4).number) 14 2 0

  abbrev pub operands_from : ℕ
  operands_from = least (λ m. (f 0 2 m).number) 15 3 0

  abbrev pub is_counted : Bool
  is_counted = not (eqb (f 0 2 4).standing (f 1 2 4).standing)

  abbrev pub row_from : Row
  row_from =
      if eqb (f 0 2 4).number 13 then row 255 255 255
      else row bytes_from (if is_counted then 254 else operands_from) (((f 0 2 4).standing + operands_from) - 4)

abbrev pub row_of : Program → Row
row_of p = row_from (attempt p)

-- An attempt and the row of a byte. They are shut, so that a contract of code that names them does not spread.
unfoldable pub attempt_for : ℕ → ℕ → ℕ → ℕ → Attempt
attempt_for b = attempt (instruction b)

unfoldable pub row_for : ℕ → Row
row_for b = row_of (instruction b)

-- The rows of n bytes from b on, three numbers each; those of all bytes are `numbers 0 256`.
abbrev pub onto : Row → List ℕ → List ℕ
onto r ns = r.bytes ∷ r.taken ∷ r.pushed ∷ ns

abbrev pub numbers : ℕ → ℕ → List ℕ
numbers b zero = []
numbers b (suc n) = onto (row_of (instruction b)) (numbers (b + 1) n)

-- What a row says of a step

-- CreateArray and Call
abbrev pub is_counting : ℕ → Bool
is_counting b = eqb b 61 || eqb b 50

-- Throw, Return and Halt
abbrev pub is_leaving : ℕ → Bool
is_leaving b = eqb b 74 || eqb b 51 || eqb b 255

-- The bytes that follow the opcode in its code.
abbrev pub following : State → ℕ
following s = (current s s.frames).size - (current_ip s.frames + 1)

-- A step from s that begins opcode b, whose row is r, and has the outcome o: when it gives 13, past 13 when 14, past 14 when 15, and the operands where it gives no
-- number. A Dup of nothing is no exception: no operand stands before, and one afterwards.
pub record Listed (s : State) (b : ℕ) (r : Row) (o : Outcome) : Type 0 where
  pub known : (number o.how ≡ 13) ↔ (r.bytes ≡ 255)
  pub cut : (number o.how ≡ 13 → ⊥) → (number o.how ≡ 14) ↔ (following s < r.bytes)
  pub short : (number o.how ≡ 13 → ⊥) → (number o.how ≡ 14 → ⊥) → is_counting b ≡ false → (number o.how ≡ 15) ↔ (length s.operands < r.taken)
  pub moves : is_counting b ≡ false → is_leaving b ≡ false → number o.how ≡ 0 → length (after s o).operands + r.taken ≡ length s.operands + r.pushed

abbrev pub AsListed : Step → Type 0
AsListed t = (b : ℕ) → t.kind ≡ begun b → Listed t.before b (row_for b) t.outcome
