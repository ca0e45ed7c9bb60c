-- A byte that no instruction has. Assumes nothing.
use Rattle.std.specs.Prelude.{ℕ, Bool, List, [], ◌∷◌, ◌≡◌, refl}
use Rattle.std.proofs.Common.{ap, ◌∙◌, ne_eqb}
use Rattle.std.specs.Prelude.{if◌then◌else◌}
use Rattle.machine.specs.Error.{unknown_opcode}
use Rattle.machine.specs.Instruction.{find, instruction, instructions}
use Rattle.machine.specs.Program.{Program, end, failed}

-- a number that is none of these
abbrev pub NoneOf : ℕ → List ℕ → Type 0
NoneOf b [] = Unit {0}
NoneOf b (k ∷ ks) = (b ≡ k → ⊥) × NoneOf b ks

-- the bytes of all instructions, in the machine's order
abbrev pub numbers : List ℕ
numbers = 0 ∷ 1 ∷ 2 ∷ 3 ∷ 4 ∷ 5 ∷ 6 ∷ 7 ∷ 8 ∷ 10 ∷ 11 ∷ 12 ∷ 13 ∷ 14 ∷ 15 ∷ 20 ∷ 21 ∷ 22 ∷ 23 ∷ 24 ∷ 25 ∷ 30 ∷ 31 ∷ 32 ∷ 33 ∷ 34 ∷ 35 ∷ 36 ∷ 37 ∷ 38 ∷ 39 ∷ 40 ∷ 41 ∷ 42 ∷ 50 ∷ 51 ∷ 52 ∷ 60 ∷ 61 ∷ 70 ∷ 71 ∷ 72 ∷ 73 ∷ 74 ∷ 75 ∷ 76 ∷ 80 ∷ 81 ∷ 255 ∷ []

abbrev pub keys : List (ℕ × Program) → List ℕ
keys [] = []
keys (i ∷ is) = i.0 ∷ keys is

pub find_none : (b : ℕ) (is : List (ℕ × Program)) → NoneOf b (keys is) → find b is ≡ end (failed (unknown_opcode b))
find_none b [] h = refl
find_none b (i ∷ is) h = ap (λ (x : Bool). if x then i.1 else find b is) (ne_eqb b i.0 h.0) ∙ find_none b is h.1

pub none_of_all : (b : ℕ) → NoneOf b numbers → NoneOf b (keys instructions)
none_of_all b h = h

-- THE LAW: every number outside these 49 has the program of an unknown opcode.
pub unknown_instruction : (b : ℕ) → NoneOf b numbers → instruction b ≡ end (failed (unknown_opcode b))
unknown_instruction b h = find_none b instructions (none_of_all b h)
