-- The table of opcodes agrees with the instruction rules: one computed test, and one law that turns it into the row at each byte. A number that is no byte has the
-- row of an unknown opcode. Assumes nothing.
use mathlib.Core.Path.{◌≡◌, refl, sym, ap, ◌∙◌}
use mathlib.Core.Bool.{Bool, true, false, ◌&&◌, true≢false}
use mathlib.Core.List.{List, [], ◌∷◌}
use Prim.Native.Nat.{ℕ, zero, suc, ◌+◌, ◌*◌, ◌≤◌, ◌<◌}
use native.Mathlib.Omega.{arith}
use lib.Dec.{ltb, eqb}
use lib.ListN.{get_or}
use borrow.Author.Tests.{ltb-true, eqb-true}
use Rattle.std.specs.Prelude.{if◌then◌else◌}
use Rattle.machine.specs.Error.{unknown_opcode}
use Rattle.machine.specs.Program.{Program, end, failed}
use Rattle.machine.specs.Instruction.{instructions, instruction, find}
use Rattle.machine.specs.Opcodes.{Row, row, row_of, row_for, onto, numbers}
use Rattle.machine.specs.OpcodeTable.{opcode_table}

tested : opcode_table ≡ numbers 0 256
unfolding opcode_table
tested = refl

-- The row at place k of a table.
abbrev pub row_at : List ℕ → ℕ → Row
row_at ns k = row (get_or ns (3 * k) 0) (get_or ns (3 * k + 1) 0) (get_or ns (3 * k + 2) 0)

row_later : (r : Row) (ns : List ℕ) (k : ℕ) → row_at (onto r ns) (suc k) ≡ row_at ns k
row_later r ns k =
    let a : 3 * suc k ≡ suc (suc (suc (3 * k))) = omega arith in
    let b : 3 * suc k + 1 ≡ suc (suc (suc (3 * k + 1))) = omega arith in
    let c : 3 * suc k + 2 ≡ suc (suc (suc (3 * k + 2))) = omega arith in
    λ i. row (get_or (onto r ns) (a i) 0) (get_or (onto r ns) (b i) 0) (get_or (onto r ns) (c i) 0)

numbers_at : (n b k : ℕ) → k < n → row_at (numbers b n) k ≡ row_of (instruction (b + k))
numbers_at zero b k l = absurd (omega arith)
numbers_at (suc n) b zero l = let e : b ≡ b + 0 = omega arith in ap (λ (c : ℕ). row_of (instruction c)) e
numbers_at (suc n) b (suc k) l =
    let e : (b + 1) + k ≡ b + suc k = omega arith in
    row_later (row_of (instruction b)) (numbers (b + 1) n) k ∙ numbers_at n (b + 1) k (omega arith) ∙ ap (λ (c : ℕ). row_of (instruction c)) e

pub agrees : (b : ℕ) → b < 256 → row_at opcode_table b ≡ row_for b
unfolding row_for
agrees b l =
    let e : 0 + b ≡ b = omega arith in
    ap (λ (ns : List ℕ). row_at ns b) tested ∙ numbers_at 256 0 b l ∙ ap (λ (c : ℕ). row_of (instruction c)) e

-- A number that is no byte

abbrev are_bytes : List (ℕ × Program) → Bool
are_bytes [] = true
are_bytes (i ∷ is) = ltb i.0 256 && are_bytes is

find_past : (b : ℕ) (is : List (ℕ × Program)) → 256 ≤ b → are_bytes is ≡ true → find b is ≡ end (failed (unknown_opcode b))
find_past b [] l e = refl
find_past b (i ∷ is) l e = go (ltb i.0 256) refl (eqb b i.0) refl e (find_past b is l)
  where
    go : (s : Bool) → ltb i.0 256 ≡ s → (t : Bool) → eqb b i.0 ≡ t → s && are_bytes is ≡ true
        → (are_bytes is ≡ true → find b is ≡ end (failed (unknown_opcode b))) → (if t then i.1 else find b is) ≡ end (failed (unknown_opcode b))
    go true p true q f k = let x = ltb-true i.0 256 p in let y = eqb-true b i.0 q in absurd (omega arith)
    go true p false q f k = k f
    go false p t q f k = absurd (true≢false (sym f))

pub past : (b : ℕ) → 256 ≤ b → row_for b ≡ row 255 255 255
unfolding row_for
past b l = ap row_of (find_past b instructions l refl)
