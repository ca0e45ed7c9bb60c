-- A row of the code as the machine's, and what an opcode that was tried gives. Assumes nothing.
use Rattle.std.specs.Prelude.{ℕ, suc, ◌+◌, ◌-◌, ◌<◌, Bool, not, ◌≡◌, refl, eqb}
use Rattle.std.proofs.Common.{arith, sym, ap, ◌∙◌, eq-eqb, ne_eqb}
use Rattle.std.specs.Prelude.{if◌then◌else◌}
use Rattle.machine.specs.Opcodes as M
use Rattle.machine.specs.Opcodes.{least, attempt_for, bytes_from, operands_from, is_counted, row_from, row_for}
use Rattle.opcodes.specs.declared.row.Row.{Row}

abbrev pub row_by : Row → M.Row
row_by r = M.row r.bytes r.taken r.pushed

-- One try more: it gives e, or it does not.
module _ (f : ℕ → ℕ) (e k i : ℕ) where
  pub least_more : f i ≡ e → least f e (suc k) i ≡ least f e k (i + 1)
  least_more h = ap (λ (b : Bool). if b then least f e k (i + 1) else i) (eq-eqb (f i) e h)

  pub least_found : (f i ≡ e → ⊥) → least f e (suc k) i ≡ i
  least_found h = ap (λ (b : Bool). if b then least f e k (i + 1) else i) (ne_eqb (f i) e h)

-- What is looked for in n tries, when i of them were made.
pub record Looking (f : ℕ → ℕ) (e n i : ℕ) : Type 0 where
  pub left : least f e (n - i) i ≡ least f e n 0

module _ {f : ℕ → ℕ} {e n i : ℕ} (l : Looking f e n i) where
  pub look_more : i < n → f i ≡ e → Looking f e n (i + 1)
  look_more h q =
      let s : n - i ≡ suc (n - (i + 1)) = omega arith in
      record { left = sym (ap (λ (k : ℕ). least f e k i) s ∙ least_more f e (n - (i + 1)) i q) ∙ l.left }

  pub look_found : i < n → (f i ≡ e → ⊥) → i ≡ least f e n 0
  look_found h q =
      let s : n - i ≡ suc (n - (i + 1)) = omega arith in
      sym (ap (λ (k : ℕ). least f e k i) s ∙ least_found f e (n - (i + 1)) i q) ∙ l.left

  pub look_last : i ≡ n → i ≡ least f e n 0
  look_last h = let s : n - i ≡ 0 = omega arith in sym (ap (λ (k : ℕ). least f e k i) s) ∙ l.left

pub look_none : (f : ℕ → ℕ) (e n : ℕ) → Looking f e n 0
look_none f e n = let s : n - 0 ≡ n = omega arith in record { left = ap (λ (k : ℕ). least f e k 0) s }

-- The row
row_for_lem : (b : ℕ) → row_for b ≡ row_from (attempt_for b)
unfolding row_for attempt_for
row_for_lem b = refl

-- where the opcode is known
abbrev known : (ℕ → ℕ → ℕ → M.Attempt) → M.Row
known f = M.row (bytes_from f) (if is_counted f then 254 else operands_from f) (((f 0 2 4).standing + operands_from f) - 4)

module _ (b : ℕ) where
  pub row_unknown : (attempt_for b 0 2 4).number ≡ 13 → M.row 255 255 255 ≡ row_for b
  row_unknown h = sym (row_for_lem b ∙ ap (λ (t : Bool). if t then M.row 255 255 255 else known (attempt_for b)) (eq-eqb (attempt_for b 0 2 4).number 13 h))

  pub row_known : ((attempt_for b 0 2 4).number ≡ 13 → ⊥) → known (attempt_for b) ≡ row_for b
  row_known h = sym (row_for_lem b ∙ ap (λ (t : Bool). if t then M.row 255 255 255 else known (attempt_for b)) (ne_eqb (attempt_for b 0 2 4).number 13 h))

  -- each number by itself
  pub row_made : {r : Row} {whole other taken : ℕ} → ((attempt_for b 0 2 4).number ≡ 13 → ⊥) → whole ≡ (attempt_for b 0 2 4).standing → other ≡ (attempt_for b 1 2 4).standing
      → r.bytes ≡ bytes_from (attempt_for b) → taken ≡ operands_from (attempt_for b) → r.taken ≡ (if not (eqb whole other) then 254 else taken) → r.pushed ≡ (whole + taken) - 4
      → row_by r ≡ row_for b
  row_made {r} {whole} {other} {taken} h w o n m t p =
      let t' : r.taken ≡ (if is_counted (attempt_for b) then 254 else operands_from (attempt_for b)) = t ∙ (λ i. if not (eqb (w i) (o i)) then 254 else m i) in
      let p' : r.pushed ≡ ((attempt_for b 0 2 4).standing + operands_from (attempt_for b)) - 4 = p ∙ (λ i. (w i + m i) - 4) in
      (λ i. M.row (n i) (t' i) (p' i)) ∙ row_known h

-- What is taken, by whether the operand bytes count
module _ (a b n : ℕ) where
  pub taken_counted : (a ≡ b → ⊥) → 254 ≡ (if not (eqb a b) then 254 else n)
  taken_counted h = sym (ap (λ (t : Bool). if not t then 254 else n) (ne_eqb a b h))

  pub taken_least : a ≡ b → n ≡ (if not (eqb a b) then 254 else n)
  taken_least h = sym (ap (λ (t : Bool). if not t then 254 else n) (eq-eqb a b h))
