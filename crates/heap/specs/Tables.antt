-- THE LAW OF TABLES, for properties and globals alike: a row changed, and a row added. Assumes nothing.
use Rattle.std.specs.Prelude.{ℕ, ◌+◌, ◌*◌, ◌≤◌, ◌<◌, Bool, List, [], ◌∷◌, ◌++◌, ◌≡◌, refl, length, Some}
use Rattle.std.proofs.Common.{arith, sym, ap, ◌∙◌, length-set}
use Rattle.machine.specs.State as St
use Rattle.value.specs.Arena.{Same, Apart, apart_below, rows_kept, set3, set3_apart, set3_first, set3_second, set3_third}
use Rattle.value.specs.Lists.{one_more}
use Rattle.value.specs.Words.{value_of, set_value, value_same, value_reads, value_apart, length_set_value}
use Rattle.value.specs.declared.Value.{Value}
use Rattle.heap.specs.View.{Row, row_at, set_row, with_value, table_of}
use Rattle.heap.specs.Rows.{Finds, found_change}

-- a row is read from its own words
pub row_reads : (w w' : List ℕ) (k : ℕ) → Same w w' k (k + 6) → row_at w' k ≡ row_at w k
unfolding row_at
row_reads w w' k a =
    rw (a k (omega arith) (omega arith), a (k + 1) (omega arith) (omega arith), a (k + 2) (omega arith) (omega arith), value_reads w w' (k + 3) (λ j p q. a j (omega arith) (omega arith)))

row_changed : (w : List ℕ) (k : ℕ) (v : Value) → k + 5 < length w → row_at (set_value w (k + 3) v) k ≡ with_value (value_of v) (row_at w k)
unfolding row_at
row_changed w k v h =
    let a = value_apart w (k + 3) v in
    rw (a.at k (λ p q. omega arith), a.at (k + 1) (λ p q. omega arith), a.at (k + 2) (λ p q. omega arith), value_same w (k + 3) v (omega arith))

pub length_set_row : (w : List ℕ) (k head place size : ℕ) (v : Value) → length (set_row w k head place size v) ≡ length w
unfolding set_row
length_set_row w k head place size v = length_set_value (set3 w k head place size) (k + 3) v ∙ simp length-set

pub set_row_apart : (w : List ℕ) (k head place size : ℕ) (v : Value) → Apart w (set_row w k head place size v) k (k + 6)
unfolding set_row
set_row_apart w k head place size v = record {
  at = λ j h.
      (value_apart (set3 w k head place size) (k + 3) v).at j (λ p q. h (omega arith) (omega arith)) ∙ (set3_apart w k head place size).at j (λ p q. h (omega arith) (omega arith));
}

row_new : (w : List ℕ) (k head place size : ℕ) (v : Value) → k + 5 < length w → row_at (set_row w k head place size v) k ≡ record { head = head; place = place; size = size; value = value_of v }
unfolding row_at set_row
row_new w k head place size v h =
    let x = set3 w k head place size in
    let a = value_apart x (k + 3) v in
    let e0 = a.at k (λ p q. omega arith) ∙ set3_first w k head place size (omega arith) in
    let e1 = a.at (k + 1) (λ p q. omega arith) ∙ set3_second w k head place size (omega arith) in
    let e2 = a.at (k + 2) (λ p q. omega arith) ∙ set3_third w k head place size (omega arith) in
    rw (e0, e1, e2, value_same x (k + 3) v (simp length-set (omega arith)))

module _ {A : Type 0} (f : Row → A) (base : ℕ) (w : List ℕ) (n : ℕ) where
  pub table_kept : (w' : List ℕ) → Same w w' base (base + 6 * n) → table_of f base w' n ≡ table_of f base w n
  table_kept w' a = rows_kept (λ w k. f (row_at w k)) base 6 (λ w w' k a. ap f (row_reads w w' k a)) w w' n a

  -- v in the first row that passes; g does to what a row says what the new value does to the row
  pub table_changed : (t : A → Bool) (g : A → A) (i : ℕ) (v : Value) → Finds (λ j. t (f (row_at w (base + 6 * j)))) n (Some i) → base + 6 * n ≤ length w
      → ((r : Row) → g (f r) ≡ f (with_value (value_of v) r))
      → table_of f base (set_value w (base + 6 * i + 3) v) n ≡ St.change_first t g (table_of f base w n)
  table_changed t g i v h l q =
      let k = base + 6 * i in
      let w' = set_value w (k + 3) v in
      found_change t n (λ j. f (row_at w (base + 6 * j))) (Some i) h g i (λ j. f (row_at w' (base + 6 * j))) refl
      (ap f (row_changed w k v (omega (arith, h.told.0))) ∙ sym (q (row_at w k)))
      (λ j d. ap f (row_reads w w' (base + 6 * j) (λ x a b. (value_apart w (k + 3) v).at x (λ c e. other j x d a b c e))))
    where
      other : (j x : ℕ) → (j ≡ i → ⊥) → base + 6 * j ≤ x → x < base + 6 * j + 6 → base + 6 * i + 3 ≤ x → x < base + 6 * i + 3 + 3 → ⊥
      other j x d a b c e = d (omega arith)

  -- a row more
  pub table_more : (head place size : ℕ) (v : Value) → base + 6 * n + 5 < length w
      → table_of f base (set_row w (base + 6 * n) head place size v) (n + 1) ≡ table_of f base w n ++ f (record { head = head; place = place; size = size; value = value_of v }) ∷ []
  table_more head place size v h =
      let k = base + 6 * n in
      let w' = set_row w k head place size v in
      let row : Row = record { head = head; place = place; size = size; value = value_of v } in
      one_more n (λ i. f (row_at w' (base + 6 * i))) (f row) (ap f (row_new w k head place size v h))
      ∙ ap (λ (x : List A). x ++ f row ∷ []) (table_kept w' (apart_below (set_row_apart w k head place size v) base (base + 6 * n) (omega arith)))

pub row_written : (w : List ℕ) (k head place size : ℕ) (v : Value) (w' : List ℕ) → w' ≡ set_value (set3 w k head place size) (k + 3) v → w' ≡ set_row w k head place size v
unfolding set_row
row_written w k head place size v w' e = e
