-- Search in rows: the machine's `any`, `first` and `change_first` by the index of the first row that passes a test. Assumes nothing.
use Prim.Native.Nat.{ℕ, zero, suc, ◌≤◌, ◌<◌}
use Rattle.std.proofs.Common.{arith, sym, ◌∙◌}
use Rattle.std.specs.Prelude.{Bool, true, false, ◌||◌, ◌≡◌, Option, Some, None, MatchOption}
use Rattle.std.proofs.Math.Option.{none, some}
use Rattle.std.proofs.Math.Path.{refl}
use Rattle.std.proofs.Math.ListN.{get_elem?}
use Rattle.machine.specs.State as St
use Rattle.value.specs.Lists.{row_of, row_ext}

-- no row below n passes
pub record Below (t : ℕ → Bool) (n : ℕ) : Type 0 where
  pub at : (j : ℕ) → j < n → t j ≡ false

abbrev pub Told : (ℕ → Bool) → ℕ → Option ℕ → Type 0
Told t n (Some i) = (i < n) × (t i ≡ true) × Below t i
Told t n None = Below t n

-- the first row below n that passes
pub record Finds (t : ℕ → Bool) (n : ℕ) (r : Option ℕ) : Type 0 where
  pub told : Told t n r

-- what `find` says of the numbers below n
pub finds_first : (t : ℕ → Bool) (n : ℕ) (r : Option ℕ) → MatchOption r ((k : ℕ) → 0 ≤ k → k < n → t k ≡ false) (λ i. (0 ≤ i) × (i < n) × (t i ≡ true) × ((k : ℕ) → 0 ≤ k → k < i → t k ≡ false)) → Finds t n r
finds_first t n (Some i) h = record { told = (h.1, h.2, record { at = λ j l. h.3 j (omega arith) l }) }
finds_first t n None h = record { told = record { at = λ j l. h j (omega arith) l } }

pub found_within : {t : ℕ → Bool} {n i : ℕ} {r : Option ℕ} → Finds t n r → r ≡ Some i → i < n
found_within {t} {n} {i} {r} f e = let x : Told t n (Some i) = rw e at f.told in x.0

pub finds_ext : {t t' : ℕ → Bool} {n : ℕ} {r : Option ℕ} → ((i : ℕ) → t i ≡ t' i) → Finds t n r → Finds t' n r
finds_ext {t} {t'} {n} {r} e f = record { told = go r f.told }
  where
    go : (r : Option ℕ) → Told t n r → Told t' n r
    go (Some i) x = (x.0, sym (e i) ∙ x.1, record { at = λ j h. sym (e j) ∙ x.2.at j h })
    go None x = record { at = λ j h. sym (e j) ∙ x.at j h }

or_true : (x : Bool) → x || true ≡ true
or_true true = refl
or_true false = refl

abbrev pub is_found : Option ℕ → Bool
is_found (Some i) = true
is_found None = false

-- THE LAW OF SEARCH: what an answer says of a list of rows
module _ {A : Type 0} (t : A → Bool) (n : ℕ) (f : ℕ → A) (r : Option ℕ) (h : Finds (λ i. t (f i)) n r) where
  any_at : (n i : ℕ) (f : ℕ → A) → i < n → t (f i) ≡ true → St.any t (row_of n f) ≡ true
  unfolding row_of
  any_at zero i f l e = absurd (omega arith)
  any_at (suc n) zero f l e = rw e
  any_at (suc n) (suc i) f l e = rw (any_at n i (λ k. f (suc k)) (omega arith) e) (or_true (t (f 0)))

  any_none : (n : ℕ) (f : ℕ → A) → ((j : ℕ) → j < n → t (f j) ≡ false) → St.any t (row_of n f) ≡ false
  unfolding row_of
  any_none zero f b = refl
  any_none (suc n) f b = rw (b 0 (omega arith)) (any_none n (λ k. f (suc k)) (λ j l. b (suc j) (omega arith)))

  told_at : (i : ℕ) → r ≡ Some i → Told (λ j. t (f j)) n (Some i)
  told_at i e = rw e at h.told

  told_none : r ≡ None → Below (λ j. t (f j)) n
  told_none e = rw e at h.told

  pub found_is : St.any t (row_of n f) ≡ is_found r
  found_is = go r (λ i e. any_at n i f (told_at i e).0 (told_at i e).1) (λ e. any_none n f (told_none e).at)
    where
      go : (o : Option ℕ) → ((i : ℕ) → o ≡ Some i → St.any t (row_of n f) ≡ true) → (o ≡ None → St.any t (row_of n f) ≡ false) → St.any t (row_of n f) ≡ is_found o
      go (Some i) x y = x i refl
      go None x y = y refl

  module _ {B : Type 0} (g : A → B) (d : B) where
    first_at : (n i : ℕ) (f : ℕ → A) → i < n → t (f i) ≡ true → ((j : ℕ) → j < i → t (f j) ≡ false) → St.first t g d (row_of n f) ≡ g (f i)
    unfolding row_of
    first_at zero i f l e b = absurd (omega arith)
    first_at (suc n) zero f l e b = rw e
    first_at (suc n) (suc i) f l e b = rw (b 0 (omega arith)) (first_at n i (λ k. f (suc k)) (omega arith) e (λ j q. b (suc j) (omega arith)))

    first_none : (n : ℕ) (f : ℕ → A) → ((j : ℕ) → j < n → t (f j) ≡ false) → St.first t g d (row_of n f) ≡ d
    unfolding row_of
    first_none zero f b = refl
    first_none (suc n) f b = rw (b 0 (omega arith)) (first_none n (λ k. f (suc k)) (λ j l. b (suc j) (omega arith)))

    pub found_first : (i : ℕ) → r ≡ Some i → St.first t g d (row_of n f) ≡ g (f i)
    found_first i e = let x = told_at i e in first_at n i f x.0 x.1 x.2.at

    pub found_default : r ≡ None → St.first t g d (row_of n f) ≡ d
    found_default e = first_none n f (told_none e).at

  -- only the first row that passes is changed
  module _ (g : A → A) where
    change_at : (n i : ℕ) (f f' : ℕ → A) → i < n → t (f i) ≡ true → ((j : ℕ) → j < i → t (f j) ≡ false)
        → f' i ≡ g (f i) → ((j : ℕ) → (j ≡ i → ⊥) → f' j ≡ f j) → row_of n f' ≡ St.change_first t g (row_of n f)
    unfolding row_of
    change_at zero i f f' l e b x y = absurd (omega arith)
    change_at (suc n) zero f f' l e b x y =
        let rest : row_of n (λ k. f' (suc k)) ≡ row_of n (λ k. f (suc k)) = row_ext n (λ k. f' (suc k)) (λ k. f (suc k)) (λ j q. y (suc j) (λ z. omega arith)) in
        rw (e, x, rest)
    change_at (suc n) (suc i) f f' l e b x y =
        let rest : row_of n (λ k. f' (suc k)) ≡ St.change_first t g (row_of n (λ k. f (suc k))) =
        change_at n i (λ k. f (suc k)) (λ k. f' (suc k)) (omega arith) e (λ j q. b (suc j) (omega arith)) x (λ j q. y (suc j) (λ z. q (omega arith))) in
        rw (b 0 (omega arith), y 0 (λ z. omega arith), rest)

    pub found_change : (i : ℕ) (f' : ℕ → A) → r ≡ Some i → f' i ≡ g (f i) → ((j : ℕ) → (j ≡ i → ⊥) → f' j ≡ f j) → row_of n f' ≡ St.change_first t g (row_of n f)
    found_change i f' e x y = let q = told_at i e in change_at n i f f' q.0 q.1 q.2.at x y

-- a row by its number
module _ {A : Type 0} where
  pub elem_at : (n i : ℕ) (f : ℕ → A) → i < n → get_elem? (row_of n f) i ≡ some (f i)
  unfolding row_of
  elem_at zero i f l = absurd (omega arith)
  elem_at (suc n) zero f l = refl
  elem_at (suc n) (suc i) f l = elem_at n i (λ k. f (suc k)) (omega arith)

  pub elem_past : (n i : ℕ) (f : ℕ → A) → n ≤ i → get_elem? (row_of n f) i ≡ none
  unfolding row_of
  elem_past zero i f l = refl
  elem_past (suc n) zero f l = absurd (omega arith)
  elem_past (suc n) (suc i) f l = elem_past n i (λ k. f (suc k)) (omega arith)
