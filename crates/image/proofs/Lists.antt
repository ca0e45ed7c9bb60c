-- Laws of a list made of a function, and of lists that agree below a place. Assumes nothing.
use mathlib.Core.Path.{◌≡◌, refl, sym, ◌∙◌}
use mathlib.Core.Option.{none, some}
use mathlib.Core.Bool.{Bool, true, false}
use mathlib.Core.List.{List, [], ◌∷◌, ◌++◌}
use Prim.Native.Nat.{ℕ, zero, suc, ◌+◌, ◌≤◌, ◌<◌}
use native.Mathlib.Omega.{arith}
use native.Mathlib.Numerals.{add-one}
use native.Mathlib.Nat.{add-zero}
use lib.Dec.{ltb}
use borrow.Author.Tests.{ltb-true, ltb-false}
use lib.ListN.{length, take, get_or, set, get_elem?, length-append, get_or-append, get_or-eq_default}
use lib.Seq.{get_or-append-add, get_or-set_same, get_or-set_other, get_or-take}
use Rattle.image.specs.View.{list, Same}

module _ {A : Type 0} where
  pub list_length : (f : ℕ → A) (n : ℕ) → length (list f n) ≡ n
  list_length f zero = refl
  list_length f (suc n) = length-append (list f n) (f n ∷ []) ∙ rw (list_length f n) (omega arith)

  list_get_by : (f : ℕ → A) (n i : ℕ) (d : A) (b : Bool) → ltb i n ≡ b → i < suc n → (i < n → get_or (list f n) i d ≡ f i)
      → get_or (list f n ++ f n ∷ []) i d ≡ f i
  list_get_by f n i d true e h g =
      let l : i < n = ltb-true i n e in
      get_or-append (list f n) (f n ∷ []) d i (rw (list_length f n) l) ∙ g l
  list_get_by f n i d false e h g =
      let l : n ≤ i = ltb-false i n e in
      let q : i ≡ n = omega arith in
      rw q (rw add-zero at (rw (list_length f n) at (get_or-append-add (list f n) (f n ∷ []) 0 d)))

  pub list_get : (f : ℕ → A) (n i : ℕ) (d : A) → i < n → get_or (list f n) i d ≡ f i
  list_get f zero i d h = absurd (omega arith)
  list_get f (suc n) i d h = list_get_by f n i d (ltb i n) refl h (λ l. list_get f n i d l)

  pub list_past : (f : ℕ → A) (n i : ℕ) (d : A) → n ≤ i → get_or (list f n) i d ≡ d
  list_past f n i d h = get_or-eq_default (list f n) d (rw (list_length f n) h)

  elem_get : (l : List A) (i : ℕ) (d : A) → i < length l → get_elem? l i ≡ some (get_or l i d)
  elem_get [] i d h = absurd (omega arith)
  elem_get (x ∷ l) zero d h = refl
  elem_get (x ∷ l) (suc i) d h = elem_get l i d (omega arith)

  elem_past : (l : List A) (i : ℕ) → length l ≤ i → get_elem? l i ≡ none
  elem_past [] zero h = refl
  elem_past [] (suc i) h = refl
  elem_past (x ∷ l) zero h = absurd (omega arith)
  elem_past (x ∷ l) (suc i) h = elem_past l i (omega arith)

  pub list_elem : (f : ℕ → A) (n i : ℕ) → i < n → get_elem? (list f n) i ≡ some (f i)
  list_elem f n i h = elem_get (list f n) i (f i) (rw (list_length f n) h) ∙ rw (list_get f n i (f i) h)

  pub list_none : (f : ℕ → A) (n i : ℕ) → n ≤ i → get_elem? (list f n) i ≡ none
  list_none f n i h = elem_past (list f n) i (rw (list_length f n) h)

  pub list_same : (f g : ℕ → A) (n : ℕ) → ((i : ℕ) → i < n → f i ≡ g i) → list f n ≡ list g n
  list_same f g zero h = refl
  list_same f g (suc n) h = rw (list_same f g n (λ i l. h i (omega arith)), h n (omega arith))

  pub list_more : (f : ℕ → A) (n : ℕ) → list f (n + 1) ≡ list f n ++ (f n ∷ [])
  list_more f n = rw add-one

pub same_refl : {m : ℕ} {xs : List ℕ} → Same m xs xs
same_refl = record { same = λ j h. refl }

pub same_trans : {m : ℕ} {xs ys zs : List ℕ} → Same m xs ys → Same m ys zs → Same m xs zs
same_trans f g = record { same = λ j h. g.same j h ∙ f.same j h }

pub same_set : (m : ℕ) (xs : List ℕ) (i v : ℕ) → m ≤ i → Same m xs (set xs i v)
same_set m xs i v h = record { same = λ j l. get_or-set_other xs i j v 0 (λ e. omega arith) }

pub same_less : {m k : ℕ} {xs ys : List ℕ} → k ≤ m → Same m xs ys → Same k xs ys
same_less l f = record { same = λ j h. f.same j (omega arith) }

pub same_take : (m : ℕ) (xs : List ℕ) → Same m (take m xs) xs
same_take m xs = record { same = λ j h. sym (get_or-take m xs j 0 h) }

-- A list that agrees with one after a store, below the place after it: it agrees with the list before the store, and has what was stored.
module _ (xs ys : List ℕ) (i v : ℕ) (f : Same (i + 1) (set xs i v) ys) where
  pub unset_below : Same i xs ys
  unset_below = same_trans (same_set i xs i v (omega arith)) (same_less (omega arith) f)

  pub unset_at : i < length xs → get_or ys i 0 ≡ v
  unset_at h = f.same i (omega arith) ∙ get_or-set_same xs i v 0 h
