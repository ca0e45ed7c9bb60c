-- Looking up in the view: what stands in the tables, whatever they hold. Assumes nothing.
use mathlib.Core.Path.{◌≡◌, refl, sym, ◌∙◌}
use mathlib.Core.Option.{none, some}
use mathlib.Core.List.{List, [], ◌∷◌}
use Prim.Native.Nat.{ℕ, zero, suc, ◌+◌, ◌*◌, ◌≤◌, ◌<◌}
use native.Mathlib.Omega.{arith}
use lib.ListN.{length, take, get_or, get_elem?}
use lib.Seq.{get_or-take}
use Rattle.std.specs.Int.{w16, w64, from_be_bytes}
use Rattle.std.specs.List.{slice_range}
use Rattle.std.proofs.lemmas.List.Edits.{get_or-between}
use Rattle.machine.specs.Image.{Constant}
use Rattle.machine.specs.State.{no_template}
use Rattle.image.specs.View.{Window, word_at, wide_at, constant_by, constant_at, constants_of, template_at, templates_at, image_at, images_of}
use Rattle.image.proofs.Lists.{list_length, list_get, list_past, list_elem, list_none}

module _ (code places rows starts : List ℕ) (n i t : ℕ) where
  pub look_past : n ≤ i → get_or (get_or (images_of code places rows starts n) i []) t no_template ≡ no_template
  unfolding images_of
  look_past h = rw (list_past (λ i. image_at code places rows (get_or starts i 0)) n i [] h)

  image_is : i < n → get_or (images_of code places rows starts n) i [] ≡ image_at code places rows (get_or starts i 0)
  unfolding images_of
  image_is h = list_get (λ i. image_at code places rows (get_or starts i 0)) n i [] h

  pub look_none : (b : ℕ) → b ≡ get_or starts i 0 → i < n → get_or rows b 0 ≤ t → get_or (get_or (images_of code places rows starts n) i []) t no_template ≡ no_template
  unfolding image_at templates_at
  look_none b e h l =
      rw (image_is h, ← e) (list_past (λ t. template_at code places rows (b + 2 + 8 * t)) (get_or rows b 0) t no_template l)

  pub look : (b : ℕ) → b ≡ get_or starts i 0 → i < n → t < get_or rows b 0
      → get_or (get_or (images_of code places rows starts n) i []) t no_template ≡ template_at code places rows (b + 2 + 8 * t)
  unfolding image_at templates_at
  look b e h l =
      rw (image_is h, ← e) (list_get (λ t. template_at code places rows (b + 2 + 8 * t)) (get_or rows b 0) t no_template l)

-- How many templates an image has.
module _ (code places rows starts : List ℕ) (n i : ℕ) where
  pub count_past : n ≤ i → length (get_or (images_of code places rows starts n) i []) ≡ 0
  unfolding images_of
  count_past h = rw (list_past (λ i. image_at code places rows (get_or starts i 0)) n i [] h)

  pub count_is : (b : ℕ) → b ≡ get_or starts i 0 → i < n → length (get_or (images_of code places rows starts n) i []) ≡ get_or rows b 0
  unfolding images_of image_at templates_at
  count_is b e h =
      rw (list_get (λ i. image_at code places rows (get_or starts i 0)) n i [] h, ← e)
      (list_length (λ t. template_at code places rows (b + 2 + 8 * t)) (get_or rows b 0))

pub no_template_lem : (code places : List ℕ) → no_template ≡ record { parameters = 0; locals = 0; constants = constants_of code places 0 0; at = 0; size = 0 }
unfolding constants_of
no_template_lem code places = refl

pub row_shown : (code places rows : List ℕ) (r : ℕ) → template_at code places rows r ≡ record {
  parameters = get_or rows r 0;
  locals = get_or rows (r + 1) 0;
  constants = constants_of code places (get_or rows (r + 2) 0) (get_or rows (r + 3) 0);
  at = get_or rows (r + 4) 0;
  size = get_or rows (r + 5) 0;
}
unfolding template_at
row_shown code places rows r = refl

module _ (code places : List ℕ) (c n k : ℕ) where
  pub constant_none : n ≤ k → get_elem? (constants_of code places c n) k ≡ none
  unfolding constants_of
  constant_none h = list_none (λ k. constant_at code (get_or places (c + k) 0)) n k h

  pub constant_is : k < n → get_elem? (constants_of code places c n) k ≡ some (constant_at code (get_or places (c + k) 0))
  unfolding constants_of
  constant_is h = list_elem (λ k. constant_at code (get_or places (c + k) 0)) n k h

unknown : (s : List ℕ) (p k : ℕ) → 6 ≤ k → constant_by s p k ≡ Constant.undefined
unknown s p zero h = absurd (omega arith)
unknown s p (suc zero) h = absurd (omega arith)
unknown s p (suc (suc zero)) h = absurd (omega arith)
unknown s p (suc (suc (suc zero))) h = absurd (omega arith)
unknown s p (suc (suc (suc (suc zero)))) h = absurd (omega arith)
unknown s p (suc (suc (suc (suc (suc zero))))) h = absurd (omega arith)
unknown s p (suc (suc (suc (suc (suc (suc k)))))) h = refl

module _ (s : List ℕ) (p k : ℕ) (e : k ≡ get_or s p 0) where
  pub constant_by_lem : constant_at s p ≡ constant_by s p k
  unfolding constant_at
  constant_by_lem = rw e

  pub constant_unknown : 6 ≤ k → constant_at s p ≡ Constant.undefined
  constant_unknown h = constant_by_lem ∙ unknown s p k h

big_endian : (a b c d e f g h : ℕ) → from_be_bytes w64 (a ∷ b ∷ c ∷ d ∷ e ∷ f ∷ g ∷ h ∷ [])
    ≡ (((((((0 * 256 + a) * 256 + b) * 256 + c) * 256 + d) * 256 + e) * 256 + f) * 256 + g) * 256 + h
big_endian a b c d e f g h = omega arith

-- Two and eight bytes of the code, as they stand.
pub word_is : (s : List ℕ) (p : ℕ) → from_be_bytes w16 (get_or s p 0 ∷ get_or s (p + 1) 0 ∷ []) ≡ word_at s p
word_is s p = refl

pub long_is : (s : List ℕ) (p : ℕ)
    → from_be_bytes w64 (get_or s p 0 ∷ get_or s (p + 1) 0 ∷ get_or s (p + 2) 0 ∷ get_or s (p + 3) 0 ∷ get_or s (p + 4) 0 ∷ get_or s (p + 5) 0 ∷ get_or s (p + 6) 0 ∷ get_or s (p + 7) 0 ∷ []) ≡ wide_at s 8 0 p
long_is s p =
    let e2 : p + 2 ≡ p + 1 + 1 = omega arith in
    let e3 : p + 3 ≡ p + 1 + 1 + 1 = omega arith in
    let e4 : p + 4 ≡ p + 1 + 1 + 1 + 1 = omega arith in
    let e5 : p + 5 ≡ p + 1 + 1 + 1 + 1 + 1 = omega arith in
    let e6 : p + 6 ≡ p + 1 + 1 + 1 + 1 + 1 + 1 = omega arith in
    let e7 : p + 7 ≡ p + 1 + 1 + 1 + 1 + 1 + 1 + 1 = omega arith in
    big_endian (get_or s p 0) (get_or s (p + 1) 0) (get_or s (p + 2) 0) (get_or s (p + 3) 0) (get_or s (p + 4) 0) (get_or s (p + 5) 0) (get_or s (p + 6) 0) (get_or s (p + 7) 0)
    ∙ rw (e2, e3, e4, e5, e6, e7) refl

pub window_first : (code xs bs : List ℕ) (p : ℕ) → xs ≡ slice_range code p (p + 9) → bs ≡ take 9 xs → Window code p bs
window_first code xs bs p e f = record { same = λ j l. rw f (get_or-take 9 xs j 0 l ∙ rw e (get_or-between code p (p + 9) j 0 (omega arith))) }

-- Nine bytes show a constant.
module _ (code bs : List ℕ) (p : ℕ) (w : Window code p bs) where
  byte_in : (j q : ℕ) → j < 9 → q ≡ p + j → get_or bs j 0 ≡ get_or code q 0
  byte_in j q l e = rw e (w.same j l)

  pub kind_in : (k : ℕ) → get_or bs 0 0 ≡ k → constant_at code p ≡ constant_by code p k
  unfolding constant_at
  kind_in k e = rw (sym (byte_in 0 p (omega arith) (omega arith)) ∙ e)

  pub unknown_in : (k : ℕ) → get_or bs 0 0 ≡ k → 6 ≤ k → constant_at code p ≡ Constant.undefined
  unknown_in k e h = kind_in k e ∙ unknown code p k h

  pub word_in : from_be_bytes w16 (get_or bs 1 0 ∷ get_or bs 2 0 ∷ []) ≡ word_at code (p + 1)
  word_in = rw (byte_in 1 (p + 1) (omega arith) refl, byte_in 2 (p + 1 + 1) (omega arith) (omega arith)) refl

  pub long_in : from_be_bytes w64 (get_or bs 1 0 ∷ get_or bs 2 0 ∷ get_or bs 3 0 ∷ get_or bs 4 0 ∷ get_or bs 5 0 ∷ get_or bs 6 0 ∷ get_or bs 7 0 ∷ get_or bs 8 0 ∷ []) ≡ wide_at code 8 0 (p + 1)
  long_in =
      big_endian (get_or bs 1 0) (get_or bs 2 0) (get_or bs 3 0) (get_or bs 4 0) (get_or bs 5 0) (get_or bs 6 0) (get_or bs 7 0) (get_or bs 8 0)
      ∙ rw (byte_in 1 (p + 1) (omega arith) refl, byte_in 2 (p + 1 + 1) (omega arith) (omega arith), byte_in 3 (p + 1 + 1 + 1) (omega arith) (omega arith), byte_in 4 (p + 1 + 1 + 1 + 1) (omega arith) (omega arith), byte_in 5 (p + 1 + 1 + 1 + 1 + 1) (omega arith) (omega arith), byte_in 6 (p + 1 + 1 + 1 + 1 + 1 + 1) (omega arith) (omega arith), byte_in 7 (p + 1 + 1 + 1 + 1 + 1 + 1 + 1) (omega arith) (omega arith), byte_in 8 (p + 1 + 1 + 1 + 1 + 1 + 1 + 1 + 1) (omega arith) (omega arith)) refl
