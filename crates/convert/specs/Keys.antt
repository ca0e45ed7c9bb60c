-- The numeric key of an array. Assumes nothing.
use Rattle.std.specs.Prelude.{ℕ, ◌+◌, ◌-◌, ◌*◌, ◌^◌, ◌≤◌, ◌<◌, Bool, true, false, ◌&&◌, List, [], ◌∷◌, ◌≡◌, refl, leb, length, get_or, drop, Option, Some, None}
use Rattle.std.proofs.Common.{arith, add-one, sym, ap, ◌∙◌, drop_of_length-le, drop-cons, ne_eqb, eq-eqb, lt-ltb, le-ltb, leb-true}
use Rattle.std.proofs.Math.Option.{Option as Maybe, none, some}
use Rattle.std.specs.Prelude.{if◌then◌else◌}
use Rattle.machine.specs.Number as N
use Rattle.machine.specs.Convert.{worth, digits_key, array_key}

abbrev pub key_of : Option ℕ → Maybe ℕ
key_of (Some i) = some i
key_of None = none

pub key_none : (s : List ℕ) → length s ≡ 0 → none ≡ digits_key s
key_none [] h = refl
key_none (b ∷ s) h = absurd (omega arith)

key_some : (s : List ℕ) → 0 < length s → worth 0 s ≡ digits_key s
key_some [] h = absurd (omega arith)
key_some (b ∷ s) h = refl

-- what is too large stays so
worth_large : (n : ℕ) (s : List ℕ) → 2 ^ 64 ≤ n → worth n s ≡ none
worth_large n [] h = ap (λ (t : Bool). if t then some n else none) (le-ltb n (2 ^ 64) h)
worth_large n (b ∷ s) h = go (N.is_digit b) (worth_large (n * 10 + (b - 48)) s (omega arith))
  where
    go : (t : Bool) → worth (n * 10 + (b - 48)) s ≡ none → (if t then worth (n * 10 + (b - 48)) s else none) ≡ none
    go true e = e
    go false e = refl

and_second : (x y : Bool) → (x && y) ≡ true → y ≡ true
and_second true y e = e
and_second false true e = refl
and_second false false e = e

digit_small : (b d : ℕ) → N.is_digit b ≡ true → d ≡ b - 48 → d < 10
digit_small b d e q = let h = leb-true b 57 (and_second (leb 48 b) (leb b 57) e) in omega arith

-- n is the worth of the first i bytes
pub record Reading (s : List ℕ) (n i : ℕ) : Type 0 where
  pub same : worth n (drop i s) ≡ digits_key s
  pub fits : n < 2 ^ 64
  pub within : i ≤ length s

module _ (s : List ℕ) where
  pub reading_start : 0 < length s → Reading s 0 0
  reading_start h = record { same = key_some s h; fits = omega arith; within = omega arith }

  module _ (n i : ℕ) (r : Reading s n i) where
    pub reading_end : length s ≤ i → some n ≡ digits_key s
    reading_end h = sym (sym r.same ∙ ap (worth n) (drop_of_length-le s h) ∙ ap (λ (t : Bool). if t then some n else none) (lt-ltb n (2 ^ 64) r.fits))

    module _ (h : i < length s) where
      at_byte : worth n (drop i s) ≡ (if N.is_digit (get_or s i 0) then worth (n * 10 + (get_or s i 0 - 48)) (drop (i + 1) s) else none)
      at_byte = ap (worth n) (drop-cons s i 0 h) ∙ ap (λ (k : ℕ). if N.is_digit (get_or s i 0) then worth (n * 10 + (get_or s i 0 - 48)) (drop k s) else none) (sym (add-one i))

      pub reading_bad : N.is_digit (get_or s i 0) ≡ false → none ≡ digits_key s
      reading_bad e = sym (sym r.same ∙ at_byte ∙ ap (λ (t : Bool). if t then worth (n * 10 + (get_or s i 0 - 48)) (drop (i + 1) s) else none) e)

      module _ (d : ℕ) (e : N.is_digit (get_or s i 0) ≡ true) (q : d ≡ get_or s i 0 - 48) where
        next_byte : worth (n * 10 + d) (drop (i + 1) s) ≡ digits_key s
        next_byte =
            ap (λ (k : ℕ). worth (n * 10 + k) (drop (i + 1) s)) q
            ∙ sym (sym r.same ∙ at_byte ∙ ap (λ (t : Bool). if t then worth (n * 10 + (get_or s i 0 - 48)) (drop (i + 1) s) else none) e)

        pub reading_large : 2 ^ 64 ≤ n * 10 + d → none ≡ digits_key s
        reading_large g = sym (sym next_byte ∙ worth_large (n * 10 + d) (drop (i + 1) s) g)

        pub reading_more : n * 10 + d < 2 ^ 64 → Reading s (n * 10 + d) (i + 1)
        reading_more g = record { same = next_byte; fits = g; within = omega arith }

-- the sign
pub array_none : (s : List ℕ) → length s ≡ 0 → none ≡ array_key s
array_none [] h = refl
array_none (b ∷ s) h = absurd (omega arith)

pub array_plus : (s : List ℕ) (r : Maybe ℕ) → 0 < length s → get_or s 0 0 ≡ 43 → r ≡ digits_key (drop 1 s) → r ≡ array_key s
array_plus [] r h e q = absurd (omega arith)
array_plus (b ∷ s) r h e q = q ∙ sym (ap (λ (t : Bool). if t then digits_key s else digits_key (b ∷ s)) (eq-eqb b 43 e))

pub array_plain : (s : List ℕ) (r : Maybe ℕ) → 0 < length s → (get_or s 0 0 ≡ 43 → ⊥) → r ≡ digits_key s → r ≡ array_key s
array_plain [] r h e q = absurd (omega arith)
array_plain (b ∷ s) r h e q = q ∙ sym (ap (λ (t : Bool). if t then digits_key s else digits_key (b ∷ s)) (ne_eqb b 43 e))
