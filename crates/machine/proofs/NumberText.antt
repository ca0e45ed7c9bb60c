-- Change 4 of document 02, the text of a number: how long it is, that of a whole number, how near it is, on which numbers it is another than that of 000, and
-- what the text call answers. Assumes nothing.
use mathlib.Core.Path.{◌≡◌, refl, sym, ap, ◌∙◌}
use mathlib.Core.Bool.{Bool, true, false, not, ◌&&◌, ◌||◌, true≢false, and-true, and-false}
use mathlib.Core.List.{List, [], ◌∷◌, ◌++◌, reverse, reverse-append, reverse-reverse, append-nil}
use mathlib.Core.Logic.{◌↔◌}
use mathlib.Core.Option.{none}
use Prim.Native.Nat.{ℕ, zero, suc, ◌+◌, ◌-◌, ◌*◌, ◌/◌, ◌%◌, ◌^◌, ◌≤◌, ◌<◌}
use native.Mathlib.Omega.{arith}
use lib.Dec.{leb, ltb, eqb}
use lib.ListN.{length, length-append, length-reverse}
use borrow.Author.Tests.{eqb-true, eqb-false, eq-eqb, ne_eqb, leb-true, leb-false, le-leb, lt-leb, ltb-true, ltb-false, lt-ltb, le-ltb}
use Rattle.std.specs.Prelude.{if◌then◌else◌}
use Rattle.machine.specs.Number as N
use Rattle.machine.specs.NumberText.{floor_text, original_text, amended, longest_text, number_answer}
use Rattle.machine.specs.Value.{number}
use Rattle.machine.specs.State.{State}
use Rattle.machine.specs.Act.{plain}
use Rattle.machine.specs.Host as H

-- Decimal digits

pub decimal_last : (k n : ℕ) (bs : List ℕ) → n < 10 → N.decimal_onto (suc k) n bs ≡ (48 + n) ∷ bs
decimal_last k n bs h = ap (λ (t : Bool). if t then (48 + n) ∷ bs else N.decimal_onto k (n / 10) ((48 + n % 10) ∷ bs)) (lt-ltb n 10 h)

pub decimal_more : (k n : ℕ) (bs : List ℕ) → 10 ≤ n → N.decimal_onto (suc k) n bs ≡ N.decimal_onto k (n / 10) ((48 + n % 10) ∷ bs)
decimal_more k n bs h = ap (λ (t : Bool). if t then (48 + n) ∷ bs else N.decimal_onto k (n / 10) ((48 + n % 10) ∷ bs)) (le-ltb n 10 h)

pub padded_append : (k n : ℕ) (xs ys : List ℕ) → N.padded k n (xs ++ ys) ≡ N.padded k n xs ++ ys
padded_append zero n xs ys = refl
padded_append (suc k) n xs ys = padded_append k (n / 10) ((48 + n % 10) ∷ xs) ys

pub padded_length : (k n : ℕ) (bs : List ℕ) → length (N.padded k n bs) ≡ k + length bs
padded_length zero n bs = omega arith
padded_length (suc k) n bs = let e : length (N.padded k (n / 10) ((48 + n % 10) ∷ bs)) ≡ k + suc (length bs) = padded_length k (n / 10) ((48 + n % 10) ∷ bs) in omega arith

-- the last digit comes first
pub padded_last : (k n : ℕ) → reverse (N.padded (suc k) n []) ≡ (48 + n % 10) ∷ reverse (N.padded k (n / 10) [])
padded_last k n = ap reverse (padded_append k (n / 10) [] ((48 + n % 10) ∷ [])) ∙ reverse-append (N.padded k (n / 10) []) ((48 + n % 10) ∷ [])

-- The fraction's digits: none exactly where they are worth nothing

some_digit : (k n : ℕ) → 0 < n → n < 10 ^ k → N.cut_zeros (reverse (N.padded k n [])) ≡ [] → ⊥
some_digit zero n l h e = omega arith
some_digit (suc k) n l h e = go (eqb (48 + n % 10) 48) refl (some_digit k (n / 10)) (sym (ap N.cut_zeros (padded_last k n)) ∙ e)
  where
    go : (b : Bool) → eqb (48 + n % 10) 48 ≡ b → (0 < n / 10 → n / 10 < 10 ^ k → N.cut_zeros (reverse (N.padded k (n / 10) [])) ≡ [] → ⊥)
        → (if b then N.cut_zeros (reverse (N.padded k (n / 10) [])) else (48 + n % 10) ∷ reverse (N.padded k (n / 10) [])) ≡ [] → ⊥
    go true q f p = let z = eqb-true (48 + n % 10) 48 q in f (omega arith) (omega arith) p
    go false q f p = let z : ◌≡◌ {A = ℕ} (suc (length (reverse (N.padded k (n / 10) [])))) 0 = ap length p in omega arith

millionths_below : (m : ℕ) → N.millionths m < 10 ^ 6
millionths_below m = omega arith

pub fraction_some : (m : ℕ) → (N.millionths m ≡ 0 → ⊥) → N.pointed (N.fraction m) ≡ 46 ∷ N.fraction m
fraction_some m n =
    go (N.fraction m) (λ e. some_digit 6 (N.millionths m) (omega arith) (millionths_below m) (sym (reverse-reverse (N.cut_zeros (reverse (N.padded 6 (N.millionths m) [])))) ∙ ap reverse e))
  where
    go : (ds : List ℕ) → (ds ≡ [] → ⊥) → N.pointed ds ≡ 46 ∷ ds
    go [] f = absurd (f refl)
    go (d ∷ ds) f = refl

pub fraction_none : (m : ℕ) → N.millionths m ≡ 0 → N.fraction m ≡ []
fraction_none m e = ap (λ (n : ℕ). reverse (N.cut_zeros (reverse (N.padded 6 n [])))) e

-- No text of a number is longer, and -2147483647.999999 is as long.

abbrev Shorter : (f n : ℕ) → List ℕ → Type 0
Shorter f n bs = (j : ℕ) → n / 10 < 10 ^ suc j → length (N.decimal_onto f (n / 10) ((48 + n % 10) ∷ bs)) ≤ suc j + suc (length bs)

decimal_length : (f k n : ℕ) (bs : List ℕ) → n < 10 ^ suc k → length (N.decimal_onto f n bs) ≤ suc k + length bs
decimal_length zero k n bs h = omega arith
decimal_length (suc f) k n bs h = by_test (λ j g. decimal_length f j (n / 10) ((48 + n % 10) ∷ bs) g) (ltb n 10) refl
  where
    more : Shorter f n bs → (k : ℕ) → n < 10 ^ suc k → 10 ≤ n → length (N.decimal_onto f (n / 10) ((48 + n % 10) ∷ bs)) ≤ suc k + length bs
    more r zero g l = let z : ◌≡◌ {A = ℕ} 0 1 = omega arith in omega arith
    more r (suc j) g l = omega (arith, r j (omega arith))

    by_test : Shorter f n bs → (t : Bool) → ltb n 10 ≡ t → length (if t then (48 + n) ∷ bs else N.decimal_onto f (n / 10) ((48 + n % 10) ∷ bs)) ≤ suc k + length bs
    by_test r true e = omega arith
    by_test r false e = more r k h (ltb-false n 10 e)

cut_length : (bs : List ℕ) → length (N.cut_zeros bs) ≤ length bs
cut_length [] = omega arith
cut_length (b ∷ bs) = by_test (cut_length bs) (eqb b 48)
  where
    by_test : length (N.cut_zeros bs) ≤ length bs → (t : Bool) → length (if t then N.cut_zeros bs else b ∷ bs) ≤ suc (length bs)
    by_test h true = omega arith
    by_test h false = omega arith

fraction_length : (m : ℕ) → length (N.fraction m) ≤ 6
fraction_length m =
    let p : List ℕ = N.padded 6 (N.millionths m) [] in
    omega (arith, length-reverse (N.cut_zeros (reverse p)), cut_length (reverse p), length-reverse p, padded_length 6 (N.millionths m) [])

pointed_length : (ds : List ℕ) → length (N.pointed ds) ≤ 1 + length ds
pointed_length [] = omega arith
pointed_length (d ∷ ds) = omega arith

sign_length : (b : Bool) → length (N.minus_sign b) ≤ 1
sign_length true = omega arith
sign_length false = omega arith

pub magnitude_most : (a : ℕ) → a < 2 ^ 64 → N.magnitude a ≤ 2 ^ 63
magnitude_most a h = go (N.is_negative a) refl
  where
    go : (b : Bool) → leb (2 ^ 63) a ≡ b → (if b then 2 ^ 64 - a else a) ≤ 2 ^ 63
    go true e = let l = leb-true (2 ^ 63) a e in omega arith
    go false e = let l = leb-false (2 ^ 63) a e in omega arith

pub text_length : (a : ℕ) → a < 2 ^ 64 → length (N.format_js_number a) ≤ longest_text
text_length a h = go (eqb a N.nan)
  where
    go : (t : Bool) → length (if t then 78 ∷ 97 ∷ 78 ∷ [] else N.minus_sign (N.is_negative a && not (N.all_zero (N.magnitude a))) ++ N.magnitude_text (N.magnitude a)) ≤ longest_text
    go true = omega arith
    go false =
        let m = N.magnitude a in
        let w : m / 2 ^ 32 < 10 ^ 10 = let l = magnitude_most a h in omega arith in
        omega (
          arith,
          length-append (N.minus_sign (N.is_negative a && not (N.all_zero m))) (N.magnitude_text m),
          sign_length (N.is_negative a && not (N.all_zero m)),
          length-append (N.decimal (m / 2 ^ 32)) (N.pointed (N.fraction m)),
          decimal_length 20 9 (m / 2 ^ 32) [] w,
          pointed_length (N.fraction m),
          fraction_length m,
        )

pub longest : length (N.format_js_number (2 ^ 63 + 1)) ≡ longest_text
longest = refl

-- The text by sign and magnitude

abbrev pub signed_text : Bool → ℕ → List ℕ
signed_text minus m = N.minus_sign (minus && not (N.all_zero m)) ++ N.magnitude_text m

pub text_nan : (a : ℕ) → a ≡ N.nan → N.format_js_number a ≡ 78 ∷ 97 ∷ 78 ∷ []
text_nan a e = ap (λ (t : Bool). if t then 78 ∷ 97 ∷ 78 ∷ [] else signed_text (N.is_negative a) (N.magnitude a)) (eq-eqb a N.nan e)

pub text_number : (a : ℕ) → (a ≡ N.nan → ⊥) → N.format_js_number a ≡ signed_text (N.is_negative a) (N.magnitude a)
text_number a n = ap (λ (t : Bool). if t then 78 ∷ 97 ∷ 78 ∷ [] else signed_text (N.is_negative a) (N.magnitude a)) (ne_eqb a N.nan n)

-- no digit behind the point: no point
pub magnitude_whole : (m : ℕ) → N.millionths m ≡ 0 → N.magnitude_text m ≡ N.decimal (m / 2 ^ 32)
magnitude_whole m e = ap (λ (ds : List ℕ). N.decimal (m / 2 ^ 32) ++ N.pointed ds) (fraction_none m e) ∙ append-nil (N.decimal (m / 2 ^ 32))

pub magnitude_part : (m : ℕ) → (N.millionths m ≡ 0 → ⊥) → N.magnitude_text m ≡ N.decimal (m / 2 ^ 32) ++ 46 ∷ N.fraction m
magnitude_part m f = ap (λ (t : List ℕ). N.decimal (m / 2 ^ 32) ++ t) (fraction_some m f)

pub not_zero_whole : (m : ℕ) → (m / 2 ^ 32 ≡ 0 → ⊥) → N.all_zero m ≡ false
not_zero_whole m f = rw (ne_eqb (m / 2 ^ 32) 0 f)

pub not_zero_part : (m : ℕ) → (N.millionths m ≡ 0 → ⊥) → N.all_zero m ≡ false
not_zero_part m f = ap (λ (b : Bool). eqb (m / 2 ^ 32) 0 && b) (ne_eqb (N.millionths m) 0 f) ∙ and-false (eqb (m / 2 ^ 32) 0)

pub all_zero_whole : (m : ℕ) → N.millionths m ≡ 0 → N.all_zero m ≡ eqb (m / 2 ^ 32) 0
all_zero_whole m e = ap (λ (b : Bool). eqb (m / 2 ^ 32) 0 && b) (eq-eqb (N.millionths m) 0 e) ∙ and-true (eqb (m / 2 ^ 32) 0)

-- a number that is not negative and has no digit behind the point: the digits of its whole part
pub digits_text : (a : ℕ) → a < 2 ^ 63 → (a ≡ N.nan → ⊥) → N.millionths a ≡ 0 → N.format_js_number a ≡ N.decimal (a / 2 ^ 32)
digits_text a l n z =
    text_number a n ∙ ap (λ (b : Bool). signed_text b (if b then 2 ^ 64 - a else a)) (lt-leb (2 ^ 63) a l) ∙ magnitude_whole a z

-- a whole number that is not negative: what the code's element numbers rest on
pub whole_text : (a : ℕ) → a < 2 ^ 63 → a % 2 ^ 32 ≡ 0 → N.format_js_number a ≡ N.decimal (a / 2 ^ 32)
whole_text a l z = digits_text a l (λ e. omega arith) (omega arith)

-- How near the text is: its whole part and digits are the magnitude less what is below a millionth, and all of it exactly where the fraction has six bits.

pub text_cut : (m : ℕ) → (m / 2 ^ 32 * 10 ^ 6 + N.millionths m) * 2 ^ 32 ≤ m * 10 ^ 6
text_cut m = omega arith

pub text_near : (m : ℕ) → m * 10 ^ 6 < (m / 2 ^ 32 * 10 ^ 6 + N.millionths m + 1) * 2 ^ 32
text_near m = omega arith

pub text_exact : (m : ℕ) → (m * 10 ^ 6 ≡ (m / 2 ^ 32 * 10 ^ 6 + N.millionths m) * 2 ^ 32) ↔ (m % 2 ^ 26 ≡ 0)
text_exact m = (divides, (λ e. omega arith))
  where
    multiple : (q : ℕ) → m ≡ q * 2 ^ 26 → m % 2 ^ 26 ≡ 0
    multiple q e = omega arith

    -- 10^6 is 2^6 times 15625, whose inverse modulo 2^26 is 12738873
    divides : m * 10 ^ 6 ≡ (m / 2 ^ 32 * 10 ^ 6 + N.millionths m) * 2 ^ 32 → m % 2 ^ 26 ≡ 0
    divides e =
        let x : ℕ = m / 2 ^ 32 * 10 ^ 6 + N.millionths m in
        let odd : m * 15625 ≡ x * 2 ^ 26 = omega (arith, e) in
        let q : ℕ = x * 12738873 - m * 2966 in
        let whole : m ≡ q * 2 ^ 26 = omega (arith, odd) in
        multiple q whole

-- The texts of 000

module _ (a : ℕ) (h : a < 2 ^ 64) (n : a ≡ N.nan → ⊥) where
  abbrev sized : Bool → ℕ
  sized b = if b then 2 ^ 64 - a else a

  abbrev floored : Bool → List ℕ
  floored b = if b then 45 ∷ N.decimal (2 ^ 32 - N.floor a) else N.decimal (N.floor a)

  original_is : original_text a ≡ (if eqb (a % 2 ^ 32) 0 then floored (N.is_negative a) else floored (N.is_negative a) ++ 46 ∷ N.fraction a)
  original_is = ap (λ (t : Bool). if t then 78 ∷ 97 ∷ 78 ∷ [] else if eqb (a % 2 ^ 32) 0 then floor_text a else floor_text a ++ 46 ∷ N.fraction a) (ne_eqb a N.nan n)

  -- a whole number
  whole_same : (b : Bool) → N.is_negative a ≡ b → a % 2 ^ 32 ≡ 0 → signed_text b (sized b) ≡ floored b
  whole_same true e z =
      let l = leb-true (2 ^ 63) a e in
      let m : ℕ = 2 ^ 64 - a in
      let zm : m % 2 ^ 32 ≡ 0 = omega arith in
      let k : N.millionths m ≡ 0 = omega arith in
      let w : m / 2 ^ 32 ≡ 2 ^ 32 - a / 2 ^ 32 = omega arith in
      let p : m / 2 ^ 32 ≡ 0 → ⊥ = λ q. omega arith in
      ap (λ (t : Bool). N.minus_sign (not t) ++ N.magnitude_text m) (not_zero_whole m p) ∙ ap (λ (t : List ℕ). 45 ∷ t) (magnitude_whole m k ∙ ap N.decimal w)
  whole_same false e z = magnitude_whole a (omega arith)

-- The value of the digits that a text starts with

abbrev lead : ℕ → List ℕ → ℕ
lead x [] = x
lead x (b ∷ bs) = if N.is_digit b then lead (x * 10 + (b - 48)) bs else x

lead_digit : (x d : ℕ) (bs : List ℕ) → d < 10 → lead x ((48 + d) ∷ bs) ≡ lead (x * 10 + d) bs
lead_digit x d bs h =
    let p : leb 48 (48 + d) ≡ true = le-leb 48 (48 + d) (omega arith) in
    let q : leb (48 + d) 57 ≡ true = le-leb (48 + d) 57 (omega arith) in
    let c : 48 + d - 48 ≡ d = omega arith in
    rw (p, q, c)

lead_onto : (k n : ℕ) (bs : List ℕ) → n < 10 ^ k → lead 0 (N.decimal_onto k n bs) ≡ lead n bs
lead_onto zero n bs h = let z : n ≡ 0 = omega arith in rw z
lead_onto (suc k) n bs h = go (ltb n 10) refl (lead_onto k (n / 10) ((48 + n % 10) ∷ bs))
  where
    go : (b : Bool) → ltb n 10 ≡ b → (n / 10 < 10 ^ k → lead 0 (N.decimal_onto k (n / 10) ((48 + n % 10) ∷ bs)) ≡ lead (n / 10) ((48 + n % 10) ∷ bs))
        → lead 0 (if b then (48 + n) ∷ bs else N.decimal_onto k (n / 10) ((48 + n % 10) ∷ bs)) ≡ lead n bs
    go true e f = lead_digit 0 n bs (ltb-true n 10 e) ∙ (let z : 0 * 10 + n ≡ n = omega arith in rw z)
    go false e f =
        let z : n / 10 * 10 + n % 10 ≡ n = omega arith in
        f (omega arith) ∙ lead_digit (n / 10) (n % 10) bs (omega arith) ∙ rw z

onto_append : (k n : ℕ) (xs ys : List ℕ) → N.decimal_onto k n (xs ++ ys) ≡ N.decimal_onto k n xs ++ ys
onto_append zero n xs ys = refl
onto_append (suc k) n xs ys = go (ltb n 10) (onto_append k (n / 10) ((48 + n % 10) ∷ xs) ys)
  where
    go : (b : Bool) → N.decimal_onto k (n / 10) ((48 + n % 10) ∷ xs ++ ys) ≡ N.decimal_onto k (n / 10) ((48 + n % 10) ∷ xs) ++ ys
        → (if b then (48 + n) ∷ xs ++ ys else N.decimal_onto k (n / 10) ((48 + n % 10) ∷ xs ++ ys)) ≡ (if b then (48 + n) ∷ xs else N.decimal_onto k (n / 10) ((48 + n % 10) ∷ xs)) ++ ys
    go true e = refl
    go false e = e

lead_decimal : (n : ℕ) (bs : List ℕ) → n < 10 ^ 20 → lead 0 (N.decimal n ++ bs) ≡ lead n bs
lead_decimal n bs h = ap (lead 0) (sym (onto_append 20 n [] bs)) ∙ lead_onto 20 n bs h

lead_pointed : (x : ℕ) (ds : List ℕ) → lead x (N.pointed ds) ≡ x
lead_pointed x [] = refl
lead_pointed x (d ∷ ds) = refl

both_left : (x y : Bool) → x && y ≡ true → x ≡ true
both_left true y e = refl
both_left false y e = e

head : List ℕ → ℕ
head [] = 0
head (b ∷ bs) = b

tail : List ℕ → List ℕ
tail [] = []
tail (b ∷ bs) = bs

-- The texts differ on exactly the numbers that `amended` names.

module _ (a : ℕ) (h : a < 2 ^ 64) (n : a ≡ N.nan → ⊥) where
  -- a negative fraction: the digits before the point are one less than the floor's
  negative_differs : N.is_negative a ≡ true → (a % 2 ^ 32 ≡ 0 → ⊥) → signed_text true (2 ^ 64 - a) ≡ 45 ∷ N.decimal (2 ^ 32 - N.floor a) ++ 46 ∷ N.fraction a → ⊥
  unfolding head tail
  negative_differs e f q = go (N.all_zero m) refl q
    where
      m : ℕ
      m = 2 ^ 64 - a

      ds : List ℕ
      ds = N.pointed (N.fraction m)

      go : (z : Bool) → N.all_zero m ≡ z → N.minus_sign (not z) ++ (N.decimal (m / 2 ^ 32) ++ ds) ≡ 45 ∷ N.decimal (2 ^ 32 - N.floor a) ++ 46 ∷ N.fraction a → ⊥
      go true ez p =
          let w : m / 2 ^ 32 ≡ 0 = eqb-true (m / 2 ^ 32) 0 (both_left (eqb (m / 2 ^ 32) 0) (eqb (N.millionths m) 0) ez) in
          let t : ◌≡◌ {A = ℕ} 48 45 = ap (λ (x : ℕ). head (N.decimal x ++ ds)) (sym w) ∙ ap head p in
          omega arith
      go false ez p =
          let l = leb-true (2 ^ 63) a e in
          let t : m / 2 ^ 32 ≡ 2 ^ 32 - N.floor a = sym (lead_decimal (m / 2 ^ 32) ds (omega arith) ∙ lead_pointed (m / 2 ^ 32) (N.fraction m))
          ∙ ap (λ (x : List ℕ). lead 0 (tail x)) p ∙ lead_decimal (2 ^ 32 - N.floor a) (46 ∷ N.fraction a) (omega arith) in
          omega arith

  -- a point that no digit follows
  point_differs : N.millionths a ≡ 0 → signed_text false a ≡ N.decimal (N.floor a) ++ 46 ∷ N.fraction a → ⊥
  point_differs k q =
      let e : N.decimal (N.floor a) ≡ N.decimal (N.floor a) ++ 46 ∷ N.fraction a = sym (magnitude_whole a k) ∙ q in
      omega (arith, ap length e, length-append (N.decimal (N.floor a)) (46 ∷ N.fraction a))

  by_kind : (b z k : Bool) → N.is_negative a ≡ b → eqb (a % 2 ^ 32) 0 ≡ z → eqb (N.millionths a) 0 ≡ k
      → (signed_text b (sized a h n b) ≡ (if z then floored a h n b else floored a h n b ++ 46 ∷ N.fraction a)) ↔ (not z && (b || k) ≡ false)
  by_kind b true k eb ez ek = ((λ q. refl), (λ q. whole_same a h n b eb (eqb-true (a % 2 ^ 32) 0 ez)))
  by_kind true false k eb ez ek = ((λ q. absurd (negative_differs eb (eqb-false (a % 2 ^ 32) 0 ez) q)), (λ q. absurd (true≢false q)))
  by_kind false false true eb ez ek = ((λ q. absurd (point_differs (eqb-true (N.millionths a) 0 ek) q)), (λ q. absurd (true≢false q)))
  by_kind false false false eb ez ek = ((λ q. refl), (λ q. magnitude_part a (eqb-false (N.millionths a) 0 ek)))

  same_not_nan : (N.format_js_number a ≡ original_text a) ↔ (amended a ≡ false)
  same_not_nan =
      let k = by_kind (N.is_negative a) (eqb (a % 2 ^ 32) 0) (eqb (N.millionths a) 0) refl refl refl in
      let new = text_number a n in
      let old = original_is a h n in
      let l : amended a ≡ (not (eqb (a % 2 ^ 32) 0) && (N.is_negative a || eqb (N.millionths a) 0)) =
      ap (λ (t : Bool). not t && not (eqb (a % 2 ^ 32) 0) && (N.is_negative a || eqb (N.millionths a) 0)) (ne_eqb a N.nan n) in
      ((λ q. l ∙ k.0 (sym new ∙ q ∙ old)), (λ q. new ∙ k.1 (sym l ∙ q) ∙ sym old))

pub same_text : (a : ℕ) → a < 2 ^ 64 → (N.format_js_number a ≡ original_text a) ↔ (amended a ≡ false)
same_text a h = go (eqb a N.nan) refl
  where
    go : (t : Bool) → eqb a N.nan ≡ t → (N.format_js_number a ≡ original_text a) ↔ (amended a ≡ false)
    go true e = ((λ q. rw e), (λ q. rw e))
    go false e = same_not_nan a h (eqb-false a N.nan e)

-- The text call of a number, in every state: its text, or 31. A buffer for the longest text is always enough.

pub number_call : (a room : ℕ) (s : State) → (H.perform (H.text (plain (number a)) room) s).answer ≡ number_answer a room
number_call a room s = go (leb (length (N.format_js_number a)) room)
  where
    go : (b : Bool) → (H.performed (H.ask 31 b none) (H.text (plain (number a)) room) s).answer ≡ (if b then H.wrote (N.format_js_number a) else H.refusal 31)
    go true = refl
    go false = refl

pub number_fits : (a room : ℕ) → a < 2 ^ 64 → longest_text ≤ room → number_answer a room ≡ H.wrote (N.format_js_number a)
number_fits a room h l =
    ap (λ (b : Bool). if b then H.wrote (N.format_js_number a) else H.refusal 31) (le-leb (length (N.format_js_number a)) room (omega (arith, text_length a h)))
