-- Change 3 of document 02: a text read in one pass gives the number of `parse_js_number`, into whatever parts it is cut. Assumes nothing.
use mathlib.Core.Path.{◌≡◌, refl, sym, ap, subst, ◌∙◌}
use mathlib.Core.Bool.{Bool, true, false, ◌&&◌, ◌||◌, false≢true}
use mathlib.Core.List.{List, [], ◌∷◌, ◌++◌, reverse, reverse-cons, reverse-append}
use Prim.Native.Nat.{ℕ, ◌+◌, ◌-◌, ◌*◌, ◌^◌, ◌%◌, ◌≤◌, ◌<◌}
use native.Mathlib.Omega.{arith}
use lib.Dec.{leb, eqb}
use borrow.Author.Tests.{leb-true, eqb-true, lt-leb}
use Rattle.machine.specs.Basic.{all}
use Rattle.std.specs.Prelude.{if◌then◌else◌}
use Rattle.machine.specs.Ascii.{ascii}
use Rattle.machine.specs.Number as N
use Rattle.machine.specs.Reading as R
use Rattle.machine.specs.Reading.{Reading, leading, digits, trailing, invalid, start, next, resume, signed_whole, finish, Saved, save, restore, in_parts, joined}

-- Blanks at the end, seen from the front

abbrev cut_back : List ℕ → List ℕ
cut_back bs = reverse (N.cut_front (reverse bs))

abbrev blank : List ℕ → Bool
blank = all N.is_blank

-- A blank list is cut whole, from either end.
cut_front_blank : (bs : List ℕ) → blank bs ≡ true → N.cut_front bs ≡ []
cut_front_blank [] e = refl
cut_front_blank (b ∷ bs) e = by (N.is_blank b) (blank bs) e (cut_front_blank bs)
  where
    by : (t u : Bool) → (t && u) ≡ true → (u ≡ true → N.cut_front bs ≡ []) → (if t then N.cut_front bs else b ∷ bs) ≡ []
    by true u e more = more e
    by false u e more = absurd (false≢true e)

-- With one more at the end: a blank list leaves that one to be judged; of another, it stays at the end.
cut_snoc : (bs : List ℕ) (c : ℕ) → N.cut_front (bs ++ c ∷ []) ≡ (if blank bs then N.cut_front (c ∷ []) else N.cut_front bs ++ c ∷ [])
cut_snoc [] c = refl
cut_snoc (b ∷ bs) c = by (N.is_blank b) (cut_snoc bs c)
  where
    by : (t : Bool) → N.cut_front (bs ++ c ∷ []) ≡ (if blank bs then N.cut_front (c ∷ []) else N.cut_front bs ++ c ∷ []) → (if t then N.cut_front (bs ++ c ∷ []) else (b ∷ bs) ++ c ∷ []) ≡ (if t && blank bs then N.cut_front (c ∷ []) else (if t then N.cut_front bs else b ∷ bs) ++ c ∷ [])
    by true more = more
    by false more = refl

blank_snoc : (bs : List ℕ) (c : ℕ) → blank (bs ++ c ∷ []) ≡ (N.is_blank c && blank bs)
blank_snoc [] c = refl
blank_snoc (b ∷ bs) c = ap (λ (t : Bool). N.is_blank b && t) (blank_snoc bs c) ∙ swap (N.is_blank b) (N.is_blank c) (blank bs)
  where
    swap : (x y z : Bool) → (x && (y && z)) ≡ (y && (x && z))
    swap true y z = refl
    swap false true z = refl
    swap false false z = refl

blank_reverse : (bs : List ℕ) → blank (reverse bs) ≡ blank bs
blank_reverse [] = refl
blank_reverse (b ∷ bs) = ap blank (reverse-cons b bs) ∙ blank_snoc (reverse bs) b ∙ ap (λ (t : Bool). N.is_blank b && t) (blank_reverse bs)

cut_back_blank : (bs : List ℕ) → blank bs ≡ true → cut_back bs ≡ []
cut_back_blank bs e = ap reverse (cut_front_blank (reverse bs) (blank_reverse bs ∙ e))

-- What is cut at the end: everything, or the first byte stays.
cut_cons : (b : ℕ) (bs : List ℕ) → cut_back (b ∷ bs) ≡ (if N.is_blank b && blank bs then [] else b ∷ cut_back bs)
cut_cons b bs =
    ap (λ (l : List ℕ). reverse (N.cut_front l)) (reverse-cons b bs)
    ∙ ap reverse (cut_snoc (reverse bs) b)
    ∙ ap (λ (t : Bool). reverse (if t then N.cut_front (b ∷ []) else N.cut_front (reverse bs) ++ b ∷ [])) (blank_reverse bs)
    ∙ by (N.is_blank b) (blank bs) (cut_back_blank bs)
  where
    by : (t u : Bool) → (u ≡ true → cut_back bs ≡ []) → reverse (if u then (if t then [] else b ∷ []) else N.cut_front (reverse bs) ++ b ∷ []) ≡ (if t && u then [] else b ∷ cut_back bs)
    by true true none = refl
    by true false none = reverse-append (N.cut_front (reverse bs)) (b ∷ [])
    by false true none = ap (λ (l : List ℕ). b ∷ l) (sym (none refl))
    by false false none = reverse-append (N.cut_front (reverse bs)) (b ∷ [])

-- No blank is a digit.
pub blank_digit : (b : ℕ) → N.is_blank b ≡ true → N.is_digit b ≡ false
blank_digit b e = ap (λ (t : Bool). t && leb b 57) (lt-leb 48 b (low (leb 9 b) (leb b 13) (eqb b 32) refl refl e))
  where
    low : (p q s : Bool) → leb b 13 ≡ q → eqb b 32 ≡ s → ((p && q) || s) ≡ true → b < 48
    low true true s eq es e = let h : b ≤ 13 = leb-true b 13 eq in omega arith
    low true false true eq es e = let h : b ≡ 32 = eqb-true b 32 es in omega arith
    low true false false eq es e = absurd (false≢true e)
    low false q true eq es e = let h : b ≡ 32 = eqb-true b 32 es in omega arith
    low false q false eq es e = absurd (false≢true e)

-- What is left of a text, read from each stage

pub invalid_stays : (bs : List ℕ) → resume invalid bs ≡ invalid
invalid_stays [] = refl
invalid_stays (b ∷ bs) = invalid_stays bs

from_invalid : (bs : List ℕ) → finish (resume invalid bs) ≡ N.nan
from_invalid bs = ap finish (invalid_stays bs)

from_trailing : (minus : Bool) (n : ℕ) (bs : List ℕ) → finish (resume (trailing minus n) bs) ≡ (if blank bs then signed_whole minus n else N.nan)
from_trailing minus n [] = refl
from_trailing minus n (b ∷ bs) = by (N.is_blank b) (from_trailing minus n bs) (from_invalid bs)
  where
    by : (t : Bool) → finish (resume (trailing minus n) bs) ≡ (if blank bs then signed_whole minus n else N.nan) → finish (resume invalid bs) ≡ N.nan
        → finish (resume (if t then trailing minus n else invalid) bs) ≡ (if t && blank bs then signed_whole minus n else N.nan)
    by true more none = more
    by false more none = none

digits_blank : (minus : Bool) (n b : ℕ) (bs : List ℕ) → N.is_digit b ≡ false → (u : Bool)
    → (if u then signed_whole minus n else N.nan) ≡ N.digits n minus (if u then [] else b ∷ bs)
digits_blank minus n b bs d true = refl
digits_blank minus n b bs d false = ap (λ (u : Bool). if u then N.digits (N.wrap (n * 10 + (b - 48))) minus bs else N.nan) (sym d)

from_digits : (minus : Bool) (n : ℕ) (bs : List ℕ) → finish (resume (digits minus n) bs) ≡ N.digits n minus (cut_back bs)
from_digits minus n [] = refl
from_digits minus n (b ∷ bs) =
    by (N.is_blank b) (blank_digit b) (from_trailing minus n bs) (at_digit (N.is_digit b) (from_digits minus (N.wrap (n * 10 + (b - 48))) bs) (from_invalid bs))
    ∙ sym (ap (N.digits n minus) (cut_cons b bs))
  where
    at_digit : (u : Bool) → finish (resume (digits minus (N.wrap (n * 10 + (b - 48)))) bs) ≡ N.digits (N.wrap (n * 10 + (b - 48))) minus (cut_back bs) → finish (resume invalid bs) ≡ N.nan
        → finish (resume (if u then digits minus (N.wrap (n * 10 + (b - 48))) else invalid) bs) ≡ (if u then N.digits (N.wrap (n * 10 + (b - 48))) minus (cut_back bs) else N.nan)
    at_digit true more none = more
    at_digit false more none = none

    by : (t : Bool) → (t ≡ true → N.is_digit b ≡ false) → finish (resume (trailing minus n) bs) ≡ (if blank bs then signed_whole minus n else N.nan)
        → finish (resume (R.digit minus n b) bs) ≡ N.digits n minus (b ∷ cut_back bs)
        → finish (resume (if t then trailing minus n else R.digit minus n b) bs) ≡ N.digits n minus (if t && blank bs then [] else b ∷ cut_back bs)
    by true d behind more = behind ∙ digits_blank minus n b (cut_back bs) (d refl) (blank bs)
    by false d behind more = more

-- The first byte that is no blank is `-`, or it is read where a digit may stand.
from_first : (b : ℕ) (bs : List ℕ) → N.is_blank b ≡ false
    → finish (resume (if eqb b 45 then digits true 0 else R.digit false 0 b) bs) ≡ N.signed_digits (cut_back (b ∷ bs))
from_first b bs e =
    by (eqb b 45) (from_digits true 0 bs) (ap (λ (t : Bool). finish (resume (if t then trailing false 0 else R.digit false 0 b) bs)) (sym e) ∙ from_digits false 0 (b ∷ bs) ∙ ap (N.digits 0 false) kept)
    ∙ ap N.signed_digits (sym kept)
  where
    kept : cut_back (b ∷ bs) ≡ b ∷ cut_back bs
    kept = cut_cons b bs ∙ ap (λ (t : Bool). if t && blank bs then [] else b ∷ cut_back bs) e

    by : (u : Bool) → finish (resume (digits true 0) bs) ≡ N.digits 0 true (cut_back bs) → finish (resume (R.digit false 0 b) bs) ≡ N.digits 0 false (b ∷ cut_back bs)
        → finish (resume (if u then digits true 0 else R.digit false 0 b) bs) ≡ (if u then N.digits 0 true (cut_back bs) else N.digits 0 false (b ∷ cut_back bs))
    by true minus other = minus
    by false minus other = other

-- The change: one pass gives the number as before ..
pub one_pass : (bs : List ℕ) → finish (resume start bs) ≡ N.parse_js_number bs
one_pass [] = refl
one_pass (b ∷ bs) = by (N.is_blank b) refl (one_pass bs)
  where
    by : (t : Bool) → N.is_blank b ≡ t → finish (resume leading bs) ≡ N.signed_digits (cut_back (N.cut_front bs))
        → finish (resume (if t then leading else if eqb b 45 then digits true 0 else R.digit false 0 b) bs) ≡ N.signed_digits (cut_back (if t then N.cut_front bs else b ∷ bs))
    by true e more = more
    by false e more = from_first b bs e

-- .. and so does a pass that stops after any byte and goes on from three numbers and the remaining bytes alone ..
pub resume_append : (r : Reading) (bs cs : List ℕ) → resume r (bs ++ cs) ≡ resume (resume r bs) cs
resume_append r [] cs = refl
resume_append r (b ∷ bs) cs = resume_append (next r b) bs cs

pub restore_save : (r : Reading) → restore (save r) ≡ r
restore_save leading = refl
restore_save (digits true n) = refl
restore_save (digits false n) = refl
restore_save (trailing true n) = refl
restore_save (trailing false n) = refl
restore_save invalid = refl

pub one_cut : (bs cs : List ℕ) → finish (resume (restore (save (resume start bs))) cs) ≡ N.parse_js_number (bs ++ cs)
one_cut bs cs = ap (λ (r : Reading). finish (resume r cs)) (restore_save (resume start bs)) ∙ ap finish (sym (resume_append start bs cs)) ∙ one_pass (bs ++ cs)

-- .. however often it stops.
parts_resume : (r : Reading) (l : List (List ℕ)) → in_parts (save r) l ≡ save (resume r (joined l))
parts_resume r [] = refl
parts_resume r (bs ∷ rest) =
    ap (λ (x : Reading). in_parts (save (resume x bs)) rest) (restore_save r)
    ∙ parts_resume (resume r bs) rest
    ∙ ap save (sym (resume_append r bs (joined rest)))

pub in_parts_lem : (l : List (List ℕ)) → finish (restore (in_parts (save start) l)) ≡ N.parse_js_number (joined l)
in_parts_lem l = ap (λ (p : Saved). finish (restore p)) (parts_resume start l) ∙ ap finish (restore_save (resume start (joined l))) ∙ one_pass (joined l)

-- The three numbers have 64 bits each, so that no text can hide in one.
pub record Small (p : Saved) : Type 0 where
  pub stage : p.stage < 4
  pub minus : p.minus < 2
  pub worth : p.worth < 2 ^ 64

abbrev Worth : Reading → Type 0
Worth leading = Unit {0}
Worth (digits minus n) = n < 2 ^ 64
Worth (trailing minus n) = n < 2 ^ 64
Worth invalid = Unit {0}

worth_digit : (minus : Bool) (n b : ℕ) → Worth (R.digit minus n b)
worth_digit minus n b = by (N.is_digit b)
  where
    by : (u : Bool) → Worth (if u then digits minus (N.wrap (n * 10 + (b - 48))) else invalid)
    by true = wrapped (n * 10 + (b - 48))
      where
        wrapped : (x : ℕ) → x % 2 ^ 64 < 2 ^ 64
        wrapped x = omega arith
    by false = tt

worth_next : (r : Reading) (b : ℕ) → Worth r → Worth (next r b)
worth_next leading b h = first (N.is_blank b) (eqb b 45) (worth_digit false 0 b)
  where
    first : (t u : Bool) → Worth (R.digit false 0 b) → Worth (if t then leading else if u then digits true 0 else R.digit false 0 b)
    first true u d = tt
    first false true d = omega arith
    first false false d = d
worth_next (digits minus n) b h = by (N.is_blank b) (worth_digit minus n b)
  where
    by : (t : Bool) → Worth (R.digit minus n b) → Worth (if t then trailing minus n else R.digit minus n b)
    by true d = h
    by false d = d
worth_next (trailing minus n) b h = by (N.is_blank b)
  where
    by : (t : Bool) → Worth (if t then trailing minus n else invalid)
    by true = h
    by false = tt
worth_next invalid b h = tt

worth_resume : (r : Reading) (bs : List ℕ) → Worth r → Worth (resume r bs)
worth_resume r [] h = h
worth_resume r (b ∷ bs) h = worth_resume (next r b) bs (worth_next r b h)

small_save : (r : Reading) → Worth r → Small (save r)
small_save leading h = record { stage = omega arith; minus = omega arith; worth = omega arith }
small_save (digits true n) h = record { stage = omega arith; minus = omega arith; worth = h }
small_save (digits false n) h = record { stage = omega arith; minus = omega arith; worth = h }
small_save (trailing true n) h = record { stage = omega arith; minus = omega arith; worth = h }
small_save (trailing false n) h = record { stage = omega arith; minus = omega arith; worth = h }
small_save invalid h = record { stage = omega arith; minus = omega arith; worth = omega arith }

pub small : (bs : List ℕ) → Small (save (resume start bs))
small bs = small_save (resume start bs) (worth_resume start bs tt)

pub small_parts : (l : List (List ℕ)) → Small (in_parts (save start) l)
small_parts l = subst Small (sym (parts_resume start l)) (small (joined l))

-- The texts of decision 89, whole and cut, by computation.
abbrev read : List (List ℕ) → ℕ
read l = finish (restore (in_parts (save start) l))

pub record Sheet : Type 0 where
  pub minus_blanks : read (ascii "-" ∷ ascii "  " ∷ []) ≡ 0
  pub minus_apart : read (ascii "- 5" ∷ []) ≡ N.nan
  pub minus_cut : read (ascii "-" ∷ ascii " 5" ∷ []) ≡ N.nan
  pub two_numbers : read (ascii "5 5" ∷ []) ≡ N.nan
  pub two_cut : read (ascii "5 " ∷ ascii "5" ∷ []) ≡ N.nan
  pub digits_cut : read (ascii " -1" ∷ [] ∷ ascii "2 " ∷ []) ≡ N.neg (N.whole 12)
  pub blank_first : read (ascii " " ∷ ascii "5" ∷ []) ≡ N.whole 5

pub sheet : Sheet
sheet = record { minus_blanks = refl; minus_apart = refl; minus_cut = refl; two_numbers = refl; two_cut = refl; digits_cut = refl; blank_first = refl }
