-- Text to number: readings as the machine has them, and what the rest of a text makes of each stage. Assumes nothing.
use Rattle.std.specs.Prelude.{◌≡◌, ℕ, suc, ◌+◌, ◌-◌, ◌*◌, ◌<◌, ◌≤◌, Bool, true, false, ◌&&◌, List, [], ◌∷◌, length, take, drop, ◌==◌, ◌≢◌, slice_index, refl, if◌then◌else◌}
use Rattle.std.specs.List.{list_all, prefix_len}
use Rattle.std.proofs.Common.{sym, ap, ◌∙◌, arith, add-one, one-add, drop_of_length-le, length-drop, drop-cons, take_all, ne_eqb}
use Rattle.std.proofs.lemmas.List.{nil_from_length}
use Rattle.machine.specs.Number as N
use Rattle.machine.specs.Reading as R
use Rattle.machine.proofs.Reading.{blank_digit, invalid_stays}
use Rattle.number.specs.declared.parse.Reading.{Reading}
use Rattle.number.specs.declared.parse.Reading.TheVariants.{Leading, Digits, Trailing, Invalid}
use Rattle.number.specs.declared.parse.Saved.{Saved}

-- Readings and saved ones, as the machine's

abbrev pub reading_of : Reading → R.Reading
reading_of Leading = R.leading
reading_of (Digits minus n) = R.digits minus n
reading_of (Trailing minus n) = R.trailing minus n
reading_of Invalid = R.invalid

abbrev pub saved_of : Saved → R.Saved
saved_of p = record { stage = p.stage; minus = p.minus; worth = p.worth }

-- Blanks

pub cut_front_lem : (s : List ℕ) → drop (prefix_len N.is_blank s) s ≡ N.cut_front s
cut_front_lem [] = refl
cut_front_lem (b ∷ bs) = by (N.is_blank b) (cut_front_lem bs)
  where
    by : (t : Bool) → drop (prefix_len N.is_blank bs) bs ≡ N.cut_front bs → drop (if t then 1 + prefix_len N.is_blank bs else 0) (b ∷ bs) ≡ (if t then N.cut_front bs else b ∷ bs)
    by true more = ap (λ (k : ℕ). drop k (b ∷ bs)) (one-add (prefix_len N.is_blank bs)) ∙ more
    by false more = refl

-- The first byte behind the blanks is none.
abbrev starts_blank : List ℕ → Bool
starts_blank [] = false
starts_blank (b ∷ bs) = N.is_blank b

cut_starts : (bs : List ℕ) → starts_blank (N.cut_front bs) ≡ false
cut_starts [] = refl
cut_starts (b ∷ bs) = by (N.is_blank b) refl (cut_starts bs)
  where
    by : (t : Bool) → N.is_blank b ≡ t → starts_blank (N.cut_front bs) ≡ false → starts_blank (if t then N.cut_front bs else b ∷ bs) ≡ false
    by true e more = more
    by false e more = e

-- Behind the digits: blanks, and nothing else

pub trailing_lem : (minus : Bool) (n : ℕ) (s : List ℕ) → R.resume (R.trailing minus n) s ≡ (if list_all N.is_blank s then R.trailing minus n else R.invalid)
trailing_lem minus n [] = refl
trailing_lem minus n (b ∷ bs) = by (N.is_blank b) (trailing_lem minus n bs)
  where
    by : (t : Bool) → R.resume (R.trailing minus n) bs ≡ (if list_all N.is_blank bs then R.trailing minus n else R.invalid)
        → R.resume (if t then R.trailing minus n else R.invalid) bs ≡ (if t && list_all N.is_blank bs then R.trailing minus n else R.invalid)
    by true more = more
    by false more = invalid_stays bs

-- In front of the digits: r is what stands behind the blanks of s.

resume_cut : (s : List ℕ) → R.resume R.leading s ≡ R.resume R.leading (N.cut_front s)
resume_cut [] = refl
resume_cut (b ∷ bs) = by (N.is_blank b) refl (resume_cut bs)
  where
    by : (t : Bool) → N.is_blank b ≡ t → R.resume R.leading bs ≡ R.resume R.leading (N.cut_front bs) → R.resume (R.next R.leading b) bs ≡ R.resume R.leading (if t then N.cut_front bs else b ∷ bs)
    by true e more = ap (λ (t : Bool). R.resume (if t then R.leading else if b == 45 then R.digits true 0 else R.digit false 0 b) bs) e ∙ more
    by false e more = refl

module _ (s r : List ℕ) (cut : r ≡ N.cut_front s) where
  from_cut : R.resume R.leading s ≡ R.resume R.leading r
  from_cut = resume_cut s ∙ ap (R.resume R.leading) (sym cut)

  pub leading_end : length r < 1 → R.leading ≡ R.resume R.leading s
  leading_end h = sym (from_cut ∙ ap (R.resume R.leading) (nil_from_length r (omega arith)))

  behind : 1 ≤ length r → R.resume R.leading s ≡ R.resume R.leading (slice_index r 0 ∷ drop 1 r)
  behind h = from_cut ∙ ap (R.resume R.leading) (drop-cons r 0 0 h)

  pub leading_minus : 1 ≤ length r → slice_index r 0 ≡ 45 → R.resume (R.digits true 0) (drop 1 r) ≡ R.resume R.leading s
  leading_minus h e = sym (behind h ∙ ap (λ (b : ℕ). R.resume R.leading (b ∷ drop 1 r)) e)

  pub leading_other : 1 ≤ length r → (slice_index r 0 ≢ 45) → R.resume (R.digits false 0) r ≡ R.resume R.leading s
  leading_other h n =
      let b = slice_index r 0 in
      let no_blank : N.is_blank b ≡ false = ap starts_blank (sym (drop-cons r 0 0 h) ∙ cut) ∙ cut_starts s in
      ap (R.resume (R.digits false 0)) (drop-cons r 0 0 h)
      ∙ ap (λ (t : Bool). R.resume (if t then R.trailing false 0 else R.digit false 0 b) (drop 1 r)) no_blank
      ∙ ap (λ (t : Bool). R.resume (if t then R.digits true 0 else R.digit false 0 b) (drop 1 r)) (sym (ne_eqb b 45 n))
      ∙ ap (λ (t : Bool). R.resume (if t then R.leading else if b == 45 then R.digits true 0 else R.digit false 0 b) (drop 1 r)) (sym no_blank)
      ∙ sym (behind h)

-- Digits: what is read from place k on, with what those before it are worth, is what is read of the whole.
pub record Underway (s : List ℕ) (minus : Bool) (n worth k : ℕ) : Type 0 where
  pub same : R.resume (R.digits minus n) s ≡ R.resume (R.digits minus worth) (drop k s)

digit_blank : (b : ℕ) → N.is_digit b ≡ true → N.is_blank b ≡ false
digit_blank b d = by (N.is_blank b) (blank_digit b)
  where
    by : (t : Bool) → (t ≡ true → N.is_digit b ≡ false) → t ≡ false
    by true f = sym d ∙ f refl
    by false f = refl

module _ (s : List ℕ) (minus : Bool) (n worth k : ℕ) (u : Underway s minus n worth k) where
  abbrev b : ℕ
  b = slice_index s k

  opened : k < length s → R.resume (R.digits minus n) s ≡ R.resume (if N.is_blank b then R.trailing minus worth else R.digit minus worth b) (drop (suc k) s)
  opened h = u.same ∙ ap (R.resume (R.digits minus worth)) (drop-cons s k 0 h)

  at_other : (x : Bool) → N.is_blank b ≡ false → N.is_digit b ≡ x → k < length s
      → R.resume (R.digits minus n) s ≡ R.resume (if x then R.digits minus (N.wrap (worth * 10 + (b - 48))) else R.invalid) (drop (suc k) s)
  at_other x e d h =
      opened h ∙ ap (λ (t : Bool). R.resume (if t then R.trailing minus worth else R.digit minus worth b) (drop (suc k) s)) e
      ∙ ap (λ (t : Bool). R.resume (if t then R.digits minus (N.wrap (worth * 10 + (b - 48))) else R.invalid) (drop (suc k) s)) d

  pub underway_other : k < length s → N.is_digit b ≡ false → N.is_blank b ≡ false → R.invalid ≡ R.resume (R.digits minus n) s
  underway_other h d e = sym (at_other false e d h ∙ invalid_stays (drop (suc k) s))

-- The rest of a text, lent as a part of it

pub rest_of : (s : List ℕ) (a : ℕ) → take (length s - a) (drop a s) ≡ drop a s
rest_of s a = take_all (length s - a) (drop a s) (omega (arith, length-drop a s))
