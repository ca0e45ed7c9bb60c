-- A line of the output: the texts of some values, a blank between. Assumes nothing.
use Rattle.std.specs.Prelude.{ℕ, zero, suc, ◌+◌, ◌-◌, ◌*◌, ◌/◌, ◌%◌, ◌≤◌, ◌<◌, List, [], ◌∷◌, ◌++◌, ◌≡◌, refl, length, set, Option, Some, None}
use Rattle.std.proofs.Common.{arith, append_assoc, sym, ap, ◌∙◌, length-append, length-set}
use Rattle.machine.specs.Basic.{sum_of}
use Rattle.machine.specs.Value as M
use Rattle.machine.specs.State as St
use Rattle.machine.specs.Act as A
use Rattle.machine.specs.Convert.{to_js_string}
use Rattle.machine.specs.Instruction.{joined}
use Rattle.value.specs.Words.{value_at}
use Rattle.value.specs.Lists.{row_of, row_none, row_length, row_append, one_more}
use Rattle.number.specs.Layout.{Wrote, wrote_none, wrote_more, wrote_after}
use Rattle.texts.specs.Overwrite.{overwrite, overwrite_length, overwrite_more, overwrite_one}
use Rattle.texts.specs.Keeps.{output_limit, Prints, appends_full, appends_went, went_as}

-- the values of `count` rows of three words, from row `from` on
abbrev pub values_at : List ℕ → ℕ → ℕ → List M.Value
values_at w from count = row_of count (λ i. value_at w (3 * (from + i)))

-- the bytes of the texts of some values
abbrev pub total : St.Bytes → List M.Value → ℕ
total m vs = sum_of (λ v. length (to_js_string m v)) vs

-- what stands before value i: nothing before the first
abbrev pub gap : ℕ → List ℕ
gap zero = []
gap (suc i) = 32 ∷ []

total_more : (m : St.Bytes) (us vs : List M.Value) → total m (us ++ vs) ≡ total m us + total m vs
total_more m [] vs = omega arith
total_more m (u ∷ us) vs = let e = total_more m us vs in omega arith

joined_length : (m : St.Bytes) (vs : List M.Value) → length (joined m vs) ≡ length vs - 1 + total m vs
joined_length m [] = refl
joined_length m (v ∷ []) = omega arith
joined_length m (v ∷ (u ∷ vs)) =
    let e = joined_length m (u ∷ vs) in
    length-append (to_js_string m v) (32 ∷ joined m (u ∷ vs)) ∙ omega arith

-- one value more
joined_more : (m : St.Bytes) (vs : List M.Value) (v : M.Value) → joined m (vs ++ v ∷ []) ≡ joined m vs ++ (gap (length vs) ++ to_js_string m v)
joined_more m [] v = refl
joined_more m (u ∷ []) v = refl
joined_more m (u ∷ (x ∷ vs)) v =
    let e = joined_more m (x ∷ vs) v in
    ap (λ (y : List ℕ). to_js_string m u ++ 32 ∷ y) e
    ∙ sym (append_assoc (to_js_string m u) (32 ∷ joined m (x ∷ vs)) (32 ∷ to_js_string m v))

module _ (m : St.Bytes) (w : List ℕ) (from : ℕ) where
  abbrev at : ℕ → M.Value
  at i = value_at w (3 * (from + i))

  pub line_none : joined m (values_at w from 0) ≡ []
  line_none = ap (joined m) (row_none at)

  pub line_more : (i : ℕ) → joined m (values_at w from (i + 1)) ≡ joined m (values_at w from i) ++ (gap i ++ to_js_string m (at i))
  line_more i =
      ap (joined m) (one_more i at (at i) refl) ∙ joined_more m (values_at w from i) (at i)
      ∙ ap (λ (k : ℕ). joined m (values_at w from i) ++ (gap k ++ to_js_string m (at i))) (row_length i at)

  total_row : (i : ℕ) → total m (values_at w from (i + 1)) ≡ total m (values_at w from i) + length (to_js_string m (at i))
  total_row i = ap (total m) (one_more i at (at i) refl) ∙ total_more m (values_at w from i) (at i ∷ []) ∙ omega arith

  total_below : (i d : ℕ) → total m (values_at w from i) ≤ total m (values_at w from (i + d))
  total_below i d =
      let e : total m (values_at w from (i + d)) ≡ total m (values_at w from i) + total m (row_of d (λ k. at (i + k))) =
      ap (total m) (row_append i d at) ∙ total_more m (values_at w from i) (row_of d (λ k. at (i + k))) in
      omega arith

  whole_length : (count : ℕ) → length (joined m (values_at w from count)) ≡ count - 1 + total m (values_at w from count)
  whole_length count = joined_length m (values_at w from count) ∙ ap (λ (k : ℕ). k - 1 + total m (values_at w from count)) (row_length count at)

  -- a part of the values has no more bytes than all
  pub line_below : (i count : ℕ) → i ≤ count → length (joined m (values_at w from i)) ≤ length (joined m (values_at w from count))
  line_below i count h =
      let d : i + (count - i) ≡ count = omega arith in
      let t : total m (values_at w from (i + (count - i))) ≡ total m (values_at w from count) = ap (λ (k : ℕ). total m (values_at w from k)) d in
      let b = total_below i (count - i) in
      omega (arith, whole_length i, whole_length count, t, b)

-- The measure. The blanks are counted first, then the texts one by one.
abbrev pub LineTold : St.Bytes → List ℕ → ℕ → ℕ → ℕ → Option ℕ → Type 0
LineTold m w from count room (Some k) = (k ≤ room) × (k ≡ length (joined m (values_at w from count)))
LineTold m w from count room None = room < length (joined m (values_at w from count))

pub record MeasuresLine (m : St.Bytes) (w : List ℕ) (from count room : ℕ) (r : Option ℕ) : Type 0 where
  pub told : LineTold m w from count room r

module _ (m : St.Bytes) (w : List ℕ) (from count : ℕ) where
  pub sum_none : (size : ℕ) → size ≡ count - 1 → size ≡ count - 1 + total m (values_at w from 0)
  sum_none size q = let e = ap (total m) (row_none (λ i. value_at w (3 * (from + i)))) in omega arith

  module _ (i size k : ℕ) (v : M.Value) (e : v ≡ value_at w (3 * (from + i))) (q : k ≡ length (to_js_string m v)) (s : size ≡ count - 1 + total m (values_at w from i)) where
    pub sum_more : size + k ≡ count - 1 + total m (values_at w from (i + 1))
    sum_more = let x = ap (λ (u : M.Value). length (to_js_string m u)) e in omega (arith, x, total_row m w from i)

    pub line_long : (room : ℕ) → i < count → size ≤ room → room - size < k → MeasuresLine m w from count room None
    line_long room h l g = record {
      told =
          let d : i + 1 + (count - (i + 1)) ≡ count = omega arith in
          let z = ap (λ (x : ℕ). total m (values_at w from x)) d in
          omega (arith, sum_more, z, total_below m w from (i + 1) (count - (i + 1)), whole_length m w from count);
    }

  pub line_blanks : (size room : ℕ) → size ≡ count - 1 → room < size → MeasuresLine m w from count room None
  line_blanks size room e g = record { told = omega (arith, whole_length m w from count) }

  pub line_whole : (i size room : ℕ) → i ≡ count → size ≤ room → size ≡ count - 1 + total m (values_at w from i) → MeasuresLine m w from count room (Some size)
  line_whole i size room e l s = record { told = (l, let z = ap (λ (x : ℕ). total m (values_at w from x)) e in omega (arith, z, whole_length m w from count)) }

-- The writing
module _ (m : St.Bytes) (w : List ℕ) (from : ℕ) (d₀ : List ℕ) (start : ℕ) where
  pub line_start : Wrote (joined m (values_at w from 0)) d₀ start d₀ start
  line_start = rw (line_none m w from) (wrote_none d₀ start)

  module _ (count i p : ℕ) (d : List ℕ) (v : M.Value) (fits : start + length (joined m (values_at w from count)) ≤ length d₀) (h : i < count)
      (ev : v ≡ value_at w (3 * (from + i))) (q : Wrote (joined m (values_at w from i)) d₀ start d p) where
    abbrev so_far : List ℕ
    so_far = joined m (values_at w from i)

    abbrev item : List ℕ
    item = gap i ++ to_js_string m v

    grown : so_far ++ item ≡ joined m (values_at w from (i + 1))
    grown = ap (λ (u : M.Value). so_far ++ (gap i ++ to_js_string m u)) ev ∙ sym (line_more m w from i)

    pub line_fits : p + length item ≤ length d
    line_fits =
        let a = line_below m w from (i + 1) count (omega arith) in
        let b = sym (length-append so_far item) ∙ ap length grown in
        let l = ap length q.bytes ∙ overwrite_length d₀ start so_far (omega arith) in
        omega (arith, q.place)

    pub line_step : (d' : List ℕ) (p' : ℕ) → Wrote item d p d' p' → Wrote (joined m (values_at w from (i + 1))) d₀ start d' p'
    line_step d' p' g = rw grown at (wrote_more d₀ start so_far item d d' p p' (omega arith) q g)

-- the first value, and one with a blank before it
module _ (i : ℕ) (t : List ℕ) where
  pub first_item : i ≡ 0 → gap i ++ t ≡ t
  first_item e = rw e

  later_item : (i ≡ 0 → ⊥) → gap i ++ t ≡ 32 ∷ t
  later_item h = go i h
    where
      go : (k : ℕ) → (k ≡ 0 → ⊥) → gap k ++ t ≡ 32 ∷ t
      go zero g = absurd (g refl)
      go (suc k) g = refl

  module _ (h : i ≡ 0 → ⊥) (d : List ℕ) (at : ℕ) (l : at + length (gap i ++ t) ≤ length d) where
    pub later_wrote : (d' : List ℕ) (r : ℕ) → Wrote t (set d at 32) (at + 1) d' r → Wrote (gap i ++ t) d at d' r
    later_wrote d' r q = let e = ap length (later_item h) in rw (later_item h) (wrote_after d at 32 t d' r (omega arith) q)

-- the two bytes of the length, and the line
module _ (o size : ℕ) (d bs : List ℕ) (l : length d ≡ output_limit) (h : o ≤ output_limit) (e : size ≡ length bs) where
  pub print_full : output_limit < o + (2 + size) → Prints bs o d None d
  print_full g = appends_full output_limit o d (A.line bs) (2 + size) (omega arith) h (omega arith)

  pub print_went : (a b : ℕ) (d' : List ℕ) → o + 2 + size ≤ output_limit → a ≡ size / 256 → b ≡ size % 256
      → d' ≡ overwrite (set (set d o a) (o + 1) b) (o + 2) bs → Prints bs o d (Some (o + 2 + size)) d'
  print_went a b d' g ea eb q =
      let k = length-set d o a in
      let x : set (set d o a) (o + 1) b ≡ overwrite d o (a ∷ b ∷ []) =
      overwrite_one (set d o a) (o + 1) b (omega arith) ∙ ap (λ (y : List ℕ). overwrite y (o + 1) (b ∷ [])) (overwrite_one d o a (omega arith))
      ∙ overwrite_more d o (a ∷ []) (omega arith) (b ∷ []) in
      let y : d' ≡ overwrite d o (a ∷ b ∷ bs) = q ∙ ap (λ (u : List ℕ). overwrite u (o + 2) bs) x ∙ overwrite_more d o (a ∷ b ∷ []) (omega arith) bs in
      let fa : a ≡ length bs / 256 = ea ∙ ap (λ (u : ℕ). u / 256) e in
      let fb : b ≡ length bs % 256 = eb ∙ ap (λ (u : ℕ). u % 256) e in
      let z : d' ≡ overwrite d o (A.line bs) = y ∙ ap (λ (u : ℕ). overwrite d o (u ∷ b ∷ bs)) fa ∙ ap (λ (u : ℕ). overwrite d o ((length bs / 256) ∷ u ∷ bs)) fb in
      let s : o + (2 + size) ≡ o + 2 + size = omega arith in
      went_as s (appends_went output_limit o d (A.line bs) (2 + size) (omega arith) h d' (omega arith) z)

-- the measure taken apart
module _ {m : St.Bytes} {w : List ℕ} {from count room : ℕ} {r : Option ℕ} (q : MeasuresLine m w from count room r) where
  pub measured : {k : ℕ} → r ≡ Some k → LineTold m w from count room (Some k)
  measured e = rw e at q.told

  pub too_many : r ≡ None → LineTold m w from count room None
  too_many e = rw e at q.told
