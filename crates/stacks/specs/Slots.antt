-- A value into a slot. Assumes nothing.
use Rattle.stacks.specs.Layout.{slot_limit, slots_at, frames_at, handlers_at, stack_words}
use Rattle.std.specs.Prelude.{ℕ, zero, suc, ◌+◌, ◌-◌, ◌*◌, ◌≤◌, ◌<◌, List, [], ◌∷◌, ◌++◌, ◌≡◌, refl, length, get_or, set, replicate, Ok, Err}
use Rattle.std.proofs.Common.{arith, sym, subst, ◌∙◌, get_or-set_other, le-leb}
use Rattle.std.proofs.Math.Decide.{dec_lt}
use Rattle.std.proofs.Math.Path.{ap}
use Rattle.std.proofs.lemmas.List.{set-get_or}
use Rattle.std.proofs.Math.Seq.{get_or-set_same, set_out}
use Rattle.std.proofs.lemmas.Bool.{lt-leb}
use Rattle.machine.specs.Value as M
use Rattle.machine.specs.State as St
use Rattle.machine.specs.Act as A
use Rattle.machine.specs.Out.{out, out_make, out_refused, Asked}
use Rattle.value.specs.declared.Value.{Value}
use Rattle.value.specs.declared.Value.TheVariants.{Undefined}
use Rattle.value.specs.Words.{value_of, value_at, set_value, value_same, value_reads, value_apart, Holds, holds_set}
use Rattle.value.specs.Arena.{Same, Apart, apart_below, apart_above}
use Rattle.value.specs.Lists.{row_of, stack_none, stack_pop, row_append, row_ext, row_length}
use Rattle.stacks.specs.declared.Depths.{Depths}
use Rattle.stacks.specs.declared.Frame.{Frame}
use Rattle.value.specs.declared.Space.TheVariants.{Slots}
use Rattle.stacks.specs.View
use Rattle.stacks.specs.Laws.{operands_kept, slots_kept, frames_kept, handlers_kept, frame_reads}
use Rattle.value.specs.declared.Stop.TheVariants.{Refused}

pub fill_none : (w : List ℕ) (i : ℕ) → View.Filled w w i i
fill_none w i = record { values = λ j a b. absurd (omega arith); apart = record { at = λ j h. refl } }

pub fill_more : (w₀ w w' : List ℕ) (from i : ℕ) → from ≤ i → slots_at + 3 * i + 2 < length w → View.Filled w₀ w from i → w' ≡ set_value w (slots_at + 3 * i) Undefined → View.Filled w₀ w' from (i + 1)
fill_more w₀ w w' from i h l f e = rw e (record {
  values = λ j a b. go j a b (dec_lt j i);
  apart = record { at = λ j n. (value_apart w (slots_at + 3 * i) Undefined).at j (λ x y. n (omega arith) (omega arith)) ∙ f.apart.at j (λ x y. n x (omega arith)) };
})
  where
    go : (j : ℕ) → from ≤ j → j < i + 1 → Dec (j < i) → value_at (set_value w (slots_at + 3 * i) Undefined) (slots_at + 3 * j) ≡ M.undefined
    go j a b (yes q) =
        value_reads w (set_value w (slots_at + 3 * i) Undefined) (slots_at + 3 * j) (λ k x y. (value_apart w (slots_at + 3 * i) Undefined).at k (λ u v. omega arith)) ∙ f.values j a q
    go j a b (no q) = let z : j ≡ i = omega (arith, q) in rw z (value_same w (slots_at + 3 * i) Undefined l)

-- rows that are all Undefined
pub undefined_rows : (n : ℕ) (f : ℕ → M.Value) → ((i : ℕ) → i < n → f i ≡ M.undefined) → row_of n f ≡ replicate n M.undefined
unfolding row_of
undefined_rows zero f h = refl
undefined_rows (suc n) f h =
    let a : f 0 ≡ M.undefined = h 0 (omega arith) in
    let b : row_of n (λ k. f (suc k)) ≡ replicate n M.undefined = undefined_rows n (λ k. f (suc k)) (λ i l. h (suc i) (omega arith)) in
    cc

pub filled_slots : {w w' : List ℕ} {from to : ℕ} → from ≤ to → View.Filled w w' from to → View.slots_of w' to ≡ View.slots_of w from ++ replicate (to - from) M.undefined
filled_slots {w} {w'} {from} {to} h f =
    let e : from + (to - from) ≡ to = omega arith in
    ap (View.slots_of w') (sym e) ∙ row_append from (to - from) (λ i. value_at w' (slots_at + 3 * i))
    ∙ ap (λ (x : List M.Value). x ++ row_of (to - from) (λ i. value_at w' (slots_at + 3 * (from + i)))) (slots_kept w w' from (apart_below f.apart slots_at (slots_at + 3 * from) (omega arith)))
    ∙ ap (λ (x : List M.Value). View.slots_of w from ++ x) (undefined_rows (to - from) (λ i. value_at w' (slots_at + 3 * (from + i))) (λ i l. f.values (from + i) (omega arith) (omega arith)))

pub fill_all : {w w' : List ℕ} {from i to : ℕ} → i ≡ to → View.Filled w w' from i → View.Filled w w' from to
fill_all {w} {w'} {from} e f = rw e at f

row_set : {A : Type 0} (n j : ℕ) (f g : ℕ → A) (x : A) → j < n → g j ≡ x → ((i : ℕ) → (i ≡ j → ⊥) → g i ≡ f i) → row_of n g ≡ set (row_of n f) j x
unfolding row_of
row_set zero j f g x h e o = absurd (omega arith)
row_set {A} (suc n) zero f g x h e o = rw e (ap {B = List A} (λ r. x ∷ r) (row_ext n (λ k. g (suc k)) (λ k. f (suc k)) (λ i l. o (suc i) (λ q. omega arith))))
row_set {A} (suc n) (suc j) f g x h e o = rw (o 0 (λ q. omega arith)) (ap {B = List A} (λ r. f 0 ∷ r) (row_set n j (λ k. f (suc k)) (λ k. g (suc k)) x (omega arith) e (λ i q. o (suc i) (λ r. q (omega arith)))))

pub put_past : (w : List ℕ) (n j : ℕ) (v : M.Value) → n ≤ j → View.Puts w w n j v
put_past w n j v h = record { slots = sym (set_out (View.slots_of w n) j v (rw row_length h)); apart = record { at = λ i q. refl } }

pub put_holds : (w w' : List ℕ) (n j : ℕ) (v : M.Value) → j < n → n ≤ slot_limit → Holds w w' (slots_at + 3 * j) v → View.Puts w w' n j v
put_holds w w' n j v h l e = record {
  slots = row_set n j (λ i. value_at w (slots_at + 3 * i)) (λ i. value_at w' (slots_at + 3 * i)) v h e.value
      (λ i q. value_reads w w' (slots_at + 3 * i) (λ k a b. e.apart.at k (λ x y. q (omega arith))));
  apart = record { at = λ k q. e.apart.at k (λ x y. q (omega arith) (omega arith)) };
}

pub put_at : (w w' : List ℕ) (n j : ℕ) (v : Value) → j < n → n ≤ slot_limit → length w ≡ stack_words → w' ≡ set_value w (slots_at + 3 * j) v → View.Puts w w' n j (value_of v)
put_at w w' n j v h l m e = put_holds w w' n j (value_of v) h l (rw e (holds_set w (slots_at + 3 * j) v (omega arith)))

abbrev pub with_slots : ℕ → Depths → Depths
with_slots n d = record { operands = d.operands; slots = n; frames = d.frames; handlers = d.handlers; ip = d.ip }

frame_same : (w w' : List ℕ) (k : ℕ) → Same w w' k (k + 5) → View.frame_at w' k ≡ View.frame_at w k
frame_same = frame_reads

-- the newest frame's count of slots is set
module _ (w : List ℕ) (k c m : ℕ) (z : k ≡ 0 → ⊥) (l : frames_at + 5 * k ≤ length w) (q : c ≡ (View.frame_at w (frames_at + 5 * (k - 1))).count + m) where
  word : (j : ℕ) → (j ≡ frames_at + 5 * (k - 1) + 4 → ⊥) → get_or (set w (frames_at + 5 * (k - 1) + 4) c) j 0 ≡ get_or w j 0
  word j h = get_or-set_other w (frames_at + 5 * (k - 1) + 4) j c 0 h

  pub counted_apart : Apart w (set w (frames_at + 5 * (k - 1) + 4) c) (frames_at + 5 * (k - 1)) (frames_at + 5 * (k - 1) + 5)
  counted_apart = record { at = λ j h. word j (λ e. h (omega arith) (omega arith)) }

  row_grown : View.frame_at (set w (frames_at + 5 * (k - 1) + 4) c) (frames_at + 5 * (k - 1)) ≡ A.grown m (View.frame_at w (frames_at + 5 * (k - 1)))
  unfolding View.frame_at
  row_grown =
      let at = frames_at + 5 * (k - 1) in
      rw (word at (λ e. omega arith), word (at + 1) (λ e. omega arith), word (at + 2) (λ e. omega arith), word (at + 3) (λ e. omega arith), get_or-set_same w (at + 4) c 0 (omega arith), q)

  pub rows_grown : View.rows_of (set w (frames_at + 5 * (k - 1) + 4) c) k ≡ A.grown m (View.frame_at w (frames_at + 5 * (k - 1))) ∷ View.rows_of w (k - 1)
  rows_grown =
      let w' = set w (frames_at + 5 * (k - 1) + 4) c in
      let t : View.rows_of w' (k - 1) ≡ View.rows_of w (k - 1) = frames_kept w w' (k - 1) (apart_below counted_apart frames_at (frames_at + 5 * (k - 1)) (omega arith)) in
      rw (stack_pop (λ i. View.frame_at w' (frames_at + 5 * i)) k z, row_grown, t)

module _ (d : Depths) (w : List ℕ) (good : View.Ready d w) (i : ℕ) (v : M.Value) where
  pub store_none : d.frames ≡ 0 → View.Makes (A.store i v) d w (Ok d) w
  store_none e =
      let fs : View.frames_of w d.frames d.ip ≡ [] = rw (e, stack_none (λ i. View.frame_at w (frames_at + 5 * i))) in
      record {
        goes = λ s p. out_make (View.on_stacks d w s) (A.store i v) p refl (Asked.yes (rw (row_length, fs) (le-leb (d.slots + 0) slot_limit (omega (arith, good.slots)))) Asked.all)
            ∙ ap (λ (x : List St.Frame). out p (A.store_in i v x (View.on_stacks d w s))) fs;
        ready = good;
      }

  module _ (f : Frame) (more : ℕ) (z : d.frames ≡ 0 → ⊥) (e : View.frame_of f ≡ View.frame_at w (frames_at + 5 * (d.frames - 1))) (m : more ≡ i + 1 - f.count) where
    top : View.frames_of w d.frames d.ip ≡ St.set_ip d.ip (View.frame_of f) ∷ View.rows_of w (d.frames - 1)
    top = ap (St.top_at d.ip) (stack_pop (λ i. View.frame_at w (frames_at + 5 * i)) d.frames z ∙ ap (λ (x : St.Frame). x ∷ View.rows_of w (d.frames - 1)) (sym e))

    lacks : A.lacking_top i (View.frames_of w d.frames d.ip) ≡ more
    lacks = ap (A.lacking_top i) top ∙ sym m

    pub store_full : slot_limit - d.slots < more → View.Makes (A.store i v) d w (Err (Refused Slots)) w
    store_full h = record {
      goes = λ s p. out_refused (View.on_stacks d w s) (A.store i v) p St.slot_store refl (Asked.no (rw (row_length, lacks) (lt-leb (d.slots + more) slot_limit (omega (arith, good.slots)))));
      ready = refl;
    }

    pub store_went : (w₁ w₂ w₃ : List ℕ) → more ≤ slot_limit - d.slots → View.Filled w w₁ d.slots (d.slots + more) → length w₁ ≡ length w
        → w₂ ≡ set w₁ (frames_at + 5 * (d.frames - 1) + 4) (f.count + more) → View.Puts w₂ w₃ (d.slots + more) (f.base + i) v → length w₃ ≡ length w
        → View.Makes (A.store i v) d w (Ok (with_slots (d.slots + more) d)) w₃
    store_went w₁ w₂ w₃ h a₁ l₁ e₂ a₃ l₃ =
        let k = d.frames in
        let n = d.slots in
        let same : View.frame_at w₁ (frames_at + 5 * (k - 1)) ≡ View.frame_of f = frame_same w w₁ (frames_at + 5 * (k - 1)) (apart_above a₁.apart (frames_at + 5 * (k - 1)) (frames_at + 5 * (k - 1) + 5) (omega (arith, good.slots))) ∙ sym e in
        let c : f.count + more ≡ (View.frame_at w₁ (frames_at + 5 * (k - 1))).count + more = ap (λ (x : St.Frame). x.count + more) (sym same) in
        let q : Apart w₁ w₂ (frames_at + 5 * (k - 1)) (frames_at + 5 * (k - 1) + 5) = rw e₂ (counted_apart w₁ k (f.count + more) more z (omega (arith, good.size, good.frames)) c) in
        let rows : View.rows_of w₂ k ≡ A.grown more (View.frame_of f) ∷ View.rows_of w (k - 1) = rw (e₂, rows_grown w₁ k (f.count + more) more z (omega (arith, good.size, good.frames)) c, same, frames_kept w w₁ (k - 1) (apart_above a₁.apart frames_at (frames_at + 5 * (k - 1)) (omega (arith, good.slots)))) in
        let o : View.operands_of w₃ d.operands ≡ View.operands_of w d.operands =
        operands_kept w₂ w₃ d.operands (apart_below a₃.apart 0 (0 + 3 * d.operands) (omega (arith, good.operands)))
        ∙ operands_kept w₁ w₂ d.operands (apart_below q 0 (0 + 3 * d.operands) (omega (arith, good.operands)))
        ∙ operands_kept w w₁ d.operands (apart_below a₁.apart 0 (0 + 3 * d.operands) (omega (arith, good.operands))) in
        let over : n + more - n ≡ more = omega arith in
        let l : View.slots_of w₃ (n + more) ≡ set (View.slots_of w n ++ replicate more M.undefined) (f.base + i) v =
        a₃.slots ∙ ap (λ (x : List M.Value). set x (f.base + i) v) (slots_kept w₁ w₂ (n + more) (apart_below q slots_at (slots_at + 3 * (n + more)) (omega (arith, good.slots))) ∙ filled_slots (omega arith) a₁
        ∙ ap (λ (x : ℕ). View.slots_of w n ++ replicate x M.undefined) over) in
        let fr : View.rows_of w₃ k ≡ A.grown more (View.frame_of f) ∷ View.rows_of w (k - 1) = frames_kept w₂ w₃ k (apart_above a₃.apart frames_at (frames_at + 5 * k) (omega arith)) ∙ rows in
        let g : View.handlers_of w₃ d.handlers ≡ View.handlers_of w d.handlers =
        handlers_kept w₂ w₃ d.handlers (apart_above a₃.apart handlers_at (handlers_at + 3 * d.handlers) (omega arith))
        ∙ handlers_kept w₁ w₂ d.handlers (apart_above q handlers_at (handlers_at + 3 * d.handlers) (omega (arith, good.frames)))
        ∙ handlers_kept w w₁ d.handlers (apart_above a₁.apart handlers_at (handlers_at + 3 * d.handlers) (omega (arith, good.slots))) in
        record {
          goes = λ s p. out_make (View.on_stacks d w s) (A.store i v) p refl (Asked.yes (rw (row_length, lacks) (le-leb (n + more) slot_limit (omega (arith, good.slots)))) Asked.all)
              ∙ ap (λ (x : List St.Frame). out p (A.store_in i v x (View.on_stacks d w s))) top
              ∙ ap (λ (x : ℕ). out p (View.under (View.operands_of w d.operands) (set (View.slots_of w n ++ replicate x M.undefined) (f.base + i) v) (A.grown x (St.set_ip d.ip (View.frame_of f)) ∷ View.rows_of w (k - 1)) (View.handlers_of w d.handlers) s)) (sym m)
              ∙ sym (ap (out p) (rw (o, l, fr, g) refl));
          ready = record { operands = good.operands; slots = omega (arith, good.slots); frames = good.frames; handlers = good.handlers; size = l₃ ∙ good.size };
        }

    -- the newest frame has slot i already
    has_count : f.count ≡ get_or w (frames_at + 5 * (d.frames - 1) + 4) 0
    unfolding View.frame_at
    has_count = ap (λ (x : St.Frame). x.count) e

    pub store_holds : (w' : List ℕ) → i < f.count → f.base + i < d.slots → View.Puts w w' d.slots (f.base + i) v → length w' ≡ length w → View.Makes (A.store i v) d w (Ok d) w'
    store_holds w' h b p l =
        let at = frames_at + 5 * (d.frames - 1) + 4 in
        let z : more ≡ 0 = omega arith in
        let n : d.slots + more ≡ d.slots = omega (arith, z) in
        let c : f.count + more ≡ get_or w at 0 = omega (arith, z, has_count) in
        let same : w ≡ set w at (f.count + more) = sym (ap (set w at) c ∙ set-get_or w at 0) in
        subst (λ (y : ℕ). View.Makes (A.store i v) d w (Ok (with_slots y d)) w') n
        (store_went w w w' (omega (arith, z)) (subst (λ (y : ℕ). View.Filled w w d.slots y) (sym n) (fill_none w d.slots)) refl same
        (subst (λ (y : ℕ). View.Puts w w' y (f.base + i) v) (sym n) p) l)
