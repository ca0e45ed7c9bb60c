-- A frame more. Assumes nothing.
use Rattle.stacks.specs.Layout.{slot_limit, frame_limit, slots_at, frames_at, handlers_at}
use Rattle.std.specs.Prelude.{ℕ, ◌+◌, ◌-◌, ◌*◌, ◌≤◌, ◌<◌, List, [], ◌∷◌, ◌++◌, ◌≡◌, refl, length, Ok, Err}
use Rattle.std.proofs.Common.{arith, sym, ap, ◌∙◌, le-leb}
use Rattle.std.proofs.Math.ListN.{get_or, set, length-set}
use Rattle.std.proofs.Math.Seq.{get_or-set_same, get_or-set_other}
use Rattle.std.proofs.lemmas.Bool.{lt-leb}
use Rattle.machine.specs.Value as M
use Rattle.machine.specs.State as St
use Rattle.machine.specs.Act as A
use Rattle.machine.specs.Out.{out, out_make, out_refused, Asked}
use Rattle.value.specs.Words.{value_at}
use Rattle.value.specs.Arena.{Apart, apart_below, apart_above, set3, set3_apart, set3_first, set3_second, set3_third}
use Rattle.value.specs.Lists.{stack_none, stack_pop, stack_push, stack_length, row_append, row_length, row_none}
use Rattle.stacks.specs.declared.Depths.{Depths}
use Rattle.stacks.specs.declared.Frame.{Frame}
use Rattle.value.specs.declared.Space.TheVariants.{Slots, Frames}
use Rattle.stacks.specs.View
use Rattle.stacks.specs.Laws.{operands_kept, slots_kept, frames_kept, handlers_kept, top_length}
use Rattle.value.specs.declared.Stop.TheVariants.{Refused}

-- the place of the newest frame
module _ (w : List ℕ) (k p : ℕ) (z : k ≡ 0 → ⊥) (l : frames_at + 5 * k ≤ length w) where
  word : (j : ℕ) → (j ≡ frames_at + 5 * (k - 1) + 2 → ⊥) → get_or (set w (frames_at + 5 * (k - 1) + 2) p) j 0 ≡ get_or w j 0
  word j h = get_or-set_other w (frames_at + 5 * (k - 1) + 2) j p 0 h

  row_placed : View.frame_at (set w (frames_at + 5 * (k - 1) + 2) p) (frames_at + 5 * (k - 1)) ≡ St.set_ip p (View.frame_at w (frames_at + 5 * (k - 1)))
  unfolding View.frame_at
  row_placed =
      let at = frames_at + 5 * (k - 1) in
      rw (word at (λ e. omega arith), word (at + 1) (λ e. omega arith), get_or-set_same w (at + 2) p 0 (omega arith), word (at + 3) (λ e. omega arith), word (at + 4) (λ e. omega arith))

  placed_apart : Apart w (set w (frames_at + 5 * (k - 1) + 2) p) (frames_at + 5 * (k - 1)) (frames_at + 5 * k)
  placed_apart = record { at = λ j h. word j (λ e. h (omega arith) (omega arith)) }

  rows_placed : View.rows_of (set w (frames_at + 5 * (k - 1) + 2) p) k ≡ View.frames_of w k p
  rows_placed =
      let w' = set w (frames_at + 5 * (k - 1) + 2) p in
      let t : View.rows_of w' (k - 1) ≡ View.rows_of w (k - 1) = frames_kept w w' (k - 1) (apart_below placed_apart frames_at (frames_at + 5 * (k - 1)) (omega arith)) in
      rw (stack_pop (λ i. View.frame_at w' (frames_at + 5 * i)) k z, stack_pop (λ i. View.frame_at w (frames_at + 5 * i)) k z, row_placed, t)

pub save_none : (d : Depths) (w : List ℕ) → d.frames ≡ 0 → View.Saves d w w
save_none d w e = record { rows = rw (e, stack_none (λ i. View.frame_at w (frames_at + 5 * i))); apart = record { at = λ j h. refl } }

pub save_some : (d : Depths) (w : List ℕ) → View.Ready d w → (d.frames ≡ 0 → ⊥) → View.Saves d w (set w (frames_at + 5 * (d.frames - 1) + 2) d.ip)
save_some d w r z = record {
  rows = rows_placed w d.frames d.ip z (omega (arith, r.size, r.frames));
  apart = record { at = λ j h. (placed_apart w d.frames d.ip z (omega (arith, r.size, r.frames))).at j (λ x y. h (omega arith) y) };
}

-- five words in a row
module _ (w : List ℕ) (k : ℕ) (f : Frame) where
  pub frame_apart : Apart w (View.set_frame w k f) k (k + 5)
  unfolding View.set_frame
  frame_apart = record {
    at = λ j h.
        get_or-set_other (set (set3 w k f.image f.template f.ip) (k + 3) f.base) (k + 4) j f.count 0 (λ e. h (omega arith) (omega arith))
        ∙ get_or-set_other (set3 w k f.image f.template f.ip) (k + 3) j f.base 0 (λ e. h (omega arith) (omega arith))
        ∙ (set3_apart w k f.image f.template f.ip).at j (λ x y. h x (omega arith));
  }

  pub frame_same : k + 4 < length w → View.frame_at (View.set_frame w k f) k ≡ View.frame_of f
  unfolding View.set_frame View.frame_at
  frame_same l =
      let u = set3 w k f.image f.template f.ip in
      let x = set u (k + 3) f.base in
      let low : (j : ℕ) → j < k + 3 → get_or (set x (k + 4) f.count) j 0 ≡ get_or u j 0 = λ j h. get_or-set_other x (k + 4) j f.count 0 (λ e. omega arith) ∙ get_or-set_other u (k + 3) j f.base 0 (λ e. omega arith) in
      let a = low k (omega arith) ∙ set3_first w k f.image f.template f.ip (omega arith) in
      let b = low (k + 1) (omega arith) ∙ set3_second w k f.image f.template f.ip (omega arith) in
      let c = low (k + 2) (omega arith) ∙ set3_third w k f.image f.template f.ip (omega arith) in
      let d = get_or-set_other x (k + 4) (k + 3) f.count 0 (λ e. omega arith) ∙ get_or-set_same u (k + 3) f.base 0 (simp length-set (omega arith)) in
      let e = get_or-set_same x (k + 4) f.count 0 (simp length-set (omega arith)) in
      rw (a, b, c, d, e)

pub length_frame : (w : List ℕ) (k : ℕ) (f : Frame) → length (View.set_frame w k f) ≡ length w
unfolding View.set_frame
length_frame w k f = simp length-set

-- A frame that does not fit, whatever its slots are.
module _ (d : Depths) (w : List ℕ) (good : View.Ready d w) (image template : ℕ) (vs : List M.Value) where
  pub frames_full : frame_limit ≤ d.frames → View.Makes (A.push_frame image template vs) d w (Err (Refused Frames)) w
  frames_full h = record {
    goes = λ s p. out_refused (View.on_stacks d w s) (A.push_frame image template vs) p St.frame_store refl (Asked.no (rw (top_length, stack_length, lt-leb (d.frames + 1) frame_limit (omega arith))));
    ready = refl;
  }

  pub slots_full : d.frames < frame_limit → slot_limit - d.slots < length vs → View.Makes (A.push_frame image template vs) d w (Err (Refused Slots)) w
  slots_full h g = record {
    goes = λ s p. out_refused (View.on_stacks d w s) (A.push_frame image template vs) p St.slot_store refl
        (Asked.yes (rw (top_length, stack_length, le-leb (d.frames + 1) frame_limit (omega arith))) (Asked.no (rw (row_length, lt-leb (d.slots + length vs) slot_limit (omega (arith, good.slots))))));
    ready = refl;
  }

-- A frame that fits, its slots being those above the ones that stand.
module _ (d : Depths) (w : List ℕ) (good : View.Ready d w) (image template count : ℕ) where
  abbrev pub entered : Depths
  entered = record { operands = d.operands; slots = d.slots + count; frames = d.frames + 1; handlers = d.handlers; ip = 0 }

  abbrev pub new_frame : Frame
  new_frame = record { image = image; template = template; ip = 0; base = d.slots; count = count }

  pub frame_added : (w₁ w₂ : List ℕ) → d.frames < frame_limit → count ≤ slot_limit - d.slots → View.Saves d w w₁ → length w₁ ≡ length w → w₂ ≡ View.set_frame w₁ (frames_at + 5 * d.frames) new_frame
      → View.Makes (A.push_frame image template (View.above w d.slots count)) d w (Ok entered) w₂
  frame_added w₁ w₂ h g a l e =
      let k = d.frames in
      let n = d.slots in
      let q : Apart w₁ w₂ (frames_at + 5 * k) (frames_at + 5 * k + 5) = rw e (frame_apart w₁ (frames_at + 5 * k) new_frame) in
      let o : View.operands_of w₂ d.operands ≡ View.operands_of w d.operands =
      operands_kept w₁ w₂ d.operands (apart_below q 0 (0 + 3 * d.operands) (omega (arith, good.operands))) ∙ operands_kept w w₁ d.operands (apart_below a.apart 0 (0 + 3 * d.operands) (omega (arith, good.operands))) in
      let sl : View.slots_of w₂ (n + count) ≡ View.slots_of w n ++ View.above w n count =
      slots_kept w₁ w₂ (n + count) (apart_below q slots_at (slots_at + 3 * (n + count)) (omega (arith, good.slots))) ∙ slots_kept w w₁ (n + count) (apart_below a.apart slots_at (slots_at + 3 * (n + count)) (omega (arith, good.slots)))
      ∙ row_append n count (λ i. value_at w (slots_at + 3 * i)) in
      let top : View.frame_at w₂ (frames_at + 5 * k) ≡ View.frame_of new_frame = rw e (frame_same w₁ (frames_at + 5 * k) new_frame (omega (arith, good.size))) in
      let rows : View.rows_of w₂ (k + 1) ≡ View.frame_of new_frame ∷ View.frames_of w k d.ip =
      stack_push (λ i. View.frame_at w₂ (frames_at + 5 * i)) k ∙ ap (λ (x : St.Frame). x ∷ View.rows_of w₂ k) top
      ∙ ap (λ (x : List St.Frame). View.frame_of new_frame ∷ x) (frames_kept w₁ w₂ k (apart_below q frames_at (frames_at + 5 * k) (omega arith)) ∙ a.rows) in
      let g' : View.handlers_of w₂ d.handlers ≡ View.handlers_of w d.handlers =
      handlers_kept w₁ w₂ d.handlers (apart_above q handlers_at (handlers_at + 3 * d.handlers) (omega arith)) ∙ handlers_kept w w₁ d.handlers (apart_above a.apart handlers_at (handlers_at + 3 * d.handlers) (omega arith)) in
      record {
        goes = λ s p. out_make (View.on_stacks d w s) (A.push_frame image template (View.above w n count)) p refl
            (Asked.yes (rw (top_length, stack_length, le-leb (k + 1) frame_limit (omega arith))) (Asked.yes (rw (row_length, row_length, le-leb (n + count) slot_limit (omega (arith, good.slots)))) Asked.all))
            ∙ sym (ap (out p) (rw (o, sl, rows, g', row_length, row_length) refl));
        ready = record { operands = good.operands; slots = omega (arith, good.slots); frames = omega arith; handlers = good.handlers; size = rw (e, length_frame) (l ∙ good.size) };
      }

-- a frame without slots
pub frame_bare : (d : Depths) (w w' : List ℕ) (r : Depths) (image template : ℕ) → View.Makes (A.push_frame image template (View.above w d.slots 0)) d w (Ok r) w'
    → View.Makes (A.push_frame image template []) d w (Ok r) w'
frame_bare d w w' r image template m = rw (row_none (λ i. value_at w (slots_at + 3 * (d.slots + i)))) at m
