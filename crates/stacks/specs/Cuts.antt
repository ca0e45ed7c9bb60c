-- Frames taken off, with their slots and handlers. Assumes nothing.
use Rattle.stacks.specs.Layout.{frame_limit, slots_at, frames_at, handlers_at}
use Rattle.std.specs.Prelude.{ℕ, zero, suc, ◌+◌, ◌-◌, ◌*◌, ◌≤◌, ◌<◌, min, true, false, List, [], ◌∷◌, ◌≡◌, refl, ltb, length, get_or, take, drop}
use Rattle.std.proofs.Common.{arith, true≢false, sym, ap₂, ◌∙◌, lt-ltb, le-ltb, le-leb, ltb-true, ltb-false}
use Rattle.std.proofs.Math.Decide.{dec_lt}
use Rattle.std.proofs.Math.Path.{ap}
use Rattle.std.proofs.lemmas.Bool.{lt-leb}
use Rattle.machine.specs.Basic.{lowest}
use Rattle.machine.specs.Value as M
use Rattle.machine.specs.State as St
use Rattle.machine.specs.Act as A
use Rattle.machine.specs.Fields as S
use Rattle.machine.specs.Instruction as I
use Rattle.value.specs.Words.{value_at}
use Rattle.value.specs.Lists.{stack_none, stack_pop, stack_length, stack_cut, row_take, row_take_all, row_at_lem, row_past, row_none}
use Rattle.stacks.specs.declared.Depths.{Depths}
use Rattle.stacks.specs.declared.Frame.{Frame}
use Rattle.stacks.specs.declared.Handler.{Handler}
use Rattle.stacks.specs.View
use Rattle.stacks.specs.Laws.{top_length, with_handlers}

abbrev pub kept : ℕ → ℕ → ℕ → Depths → Depths
kept k p l d = record { operands = d.operands; slots = l; frames = k; handlers = d.handlers; ip = p }

cut_slots : (w : List ℕ) (n m : ℕ) → View.slots_of w (min m n) ≡ take m (View.slots_of w n)
cut_slots w n m = go (dec_lt m n)
  where
    f : ℕ → M.Value
    f i = value_at w (slots_at + 3 * i)

    go : Dec (m < n) → View.slots_of w (min m n) ≡ take m (View.slots_of w n)
    go (yes h) = let e : min m n ≡ m = omega arith in ap (λ (x : ℕ). View.slots_of w x) e ∙ sym (row_take n m (λ i. value_at w (slots_at + 3 * i)) (omega arith))
    go (no h) = let e : min m n ≡ n = omega (arith, h) in ap (λ (x : ℕ). View.slots_of w x) e ∙ sym (row_take_all n m (λ i. value_at w (slots_at + 3 * i)) (omega (arith, h)))

end_top : (p : ℕ) (f : St.Frame) (fs : List St.Frame) → St.end_of (St.top_at p (f ∷ fs)) ≡ f.base + f.count
end_top p f fs = refl

-- where the newest handler saved no more, all are left; where it saved more, it goes
pub all_left : (k : ℕ) (hs : List St.Handler) → View.saved_more k hs ≡ false → A.pending_over k hs ≡ hs
all_left k [] e = refl
all_left k (h ∷ hs) e = rw (le-leb h.frames k (ltb-false k h.frames e))

newest_goes : (k : ℕ) (h : St.Handler) (hs : List St.Handler) → ltb k h.frames ≡ true → A.pending_over k (h ∷ hs) ≡ A.pending_over k hs
newest_goes k h hs e = rw (lt-leb h.frames k (ltb-true k h.frames e))

module _ (w : List ℕ) where
  newest : (m : ℕ) → (m ≡ 0 → ⊥) → View.handlers_of w m ≡ View.handler_at w (handlers_at + 3 * (m - 1)) ∷ View.handlers_of w (m - 1)
  newest m z = stack_pop (λ i. View.handler_at w (handlers_at + 3 * i)) m z

  none_pending : (m : ℕ) → m ≡ 0 → View.handlers_of w m ≡ []
  none_pending m z = ap (λ (x : ℕ). View.handlers_of w x) z ∙ stack_none (λ i. View.handler_at w (handlers_at + 3 * i))

  pub none_saved : (k m : ℕ) → m ≡ 0 → false ≡ View.saved_more k (View.handlers_of w m)
  none_saved k m z = ap (View.saved_more k) (sym (none_pending m z))

  pub newest_saved : (k m : ℕ) → (m ≡ 0 → ⊥) → ltb k (get_or w (handlers_at + 3 * (m - 1) + 2) 0) ≡ View.saved_more k (View.handlers_of w m)
  unfolding View.handler_at
  newest_saved k m z = ap (View.saved_more k) (sym (newest m z))

  -- one that saved more is pending
  pub some_pending : (k m : ℕ) → View.saved_more k (View.handlers_of w m) ≡ true → m ≡ 0 → ⊥
  some_pending k m e z = true≢false (sym e ∙ ap (View.saved_more k) (none_pending m z))

  -- handlers that are dropped, the newest first: m of n are left so far
  pub record Dropping (n k m : ℕ) : Type 0 where
    pub state : A.pending_over k (View.handlers_of w m) ≡ A.pending_over k (View.handlers_of w n)
    pub within : m ≤ n

  pub drop_first : (n k : ℕ) → Dropping n k n
  drop_first n k = record { state = refl; within = omega arith }

  pub drop_more : {n k m : ℕ} → View.saved_more k (View.handlers_of w m) ≡ true → Dropping n k m → Dropping n k (m - 1)
  drop_more {n} {k} {m} e p =
      let t = newest m (some_pending k m e) in
      record {
        state = sym (ap (A.pending_over k) t ∙ newest_goes k _ _ (sym (ap (View.saved_more k) t) ∙ e)) ∙ p.state;
        within = omega (arith, p.within);
      }

  pub drop_last : {n k m : ℕ} → View.saved_more k (View.handlers_of w m) ≡ false → Dropping n k m → View.PendingOver n k w m
  drop_last {n} {k} {m} e p = record { state = sym (all_left k (View.handlers_of w m) e) ∙ p.state; within = p.within }

module _ (d : Depths) (w : List ℕ) (good : View.Ready d w) where
  pub keep_none : (k p : ℕ) → k ≡ 0 → View.Keeps d k p w (kept k p 0 d)
  keep_none k p e = record {
    state = λ s. rw (e, stack_none (λ i. View.frame_at w (frames_at + 5 * i)), row_none (λ i. value_at w (slots_at + 3 * i)));
    ready = record { operands = good.operands; slots = omega arith; frames = omega arith; handlers = good.handlers; size = good.size };
  }

  pub keep_some : (k p l : ℕ) (f : Frame) → k ≤ frame_limit → (k ≡ 0 → ⊥) → View.frame_of f ≡ View.frame_at w (frames_at + 5 * (k - 1)) → l ≡ min (f.base + f.count) d.slots
      → View.Keeps d k p w (kept k p l d)
  keep_some k p l f h z e m =
      let top : View.rows_of w k ≡ View.frame_of f ∷ View.rows_of w (k - 1) = stack_pop (λ i. View.frame_at w (frames_at + 5 * i)) k z ∙ ap (λ (x : St.Frame). x ∷ View.rows_of w (k - 1)) (sym e) in
      let end : St.end_of (View.frames_of w k p) ≡ f.base + f.count = ap (λ (x : List St.Frame). St.end_of (St.top_at p x)) top in
      record {
        state = λ s. rw end (rw (m, cut_slots w d.slots (f.base + f.count)) refl);
        ready = record { operands = good.operands; slots = omega (arith, good.slots); frames = h; handlers = good.handlers; size = good.size };
      }

  -- the lowest m frames
  lowest_all : (m : ℕ) → d.frames ≤ m → View.frames_of w d.frames d.ip ≡ lowest m (View.frames_of w d.frames d.ip)
  lowest_all m h = let z : d.frames - m ≡ 0 = omega arith in rw (top_length, stack_length, z)

  drop_top : (k p : ℕ) (fs : List St.Frame) → drop (suc k) (St.top_at p fs) ≡ drop (suc k) fs
  drop_top k p [] = refl
  drop_top k p (f ∷ fs) = refl

  ip_own : (m : ℕ) (f : Frame) → (m ≡ 0 → ⊥) → View.frame_of f ≡ View.frame_at w (frames_at + 5 * (m - 1)) → View.frames_of w m f.ip ≡ View.rows_of w m
  ip_own m f z e =
      let top : View.rows_of w m ≡ View.frame_of f ∷ View.rows_of w (m - 1) = stack_pop (λ i. View.frame_at w (frames_at + 5 * i)) m z ∙ ap (λ (x : St.Frame). x ∷ View.rows_of w (m - 1)) (sym e) in
      ap (St.top_at f.ip) top ∙ sym top

  lowest_rows : (m : ℕ) → m < d.frames → lowest m (View.frames_of w d.frames d.ip) ≡ View.rows_of w m
  lowest_rows m h =
      let k = d.frames - m - 1 in
      let a : d.frames - m ≡ suc k = omega arith in
      let b : suc k + m ≡ d.frames = omega arith in
      let c : drop (suc k) (View.rows_of w d.frames) ≡ View.rows_of w m = ap (λ (x : ℕ). drop (suc k) (View.rows_of w x)) (sym b) ∙ stack_cut (λ i. View.frame_at w (frames_at + 5 * i)) (suc k) m in
      rw (top_length, stack_length, a) (drop_top k d.ip (View.rows_of w d.frames) ∙ c)

  pub cut_all : (m : ℕ) (r : Depths) → d.frames ≤ m → View.Keeps d d.frames d.ip w r → View.Cuts d m w r
  cut_all m r h k = record { state = λ s. k.state s ∙ ap (λ (x : List St.Frame). A.keep_frames x (View.on_stacks d w s)) (lowest_all m h); ready = k.ready }

  pub cut_none : (m : ℕ) (r : Depths) → m < d.frames → m ≡ 0 → View.Keeps d 0 0 w r → View.Cuts d m w r
  cut_none m r h z k = record {
    state = λ s. k.state s ∙ ap (λ (x : List St.Frame). A.keep_frames x (View.on_stacks d w s))
        (rw (stack_none (λ i. View.frame_at w (frames_at + 5 * i))) (sym (lowest_rows m h ∙ ap (λ (x : ℕ). View.rows_of w x) z ∙ stack_none (λ i. View.frame_at w (frames_at + 5 * i)))));
    ready = k.ready;
  }

  pub cut_some : (m : ℕ) (f : Frame) (r : Depths) → m < d.frames → (m ≡ 0 → ⊥) → View.frame_of f ≡ View.frame_at w (frames_at + 5 * (m - 1)) → View.Keeps d m f.ip w r → View.Cuts d m w r
  cut_some m f r h z e k = record {
    state = λ s. k.state s ∙ ap (λ (x : List St.Frame). A.keep_frames x (View.on_stacks d w s)) (ip_own m f z e ∙ sym (lowest_rows m h));
    ready = k.ready;
  }

  rest_rows : (n : ℕ) → n ≡ d.frames → A.rest (View.frames_of w d.frames d.ip) ≡ lowest (d.frames - 1) (View.frames_of w d.frames d.ip)
  rest_rows zero e = rw (← e, stack_none (λ i. View.frame_at w (frames_at + 5 * i)))
  rest_rows (suc n) e =
      let z : d.frames ≡ 0 → ⊥ = λ q. omega arith in
      let t : View.rows_of w d.frames ≡ View.frame_at w (frames_at + 5 * (d.frames - 1)) ∷ View.rows_of w (d.frames - 1) = stack_pop (λ i. View.frame_at w (frames_at + 5 * i)) d.frames z in
      ap (λ (x : List St.Frame). A.rest (St.top_at d.ip x)) t ∙ sym (lowest_rows (d.frames - 1) (omega arith))

  rest_length : length (A.rest (View.frames_of w d.frames d.ip)) ≡ d.frames - 1
  rest_length = go (View.frames_of w d.frames d.ip) ∙ ap (λ (n : ℕ). n - 1) (top_length d.ip (View.rows_of w d.frames) ∙ stack_length (λ i. View.frame_at w (frames_at + 5 * i)) d.frames)
    where
      go : (fs : List St.Frame) → length (A.rest fs) ≡ length fs - 1
      go [] = refl
      go (f ∷ fs) = omega arith

  -- the newest frame off: the lowest that are left, with their slots and handlers
  leave_cut : (k : ℕ) → k ≡ d.frames - 1 → (s : St.State)
      → S.set_handlers (A.pending_over k (View.handlers_of w d.handlers)) (A.keep_frames (lowest k (View.frames_of w d.frames d.ip)) (View.on_stacks d w s)) ≡ A.apply A.pop_frame (View.on_stacks d w s)
  leave_cut k e s =
      let t = View.on_stacks d w s in
      ap₂ (λ (fs : List St.Frame) (n : ℕ). S.set_handlers (A.pending_over n t.handlers) (A.keep_frames fs t))
      (ap (λ (x : ℕ). lowest x t.frames) e ∙ sym (rest_rows d.frames refl)) (e ∙ sym rest_length)

  pub left : (k h : ℕ) (r : Depths) → k ≡ d.frames - 1 → View.PendingOver d.handlers k w h → View.Cuts (with_handlers h d) k w r → View.PopsFrame d w r
  left k h r e p c = record {
    state = λ s.
        let t = View.on_stacks d w s in
        c.state s ∙ ap (λ (x : List St.Handler). S.set_handlers x (A.keep_frames (lowest k t.frames) t)) p.state ∙ leave_cut k e s;
    ready = c.ready;
  }

  -- where no handler goes, the frames are all that is cut
  pub left_handlers : (k : ℕ) (r : Depths) → k ≡ d.frames - 1 → View.saved_more k (View.handlers_of w d.handlers) ≡ false → View.Cuts d k w r → View.PopsFrame d w r
  left_handlers k r e n c = record {
    state = λ s.
        let t = View.on_stacks d w s in
        c.state s ∙ ap (λ (x : List St.Handler). S.set_handlers x (A.keep_frames (lowest k t.frames) t)) (sym (all_left k t.handlers n)) ∙ leave_cut k e s;
    ready = c.ready;
  }

  lowest_operands : (m : ℕ) → View.operands_of w (min d.operands m) ≡ lowest m (View.operands_of w d.operands)
  lowest_operands m =
      let k = d.operands - m in
      let b : k + min d.operands m ≡ d.operands = omega arith in
      let c : drop k (View.operands_of w d.operands) ≡ View.operands_of w (min d.operands m) = ap (λ (x : ℕ). drop k (View.operands_of w x)) (sym b) ∙ stack_cut (λ i. value_at w (0 + 3 * i)) k (min d.operands m) in
      rw stack_length (sym c)

  abbrev pub lowered : ℕ → Depths
  lowered m = record { operands = m; slots = d.slots; frames = d.frames; handlers = d.handlers - 1; ip = d.ip }

  pub unwound : (h : Handler) (m : ℕ) (r : Depths) → (d.handlers ≡ 0 → ⊥) → View.handler_of h ≡ View.handler_at w (handlers_at + 3 * (d.handlers - 1)) → m ≡ min d.operands h.operands
      → View.Cuts (lowered m) h.frames w r → View.Unwinds d w r
  unwound h m r z e q k = record {
    state = λ s.
        let t : View.handlers_of w d.handlers ≡ View.handler_of h ∷ View.handlers_of w (d.handlers - 1) = stack_pop (λ i. View.handler_at w (handlers_at + 3 * i)) d.handlers z ∙ ap (λ (x : St.Handler). x ∷ View.handlers_of w (d.handlers - 1)) (sym e) in
        k.state s
        ∙ ap (λ (x : List M.Value). View.under x (take (St.end_of (lowest h.frames (View.frames_of w d.frames d.ip))) (View.slots_of w d.slots)) (lowest h.frames (View.frames_of w d.frames d.ip)) (View.handlers_of w (d.handlers - 1)) s)
        (ap (λ (x : ℕ). View.operands_of w x) q ∙ lowest_operands h.operands)
        ∙ ap (λ (x : List St.Handler). A.unwind_to x (View.on_stacks d w s)) (sym t);
    ready = k.ready;
  }

  -- a slot of the newest frame
  module _ (i : ℕ) where
    pub slot_none : d.frames ≡ 0 → M.undefined ≡ View.slot_of d w i
    slot_none e = rw (e, stack_none (λ i. View.frame_at w (frames_at + 5 * i)))

    module _ (f : Frame) (z : d.frames ≡ 0 → ⊥) (e : View.frame_of f ≡ View.frame_at w (frames_at + 5 * (d.frames - 1))) where
      at_top : View.slot_of d w i ≡ I.slot_in (View.slots_of w d.slots) i (St.set_ip d.ip (View.frame_of f) ∷ View.rows_of w (d.frames - 1))
      at_top = ap (λ (x : List St.Frame). I.slot_in (View.slots_of w d.slots) i (St.top_at d.ip x))
          (stack_pop (λ i. View.frame_at w (frames_at + 5 * i)) d.frames z ∙ ap (λ (x : St.Frame). x ∷ View.rows_of w (d.frames - 1)) (sym e))

      pub slot_past : f.count ≤ i → M.undefined ≡ View.slot_of d w i
      slot_past h = sym (at_top ∙ rw (le-ltb i f.count h))

      pub slot_off : i < f.count → d.slots ≤ f.base + i → M.undefined ≡ View.slot_of d w i
      slot_off h o = sym (at_top ∙ rw (lt-ltb i f.count h) (row_past d.slots (λ i. value_at w (slots_at + 3 * i)) (f.base + i) M.undefined o))

      pub slot_at : (v : M.Value) → i < f.count → f.base + i < d.slots → v ≡ value_at w (slots_at + 3 * (f.base + i)) → v ≡ View.slot_of d w i
      slot_at v h o q = q ∙ sym (at_top ∙ rw (lt-ltb i f.count h) (row_at_lem d.slots (λ i. value_at w (slots_at + 3 * i)) (f.base + i) M.undefined o))
