-- What a write into one of the stacks does to the state. Assumes nothing.
use Rattle.stacks.specs.Layout.{handler_limit, slots_at, frames_at, handlers_at}
use Rattle.machine.specs.State.{operand_limit}
use Rattle.std.specs.Prelude.{ℕ, zero, suc, ◌+◌, ◌-◌, ◌*◌, ◌≤◌, ◌<◌, List, [], ◌∷◌, ◌≡◌, refl, drop, Some, None, Result, Ok, Err}
use Rattle.std.proofs.Common.{arith, sym, ap, ◌∙◌, length-set, lt-ltb, le-ltb, le-leb}
use Rattle.std.proofs.Math.Option.{none}
use Rattle.std.proofs.Math.ListN.{length}
use Rattle.std.proofs.lemmas.Bool.{lt-leb}
use Rattle.machine.specs.Value as M
use Rattle.machine.specs.State as St
use Rattle.machine.specs.Act as A
use Rattle.machine.specs.Fields as Fi
use Rattle.machine.specs.Instruction as I
use Rattle.machine.specs.Out.{out, out_make, out_error, out_refused, Asked}
use Rattle.machine.specs.Error.{stack_overflow, no_call_frame}
use Rattle.value.specs.declared.Value.{Value}
use Rattle.value.specs.declared.JsVmError.TheVariants.{StackOverflow, NoCallFrame}
use Rattle.value.specs.Words.{value_of, value_at, set_value, value_reads, length_set_value, Holds, holds_set}
use Rattle.value.specs.Arena.{Same, Apart, apart_below, apart_above, stack_kept, rows_kept, set3, set3_apart, set3_first, set3_second, set3_third}
use Rattle.value.specs.Lists.{stack_none, stack_suc, stack_push, stack_pop, stack_length, stack_drop}
use Rattle.stacks.specs.declared.Depths.{Depths}
use Rattle.value.specs.declared.Space.TheVariants.{Handlers}
use Rattle.stacks.specs.View
use Rattle.value.specs.declared.Stop.{Stop}
use Rattle.value.specs.declared.Stop.TheVariants.{Failed, Refused}

-- a row is read from its own words
pub frame_reads : (w w' : List ℕ) (k : ℕ) → Same w w' k (k + 5) → View.frame_at w' k ≡ View.frame_at w k
unfolding View.frame_at
frame_reads w w' k a = rw (a k (omega arith) (omega arith), a (k + 1) (omega arith) (omega arith), a (k + 2) (omega arith) (omega arith), a (k + 3) (omega arith) (omega arith), a (k + 4) (omega arith) (omega arith))

handler_reads : (w w' : List ℕ) (k : ℕ) → Same w w' k (k + 3) → View.handler_at w' k ≡ View.handler_at w k
unfolding View.handler_at
handler_reads w w' k a = rw (a k (omega arith) (omega arith), a (k + 1) (omega arith) (omega arith), a (k + 2) (omega arith) (omega arith))

pub top_length : (p : ℕ) (fs : List St.Frame) → length (St.top_at p fs) ≡ length fs
top_length p [] = refl
top_length p (f ∷ fs) = refl

-- what stands in each stack is as it was, where its words are
module _ (w w' : List ℕ) (n : ℕ) where
  pub operands_kept : Same w w' 0 (0 + 3 * n) → View.operands_of w' n ≡ View.operands_of w n
  operands_kept = stack_kept value_at 0 3 value_reads w w' n

  pub slots_kept : Same w w' slots_at (slots_at + 3 * n) → View.slots_of w' n ≡ View.slots_of w n
  slots_kept = rows_kept value_at slots_at 3 value_reads w w' n

  pub frames_kept : Same w w' frames_at (frames_at + 5 * n) → View.rows_of w' n ≡ View.rows_of w n
  frames_kept = stack_kept View.frame_at frames_at 5 frame_reads w w' n

  pub handlers_kept : Same w w' handlers_at (handlers_at + 3 * n) → View.handlers_of w' n ≡ View.handlers_of w n
  handlers_kept = stack_kept View.handler_at handlers_at 3 handler_reads w w' n

abbrev pub with_operands : ℕ → Depths → Depths
with_operands n d = record { operands = n; slots = d.slots; frames = d.frames; handlers = d.handlers; ip = d.ip }

abbrev pub with_handlers : ℕ → Depths → Depths
with_handlers n d = record { operands = d.operands; slots = d.slots; frames = d.frames; handlers = n; ip = d.ip }

-- Operands

-- one operand more, if there is room for it
abbrev pub Grows : Depths → Result Depths Stop → Type 0
Grows d (Ok e) = (d.operands < operand_limit) × (e ≡ with_operands (d.operands + 1) d)
Grows d (Err s) = (operand_limit ≤ d.operands) × (s ≡ Failed StackOverflow)

module _ (d : Depths) (w : List ℕ) (good : View.Ready d w) where
  pushed : (v : M.Value) (w' : List ℕ) (s : St.State) → d.operands < operand_limit → Holds w w' (3 * d.operands) v
      → View.on_stacks (with_operands (d.operands + 1) d) w' s ≡ A.apply (A.push v) (View.on_stacks d w s)
  pushed v w' s h e =
      let n = d.operands in
      let a : Apart w w' (3 * n) (3 * n + 3) = e.apart in
      let o : View.operands_of w' n ≡ View.operands_of w n = operands_kept w w' n (apart_below a 0 (0 + 3 * n) (omega arith)) in
      let l : View.slots_of w' d.slots ≡ View.slots_of w d.slots = slots_kept w w' d.slots (apart_above a slots_at (slots_at + 3 * d.slots) (omega (arith, good.operands))) in
      let f : View.rows_of w' d.frames ≡ View.rows_of w d.frames = frames_kept w w' d.frames (apart_above a frames_at (frames_at + 5 * d.frames) (omega (arith, good.operands))) in
      let g : View.handlers_of w' d.handlers ≡ View.handlers_of w d.handlers = handlers_kept w w' d.handlers (apart_above a handlers_at (handlers_at + 3 * d.handlers) (omega (arith, good.operands))) in
      let z : 0 + 3 * n ≡ 3 * n = omega arith in
      let t : value_at w' (0 + 3 * n) ≡ v = ap (value_at w') z ∙ e.value in
      rw (stack_push (λ i. value_at w' (0 + 3 * i)) n, t, o, l, f, g)

  -- the contract of push, each way: v stands on top now
  pub push_holds : (v : M.Value) (w' : List ℕ) → d.operands < operand_limit → Holds w w' (3 * d.operands) v → length w' ≡ length w
      → View.Makes (A.push v) d w (Ok (with_operands (d.operands + 1) d)) w'
  push_holds v w' h e l = record {
    goes = λ s p. out_make (View.on_stacks d w s) (A.push v) p (rw (stack_length, lt-ltb d.operands operand_limit h)) Asked.all
        ∙ ap (out p) (sym (pushed v w' s h e));
    ready = record { operands = omega arith; slots = good.slots; frames = good.frames; handlers = good.handlers; size = l ∙ good.size };
  }

  pub push_went : (v : Value) (w' : List ℕ) → d.operands < operand_limit → w' ≡ set_value w (3 * d.operands) v
      → View.Makes (A.push (value_of v)) d w (Ok (with_operands (d.operands + 1) d)) w'
  push_went v w' h e =
      let q : 3 * d.operands + 2 < length w = omega (arith, good.size) in
      push_holds (value_of v) w' h (rw e (holds_set w (3 * d.operands) v q)) (rw e (length_set_value w (3 * d.operands) v))

  pub push_full : (v : M.Value) → operand_limit ≤ d.operands → View.Makes (A.push v) d w (Err (Failed StackOverflow)) w
  push_full v h = record {
    goes = λ s p. out_error (View.on_stacks d w s) (A.push v) p stack_overflow (rw (stack_length, le-ltb d.operands operand_limit h));
    ready = refl;
  }

  -- the contract of pop
  pub pop_state : (v : M.Value) → (d.operands ≡ 0 → ⊥) → v ≡ value_at w (3 * (d.operands - 1)) → (s : St.State) → View.on_stacks d w s ≡ A.apply (A.push v) (View.on_stacks (with_operands (d.operands - 1) d) w s)
  pop_state v h e s =
      let n = d.operands in
      let z : 0 + 3 * (n - 1) ≡ 3 * (n - 1) = omega arith in
      let t : View.operands_of w n ≡ v ∷ View.operands_of w (n - 1) = stack_pop (λ i. value_at w (0 + 3 * i)) n h ∙ ap (λ (x : M.Value). x ∷ View.operands_of w (n - 1)) (ap (value_at w) z ∙ sym e) in
      ap (λ (x : List M.Value). View.under x (View.slots_of w d.slots) (View.frames_of w d.frames d.ip) (View.handlers_of w d.handlers) s) t

  pub pop_ready : View.Ready (with_operands (d.operands - 1) d) w
  pop_ready = record { operands = omega (arith, good.operands); slots = good.slots; frames = good.frames; handlers = good.handlers; size = good.size }

  pub pop_took : (v : Value) → (d.operands ≡ 0 → ⊥) → value_of v ≡ value_at w (3 * (d.operands - 1)) → View.Pops d w (Some (v, (with_operands (d.operands - 1) d)))
  pop_took v h e = record { state = pop_state (value_of v) h e; ready = pop_ready }

  pub pop_none : d.operands ≡ 0 → View.Pops d w None
  pop_none e = record { state = rw e (stack_none (λ i. value_at w (0 + 3 * i))); ready = tt }

  pub top_some : (v : Value) → (d.operands ≡ 0 → ⊥) → value_of v ≡ value_at w (3 * (d.operands - 1)) → value_of v ≡ View.top_of d w
  top_some v h e =
      let n = d.operands in
      let z : 0 + 3 * (n - 1) ≡ 3 * (n - 1) = omega arith in
      e ∙ ap (value_at w) (sym z) ∙ sym (ap I.top (stack_pop (λ i. value_at w (0 + 3 * i)) n h))

  pub top_none : d.operands ≡ 0 → M.undefined ≡ View.top_of d w
  top_none e = let z : View.operands_of w d.operands ≡ [] = rw e (stack_none (λ i. value_at w (0 + 3 * i))) in sym (ap I.top z)

  -- Handlers
  abbrev handled : ℕ → List ℕ
  handled catch = set3 w (handlers_at + 3 * d.handlers) catch d.operands d.frames

  abbrev new_handler : ℕ → St.Handler
  new_handler catch = record { catch = catch; operands = d.operands; frames = d.frames }

  handler_new : (catch : ℕ) → d.handlers < handler_limit → View.handler_at (handled catch) (handlers_at + 3 * d.handlers) ≡ new_handler catch
  unfolding View.handler_at
  handler_new catch h =
      let k = handlers_at + 3 * d.handlers in
      let l : k + 2 < length w = omega (arith, good.size) in
      rw (set3_first w k catch d.operands d.frames l, set3_second w k catch d.operands d.frames l, set3_third w k catch d.operands d.frames l)

  with_handler : (catch : ℕ) (s : St.State) → d.handlers < handler_limit
      → View.on_stacks (with_handlers (d.handlers + 1) d) (handled catch) s ≡ A.apply (A.push_handler catch) (View.on_stacks d w s)
  with_handler catch s h =
      let n = d.handlers in
      let w' = handled catch in
      let a : Apart w w' (handlers_at + 3 * n) (handlers_at + 3 * n + 3) = set3_apart w (handlers_at + 3 * n) catch d.operands d.frames in
      let o : View.operands_of w' d.operands ≡ View.operands_of w d.operands = operands_kept w w' d.operands (apart_below a 0 (0 + 3 * d.operands) (omega (arith, good.operands))) in
      let l : View.slots_of w' d.slots ≡ View.slots_of w d.slots = slots_kept w w' d.slots (apart_below a slots_at (slots_at + 3 * d.slots) (omega (arith, good.slots))) in
      let f : View.rows_of w' d.frames ≡ View.rows_of w d.frames = frames_kept w w' d.frames (apart_below a frames_at (frames_at + 5 * d.frames) (omega (arith, good.frames))) in
      let g : View.handlers_of w' n ≡ View.handlers_of w n = handlers_kept w w' n (apart_below a handlers_at (handlers_at + 3 * n) (omega arith)) in
      rw (stack_push (λ i. View.handler_at w' (handlers_at + 3 * i)) n, handler_new catch h, o, l, f, g, stack_length, top_length, stack_length)

  none_left : (d.frames ≡ 0 → ⊥) → (p : ℕ) → A.or_else no_call_frame (View.frames_of w d.frames p) ≡ none
  none_left h p = rw (stack_pop (λ i. View.frame_at w (frames_at + 5 * i)) d.frames h)

  pub handler_none : (catch : ℕ) → d.frames ≡ 0 → View.Makes (A.push_handler catch) d w (Err (Failed NoCallFrame)) w
  handler_none catch h = record {
    goes = λ s p. out_error (View.on_stacks d w s) (A.push_handler catch) p no_call_frame (rw (h, stack_none (λ i. View.frame_at w (frames_at + 5 * i))));
    ready = refl;
  }

  pub handler_full : (catch : ℕ) → (d.frames ≡ 0 → ⊥) → handler_limit ≤ d.handlers → View.Makes (A.push_handler catch) d w (Err (Refused Handlers)) w
  handler_full catch f h = record {
    goes = λ s p. out_refused (View.on_stacks d w s) (A.push_handler catch) p St.handler_store (none_left f d.ip) (Asked.no (rw (stack_length, lt-leb (d.handlers + 1) handler_limit (omega arith))));
    ready = refl;
  }

  pub handler_went : (catch : ℕ) (w' : List ℕ) → (d.frames ≡ 0 → ⊥) → d.handlers < handler_limit → w' ≡ handled catch
      → View.Makes (A.push_handler catch) d w (Ok (with_handlers (d.handlers + 1) d)) w'
  handler_went catch w' f h e = record {
    goes = λ s p. out_make (View.on_stacks d w s) (A.push_handler catch) p (none_left f d.ip) (Asked.yes (rw (stack_length, le-leb (d.handlers + 1) handler_limit (omega arith))) Asked.all)
        ∙ ap (out p) (sym (ap (λ (x : List ℕ). View.on_stacks (with_handlers (d.handlers + 1) d) x s) e ∙ with_handler catch s h));
    ready = record { operands = good.operands; slots = good.slots; frames = good.frames; handlers = omega arith; size = rw e (simp length-set good.size) };
  }

rest_handlers : (w : List ℕ) (n : ℕ) → View.handlers_of w (n - 1) ≡ A.rest (View.handlers_of w n)
rest_handlers w zero = rw (stack_none (λ i. View.handler_at w (handlers_at + 3 * i)))
rest_handlers w (suc n) =
    let e : suc n - 1 ≡ n = omega arith in
    rw (stack_suc (λ i. View.handler_at w (handlers_at + 3 * i)) n) (ap (View.handlers_of w) e)

pub handler_off : (d : Depths) (n : ℕ) → n ≡ d.handlers - 1 → View.PopsHandler d (with_handlers n d)
handler_off d n e = record {
  state = λ w s. ap (λ (x : List St.Handler). Fi.set_handlers x (View.on_stacks d w s)) (ap (View.handlers_of w) e ∙ rest_handlers w d.handlers);
  ready = λ w r. record { operands = r.operands; slots = r.slots; frames = r.frames; handlers = omega (arith, r.handlers); size = r.size };
}

pub one_handler : (d : Depths) → (d.handlers ≡ 0 → ⊥) → View.PopsHandler d (with_handlers (d.handlers - 1) d)
one_handler d h = handler_off d (d.handlers - 1) refl

abbrev pub with_ip : ℕ → Depths → Depths
with_ip p d = record { operands = d.operands; slots = d.slots; frames = d.frames; handlers = d.handlers; ip = p }

top_top : (p q : ℕ) (fs : List St.Frame) → St.top_at p fs ≡ St.top_at p (St.top_at q fs)
top_top p q [] = refl
top_top p q (f ∷ fs) = refl

-- a jump changes the depths alone
pub jumped : (d : Depths) (w : List ℕ) (p : ℕ) (s : St.State) → View.on_stacks (with_ip p d) w s ≡ A.apply (A.jump p) (View.on_stacks d w s)
jumped d w p s = ap (λ (x : List St.Frame). Fi.set_frames x (View.on_stacks d w s)) (top_top p d.ip (View.rows_of w d.frames))

pub ready_ip : {d : Depths} {w : List ℕ} (p : ℕ) → View.Ready d w → View.Ready (with_ip p d) w
ready_ip p r = record { operands = r.operands; slots = r.slots; frames = r.frames; handlers = r.handlers; size = r.size }

pub truncated : (d : Depths) (n m : ℕ) → m ≡ d.operands - n → View.Truncates d n (with_operands m d)
truncated d n m e = record {
  state = λ w s. let z : View.operands_of w m ≡ drop n (View.operands_of w d.operands) = ap (View.operands_of w) e ∙ sym (stack_drop (λ i. value_at w (0 + 3 * i)) d.operands n) in rw z;
  ready = λ w r. record { operands = omega (arith, r.operands); slots = r.slots; frames = r.frames; handlers = r.handlers; size = r.size };
}
