-- What a quick instruction ensures, and how it is followed through the machine's program. Assumes nothing.
use Rattle.std.specs.Prelude.{ℕ, ◌+◌, ◌-◌, ◌*◌, ◌≤◌, ◌<◌, min, false, List, ◌∷◌, ◌≡◌, refl, length, get_or, Option, Some, None, Result, Ok, Err}
use Rattle.std.specs.Result.{result_ok}
use Rattle.std.proofs.Common.{arith, sym, ap, subst, ◌∙◌}
use Rattle.machine.specs.Value as M
use Rattle.machine.specs.State as St
use Rattle.machine.specs.State.{operand_limit}
use Rattle.machine.specs.Act as A
use Rattle.machine.specs.Program.{Program, next, look, make}
use Rattle.machine.specs.Instruction as I
use Rattle.machine.specs.Run as R
use Rattle.machine.specs.Out.{went, out, out_pop, out_pop_frame, out_unwind}
use Rattle.value.specs.Lists.{row_at_lem, stack_length, stack_pop}
use Rattle.value.specs.Words.{value_at, Holds}
use Rattle.stacks.specs.Layout.{frames_at, handlers_at, handler_limit}
use Rattle.value.specs.Arena.{set3, set3_apart}
use Rattle.stacks.specs.Laws.{with_ip, with_operands, pop_state, pop_ready, push_holds, ready_ip, handler_went}
use Rattle.stacks.specs.Cuts.{unwound, cut_all, keep_some, left_handlers}
use Rattle.stacks.specs.Places.{spot_within, spot_store}
use Rattle.stacks.specs.declared.Handler.{Handler}
use Rattle.stacks.specs.View
use Rattle.stacks.specs.declared.Depths.{Depths}
use Rattle.outcome.specs.Meets.{Meets, Any, stepped, settles, weaken, any, onward, after_look, after_gives, goes_on, jumps}
use Rattle.stackops.specs.Control.{after_made}
use Rattle.outcome.specs.declared.Part.TheVariants.{Went as Part-as-Went}
use Rattle.outcome.specs.declared.Stepped.{Stepped}
use Rattle.fetch.specs.declared.Running.{Running}
use Rattle.fetch.specs.Running.{Runs, Coded, Fetches, FetchesWord, byte_in, reads_there, word_got, after_fetch}
use Rattle.dispatch.specs.Dispatch.{body_go}
use Rattle.quick.specs.declared.Here.{Here}
use Rattle.quick.specs.Stays.{Stays, InFrame, stays_went, kept_within, within, below_frames, above_frames, frame_kept, frame_spot, frame_row, frame_row_is}
use Rattle.value.specs.declared.Stop.{Stop}
use Rattle.value.specs.declared.Stop.TheVariants.{Failed, Refused}

-- the template's code is among the n bytes that are loaded
pub record Inside (x : Running) (n : ℕ) (code : List ℕ) : Type 0 where
  pub loaded : x.shape.at + x.shape.size ≤ n
  pub stored : n ≤ length code

-- THE CONTRACT of a quick instruction: it went, as the machine's program p does in every state of which H holds; or it is left, and the words are as they were.
abbrev pub Told : (St.State → Type 0) → Program → Depths → List ℕ → Option Depths → List ℕ → Type 0
Told H p d w (Some e) w' = Meets H p d w (stepped e Part-as-Went) w' × View.Ready e w'
Told H p d w None w' = w' ≡ w

pub record Quickly (H : St.State → Type 0) (p : Program) (d : Depths) (w : List ℕ) (q : Option Depths) (w' : List ℕ) : Type 0 where
  pub told : Told H p d w q w'

-- and of a step: the program is the one for the state that stands
abbrev pub StepTold : (St.State → Type 0) → Depths → List ℕ → Option Depths → List ℕ → Type 0
StepTold H d w (Some e) w' = ((s : St.State) → H s → out (R.body (R.kind_of (View.on_stacks d w s))) (View.on_stacks d w s) ≡ went (View.on_stacks e w' s)) × View.Ready e w'
StepTold H d w None w' = w' ≡ w

pub record QuickStep (H : St.State → Type 0) (d : Depths) (w : List ℕ) (q : Option Depths) (w' : List ℕ) : Type 0 where
  pub told : StepTold H d w q w'

-- nothing is done
pub leaves : {H : St.State → Type 0} {p : Program} {d : Depths} {w : List ℕ} → Quickly H p d w None w
leaves = record { told = refl }

-- an act on the stacks is the last thing that is done, or stops the instruction
abbrev pub quick_of : Result Depths Stop → (Option Depths)
quick_of (Ok e) = Some e
quick_of (Err (Failed e)) = None
quick_of (Err (Refused q)) = None

pub ok_is : (r : Result Depths Stop) {e : Depths} → result_ok r ≡ Some e → r ≡ Ok e
ok_is (Ok e) h = cc
ok_is (Err e) h = cc

made_told : (H : St.State → Type 0) {a : A.Act} {d : Depths} {w w' : List ℕ} (r : Result Depths Stop) → View.Makes a d w r w' → Told H (make a next) d w (quick_of r) w'
made_told H (Ok e) m = (settles m refl, m.ready)
made_told H (Err (Failed e)) m = m.ready
made_told H (Err (Refused q)) m = m.ready

pub by_made : {H : St.State → Type 0} {a : A.Act} {d : Depths} {w w' : List ℕ} {r : Result Depths Stop} {q : Option Depths} → View.Makes a d w r w' → q ≡ quick_of r → Quickly H (make a next) d w q w'
by_made {H} {a} {d} {w} {w'} {r} {q} m e = subst (λ (y : Option Depths). Quickly H (make a next) d w y w') (sym e) (record { told = made_told H r m })

pub goes : {H : St.State → Type 0} {p : Program} {d e : Depths} {w w' : List ℕ} → Meets H p d w (stepped e Part-as-Went) w' → View.Ready e w' → Quickly H p d w (Some e) w'
goes m r = record { told = (m, r) }

-- whatever is known of an instruction that goes on as another one
carry_told : (H K : St.State → Type 0) (p p' : Program) (d e : Depths) (w w' : List ℕ) (q : Option Depths) → ((y : Stepped) → Meets K p' e w y w' → Meets H p d w y w') → Told K p' e w q w' → Told H p d w q w'
carry_told H K p p' d e w w' (Some c) f t = (f (stepped c Part-as-Went) t.0, t.1)
carry_told H K p p' d e w w' None f t = t

pub carry : {H K : St.State → Type 0} {p p' : Program} {d e : Depths} {w w' : List ℕ} {q : Option Depths} → ((y : Stepped) → Meets K p' e w y w' → Meets H p d w y w') → Quickly K p' e w q w' → Quickly H p d w q w'
carry {H} {K} {p} {p'} {d} {e} {w} {w'} {q} f t = record { told = carry_told H K p p' d e w w' q f t.told }

pub anywhere : {H : St.State → Type 0} {p : Program} {d : Depths} {w w' : List ℕ} {q : Option Depths} → Quickly Any p d w q w' → Quickly H p d w q w'
anywhere t = carry (λ y m. any m) t

pub quick_weaken : {H K : St.State → Type 0} {p : Program} {d : Depths} {w w' : List ℕ} {q : Option Depths} → ((s : St.State) → K s → H s) → Quickly H p d w q w' → Quickly K p d w q w'
quick_weaken f t = carry (λ y m. weaken f m) t

-- The operand of an instruction
abbrev pub Operand : Running → ℕ → List ℕ → Depths → ℕ → Type 0
Operand x n code d i = FetchesWord x n code d (Some (i, (with_ip (d.ip + 2) d)))

module _ (x : Running) (n : ℕ) (code : List ℕ) (d : Depths) (i : Inside x n code) where
  byte_is : (k : ℕ) → k < x.shape.at + x.shape.size → get_or code k 0 ≡ byte_in code n k
  byte_is k h = sym (row_at_lem n (λ j. get_or code j 0) k 0 (omega (arith, i.loaded)))

  pub first : (b : ℕ) → d.ip < x.shape.size → b ≡ get_or code (x.shape.at + d.ip) 0 → b < 256 → Fetches x n code d (Some (b, (with_ip (d.ip + 1) d)))
  first b l e h = reads_there x n code d b (with_ip (d.ip + 1) d) l (e ∙ byte_is (x.shape.at + d.ip) (omega (arith, l))) h refl

-- all of it is there
pub operand_is : (x : Running) (n : ℕ) (code : List ℕ) (d : Depths) → Inside x n code → (hi lo : ℕ) → d.ip + 1 < x.shape.size → hi ≡ get_or code (x.shape.at + d.ip) 0 → hi < 256
    → lo ≡ get_or code (x.shape.at + d.ip + 1) 0 → lo < 256 → Operand x n code d (hi * 256 + lo)
operand_is x n code d i hi lo l e h f k =
    let z : x.shape.at + d.ip + 1 ≡ x.shape.at + (d.ip + 1) = omega arith in
    let y : d.ip + 2 ≡ d.ip + 1 + 1 = omega arith in
    word_got x n code d (first x n code d i hi (omega arith) e h) refl
    (reads_there x n code (with_ip (d.ip + 1) d) lo (with_ip (d.ip + 2) d) l (f ∙ ap (λ (k : ℕ). get_or code k 0) z ∙ byte_is x n code (with_ip (d.ip + 1) d) i (x.shape.at + (d.ip + 1)) (omega arith)) k
    (ap (λ (k : ℕ). with_ip k d) y)) refl

-- two bytes of code
pub record Word (code : List ℕ) (at r : ℕ) : Type 0 where
  pub worth : r ≡ get_or code at 0 * 256 + get_or code (at + 1) 0
  pub high : get_or code at 0 < 256
  pub low : get_or code (at + 1) 0 < 256

pub operand_at : (x : Running) (n : ℕ) (code : List ℕ) (d : Depths) → Inside x n code → d.ip + 2 < x.shape.size → {r : ℕ} {e : Depths} → Word code (x.shape.at + d.ip + 1) r → e ≡ with_ip (d.ip + 1) d
    → Operand x n code e r
operand_at x n code d i l {r} k z =
    let y : x.shape.at + d.ip + 1 ≡ x.shape.at + (d.ip + 1) = omega arith in
    let k' : Word code (x.shape.at + (d.ip + 1)) r = subst (λ (a : ℕ). Word code a r) y k in
    rw (z, k'.worth) (operand_is x n code (with_ip (d.ip + 1) d) i (get_or code (x.shape.at + (d.ip + 1)) 0) (get_or code (x.shape.at + (d.ip + 1) + 1) 0) (omega arith) refl k'.high refl k'.low)

-- A value that is popped, whatever it is
abbrev pub newest : Depths → List ℕ → M.Value
newest d w = value_at w (3 * (d.operands - 1))

module _ {d : Depths} {w : List ℕ} (good : View.Ready d w) (h : d.operands ≡ 0 → ⊥) where
  pub after_any : {H : St.State → Type 0} (k : M.Value → Program) {w' : List ℕ} {y : Stepped} → Meets H (k (newest d w)) (with_operands (d.operands - 1) d) w y w' → Meets H (I.pop k) d w y w'
  after_any k m = onward
      (λ s z. ap (out (I.pop k)) (pop_state d w good (newest d w) h refl s)
      ∙ out_pop (A.apply (A.push (newest d w)) (View.on_stacks (with_operands (d.operands - 1) d) w s)) k (newest d w) (View.on_stacks (with_operands (d.operands - 1) d) w s).operands refl) refl m

-- the same depths, written otherwise
pub start_as : {H : St.State → Type 0} {p : Program} {d d' : Depths} {w w' : List ℕ} {q : Option Depths} → d ≡ d' → Quickly H p d w q w' → Quickly H p d' w q w'
start_as {H} {p} {w = w} {w' = w'} {q = q} e t = subst (λ (y : Depths). Quickly H p y w q w') e t

pub went_as : {H : St.State → Type 0} {p : Program} {d e e' : Depths} {w w' : List ℕ} → e ≡ e' → Quickly H p d w (Some e') w' → Quickly H p d w (Some e) w'
went_as {H} {p} {d} {w = w} {w' = w'} e t = subst (λ (y : Depths). Quickly H p d w (Some y) w') (sym e) t

-- v stands on top now
pub pushes : {d e : Depths} {w w' : List ℕ} {v : M.Value} → View.Ready d w → d.operands < operand_limit → Holds w w' (3 * d.operands) v → length w' ≡ length w → e ≡ with_operands (d.operands + 1) d
    → Quickly Any (I.pushed v) d w (Some e) w' × Stays d w (Some e) w'
pushes {d} {e} {w} {w'} {v} good l h k z =
    let m = push_holds d w good v w' l h k in
    (went_as z (goes (settles m refl) m.ready), stays_went (kept_within z (below_frames h.apart (omega (arith, l)))))

pub ip_ready : {c e : Depths} {p : ℕ} {w : List ℕ} → c ≡ with_ip p e → View.Ready e w → View.Ready c w
ip_ready {p = p} {w = w} e r = subst (λ (y : Depths). View.Ready y w) (sym e) (ready_ip p r)

pub dropped_ready : {d f : Depths} {w : List ℕ} → f ≡ with_operands (d.operands - 1) d → View.Ready d w → View.Ready f w
dropped_ready {d} {w = w} e r = subst (λ (y : Depths). View.Ready y w) (sym e) (pop_ready d w r)

module _ {d : Depths} {w : List ℕ} (good : View.Ready d w) (h : d.operands ≡ 0 → ⊥) where
  pub drops : {H : St.State → Type 0} → Quickly H I.Pop d w (Some (with_operands (d.operands - 1) d)) w
  drops = goes (after_any good h (λ v. next) (goes_on refl)) (pop_ready d w good)

  pub after_top : {H : St.State → Type 0} {q : Option Depths} {w' : List ℕ} → Quickly H (I.pushed (newest d w)) d w q w' → Quickly H I.Dup d w q w'
  after_top t = carry (λ y m. after_look (λ s z. ap (λ (u : St.State). I.pushed (I.top u.operands)) (pop_state d w good (newest d w) h refl s)) m) t

  -- Return: the value stays where it stands
  returns_value : {H : St.State → Type 0} {b e f : Depths} → b ≡ with_operands (d.operands - 1) d → View.PopsFrame b w e → f ≡ with_operands d.operands e → Quickly H I.Return d w (Some f) w
  returns_value {b = b} {e = e} x k i =
      let n : e.operands ≡ d.operands - 1 = same_operands k ∙ ap (λ (y : Depths). y.operands) x in
      let k' : View.PopsFrame (with_operands (d.operands - 1) d) w e = subst (λ (y : Depths). View.PopsFrame y w e) x k in
      let l : e.operands < operand_limit = omega (arith, n, good.operands, h) in
      let j : d.operands ≡ e.operands + 1 = omega (arith, n, h) in
      let o : Holds w w (3 * e.operands) (newest d w) = record { value = ap (λ (y : ℕ). value_at w (3 * y)) n; apart = record { at = λ q z. refl } } in
      let m = push_holds e w k.ready (newest d w) w l o refl in
      went_as (i ∙ ap (λ (y : ℕ). with_operands y e) j)
      (goes (after_any good h (λ v. make A.pop_frame (I.pushed v)) (after_gives out_pop_frame k' (settles m refl))) m.ready)
    where
      same_operands : View.PopsFrame b w e → e.operands ≡ b.operands
      same_operands g =
          sym (stack_length (λ i. value_at w (0 + 3 * i)) e.operands) ∙ ap (λ (y : St.State). length y.operands) (g.state St.fresh) ∙ stack_length (λ i. value_at w (0 + 3 * i)) b.operands

  -- the same, where the newest handler saved no more frames than are left
  pub returns_only : {H : St.State → Type 0} {b e f : Depths} {k : ℕ} → b ≡ with_operands (d.operands - 1) d → k ≡ d.frames - 1 → View.saved_more k (View.handlers_of w d.handlers) ≡ false
      → View.Cuts b k w e → f ≡ with_operands d.operands e → Quickly H I.Return d w (Some f) w
  returns_only {b = b} {e = e} {k = k} x q n c i =
      returns_value x
      (left_handlers b w (dropped_ready x good) k e (q ∙ sym (ap (λ (y : Depths). y.frames - 1) x)) (ap (λ (y : Depths). View.saved_more k (View.handlers_of w y.handlers)) x ∙ n) c) i

  -- Throw, with a handler
  module _ {b u : Depths} (k : Handler) (x : b ≡ with_operands (d.operands - 1) d) (z : d.handlers ≡ 0 → ⊥)
      (i : View.handler_of k ≡ View.handler_at w (handlers_at + 3 * (d.handlers - 1))) (un : View.Unwinds b w u) where
    handlers_are : View.handlers_of w d.handlers ≡ View.handler_of k ∷ View.handlers_of w (d.handlers - 1)
    handlers_are = stack_pop (λ i. View.handler_at w (handlers_at + 3 * i)) d.handlers z ∙ ap (λ (y : St.Handler). y ∷ View.handlers_of w (d.handlers - 1)) (sym i)

    pub throws : {H : St.State → Type 0} {r : Result Depths Stop} {f c : Depths} {w' : List ℕ} → View.Makes (A.push (newest d w)) u w r w' → r ≡ Ok f → c ≡ with_ip k.catch f → Quickly H I.Throw d w (Some c) w'
    throws {f = f} {w' = w'} m g e =
        let un' : View.Unwinds (with_operands (d.operands - 1) d) w u = subst (λ (y : Depths). View.Unwinds y w u) x un in
        goes (after_any good h (λ v. look λ s. I.throw v s.handlers) (after_look (λ s q. ap (I.throw (newest d w)) handlers_are)
        (after_gives out_unwind un' (after_made m g refl (jumps e refl))))) (ip_ready e (rw g at m.ready))

-- A throw that is caught in the frame that throws: no frame is taken off
module _ {x : Running} {y : Here} {d : Depths} {w : List ℕ} (good : View.Ready d w) (fr : InFrame x y d w) where
  module _ (k : Handler) (c : d.operands ≡ 0 → ⊥) (z : d.handlers ≡ 0 → ⊥) (i : View.handler_of k ≡ View.handler_at w (handlers_at + 3 * (d.handlers - 1))) (same : k.frames ≡ d.frames) {m : ℕ}
      (e : m ≡ min (d.operands - 1) k.operands) where
    abbrev popped : Depths
    popped = with_operands (d.operands - 1) d

    popped_ready : View.Ready popped w
    popped_ready = pop_ready d w good

    abbrev cut : Depths
    cut = record { operands = m; slots = d.slots; frames = d.frames; handlers = d.handlers - 1; ip = d.ip }

    cut_ready : View.Ready cut w
    cut_ready = record { operands = omega (arith, e, good.operands); slots = good.slots; frames = good.frames; handlers = omega (arith, good.handlers); size = good.size }

    unwinds : View.Unwinds popped w cut
    unwinds = unwound popped w popped_ready k m cut z i e
        (cut_all cut w cut_ready k.frames cut (omega (arith, same))
        (keep_some cut w cut_ready d.frames d.ip d.slots (frame_row fr good) good.frames fr.runs.stands (frame_row_is fr good) (omega (arith, fr.full, fr.count))))

    pub throws_here : {w' : List ℕ} {f : Depths} → Holds w w' (3 * m) (newest d w) → length w' ≡ length w → f ≡ within (m + 1) (d.handlers - 1) k.catch d
        → Quickly Any I.Throw d w (Some f) w' × Stays d w (Some f) w'
    throws_here {w'} h l g =
        let p = push_holds cut w cut_ready (newest d w) w' (let q = c in omega (arith, e, good.operands, q)) h l in
        (throws good c k refl z i unwinds p refl g, stays_went (kept_within g (below_frames h.apart (omega (arith, e, good.operands)))))

  -- a slot that the frame has
  pub stores_local : {n : ℕ} {code : List ℕ} {i : ℕ} {w' : List ℕ} {e f : Depths} → Operand x n code d i → (d.operands ≡ 0 → ⊥) → i < y.count → Holds w w' (y.slots + 3 * i) (newest d w) → length w' ≡ length w
      → e ≡ with_ip (d.ip + 2) d → f ≡ with_operands (d.operands - 1) e → Quickly (Coded x n code) I.StoreLocal d w (Some f) w' × Stays d w (Some f) w'
  stores_local {n} {code} {i} {w'} o c l h k a b =
      let u : Depths = with_operands (d.operands - 1) (with_ip (d.ip + 2) d) in
      let r : View.Ready (with_ip (d.ip + 2) d) w = ready_ip (d.ip + 2) good in
      let ru : View.Ready u w = pop_ready (with_ip (d.ip + 2) d) w r in
      let z = b ∙ ap (with_operands (d.operands - 1)) a in
      let spot = frame_spot (frame_kept fr good (kept_within {n = d.operands - 1} {h = d.handlers} {p = d.ip + 2} {e = u} {w' = w} refl (λ j p q. refl))) ru i l in
      let m = spot_store ru spot (newest d w) w' h k in (
        went_as z (carry (λ y m. after_fetch o (λ i. I.pop λ v. make (A.store i v) next) (λ s h. h) fr.runs refl (after_any r c (λ v. make (A.store i v) next) m)) (by_made m refl)),
        stays_went (kept_within z (below_frames h.apart (let q = spot_within good (frame_spot fr good i l) in slot_below i l))),
      )
    where
      slot_below : (i : ℕ) → i < y.count → y.slots + 3 * i + 3 ≤ frames_at
      slot_below i l = omega (arith, l, fr.slots, fr.full, good.slots)

  pub enters_try : {n : ℕ} {code : List ℕ} {i : ℕ} {w' : List ℕ} {f : Depths} → Operand x n code d i → d.handlers < handler_limit → w' ≡ set3 w (handlers_at + 3 * d.handlers) i d.operands d.frames
      → f ≡ within d.operands (d.handlers + 1) (d.ip + 2) d → Quickly (Coded x n code) I.EnterTry d w (Some f) w' × Stays d w (Some f) w'
  enters_try {n} {code} {i} {w'} o l e g =
      let m = handler_went (with_ip (d.ip + 2) d) w (ready_ip (d.ip + 2) good) i w' fr.runs.stands l e in (
        went_as g (carry (λ y m. after_fetch o (λ p. make (A.push_handler p) next) (λ s h. h) fr.runs refl m) (by_made m refl)),
        stays_went (kept_within g (rw e (above_frames (set3_apart w (handlers_at + 3 * d.handlers) i d.operands d.frames) (omega arith)))),
      )

-- A step: the opcode is fetched, and its instruction goes or is left
module _ {H : St.State → Type 0} (x : Running) (n : ℕ) (code : List ℕ) (i : Inside x n code) (c : (s : St.State) → H s → Coded x n code s) {d : Depths} {w : List ℕ} (r : Runs x d w) (l : d.ip < x.shape.size) where
  begun : {b : ℕ} {e : Depths} → b ≡ get_or code (x.shape.at + d.ip) 0 → b < 256 → e ≡ with_ip (d.ip + 1) d → (s : St.State) → H s
      → out (R.body (R.kind_of (View.on_stacks d w s))) (View.on_stacks d w s) ≡ out (I.instruction b) (View.on_stacks e w s)
  begun {b} {e} f g k s h =
      ap (λ (p : Program). out p (View.on_stacks d w s)) (body_go r s (c s h) l)
      ∙ (first x n code d i b l f g).goes w r s (c s h) I.instruction
      ∙ ap (λ (y : Depths). out (I.instruction b) (View.on_stacks y w s)) (sym k)

  step_told : {b : ℕ} {e : Depths} (w' : List ℕ) (q : Option Depths) → b ≡ get_or code (x.shape.at + d.ip) 0 → b < 256 → e ≡ with_ip (d.ip + 1) d → Told H (I.instruction b) e w q w' → StepTold H d w q w'
  step_told w' (Some a) f g k t = (λ s h. begun f g k s h ∙ t.0.goes s h, t.1)
  step_told w' None f g k t = t

  pub step_goes : {b : ℕ} {e : Depths} {w' : List ℕ} {q : Option Depths} → b ≡ get_or code (x.shape.at + d.ip) 0 → b < 256 → e ≡ with_ip (d.ip + 1) d → Quickly H (I.instruction b) e w q w' → QuickStep H d w q w'
  step_goes {w' = w'} {q = q} f g k t = record { told = step_told w' q f g k t.told }
