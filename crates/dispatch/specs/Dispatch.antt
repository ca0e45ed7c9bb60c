-- The dispatcher's contract, and a step's. Assumes nothing.
use Rattle.std.specs.Prelude.{ℕ, ◌+◌, ◌-◌, ◌*◌, ◌≤◌, ◌<◌, Bool, List, [], ◌∷◌, ◌≡◌, refl, ltb, get_or, Option, Some, None, Err}
use Rattle.std.proofs.Common.{sym, ap, subst, ◌∙◌, lt-ltb, le-ltb, arith}
use Rattle.std.specs.Prelude.{if◌then◌else◌}
use Rattle.machine.specs.Image as Im
use Rattle.machine.specs.State as St
use Rattle.machine.specs.Act as A
use Rattle.machine.specs.Error.{unknown_opcode}
use Rattle.machine.specs.Program.{Program, make, next, end, failed}
use Rattle.machine.specs.Instruction as I
use Rattle.machine.specs.Run as R
use Rattle.machine.specs.Out.{out, out_pop_frame, out_next}
use Rattle.value.specs.declared.JsVmError.TheVariants.{UnknownOpcode}
use Rattle.value.specs.Lists.{stack_pop, stack_none}
use Rattle.stacks.specs.Layout.{frames_at}
use Rattle.stacks.specs.View
use Rattle.stacks.specs.declared.Depths.{Depths}
use Rattle.opcode.specs.Programs.{deferred}
use Rattle.opcode.specs.declared.Deferred.{Deferred}
use Rattle.outcome.specs.Meets.{Meets, Any, Tells, KeptOf, stepped, fails}
use Rattle.outcome.specs.declared.Part.{Part}
use Rattle.outcome.specs.declared.Part.TheVariants.{Went, Ended, Refused, Register, Join, Print, More}
use Rattle.outcome.specs.declared.Stepped.{Stepped}
use Rattle.fetch.specs.declared.Running.{Running}
use Rattle.fetch.specs.Running.{Runs, Coded, CodedText, Holding, Fetches, fetch_then, current_is, got}
use Rattle.readops.specs.Holds.{Constants}

-- the code, constants and texts that the state s has
pub record Held (x : Running) (n : ℕ) (code places : List ℕ) (b : St.Bytes) (s : St.State) : Type 0 where
  pub constants : Constants x n code places s
  pub holding : Holding b s

module _ {x : Running} {n : ℕ} {code places : List ℕ} {b : St.Bytes} where
  pub to_coded : (s : St.State) → Held x n code places b s → Coded x n code s
  to_coded s h = h.constants.coded

  pub to_constants : (s : St.State) → Held x n code places b s → Constants x n code places s
  to_constants s h = h.constants

  pub to_coded_text : (s : St.State) → Held x n code places b s → CodedText x n code b s
  to_coded_text s h = record { coded = h.constants.coded; holding = h.holding }

  pub to_holding : (s : St.State) → Held x n code places b s → Holding b s
  to_holding s h = h.holding

-- An instruction that is left whole leaves the stacks as they stood.
abbrev pub KeptBy : Running → Part → Depths → List ℕ → List ℕ → Type 0
KeptBy x Went d w w' = KeptOf Went d w w'
KeptBy x (Ended e) d w w' = KeptOf (Ended e) d w w'
KeptBy x (Refused q) d w w' = KeptOf (Refused q) d w w'
KeptBy x (Register i t) d w w' = KeptOf (Register i t) d w w'
KeptBy x (Join a b) d w w' = KeptOf (Join a b) d w w'
KeptBy x (Print k) d w w' = KeptOf (Print k) d w w'
KeptBy x (More op) d w w' = (w' ≡ w) × View.Ready d w × Runs x d w

pub record Dispatches (H : St.State → Type 0) (x : Running) (p : Program) (d : Depths) (w : List ℕ) (r : Stepped) (w' : List ℕ) : Type 0 where
  pub goes : (s : St.State) → H s → Tells r.how r.depths w' s (out p (View.on_stacks d w s))
  pub kept : KeptBy x r.how r.depths w w'

kept_by : (x : Running) (h : Part) (d : Depths) (w w' : List ℕ) → KeptOf h d w w' → KeptBy x h d w w'
kept_by x Went d w w' k = k
kept_by x (Ended e) d w w' k = k
kept_by x (Refused q) d w w' k = k
kept_by x (Register i t) d w w' k = k
kept_by x (Join a b) d w w' k = k
kept_by x (Print n) d w w' k = k
kept_by x (More _) d w w' k = elim k [ ]

module _ {H : St.State → Type 0} {x : Running} {p : Program} {d : Depths} {w w' : List ℕ} {r : Stepped} where
  pub by_meets : {K : St.State → Type 0} → ((s : St.State) → H s → K s) → Meets K p d w r w' → Dispatches H x p d w r w'
  by_meets f m = record { goes = λ s h. m.goes s (f s h); kept = kept_by x r.how r.depths w w' m.kept }

  -- whatever the state is
  pub by_any : Meets Any p d w r w' → Dispatches H x p d w r w'
  by_any m = record { goes = λ s h. m.goes s tt; kept = kept_by x r.how r.depths w w' m.kept }

  -- the program is another's
  pub by_program : {q : Program} → p ≡ q → Dispatches H x q d w r w' → Dispatches H x p d w r w'
  by_program {q} e m = subst (λ (k : Program). Dispatches H x k d w r w') (sym e) m

pub by_more : {H : St.State → Type 0} {x : Running} {op : Deferred} {d : Depths} {w : List ℕ} {r : Stepped} → View.Ready d w → Runs x d w → r ≡ stepped d (More op)
    → Dispatches H x (deferred op) d w r w
by_more {H} {x} {op} {d} {w} a q e = subst (λ (y : Stepped). Dispatches H x (deferred op) d w y w) (sym e) (record { goes = λ s h. refl; kept = (refl, a, q) })

-- A STEP: the machine's program for the state that stands
pub record Steps (H : St.State → Type 0) (x : Running) (d : Depths) (w : List ℕ) (r : Stepped) (w' : List ℕ) : Type 0 where
  pub goes : (s : St.State) → H s → Tells r.how r.depths w' s (out (R.body (R.kind_of (View.on_stacks d w s))) (View.on_stacks d w s))
  pub kept : KeptBy x r.how r.depths w w'

module _ {H : St.State → Type 0} {x : Running} {d : Depths} {w w' : List ℕ} {r : Stepped} where
  -- the program is p in every state
  steps_as : (p : Program) → ((s : St.State) → H s → R.body (R.kind_of (View.on_stacks d w s)) ≡ p) → Dispatches H x p d w r w' → Steps H x d w r w'
  steps_as p f m = record {
    goes = λ s h. subst (λ (q : Program). Tells r.how r.depths w' s (out q (View.on_stacks d w s))) (sym (f s h)) (m.goes s h);
    kept = m.kept;
  }

  -- no frame stands
  pub step_none : d.frames ≡ 0 → Meets Any I.Halt d w r w' → Steps H x d w r w'
  step_none e m =
      let fs : View.frames_of w d.frames d.ip ≡ [] = ap (λ (k : ℕ). View.frames_of w k d.ip) e ∙ ap (St.top_at d.ip) (stack_none (λ i. View.frame_at w (frames_at + 5 * i))) in
      steps_as I.Halt (λ s h. ap (λ (y : List St.Frame). R.body (R.kind_in (View.on_stacks d w s) y)) fs) (by_meets (λ s h. tt) m)

-- the newest frame's template
module _ {x : Running} {d : Depths} {w : List ℕ} (q : Runs x d w) where
  frames_are : View.frames_of w d.frames d.ip ≡ (St.set_ip d.ip (View.frame_at w (frames_at + 5 * (d.frames - 1)))) ∷ View.rows_of w (d.frames - 1)
  frames_are = ap (St.top_at d.ip) (stack_pop (λ i. View.frame_at w (frames_at + 5 * i)) d.frames q.stands)

  size_is : {n : ℕ} {code : List ℕ} (s : St.State) → Coded x n code s → (St.running (View.on_stacks d w s) (St.set_ip d.ip (View.frame_at w (frames_at + 5 * (d.frames - 1))))).size ≡ x.shape.size
  size_is s h = ap (λ (t : Im.Template). t.size) (sym (ap (I.current (View.on_stacks d w s)) frames_are) ∙ current_is q s) ∙ h.size

  abbrev chosen : St.State → Bool → Program
  chosen s b = R.body (if b then R.begun (get_or s.code ((St.running (View.on_stacks d w s) (St.set_ip d.ip (View.frame_at w (frames_at + 5 * (d.frames - 1))))).at + d.ip) 0) else R.run_out)

  body_is : {n : ℕ} {code : List ℕ} (s : St.State) → Coded x n code s → R.body (R.kind_of (View.on_stacks d w s)) ≡ chosen s (ltb d.ip x.shape.size)
  body_is s h =
      ap (λ (y : List St.Frame). R.body (R.kind_in (View.on_stacks d w s) y)) frames_are
      ∙ ap (λ (z : ℕ). chosen s (ltb d.ip z)) (size_is s h)

  pub body_out : {n : ℕ} {code : List ℕ} (s : St.State) → Coded x n code s → x.shape.size ≤ d.ip → R.body (R.kind_of (View.on_stacks d w s)) ≡ make A.pop_frame next
  body_out s h g = body_is s h ∙ ap (chosen s) (le-ltb d.ip x.shape.size g)

  pub body_go : {n : ℕ} {code : List ℕ} (s : St.State) → Coded x n code s → d.ip < x.shape.size → R.body (R.kind_of (View.on_stacks d w s)) ≡ I.fetch I.instruction
  body_go s h g = body_is s h ∙ ap (chosen s) (lt-ltb d.ip x.shape.size g)

module _ {H : St.State → Type 0} {x : Running} {n : ℕ} {code : List ℕ} {d : Depths} {w : List ℕ} {f : Option (ℕ × Depths)} (c : (s : St.State) → H s → Coded x n code s)
    (q : Runs x d w) (k : Fetches x n code d f) where
  -- the newest frame has run out
  pub step_out : {e : Depths} {r : Stepped} → f ≡ None → View.PopsFrame d w e → r ≡ stepped e Went → Steps H x d w r w
  step_out {e} {r} g p z =
      let l : x.shape.size < d.ip + 1 = rw g at k.ready in
      subst (λ (y : Stepped). Steps H x d w y w) (sym z) (record {
        goes = λ s h. ap (λ (b : Program). out b (View.on_stacks d w s)) (body_out q s (c s h) (omega (arith, l)))
            ∙ out_pop_frame (View.on_stacks d w s) next ∙ ap (out next) (sym (p.state s)) ∙ out_next (View.on_stacks e w s);
        kept = tt;
      })

  -- an opcode is begun, whose program is p
  pub step_go : {b : ℕ} {p : Program} {e : Depths} {r : Stepped} {w' : List ℕ} → f ≡ Some (b, e) → I.instruction b ≡ p → Dispatches H x p e w r w' → Steps H x d w r w'
  step_go {b} {p} {e} {r} {w'} g i m =
      let l : d.ip + 1 ≤ x.shape.size = (got k g).2 in
      record {
        goes = λ s h. subst (Tells r.how r.depths w' s)
            (sym (ap (λ (p : Program). out p (View.on_stacks d w s)) (body_go q s (c s h) (omega (arith, l)))
            ∙ k.goes w q s (c s h) I.instruction ∙ ap (λ (u : Option (ℕ × Depths)). fetch_then u I.instruction x d w s) g
            ∙ ap (λ (p : Program). out p (View.on_stacks e w s)) i)) (m.goes s h);
        kept = m.kept;
      }

  -- a byte that names no instruction
  pub step_unknown : {b k : ℕ} {e : Depths} {r : Stepped} → f ≡ Some (b, e) → I.instruction b ≡ end (failed (unknown_opcode b)) → k ≡ b → r ≡ stepped e (Ended (Err (UnknownOpcode k)))
      → Steps H x d w r w
  step_unknown {b} {k} {e} {r} g i z h = step_go g i (by_any (subst (λ (n : ℕ). Meets Any (end (failed (unknown_opcode n))) e w r w) z (fails {e = UnknownOpcode k} h)))
