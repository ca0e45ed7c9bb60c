-- A function called. Assumes nothing.
use Rattle.std.specs.Prelude.{ℕ, ◌+◌, ◌-◌, ◌*◌, ◌≤◌, ◌<◌, List, [], ◌≡◌, refl, length, get_or, Option, Some, None, Result, Err}
use Rattle.std.proofs.Common.{arith, sym, ap, subst, ◌∙◌}
use Rattle.std.proofs.Math.Option.{Option as Maybe}
use Rattle.std.proofs.Math.ListN.{get_elem?}
use Rattle.machine.specs.Value as M
use Rattle.machine.specs.Image as Im
use Rattle.machine.specs.State as St
use Rattle.machine.specs.Act as A
use Rattle.machine.specs.Program.{Program, make, next}
use Rattle.machine.specs.Instruction as I
use Rattle.machine.specs.Out.{out, out_look}
use Rattle.value.specs.Words.{value_of, value_at}
use Rattle.value.specs.declared.Value.{Value}
use Rattle.value.specs.declared.JsVmError.TheVariants.{InvalidFunctionId, NotCallable}
use Rattle.image.specs.View.{images_of}
use Rattle.image.specs.Load.{template_from}
use Rattle.image.specs.declared.FunctionTemplate.{FunctionTemplate}
use Rattle.stacks.specs.declared.Depths.{Depths}
use Rattle.stacks.specs.View
use Rattle.stacks.specs.Laws.{with_operands}
use Rattle.stacks.specs.Popped.{popped_call, popped_call_short}
use Rattle.heap.specs.View.{Held, function_in}
use Rattle.heap.specs.declared.Registered.{Registered}
use Rattle.outcome.specs.declared.Part.TheVariants.{Ended, Print}
use Rattle.outcome.specs.declared.Stepped.{Stepped}
use Rattle.outcome.specs.Meets.{Meets, weaken, onward, settles, settled_of, after_look, fails, stepped, underflow_of, left_print}
use Rattle.fetch.specs.declared.Running.{Running}
use Rattle.fetch.specs.Running.{Runs, Fetches, after_fetch, fetch_fails, cut_of}
use Rattle.readops.specs.Holds.{Templates, Callable, CalleeOf, CalleeIs, calling}
use Rattle.readops.specs.declared.call.Callee.{Callee}
use Rattle.readops.specs.declared.call.Callee.TheVariants.{Function, Object, Other}
use Rattle.value.specs.declared.Stop.{Stop}

module _ {rows starts : List ℕ} {images : ℕ} {d : Depths} {w : List ℕ} {f : Option Registered} {y : Stepped} (args : List M.Value) where
  pub unknown : f ≡ None → y ≡ stepped d (Ended (Err InvalidFunctionId)) → (code places : List ℕ) → Meets (Templates code places rows starts images) (calling (function_in f) args) d w y w
  unknown g e code places =
      subst (λ (u : Option Registered). Meets (Templates code places rows starts images) (calling (function_in u) args) d w y w) (sym g)
      (after_look (λ s h. refl) (fails e))

module _ {rows starts : List ℕ} {images : ℕ} {d : Depths} {w w' : List ℕ} {f : Option Registered} {y : Stepped} (argc : ℕ) where
  pub known : {i t : ℕ} (p : FunctionTemplate) {r : Result Depths Stop} → f ≡ Some (record { image = i; template = t })
      → ((code places : List ℕ) → template_from code places p ≡ get_or (get_or (images_of code places rows starts images) i []) t St.no_template)
      → View.Makes (A.push_frame i t (View.called w (d.operands + 1) argc p.param_count p.local_count)) d w r w' → y ≡ settled_of r d
      → (code places : List ℕ) → Meets (Templates code places rows starts images) (calling (function_in f) (View.arguments w (d.operands + 1) argc)) d w y w'
  known {i} {t} p {r} g a m e code places =
      let args = View.arguments w (d.operands + 1) argc in
      subst (λ (u : Option Registered). Meets (Templates code places rows starts images) (calling (function_in u) args) d w y w') (sym g)
      (after_look
      (λ s h. ap (λ (b : List (List Im.Template)). make (A.push_frame i t (I.locals (get_or (get_or b i []) t St.no_template) args)) next) h.held
      ∙ ap (λ (b : Im.Template). make (A.push_frame i t (I.locals b args)) next) (sym (a code places)))
      (settles m e))

-- Callee and arguments stand
module _ {e : Depths} {w : List ℕ} {argc at : ℕ} (r : View.Ready e w) (l : argc < e.operands) (a : at ≡ e.operands - argc - 1) where
  pub callee_there : 3 * at + 2 < length w
  callee_there = omega (arith, r.operands, r.size, l, a)

  pub call_ready : {c : Depths} → c ≡ with_operands at e → View.Ready c w × (c.operands + 1 + argc ≤ St.operand_limit)
  call_ready b =
      let o : at + 1 + argc ≤ St.operand_limit = omega (arith, r.operands, l, a) in
      let p : View.Ready (with_operands at e) w = record { operands = omega (arith, o); slots = r.slots; frames = r.frames; handlers = r.handlers; size = r.size } in
      subst (λ (u : Depths). View.Ready u w × (u.operands + 1 + argc ≤ St.operand_limit)) (sym b) (p, o)

-- What is called
pub callee_other : {v u : Value} → v ≡ u → CalleeIs Other (value_of u) → CalleeOf (value_of v) Other
callee_other {v} {u} e h = record { is = subst (λ (y : Value). CalleeIs Other (value_of y)) (sym e) h }

-- Call
abbrev calls : ℕ → Program
calls n = I.pop_many n [] λ args. I.pop λ f. I.call f args

module _ {x : Running} {n : ℕ} {code places rows starts : List ℕ} {images : ℕ} {o : Held} {d : Depths} {w : List ℕ} {r : Option (ℕ × Depths)} {y : Stepped}
    (f : Fetches x n code d r) (q : Runs x d w) where
  pub call_cut : r ≡ None → y ≡ cut_of x d → Meets (Callable x n code places rows starts images o) I.Call d w y w
  call_cut g e = fetch_fails f calls (λ s h. h.coded) q g e

  module _ {argc : ℕ} {e : Depths} (g : r ≡ Some (argc, e)) where
    pub call_short : e.operands ≤ argc → y ≡ underflow_of e → Meets (Callable x n code places rows starts images o) I.Call d w y w
    call_short l a =
        after_fetch f calls (λ s h. h.coded) q g
        (subst (λ (u : Stepped). Meets (Callable x n code places rows starts images o) (calls argc) e w u w) (sym a) (record {
          goes = λ s h. popped_call_short e w s argc (λ args f. I.call f args) l;
          kept = tt;
        }))

    module _ {at : ℕ} {c : Depths} {v : M.Value} (l : argc < e.operands) (a : at ≡ e.operands - argc - 1) (b : c ≡ with_operands at e) (t : v ≡ value_at w (3 * at)) where
      called : {w' : List ℕ} (u : M.Value) → v ≡ u → Meets (Callable x n code places rows starts images o) (I.call u (View.arguments w (c.operands + 1) argc)) c w y w'
          → Meets (Callable x n code places rows starts images o) I.Call d w y w'
      called u i m =
          let o : c.operands ≡ at = ap (λ (u : Depths). u.operands) b in
          let from : e.operands - argc ≡ c.operands + 1 = omega (arith, l, a, o) in
          let s₁ : value_at w (3 * (e.operands - argc - 1)) ≡ u = ap (λ (k : ℕ). value_at w (3 * k)) (sym a) ∙ sym t ∙ i in
          let s₂ : with_operands (e.operands - argc - 1) e ≡ c = ap (λ (k : ℕ). with_operands k e) (sym a) ∙ sym b in
          after_fetch f calls (λ s h. h.coded) q g
          (onward (λ s h. popped_call e w s argc (λ args f. I.call f args) (omega (arith, l))
          ∙ ap (λ (k : ℕ). out (I.call (value_at w (3 * (e.operands - argc - 1))) (View.arguments w k argc)) (View.on_stacks (with_operands (e.operands - argc - 1) e) w s)) from
          ∙ ap (λ (k : M.Value). out (I.call k (View.arguments w (c.operands + 1) argc)) (View.on_stacks (with_operands (e.operands - argc - 1) e) w s)) s₁
          ∙ ap (λ (k : Depths). out (I.call u (View.arguments w (c.operands + 1) argc)) (View.on_stacks k w s)) s₂) refl m)

      -- no function and no object: error 18
      pub not_callable_lem : {h : Callee} → CalleeOf v h → h ≡ Other → y ≡ stepped c (Ended (Err NotCallable)) → Meets (Callable x n code places rows starts images o) I.Call d w y w
      not_callable_lem h j k =
          let i : CalleeIs Other v = subst (λ (u : Callee). CalleeIs u v) j h.is in
          let args = View.arguments w (c.operands + 1) argc in
          called v refl (subst (λ (p : Program). Meets (Callable x n code places rows starts images o) p c w y w) (sym (i args)) (fails k))

      pub calls_function : {w' : List ℕ} {h : Callee} {i : ℕ} (k : Option Registered) → CalleeOf v h → h ≡ Function i → function_in k ≡ get_elem? o.functions i
          → ((code places : List ℕ) → Meets (Templates code places rows starts images) (calling (function_in k) (View.arguments w (c.operands + 1) argc)) c w y w')
          → Meets (Callable x n code places rows starts images o) I.Call d w y w'
      calls_function {w'} {h} {i} k q j o m =
          called (M.function i) (subst (λ (u : Callee). CalleeIs u v) j q.is)
          (onward (λ s h. out_look (View.on_stacks c w s) (λ s. I.call_function s (get_elem? s.functions i) (View.arguments w (c.operands + 1) argc))
          ∙ ap (λ (u : Maybe St.Function). out (I.call_function (View.on_stacks c w s) u (View.arguments w (c.operands + 1) argc)) (View.on_stacks c w s))
          (ap (λ (u : List St.Function). get_elem? u i) h.functions ∙ sym o)
          ∙ sym (out_look (View.on_stacks c w s) (λ s. I.call_function s (function_in k) (View.arguments w (c.operands + 1) argc)))) refl
          (weaken (λ s h. h.templates) (m code places)))

      -- an object, known or not: its arguments are to be printed
      pub prints_line : {h : Callee} {i : ℕ} → View.Ready e w → CalleeOf v h → h ≡ Object i → y ≡ stepped c (Print argc) → Meets (Callable x n code places rows starts images o) I.Call d w y w
      prints_line {h} {i} ready k j p =
          let room = call_ready ready l a b in
          called (M.object i) (subst (λ (u : Callee). CalleeIs u v) j k.is) (left_print room.0 room.1 p)
