-- What an instruction's function ensures, and how it is followed through the machine's program: one law for each way that a program goes on.
-- Assumes nothing.
use Rattle.std.specs.Prelude.{ℕ, ◌+◌, ◌*◌, ◌≤◌, List, [], ◌++◌, length, ◌≡◌, refl, Option, Some, None, Result, Ok, Err}
use Rattle.std.proofs.Common.{sym, ap, subst, ◌∙◌}
use Rattle.machine.specs.Value as M
use Rattle.machine.specs.State as St
use Rattle.machine.specs.State.{operand_limit}
use Rattle.machine.specs.Convert.{to_js_string}
use Rattle.machine.specs.Act as A
use Rattle.machine.specs.Fields as Fi
use Rattle.machine.specs.Program as P
use Rattle.machine.specs.Program.{Program, next, end, look, make}
use Rattle.machine.specs.Instruction as I
use Rattle.machine.specs.Out.{Out, went, ended, refused, out, out_next, out_end, out_look, out_pop, out_empty, out_jump}
use Rattle.value.specs.Errors.{error_of, space_of}
use Rattle.value.specs.Lists.{stack_none}
use Rattle.value.specs.Words.{value_of, value_at}
use Rattle.value.specs.declared.JsVmError.{JsVmError}
use Rattle.value.specs.declared.JsVmError.TheVariants.{StackUnderflow}
use Rattle.value.specs.declared.Value.{Value}
use Rattle.stacks.specs.declared.Depths.{Depths}
use Rattle.stacks.specs.View
use Rattle.stacks.specs.Laws.{with_operands, with_ip, jumped}
use Rattle.opcode.specs.Programs.{deferred}
use Rattle.outcome.specs.declared.Part.{Part}
use Rattle.outcome.specs.declared.Part.TheVariants.{Went, Ended, Refused, Register, Join, Print, More}
use Rattle.outcome.specs.declared.Stepped.{Stepped}
use Rattle.value.specs.declared.Stop.{Stop}
use Rattle.value.specs.declared.Stop.TheVariants.{Failed, Refused}

abbrev pub end_of : Result Value JsVmError → P.End
end_of (Ok v) = P.finished (value_of v)
end_of (Err e) = P.failed (error_of e)

abbrev pub stepped : Depths → Part → Stepped
stepped d h = record { depths = d; how = h }

-- What is left to do where an instruction changes more than the stacks.
abbrev pub registers : ℕ → ℕ → Program
registers i t = look λ s. make (A.add_function i t) (I.pushed (M.function (length s.functions)))

abbrev pub joins : M.Value → M.Value → Program
joins a b = look λ s. I.keeping (to_js_string (St.bytes s) a ++ to_js_string (St.bytes s) b) λ t. I.pushed (M.text t)

abbrev pub prints : List M.Value → Program
prints args = look λ s. make (A.print (I.joined (St.bytes s) args)) (I.pushed M.undefined)

-- What an answer says of a program's outcome o, in a state whose stacks are those of d and w. The arguments of a printed line stand above the operands,
-- behind the callee.
abbrev pub Tells : Part → Depths → List ℕ → St.State → Out → Type 0
Tells Went d w s o = o ≡ went (View.on_stacks d w s)
Tells (Ended e) d w s o = o ≡ ended (end_of e) (View.on_stacks d w s)
Tells (Refused q) d w s o = o ≡ refused (space_of q)
Tells (Register i t) d w s o = o ≡ out (registers i t) (View.on_stacks d w s)
Tells (Join a b) d w s o = o ≡ out (joins (value_of a) (value_of b)) (View.on_stacks d w s)
Tells (Print k) d w s o = o ≡ out (prints (View.arguments w (d.operands + 1) k)) (View.on_stacks d w s)
Tells (More op) d w s o = o ≡ out (deferred op) (View.on_stacks d w s)

-- A refusal leaves the words, and so does an instruction of which something is left to do. None is left whole.
abbrev pub KeptOf : Part → Depths → List ℕ → List ℕ → Type 0
KeptOf Went d w w' = Unit {0}
KeptOf (Ended e) d w w' = Unit {0}
KeptOf (Refused q) d w w' = w' ≡ w
KeptOf (Register i t) d w w' = (w' ≡ w) × View.Ready d w
KeptOf (Join a b) d w w' = (w' ≡ w) × View.Ready d w
KeptOf (Print k) d w w' = (w' ≡ w) × View.Ready d w × (d.operands + 1 + k ≤ operand_limit)
KeptOf (More b) d w w' = ⊥

-- THE CONTRACT OF AN INSTRUCTION on the stacks: over every state with these stacks of which H holds, the program p comes to what the answer says.
pub record Meets (H : St.State → Type 0) (p : Program) (d : Depths) (w : List ℕ) (x : Stepped) (w' : List ℕ) : Type 0 where
  pub goes : (s : St.State) → H s → Tells x.how x.depths w' s (out p (View.on_stacks d w s))
  pub kept : KeptOf x.how x.depths w w'

abbrev pub Any : St.State → Type 0
Any s = Unit {0}

-- what holds of more states holds of fewer
pub weaken : {H K : St.State → Type 0} {p : Program} {d : Depths} {w w' : List ℕ} {x : Stepped} → ((s : St.State) → K s → H s) → Meets H p d w x w' → Meets K p d w x w'
weaken f m = record { goes = λ s k. m.goes s (f s k); kept = m.kept }

pub any : {K : St.State → Type 0} {p : Program} {d : Depths} {w w' : List ℕ} {x : Stepped} → Meets Any p d w x w' → Meets K p d w x w'
any m = weaken (λ s k. tt) m

-- the answers of the shared functions
abbrev pub underflow_of : Depths → Stepped
underflow_of d = stepped (with_operands 0 d) (Ended (Err StackUnderflow))

abbrev pub stopped_by : Stop → Depths → Stepped
stopped_by (Failed e) d = stepped d (Ended (Err e))
stopped_by (Refused q) d = stepped d (Refused q)

abbrev pub settled_of : Result Depths Stop → Depths → Stepped
settled_of (Ok e) d = stepped e Went
settled_of (Err q) d = stopped_by q d

settled_out : (r : Result Depths Stop) (d : Depths) (w : List ℕ) (s : St.State) (o : Out) → o ≡ View.made_then r next d w s → Tells (settled_of r d).how (settled_of r d).depths w s o
settled_out (Ok e) d w s o g = g ∙ out_next (View.on_stacks e w s)
settled_out (Err (Failed e)) d w s o g = g
settled_out (Err (Refused q)) d w s o g = g

settled_kept : (r : Result Depths Stop) (d : Depths) (w w' : List ℕ) → View.MadeReady r w w' → KeptOf (settled_of r d).how (settled_of r d).depths w w'
settled_kept (Ok e) d w w' k = tt
settled_kept (Err (Failed e)) d w w' k = tt
settled_kept (Err (Refused q)) d w w' k = k

pub pop_ready : {d e : Depths} {w : List ℕ} {q : Option (Value × Depths)} {v : Value} → View.Pops d w q → q ≡ Some (v, e) → View.Ready e w
pop_ready f g = rw g at f.ready

-- no operand stands: the depths without operands are the same
no_operands : (d : Depths) (w : List ℕ) (s : St.State) → View.operands_of w d.operands ≡ [] → View.on_stacks d w s ≡ View.on_stacks (with_operands 0 d) w s
no_operands d w s e =
    ap (λ (o : List M.Value). View.under o (View.slots_of w d.slots) (View.frames_of w d.frames d.ip) (View.handlers_of w d.handlers) s)
    (e ∙ sym (stack_none (λ i. value_at w (0 + 3 * i))))

module _ {H : St.State → Type 0} where
  -- the program goes on as another one from other stacks
  pub onward : {p q : Program} {d e : Depths} {w w₁ w' : List ℕ} {x : Stepped} → ((s : St.State) → H s → out p (View.on_stacks d w s) ≡ out q (View.on_stacks e w₁ s))
      → w₁ ≡ w → Meets H q e w₁ x w' → Meets H p d w x w'
  onward {p} {q} {d} {e} {w} {w₁} {w'} {x} f g m = record {
    goes = λ s h. subst (Tells x.how x.depths w' s) (sym (f s h)) (m.goes s h);
    kept = subst (λ (u : List ℕ). KeptOf x.how x.depths u w') g m.kept;
  }

  pub settles : {a : A.Act} {d : Depths} {w w' : List ℕ} {r : Result Depths Stop} {x : Stepped} → View.Makes a d w r w' → x ≡ settled_of r d → Meets H (make a next) d w x w'
  settles {a} {d} {w} {w'} {r} {x} m e =
      subst (λ (y : Stepped). Meets H (make a next) d w y w') (sym e)
      (record { goes = λ s h. settled_out r d w' s (out (make a next) (View.on_stacks d w s)) (m.goes s next); kept = settled_kept r d w w' m.ready })

  pub after_look : {f : St.State → Program} {p : Program} {d : Depths} {w w' : List ℕ} {x : Stepped}
      → ((s : St.State) → H s → f (View.on_stacks d w s) ≡ p) → Meets H p d w x w' → Meets H (look f) d w x w'
  after_look {f} {p} {d} {w} e m = onward (λ s h. out_look (View.on_stacks d w s) f ∙ ap (λ (q : Program). out q (View.on_stacks d w s)) (e s h)) refl m

  pub after_pop : (k : M.Value → Program) {d e : Depths} {w w' : List ℕ} {q : Option (Value × Depths)} {v : Value} {x : Stepped}
      → View.Pops d w q → q ≡ Some (v, e) → Meets H (k (value_of v)) e w x w' → Meets H (I.pop k) d w x w'
  after_pop k {d} {e} {w} {w'} {q} {v} f g m = onward
      (λ s h. ap (out (I.pop k)) ((rw g at f.state) s) ∙ out_pop (A.apply (A.push (value_of v)) (View.on_stacks e w s)) k (value_of v) (View.on_stacks e w s).operands refl) refl m

  pub pop_fails : (k : M.Value → Program) {d : Depths} {w : List ℕ} {q : Option (Value × Depths)} {x : Stepped} → View.Pops d w q → q ≡ None → x ≡ underflow_of d → Meets H (I.pop k) d w x w
  pop_fails k {d} {w} f g e =
      let z : View.operands_of w d.operands ≡ [] = rw g at f.state in
      subst (λ (y : Stepped). Meets H (I.pop k) d w y w) (sym e) (record {
        goes = λ s h. out_empty (View.on_stacks d w s) k z ∙ ap (λ (t : St.State). ended (P.failed (error_of StackUnderflow)) t) (no_operands d w s z);
        kept = tt;
      })

  -- an act that nothing stops, done by the depths alone
  pub after_gives : {a : A.Act} {p : Program} {d e : Depths} {w w' : List ℕ} {x : Stepped} → ((s : St.State) (q : Program) → out (make a q) s ≡ out q (A.apply a s))
      → View.Gives (A.apply a) d w e → Meets H p e w x w' → Meets H (make a p) d w x w'
  after_gives {a} {p} {d} {e} {w} t g m = onward (λ s h. t (View.on_stacks d w s) p ∙ ap (out p) (sym (g.state s))) refl m

  pub goes_on : {d : Depths} {w : List ℕ} {x : Stepped} → x ≡ stepped d Went → Meets H next d w x w
  goes_on {d} {w} e = subst (λ (y : Stepped). Meets H next d w y w) (sym e) (record { goes = λ s h. out_next (View.on_stacks d w s); kept = tt })

  pub ends : {e : Result Value JsVmError} {d : Depths} {w : List ℕ} {x : Stepped} → x ≡ stepped d (Ended e) → Meets H (end (end_of e)) d w x w
  ends {e} {d} {w} g = subst (λ (y : Stepped). Meets H (end (end_of e)) d w y w) (sym g) (record { goes = λ s h. out_end (View.on_stacks d w s) (end_of e); kept = tt })

  pub fails : {e : JsVmError} {d : Depths} {w : List ℕ} {x : Stepped} → x ≡ stepped d (Ended (Err e)) → Meets H (end (P.failed (error_of e))) d w x w
  fails {e} g = ends {e = Err e} g

  pub jumps : {p : ℕ} {d e : Depths} {w : List ℕ} {x : Stepped} → e ≡ with_ip p d → x ≡ stepped e Went → Meets H (make (A.jump p) next) d w x w
  jumps {p} {d} {e} {w} g f =
      subst (λ (y : Stepped). Meets H (make (A.jump p) next) d w y w) (sym (f ∙ ap (λ (u : Depths). stepped u Went) g)) (record {
        goes = λ s h. out_jump (View.on_stacks d w s) p next ∙ ap (out next) (sym (jumped d w p s)) ∙ out_next (View.on_stacks (with_ip p d) w s);
        kept = tt;
      })

  -- where something is left to do with the other stores
  pub left_register : {i t : ℕ} {d : Depths} {w : List ℕ} {x : Stepped} → View.Ready d w → x ≡ stepped d (Register i t) → Meets H (registers i t) d w x w
  left_register {i} {t} {d} {w} r e = subst (λ (y : Stepped). Meets H (registers i t) d w y w) (sym e) (record { goes = λ s h. refl; kept = (refl, r) })

  pub left_join : {a b : Value} {d : Depths} {w : List ℕ} {x : Stepped} → View.Ready d w → x ≡ stepped d (Join a b) → Meets H (joins (value_of a) (value_of b)) d w x w
  left_join {a} {b} {d} {w} r e = subst (λ (y : Stepped). Meets H (joins (value_of a) (value_of b)) d w y w) (sym e) (record { goes = λ s h. refl; kept = (refl, r) })

  pub left_print : {k : ℕ} {d : Depths} {w : List ℕ} {x : Stepped} → View.Ready d w → d.operands + 1 + k ≤ operand_limit → x ≡ stepped d (Print k)
      → Meets H (prints (View.arguments w (d.operands + 1) k)) d w x w
  left_print {k} {d} {w} r f e = subst (λ (y : Stepped). Meets H (prints (View.arguments w (d.operands + 1) k)) d w y w) (sym e) (record { goes = λ s h. refl; kept = (refl, r, f) })

-- Two operands
abbrev pub pair_then : Option (Value × Value × Depths) → (St.Bytes → M.Value → M.Value → Program) → Depths → List ℕ → St.State → Out
pair_then (Some (a, b, e)) k d w s = out (k (St.bytes s) (value_of a) (value_of b)) (View.on_stacks e w s)
pair_then None k d w s = ended (P.failed (error_of StackUnderflow)) (View.on_stacks (with_operands 0 d) w s)

abbrev pub PairReady : Option (Value × Value × Depths) → List ℕ → Type 0
PairReady (Some (a, b, e)) w = View.Ready e w
PairReady None w = Unit {0}

pub record Pairs (d : Depths) (w : List ℕ) (r : Option (Value × Value × Depths)) : Type 0 where
  pub goes : (s : St.State) (k : St.Bytes → M.Value → M.Value → Program) → out (I.pop_two k) (View.on_stacks d w s) ≡ pair_then r k d w s
  pub ready : PairReady r w

pub pair_ready : {d e : Depths} {w : List ℕ} {r : Option (Value × Value × Depths)} {a b : Value} → Pairs d w r → r ≡ Some (a, b, e) → View.Ready e w
pair_ready f g = rw g at f.ready

pub pair_none : {d : Depths} {w : List ℕ} {q : Option (Value × Depths)} → View.Pops d w q → q ≡ None → Pairs d w None
pair_none {d} {w} f g =
    let z : View.operands_of w d.operands ≡ [] = rw g at f.state in
    record {
      goes = λ s k. out_empty (View.on_stacks d w s) (λ b. I.pop λ a. look λ s. k (St.bytes s) a b) z
          ∙ ap (λ (t : St.State). ended (P.failed (error_of StackUnderflow)) t) (no_operands d w s z);
      ready = tt;
    }

-- what is left of one operand, below the one that was popped
module _ {d e : Depths} {w : List ℕ} {q : Option (Value × Depths)} {v : Value} (f : View.Pops d w q) (g : q ≡ Some (v, e)) where
  first : (s : St.State) (k : St.Bytes → M.Value → M.Value → Program) → out (I.pop_two k) (View.on_stacks d w s) ≡ out (I.pop λ a. look λ s. k (St.bytes s) a (value_of v)) (View.on_stacks e w s)
  first s k =
      ap (out (I.pop_two k)) ((rw g at f.state) s)
      ∙ out_pop (A.apply (A.push (value_of v)) (View.on_stacks e w s)) (λ b. I.pop λ a. look λ s. k (St.bytes s) a b) (value_of v) (View.on_stacks e w s).operands refl

  bare : (s : St.State) → View.on_stacks (with_operands 0 e) w s ≡ View.on_stacks (with_operands 0 d) w s
  bare s = ap (Fi.set_operands (View.operands_of w 0)) (sym ((rw g at f.state) s))

  pub pair_one : {r : Option (Value × Depths)} → View.Pops e w r → r ≡ None → Pairs d w None
  pair_one h i =
      let z : View.operands_of w e.operands ≡ [] = rw i at h.state in
      record {
        goes = λ s k. first s k ∙ out_empty (View.on_stacks e w s) (λ a. look λ s. k (St.bytes s) a (value_of v)) z
            ∙ ap (λ (t : St.State). ended (P.failed (error_of StackUnderflow)) t) (no_operands e w s z ∙ bare s);
        ready = tt;
      }

  pub pair_both : {c : Depths} {r : Option (Value × Depths)} {u : Value} → View.Pops e w r → r ≡ Some (u, c) → Pairs d w (Some (u, v, c))
  pair_both {c} {r} {u} h i = record {
    goes = λ s k.
        first s k
        ∙ ap (out (I.pop λ a. look λ s. k (St.bytes s) a (value_of v))) ((rw i at h.state) s)
        ∙ out_pop (A.apply (A.push (value_of u)) (View.on_stacks c w s)) (λ a. look λ s. k (St.bytes s) a (value_of v)) (value_of u) (View.on_stacks c w s).operands refl
        ∙ out_look (View.on_stacks c w s) (λ s. k (St.bytes s) (value_of u) (value_of v));
    ready = pop_ready h i;
  }

-- THE LAW OF TWO OPERANDS, for whatever goes on with them
module _ {H : St.State → Type 0} (k : St.Bytes → M.Value → M.Value → Program) {d : Depths} {w : List ℕ} {r : Option (Value × Value × Depths)} {x : Stepped} (p : Pairs d w r) where
  pub two_fail : r ≡ None → x ≡ underflow_of d → Meets H (I.pop_two k) d w x w
  two_fail g e = subst (λ (y : Stepped). Meets H (I.pop_two k) d w y w) (sym e) (record { goes = λ s h. p.goes s k ∙ ap (λ (y : Option (Value × Value × Depths)). pair_then y k d w s) g; kept = tt })

  pub after_two : {q : Program} {a b : Value} {e : Depths} {w' : List ℕ} → r ≡ Some (a, b, e) → ((s : St.State) → H s → k (St.bytes s) (value_of a) (value_of b) ≡ q) → Meets H q e w x w' → Meets H (I.pop_two k) d w x w'
  after_two {q} {a} {b} {e} g f m = onward (λ s h. p.goes s k ∙ ap (λ (y : Option (Value × Value × Depths)). pair_then y k d w s) g ∙ ap (λ (u : Program). out u (View.on_stacks e w s)) (f s h)) refl m
