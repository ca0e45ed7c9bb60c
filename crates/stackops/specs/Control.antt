-- Branches, tries, throws and the end of a run. Assumes nothing.
use Rattle.std.specs.Prelude.{ℕ, ◌+◌, ◌-◌, ◌*◌, Bool, true, false, List, [], ◌∷◌, ◌≡◌, refl, Option, Some, None, Result, Ok, Err}
use Rattle.std.proofs.Common.{sym, ◌∙◌}
use Rattle.std.proofs.Math.Path.{ap, subst}
use Rattle.machine.specs.Value as M
use Rattle.machine.specs.State as St
use Rattle.machine.specs.Act as A
use Rattle.machine.specs.Program as P
use Rattle.machine.specs.Program.{Program, next, end, look, make}
use Rattle.machine.specs.Convert.{to_boolean}
use Rattle.machine.specs.Instruction as I
use Rattle.machine.specs.Out.{Out, out, out_look, out_end, out_pop_handler, out_unwind}
use Rattle.value.specs.Lists.{stack_pop, stack_none}
use Rattle.value.specs.Words.{value_of}
use Rattle.value.specs.declared.JsVmError.TheVariants.{UncaughtException}
use Rattle.value.specs.declared.Value.{Value}
use Rattle.value.specs.declared.Value.TheVariants.{Undefined}
use Rattle.stacks.specs.declared.Depths.{Depths}
use Rattle.stacks.specs.declared.Handler.{Handler}
use Rattle.stacks.specs.Layout.{handlers_at}
use Rattle.stacks.specs.Laws.{with_ip}
use Rattle.stacks.specs.View
use Rattle.outcome.specs.Meets.{Meets, stepped, underflow_of, Tells, KeptOf, onward, after_look, after_pop, pop_fails, after_gives, goes_on, jumps, fails, stopped_by}
use Rattle.outcome.specs.declared.Part.TheVariants.{Went, Ended, Refused}
use Rattle.outcome.specs.declared.Stepped.{Stepped}
use Rattle.fetch.specs.Running.{Runs, CodedText, FetchesWord, cut_of, after_fetch, fetch_fails}
use Rattle.fetch.specs.declared.Running.{Running}
use Rattle.stackops.specs.Values.{agrees}
use Rattle.value.specs.declared.Stop.{Stop}
use Rattle.value.specs.declared.Stop.TheVariants.{Failed, Refused}

-- THE LAW OF BRANCHES: a jump where f holds of the truth of the newest operand
abbrev pub on : (Bool → Bool) → ℕ → M.Value → Program
on f p v = look λ s. I.jump_if (f (to_boolean (St.bytes s) v)) p

abbrev pub branch : (Bool → Bool) → Program
branch f = I.fetch_word λ p. I.pop (on f p)

-- JumpIfTrue and JumpIfFalse
abbrev pub JumpIf : Bool → Program
JumpIf b = branch (agrees b)

module _ (f : Bool → Bool) {x : Running} {n : ℕ} {code : List ℕ} {m : St.Bytes} {d : Depths} {w : List ℕ} {r : Option (ℕ × Depths)} {y : Stepped} (i : FetchesWord x n code d r) (q : Runs x d w) where
  pub branch_cut : r ≡ None → y ≡ cut_of x d → Meets (CodedText x n code m) (branch f) d w y w
  branch_cut g e = fetch_fails i (λ p. I.pop (on f p)) (λ s h. h.coded) q g e

  module _ {p : ℕ} {e : Depths} {o : Option (Value × Depths)} (g : r ≡ Some (p, e)) (l : View.Pops e w o) where
    pub branch_short : o ≡ None → y ≡ underflow_of e → Meets (CodedText x n code m) (branch f) d w y w
    branch_short j z = after_fetch i (λ p. I.pop (on f p)) (λ s h. h.coded) q g (pop_fails (on f p) l j z)

    module _ {v : Value} {c : Depths} (j : o ≡ Some (v, c)) where
      after : {b : Bool} → f (to_boolean m (value_of v)) ≡ b → Meets (CodedText x n code m) (I.jump_if b p) c w y w → Meets (CodedText x n code m) (branch f) d w y w
      after e k =
          after_fetch i (λ p. I.pop (on f p)) (λ s h. h.coded) q g
          (after_pop (on f p) l j (after_look (λ s h. ap (λ (u : St.Bytes). I.jump_if (f (to_boolean u (value_of v))) p) h.holding.bytes ∙ ap (λ (u : Bool). I.jump_if u p) e) k))

      pub branch_goes : {a : Depths} → f (to_boolean m (value_of v)) ≡ true → a ≡ with_ip p c → y ≡ stepped a Went → Meets (CodedText x n code m) (branch f) d w y w
      branch_goes e b k = after e (jumps b k)

      pub branch_stays : f (to_boolean m (value_of v)) ≡ false → y ≡ stepped c Went → Meets (CodedText x n code m) (branch f) d w y w
      branch_stays e k = after e (goes_on k)

module _ {H : St.State → Type 0} where
  -- LeaveTry
  pub leaves : {d r : Depths} {w : List ℕ} {x : Stepped} → View.PopsHandler d r → x ≡ stepped r Went → Meets H (make A.pop_handler next) d w x w
  leaves {d} {w = w} g e = onward (λ s h. out_pop_handler (View.on_stacks d w s) next ∙ ap (out next) (sym (g.state w s))) refl (goes_on e)

  -- Halt, and the finish with no frame
  pub halt_none : {d : Depths} {w : List ℕ} {q : Option (Value × Depths)} {x : Stepped} → View.Pops d w q → q ≡ None → x ≡ stepped d (Ended (Ok Undefined)) → Meets H I.Halt d w x w
  halt_none {d} {w} f g e = subst (λ (y : Stepped). Meets H I.Halt d w y w) (sym e) (record {
    goes = λ s h.
        out_look (View.on_stacks d w s) (λ s. I.finish s.operands) ∙ ap (λ (o : List M.Value). out (I.finish o) (View.on_stacks d w s)) (rw g at f.state)
        ∙ out_end (View.on_stacks d w s) (P.finished M.undefined);
    kept = tt;
  })

  pub halt_some : {d e : Depths} {w : List ℕ} {q : Option (Value × Depths)} {v : Value} {x : Stepped} → View.Pops d w q → q ≡ Some (v, e) → x ≡ stepped e (Ended (Ok v)) → Meets H I.Halt d w x w
  unfolding out
  halt_some {d} {w = w} f g e = subst (λ (y : Stepped). Meets H I.Halt d w y w) (sym e) (record {
    goes = λ s h. ap (out I.Halt) ((rw g at f.state) s);
    kept = tt;
  })

  -- an act on the stacks that is not the last
  module _ {a : A.Act} {p : Program} {d : Depths} {w w₁ : List ℕ} {r : Result Depths Stop} (m : View.Makes a d w r w₁) where
    stops : (q : Stop) → r ≡ Err q → Meets H (make a p) d w (stopped_by q d) w₁
    stops (Failed n) g = record { goes = λ s h. m.goes s p ∙ ap (λ (y : Result Depths Stop). View.made_then y p d w₁ s) g; kept = tt }
    stops (Refused n) g = record { goes = λ s h. m.goes s p ∙ ap (λ (y : Result Depths Stop). View.made_then y p d w₁ s) g; kept = rw g at m.ready }

    pub after_made : {x : Stepped} {e f : Depths} {w' : List ℕ} → r ≡ Ok e → x ≡ stepped f Went → Meets H p e w₁ x w' → Meets H (make a p) d w x w'
    after_made {x = x} {w' = w'} g z n = record {
      goes = λ s h. subst (λ (o : Out). Tells x.how x.depths w' s o) (sym (m.goes s p ∙ ap (λ (y : Result Depths Stop). View.made_then y p d w₁ s) g)) (n.goes s h);
      kept = subst (λ (y : Stepped). KeptOf y.how y.depths w w') (sym z) tt;
    }

    pub made_stops : {x : Stepped} {q : Stop} → r ≡ Err q → x ≡ stopped_by q d → Meets H (make a p) d w x w₁
    made_stops {q = q} g z = subst (λ (y : Stepped). Meets H (make a p) d w y w₁) (sym z) (stops q g)

  -- Throw
  module _ {d e : Depths} {w : List ℕ} {q : Option (Value × Depths)} {v : Value} {x : Stepped} (f : View.Pops d w q) (g : q ≡ Some (v, e)) where
    thrown : {p : Program} {w' : List ℕ} → I.throw (value_of v) (View.handlers_of w e.handlers) ≡ p → Meets H p e w x w' → Meets H I.Throw d w x w'
    thrown i m = after_pop (λ v. look λ s. I.throw v s.handlers) f g (after_look (λ s h. i) m)

    pub uncaught : e.handlers ≡ 0 → x ≡ stepped e (Ended (Err (UncaughtException v))) → Meets H I.Throw d w x w
    uncaught z i =
        let n : View.handlers_of w e.handlers ≡ [] = ap (View.handlers_of w) z ∙ stack_none (λ i. View.handler_at w (handlers_at + 3 * i)) in
        thrown (ap (I.throw (value_of v)) n) (fails i)

    pub caught : {u : Depths} {w' : List ℕ} (h : Handler) → (e.handlers ≡ 0 → ⊥) → View.handler_of h ≡ View.handler_at w (handlers_at + 3 * (e.handlers - 1)) → View.Unwinds e w u
        → Meets H (make (A.push (value_of v)) (make (A.jump h.catch) next)) u w x w' → Meets H I.Throw d w x w'
    caught h z i k m =
        let n : View.handlers_of w e.handlers ≡ View.handler_of h ∷ View.handlers_of w (e.handlers - 1) =
        stack_pop (λ i. View.handler_at w (handlers_at + 3 * i)) e.handlers z ∙ ap (λ (y : St.Handler). y ∷ View.handlers_of w (e.handlers - 1)) (sym i) in
        thrown (ap (I.throw (value_of v)) n) (after_gives out_unwind k m)
