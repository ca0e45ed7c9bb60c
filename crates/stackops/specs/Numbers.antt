-- Two operands as numbers, and the instructions that push what they make of both. Assumes nothing.
use Rattle.std.specs.Prelude.{ℕ, Bool, List, ◌≡◌, refl, Option, Some, None}
use Rattle.std.proofs.Common.{sym, ap, subst, ◌∙◌}
use Rattle.machine.specs.Value as M
use Rattle.machine.specs.State as St
use Rattle.machine.specs.Convert.{to_number}
use Rattle.machine.specs.Program as P
use Rattle.machine.specs.Program.{Program}
use Rattle.machine.specs.Instruction as I
use Rattle.machine.specs.Out.{Out, ended, out}
use Rattle.number.specs.declared.JsNumber.{JsNumber}
use Rattle.value.specs.Errors.{error_of}
use Rattle.value.specs.Words.{value_of}
use Rattle.value.specs.declared.JsVmError.TheVariants.{StackUnderflow}
use Rattle.value.specs.declared.Value.{Value}
use Rattle.stacks.specs.declared.Depths.{Depths}
use Rattle.stacks.specs.Laws.{with_operands}
use Rattle.stacks.specs.View
use Rattle.outcome.specs.Meets.{Meets, Any, any, underflow_of, onward, Pairs, pair_then, pair_ready}
use Rattle.outcome.specs.declared.Stepped.{Stepped}
use Rattle.fetch.specs.Running.{Holding}

abbrev pub on_numbers : (ℕ → ℕ → Program) → Program
on_numbers k = I.pop_two λ m a b. k (to_number m a) (to_number m b)

abbrev pub numbers_then : Option (JsNumber × JsNumber × Depths) → (ℕ → ℕ → Program) → Depths → List ℕ → St.State → Out
numbers_then (Some (a, b, e)) k d w s = out (k a.bits b.bits) (View.on_stacks e w s)
numbers_then None k d w s = ended (P.failed (error_of StackUnderflow)) (View.on_stacks (with_operands 0 d) w s)

abbrev pub NumbersReady : Option (JsNumber × JsNumber × Depths) → List ℕ → Type 0
NumbersReady (Some (a, b, e)) w = View.Ready e w
NumbersReady None w = Unit {0}

pub record PairsNumbers (H : St.State → Type 0) (d : Depths) (w : List ℕ) (r : Option (JsNumber × JsNumber × Depths)) : Type 0 where
  pub goes : (s : St.State) → H s → (k : ℕ → ℕ → Program) → out (on_numbers k) (View.on_stacks d w s) ≡ numbers_then r k d w s
  pub ready : NumbersReady r w

pub numbers_ready : {H : St.State → Type 0} {d e : Depths} {w : List ℕ} {r : Option (JsNumber × JsNumber × Depths)} {a b : JsNumber} → PairsNumbers H d w r → r ≡ Some (a, b, e) → View.Ready e w
numbers_ready f g = rw g at f.ready

-- from two operands
module _ {d : Depths} {w : List ℕ} {q : Option (Value × Value × Depths)} (p : Pairs d w q) where
  pub numbers_short : {H : St.State → Type 0} → q ≡ None → PairsNumbers H d w None
  numbers_short g = record {
    goes = λ s h k. p.goes s (λ m a b. k (to_number m a) (to_number m b)) ∙ ap (λ (y : Option (Value × Value × Depths)). pair_then y (λ m a b. k (to_number m a) (to_number m b)) d w s) g;
    ready = tt;
  }

  module _ {m : St.Bytes} {a b : Value} {e : Depths} {x y : JsNumber} (g : q ≡ Some (a, b, e)) (f : x.bits ≡ to_number m (value_of a)) (i : y.bits ≡ to_number m (value_of b)) where
    pub numbers_both : PairsNumbers (Holding m) d w (Some (x, y, e))
    numbers_both = record {
      goes = λ s h k.
          p.goes s (λ m a b. k (to_number m a) (to_number m b)) ∙ ap (λ (z : Option (Value × Value × Depths)). pair_then z (λ m a b. k (to_number m a) (to_number m b)) d w s) g
          ∙ ap (λ (z : St.Bytes). out (k (to_number z (value_of a)) (to_number z (value_of b))) (View.on_stacks e w s)) h.bytes
          ∙ ap (λ (z : ℕ). out (k z (to_number m (value_of b))) (View.on_stacks e w s)) (sym f)
          ∙ ap (λ (z : ℕ). out (k x.bits z) (View.on_stacks e w s)) (sym i);
      ready = pair_ready p g;
    }

-- THE LAW OF TWO NUMBERS, for whatever is pushed
module _ {H : St.State → Type 0} (f : ℕ → ℕ → M.Value) {d : Depths} {w : List ℕ} {r : Option (JsNumber × JsNumber × Depths)} {x : Stepped} (p : PairsNumbers H d w r) where
  pub numbers_fail : r ≡ None → x ≡ underflow_of d → Meets H (on_numbers λ a b. I.pushed (f a b)) d w x w
  numbers_fail g e = subst (λ (y : Stepped). Meets H (on_numbers λ a b. I.pushed (f a b)) d w y w) (sym e) (record {
    goes = λ s h. p.goes s h (λ a b. I.pushed (f a b)) ∙ ap (λ (y : Option (JsNumber × JsNumber × Depths)). numbers_then y (λ a b. I.pushed (f a b)) d w s) g;
    kept = tt;
  })

  pub numbers_push : {a b : JsNumber} {e : Depths} {u : M.Value} {w' : List ℕ} → r ≡ Some (a, b, e) → u ≡ f a.bits b.bits → Meets Any (I.pushed u) e w x w'
      → Meets H (on_numbers λ a b. I.pushed (f a b)) d w x w'
  numbers_push {e = e} g i m = onward
      (λ s h. p.goes s h (λ a b. I.pushed (f a b)) ∙ ap (λ (y : Option (JsNumber × JsNumber × Depths)). numbers_then y (λ a b. I.pushed (f a b)) d w s) g
      ∙ ap (λ (v : M.Value). out (I.pushed v) (View.on_stacks e w s)) (sym i)) refl (any m)

module _ {H : St.State → Type 0} (f : ℕ → ℕ → ℕ) {d : Depths} {w : List ℕ} {r : Option (JsNumber × JsNumber × Depths)} {x : Stepped} (p : PairsNumbers H d w r) where
  pub arithmetic_fails : r ≡ None → x ≡ underflow_of d → Meets H (I.arithmetic f) d w x w
  arithmetic_fails g e = numbers_fail (λ a b. M.number (f a b)) p g e

  pub arithmetic : {a b : JsNumber} {e : Depths} {u : ℕ} {w' : List ℕ} → r ≡ Some (a, b, e) → u ≡ f a.bits b.bits → Meets Any (I.pushed (M.number u)) e w x w' → Meets H (I.arithmetic f) d w x w'
  arithmetic g i m = numbers_push (λ a b. M.number (f a b)) p g (ap M.number i) m

module _ {H : St.State → Type 0} (f : ℕ → ℕ → Bool) {d : Depths} {w : List ℕ} {r : Option (JsNumber × JsNumber × Depths)} {x : Stepped} (p : PairsNumbers H d w r) where
  pub comparison_fails : r ≡ None → x ≡ underflow_of d → Meets H (I.comparison f) d w x w
  comparison_fails g e = numbers_fail (λ a b. M.boolean (f a b)) p g e

  pub comparison : {a b : JsNumber} {e : Depths} {u : Bool} {w' : List ℕ} → r ≡ Some (a, b, e) → u ≡ f a.bits b.bits → Meets Any (I.pushed (M.boolean u)) e w x w' → Meets H (I.comparison f) d w x w'
  comparison g i m = numbers_push (λ a b. M.boolean (f a b)) p g (ap M.boolean i) m
