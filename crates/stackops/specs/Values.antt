-- Instructions that push what they make of one operand or of two, by the bytes that are in use. Assumes nothing.
use Rattle.std.specs.Prelude.{ℕ, Bool, true, false, not, List, ◌≡◌, refl, Option, Some, None}
use Rattle.std.proofs.Common.{sym, ap, ◌∙◌}
use mathlib.Core.Bool.{beq}
use Rattle.std.specs.Prelude.{if◌then◌else◌}
use Rattle.machine.specs.Value as M
use Rattle.machine.specs.State as St
use Rattle.machine.specs.Convert.{to_boolean, strict_eq, abstract_eq}
use Rattle.machine.specs.Program.{Program, look}
use Rattle.machine.specs.Instruction as I
use Rattle.value.specs.Words.{value_of}
use Rattle.value.specs.declared.Value.{Value}
use Rattle.stacks.specs.declared.Depths.{Depths}
use Rattle.stacks.specs.View
use Rattle.outcome.specs.Meets.{Meets, Any, any, underflow_of, Pairs, after_look, after_pop, pop_fails, after_two, two_fail}
use Rattle.outcome.specs.declared.Stepped.{Stepped}
use Rattle.fetch.specs.Running.{Holding}

-- One operand
module _ (f : St.Bytes → M.Value → M.Value) {d : Depths} {w : List ℕ} {q : Option (Value × Depths)} {x : Stepped} (p : View.Pops d w q) where
  pub unary_fails : {H : St.State → Type 0} → q ≡ None → x ≡ underflow_of d → Meets H (I.unary f) d w x w
  unary_fails g e = pop_fails (λ a. look λ s. I.pushed (f (St.bytes s) a)) p g e

  pub unary : {b : St.Bytes} {v : Value} {e : Depths} {u : M.Value} {w' : List ℕ} → q ≡ Some (v, e) → u ≡ f b (value_of v) → Meets Any (I.pushed u) e w x w' → Meets (Holding b) (I.unary f) d w x w'
  unary {v = v} g i r = after_pop (λ a. look λ s. I.pushed (f (St.bytes s) a)) p g
      (after_look (λ s h. ap (λ (b : St.Bytes). I.pushed (f b (value_of v))) h.bytes ∙ ap I.pushed (sym i)) (any r))

-- Two operands
module _ (f : St.Bytes → M.Value → M.Value → M.Value) {d : Depths} {w : List ℕ} {q : Option (Value × Value × Depths)} {x : Stepped} (p : Pairs d w q) where
  pub binary_fails : {H : St.State → Type 0} → q ≡ None → x ≡ underflow_of d → Meets H (I.binary f) d w x w
  binary_fails g e = two_fail (λ m a b. I.pushed (f m a b)) p g e

  pub binary : {m : St.Bytes} {a b : Value} {e : Depths} {u : M.Value} {w' : List ℕ} → q ≡ Some (a, b, e) → u ≡ f m (value_of a) (value_of b)
      → Meets Any (I.pushed u) e w x w' → Meets (Holding m) (I.binary f) d w x w'
  binary {a = a} {b} g i r = after_two (λ m a b. I.pushed (f m a b)) p g
      (λ s h. ap (λ (y : St.Bytes). I.pushed (f y (value_of a) (value_of b))) h.bytes ∙ ap I.pushed (sym i)) (any r)

-- Is a truth the one that is wanted?
abbrev pub agrees : Bool → Bool → Bool
agrees true = λ b. b
agrees false = not

pub agrees_is : (a b : Bool) → agrees a b ≡ beq b a
agrees_is true true = refl
agrees_is true false = refl
agrees_is false true = refl
agrees_is false false = refl

-- Eq and NotEq, StrictEq and StrictNotEq
abbrev pub equal : Bool → St.Bytes → M.Value → M.Value → Bool
equal true = strict_eq
equal false = abstract_eq

abbrev pub Equals : Bool → Bool → Program
Equals strict wanted = I.binary λ m a b. M.boolean (agrees wanted (equal strict m a b))

-- LogicalAnd and LogicalOr
abbrev pub Logical : Bool → Program
Logical true = I.LogicalAnd
Logical false = I.LogicalOr

-- Equality, and its negation
module _ (f : St.Bytes → M.Value → M.Value → Bool) {d : Depths} {w : List ℕ} {q : Option (Value × Value × Depths)} {x : Stepped} (p : Pairs d w q) where
  pub equality_fails : {H : St.State → Type 0} → q ≡ None → x ≡ underflow_of d → Meets H (I.binary λ m a b. M.boolean (f m a b)) d w x w
  equality_fails g e = binary_fails (λ m a b. M.boolean (f m a b)) p g e

  pub equality : {m : St.Bytes} {a b : Value} {e : Depths} {u : Bool} {w' : List ℕ} → q ≡ Some (a, b, e) → u ≡ f m (value_of a) (value_of b)
      → Meets Any (I.pushed (M.boolean u)) e w x w' → Meets (Holding m) (I.binary λ m a b. M.boolean (f m a b)) d w x w'
  equality g i r = binary (λ m a b. M.boolean (f m a b)) p g (ap M.boolean i) r

pub if_true : {b : Bool} (u v : M.Value) → b ≡ true → u ≡ (if b then u else v)
if_true u v e = rw e

pub if_false : {b : Bool} (u v : M.Value) → b ≡ false → v ≡ (if b then u else v)
if_false u v e = rw e
