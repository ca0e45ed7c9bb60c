-- The truth of the newest operand, and branches on it. Assumes nothing.
use Rattle.std.specs.Prelude.{ℕ, ◌+◌, ◌-◌, ◌*◌, Bool, true, false, not, eqb, List, ◌≡◌, refl, Option, Some, None}
use Rattle.std.proofs.Common.{ne_eqb, sym, ap, ◌∙◌}
use Rattle.machine.specs.Value as M
use Rattle.machine.specs.State as St
use Rattle.machine.specs.Convert.{to_boolean}
use Rattle.machine.specs.Number as N
use Rattle.machine.specs.Program.{Program, look}
use Rattle.machine.specs.Instruction as I
use Rattle.value.specs.Words.{value_of, value_at}
use Rattle.value.specs.declared.Value.{Value}
use Rattle.stacks.specs.declared.Depths.{Depths}
use Rattle.stacks.specs.Laws.{with_ip, with_operands, ready_ip, pop_took}
use Rattle.stacks.specs.View
use Rattle.outcome.specs.Meets.{after_look, after_pop, goes_on, jumps}
use mathlib.Core.Bool.{beq}
use Rattle.fetch.specs.declared.Running.{Running}
use Rattle.fetch.specs.Running.{Runs, Coded, after_fetch}
use Rattle.stackops.specs.Values.{agrees, agrees_is}
use Rattle.stackops.specs.Control.{JumpIf}
use Rattle.quick.specs.Quickly.{Quickly, Operand, carry, start_as, goes, went_as}

-- the newest operand's truth is t, whatever the texts are
pub record Truthful (d : Depths) (w : List ℕ) (t : Bool) : Type 0 where
  pub value : Value
  pub some : d.operands ≡ 0 → ⊥
  pub popped : View.Pops d w (Some (value, (with_operands (d.operands - 1) d)))
  pub truth : (m : St.Bytes) → to_boolean m (value_of value) ≡ t

abbrev pub SenseTold : Depths → List ℕ → Option Bool → Type 0
SenseTold d w (Some t) = Truthful d w t
SenseTold d w None = Unit {0}

pub record Senses (d : Depths) (w : List ℕ) (r : Option Bool) : Type 0 where
  pub told : SenseTold d w r

pub sensed : {d : Depths} {w : List ℕ} {v v' : Value} {t : Bool} → View.Ready d w → (d.operands ≡ 0 → ⊥) → value_of v ≡ value_at w (3 * (d.operands - 1)) → v ≡ v'
    → ((m : St.Bytes) → to_boolean m (value_of v') ≡ t) → Senses d w (Some t)
sensed {d} {w} {v' = v'} r n e g h = record { told = record { value = v'; some = n; popped = pop_took d w r v' n (ap value_of (sym g) ∙ e); truth = h } }

-- a number's truth: not for zero and NaN
pub zero_truth : (m : St.Bytes) (k : ℕ) → k ≡ 0 → to_boolean m (M.number k) ≡ not (eqb k 0)
zero_truth m k e = rw e

pub number_truth_lem : (m : St.Bytes) (k : ℕ) → (k ≡ 0 → ⊥) → to_boolean m (M.number k) ≡ not (eqb k N.nan)
number_truth_lem m k h = let e = ne_eqb k 0 h in rw e

-- a jump where f holds of the truth of the newest operand
abbrev pub branch : (Bool → Bool) → ℕ → Program
branch f p = I.pop λ v. look λ s. I.jump_if (f (to_boolean (St.bytes s) v)) p

module _ {d : Depths} {w : List ℕ} {r : Option Bool} {t : Bool} (n : Senses d w r) (g : r ≡ Some t) where
  truthful : Truthful d w t
  truthful = rw g at n.told

  pub sense_some : d.operands ≡ 0 → ⊥
  sense_some = truthful.some

  after : {H : St.State → Type 0} (f : Bool → Bool) (p : ℕ) {b : Bool} {q : Option Depths} {w' : List ℕ} → f t ≡ b → Quickly H (I.jump_if b p) (with_operands (d.operands - 1) d) w q w' → Quickly H (branch f p) d w q w'
  after f p {b} z k =
      let v = truthful in
      carry (λ y m. after_pop (λ v. look λ s. I.jump_if (f (to_boolean (St.bytes s) v)) p) v.popped refl
      (after_look (λ s h. ap (λ (u : Bool). I.jump_if (f u) p) (v.truth (St.bytes s)) ∙ ap (λ (u : Bool). I.jump_if u p) z) m)) k

  pub branch_stays : {H : St.State → Type 0} (f : Bool → Bool) (p : ℕ) {e : Depths} → f t ≡ false → e ≡ with_operands (d.operands - 1) d → Quickly H (branch f p) d w (Some e) w
  branch_stays f p z i = went_as i (after f p z (goes (goes_on refl) truthful.popped.ready))

  pub branch_goes : {H : St.State → Type 0} (f : Bool → Bool) (p : ℕ) {e a : Depths} → f t ≡ true → e ≡ with_operands (d.operands - 1) d → a ≡ with_ip p e → Quickly H (branch f p) d w (Some a) w
  branch_goes f p z k i =
      went_as (i ∙ ap (with_ip p) k) (after f p z (goes (jumps refl refl) (ready_ip p truthful.popped.ready)))

-- JumpIfTrue and JumpIfFalse, behind their operand
module _ {x : Running} {n : ℕ} {code : List ℕ} {i : ℕ} {d e : Depths} {w : List ℕ} {r : Option Bool} {t : Bool} (T : Bool) (o : Operand x n code d i) (q : Runs x d w) (z : e ≡ with_ip (d.ip + 2) d)
    (s : Senses e w r) (g : r ≡ Some t) where
  operand : {f : Depths} → Quickly (Coded x n code) (branch (agrees T) i) e w (Some f) w → Quickly (Coded x n code) (JumpIf T) d w (Some f) w
  operand m = carry (λ y m. after_fetch o (λ p. branch (agrees T) p) (λ s h. h) q refl m) (start_as z m)

  pub jump_if_goes : beq t T ≡ true → {f a : Depths} → f ≡ with_operands (e.operands - 1) e → a ≡ with_ip i f → Quickly (Coded x n code) (JumpIf T) d w (Some a) w
  jump_if_goes b k l = operand (branch_goes s g (agrees T) i (agrees_is T t ∙ b) k l)

  pub jump_if_stays : beq t T ≡ false → {f : Depths} → f ≡ with_operands (e.operands - 1) e → Quickly (Coded x n code) (JumpIf T) d w (Some f) w
  jump_if_stays b k = operand (branch_stays s g (agrees T) i (agrees_is T t ∙ b) k)
