-- What an instruction makes of two operands that are numbers. Assumes nothing.
use Rattle.std.specs.Prelude.{ℕ, Bool, ◌||◌, ◌++◌, ◌≡◌, refl}
use Rattle.std.specs.Prelude.{if◌then◌else◌}
use Rattle.machine.specs.Number as N
use Rattle.machine.specs.Value as M
use Rattle.machine.specs.State as St
use Rattle.machine.specs.Convert.{is_text, to_number, to_js_string}
use Rattle.machine.specs.Program.{Program}
use Rattle.machine.specs.Instruction as I

-- The instruction p takes two operands, and pushes f of them where both are numbers.
pub record OnNumbers (p : Program) (f : ℕ → ℕ → M.Value) : Type 0 where
  pub makes : St.Bytes → M.Value → M.Value → Program
  pub pops : p ≡ I.pop_two makes
  pub numbers : (m : St.Bytes) (a b : ℕ) → makes m (M.number a) (M.number b) ≡ I.pushed (f a b)

-- those that take all other operands for numbers too
pub arithmetic_takes : (f : ℕ → ℕ → ℕ) → OnNumbers (I.arithmetic f) (λ a b. M.number (f a b))
arithmetic_takes f = record { makes = λ m a b. I.pushed (M.number (f (to_number m a) (to_number m b))); pops = refl; numbers = λ m a b. refl }

pub comparison_takes : (f : ℕ → ℕ → Bool) → OnNumbers (I.comparison f) (λ a b. M.boolean (f a b))
comparison_takes f = record { makes = λ m a b. I.pushed (M.boolean (f (to_number m a) (to_number m b))); pops = refl; numbers = λ m a b. refl }

-- Add joins where one is a text.
pub add_takes : OnNumbers I.Add (λ a b. M.number (N.add a b))
add_takes = record {
  makes = λ m a b.
      if is_text a || is_text b then I.keeping (to_js_string m a ++ to_js_string m b) (λ t. I.pushed (M.text t)) else I.pushed (M.number (N.add (to_number m a) (to_number m b)));
  pops = refl;
  numbers = λ m a b. refl;
}
