use mathlib.Core.Path.{refl}
use Rattle.outcome.specs.Meets.{pair_none, pair_one, pair_both}
use Rattle.outcome.proofs.pop_two.Goals as goal

pub returns-in_err-b : goal.returns-in_err-b
returns-in_err-b c = rw c.from_residual.ensures (pair_none c.in_err-b.ensures refl)

pub returns-in_err-a : goal.returns-in_err-a
returns-in_err-a c = rw c.from_residual-in_err-a.ensures (pair_one c.in_ok-b.ensures refl c.in_err-a.ensures refl)

pub returns : goal.returns
returns c = pair_both c.in_ok-b.ensures refl c.in_ok-a.ensures refl
