use mathlib.Core.Path.{ap, ◌∙◌}
use Rattle.machine.specs.Number as N
use Rattle.machine.specs.Value as M
use Rattle.machine.specs.Convert.{to_number}
use Rattle.stackops.specs.Values.{unary, unary_fails}
use Rattle.stackops.proofs.arithmetic.neg.Goals as goal

pub returns-in_default : goal.returns-in_default
returns-in_default c = unary_fails (λ m a. M.number (N.neg (to_number m a))) c.pop.ensures c.in_default.is c.underflow.ensures

pub returns : goal.returns
returns c = unary (λ m a. M.number (N.neg (to_number m a))) c.pop.ensures c.in-Some.is (ap M.number (c.neg.ensures ∙ ap N.neg c.to_number-a.ensures)) c.push_value.ensures
