use mathlib.Core.Bool.{Bool, not}
use mathlib.Core.Path.{ap}
use Rattle.machine.specs.Value as M
use Rattle.machine.specs.Convert.{to_boolean}
use Rattle.convert.specs.Truth.{truth_in}
use Rattle.stackops.specs.Values.{unary, unary_fails}
use Rattle.stackops.proofs.arithmetic.not.Goals as goal

pub returns-in_default-clause-bytes : goal.returns-in_default-clause-bytes
returns-in_default-clause-bytes c = unary_fails (λ m a. M.boolean (not (to_boolean m a))) c.pop.ensures c.in_default.is c.underflow.ensures

pub returns-in_default-clause-lengths : goal.returns-in_default-clause-lengths
returns-in_default-clause-lengths c = λ b h. unary_fails (λ m a. M.boolean (not (to_boolean m a))) c.pop.ensures c.in_default.is c.underflow.ensures

pub returns-clause-bytes : goal.returns-clause-bytes
returns-clause-bytes c = unary (λ m a. M.boolean (not (to_boolean m a))) c.pop.ensures c.in-Some.is (ap (λ (b : Bool). M.boolean (not b)) c.to_boolean.ensures.bytes) c.push_value.ensures

pub returns-clause-lengths : goal.returns-clause-lengths
returns-clause-lengths c = λ b h. unary (λ m a. M.boolean (not (to_boolean m a))) c.pop.ensures c.in-Some.is (ap (λ (t : Bool). M.boolean (not t)) (truth_in c.to_boolean.ensures.lengths b h)) c.push_value.ensures
