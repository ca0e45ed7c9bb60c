use Rattle.stackops.specs.Numbers.{arithmetic, arithmetic_fails}
use Rattle.stackops.proofs.arithmetic.compute.Goals as goal

pub returns-in_default : goal.returns-in_default
returns-in_default g c = arithmetic_fails g.O.Arithmetic.of c.pop_numbers.ensures c.in_default.is c.underflow.ensures

pub returns : goal.returns
returns g c = arithmetic g.O.Arithmetic.of c.pop_numbers.ensures c.in-Some.is c.apply.ensures c.push_value.ensures
