use Rattle.stackops.specs.Numbers.{comparison, comparison_fails}
use Rattle.stackops.proofs.comparison.compare.Goals as goal

pub returns-in_default : goal.returns-in_default
returns-in_default g c = comparison_fails g.O.Comparison.of c.pop_numbers.ensures c.in_default.is c.underflow.ensures

pub returns : goal.returns
returns g c = comparison g.O.Comparison.of c.pop_numbers.ensures c.in-Some.is c.apply.ensures c.push_value.ensures
