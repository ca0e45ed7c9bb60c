use Rattle.stackops.specs.Control.{halt_none, halt_some}
use Rattle.stackops.proofs.control.halt.Goals as goal

pub returns-in_default : goal.returns-in_default
returns-in_default c = halt_none c.pop.ensures c.in_default.is c.ended.ensures

pub returns : goal.returns
returns c = halt_some c.pop.ensures c.in-Some.is c.ended-2.ensures
