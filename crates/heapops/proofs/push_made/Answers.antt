use Rattle.heapops.specs.Makes.{made_refused, made_pushed}
use Rattle.heapops.proofs.push_made.Goals as goal

pub returns-in-Ok : goal.returns-in-Ok
returns-in-Ok c = made_pushed c.in-Ok.is c.with_depths.ensures c.push.ensures c.settle_push.ensures

pub returns-in-Err : goal.returns-in-Err
returns-in-Err c = made_refused c.in-Err.is c.refused.ensures
