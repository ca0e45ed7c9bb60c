use Rattle.stackops.specs.Control.{leaves}
use Rattle.stackops.proofs.control.leave_try.Goals as goal

pub returns : goal.returns
returns c = λ w. leaves c.pop_handler.ensures c.went.ensures
