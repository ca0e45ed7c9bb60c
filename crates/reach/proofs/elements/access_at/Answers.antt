use Rattle.std.proofs.Common.{arith}
use Rattle.reach.specs.Elements.{accessed}
use Rattle.reach.proofs.elements.access_at.Goals as goal

pub returns : goal.returns
returns c = accessed _ _ (omega arith) (omega arith)
