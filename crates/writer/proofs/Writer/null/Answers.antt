use Rattle.std.proofs.Common.{refl}
use Rattle.machine.specs.Format as F
use Rattle.writer.proofs.Writer.null.Goals as goal

pub returns : goal.returns
returns c = c.constant.ensures F.null refl refl
