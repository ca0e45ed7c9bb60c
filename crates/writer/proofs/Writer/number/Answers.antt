use Rattle.std.proofs.Common.{refl}
use Rattle.machine.specs.Format as F
use Rattle.writer.specs.Laws.{number_bytes}
use Rattle.writer.proofs.Writer.number.Goals as goal

pub returns : goal.returns
returns c = c.constant.ensures (F.number c.args.bits) refl (number_bytes c.args.bits c.to_be_bytes.result c.to_be_bytes.ensures)
