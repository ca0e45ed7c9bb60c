use Rattle.std.proofs.Common.{refl}
use Rattle.machine.specs.Format as F
use Rattle.writer.specs.Laws.{boolean_bytes}
use Rattle.writer.proofs.Writer.boolean.Goals as goal

pub returns : goal.returns
returns c = c.constant.ensures (F.boolean c.args.b) refl (boolean_bytes c.args.b c.from.result c.from.ensures)
