use Rattle.std.proofs.Common.{length}
use Rattle.machine.specs.Format as F
use Rattle.writer.specs.Laws.{text_bytes, small_of}
use Rattle.writer.proofs.Writer.text.Goals as goal

pub returns : goal.returns
returns c = c.constant.ensures (F.text c.args.bytes.now) (small_of (length c.args.bytes.now) c.in_ok-try_from.ensures.0) (text_bytes c.args.bytes.now c.to_be_bytes.result _ c.in_ok-try_from.ensures c.to_be_bytes.ensures)
