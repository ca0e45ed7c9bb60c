use Rattle.machine.specs.Format as F
use Rattle.writer.specs.Laws.{function_bytes, small_of}
use Rattle.writer.proofs.Writer.function.Goals as goal

pub returns : goal.returns
returns c = c.constant.ensures (F.function c.args.template) (small_of c.args.template c.in_ok-try_from.ensures.0) (function_bytes c.args.template _ c.to_be_bytes.result c.in_ok-try_from.ensures c.to_be_bytes.ensures)
