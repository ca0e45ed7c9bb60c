use Rattle.writer.specs.Laws.{code_wrote}
use Rattle.writer.proofs.Writer.code.Goals as goal

pub returns : goal.returns
returns c = code_wrote c.args.self c.args.buffer.now _ _ c.args.bytes.now _ _ _ c.in_ok-takes.ensures c.in_ok-count.ensures c.in_ok-size.ensures c.into.ensures c.put_word.ensures c.copy.ensures
