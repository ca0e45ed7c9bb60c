use Rattle.writer.specs.Laws.{begins}
use Rattle.writer.proofs.Writer.begin.Goals as goal

pub returns : goal.returns
returns c = λ w. begins w c.args.buffer.now _ _ _ _ _ c.if-buffer-lt2.false c.put_word.ensures c.into.ensures c.default.ensures.1.1.0 c.default.ensures.1.1.1.0 c.default.ensures.1.1.1.1
