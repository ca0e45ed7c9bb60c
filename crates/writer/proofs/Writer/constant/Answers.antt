use Rattle.std.proofs.Common.{arith}
use Rattle.writer.specs.Laws.{constant_wrote}
use Rattle.writer.proofs.Writer.constant.Goals as goal

pub returns : goal.returns
returns c = λ k s e. constant_wrote c.args.self c.args.buffer.now _ _ _ _ c.args.head.now c.args.body.now k _ c.in_ok-count.count _ c.in_ok-takes.ensures (omega (arith, c.in_ok-count.ensures)) (omega (arith, c.in_ok-count.ensures)) c.from.ensures c.in_ok-size.ensures s e c.copy.ensures c.copy-2.ensures c.put_word.ensures c.put_word-2.ensures
