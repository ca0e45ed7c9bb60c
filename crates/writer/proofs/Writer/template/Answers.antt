use Rattle.std.proofs.Common.{arith}
use Rattle.writer.specs.Laws.{template_wrote}
use Rattle.writer.proofs.Writer.template.Goals as goal

pub returns : goal.returns
returns c = template_wrote c.args.self c.args.buffer.now _ _ _ _ _ _ _ _ _ _ _ c.in_ok-count.count _ c.in_ok-underway.ensures (omega (arith, c.in_ok-count.ensures)) (omega (arith, c.in_ok-count.ensures)) c.from.ensures c.in_ok-parameters.ensures c.in_ok-locals.ensures c.in_ok-size.ensures c.into.ensures c.put_word.ensures c.put_word-2.ensures c.put_word-3.ensures c.put_word-4.ensures c.put_word-5.ensures
