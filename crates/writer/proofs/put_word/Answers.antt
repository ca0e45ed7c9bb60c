use Rattle.std.proofs.Common.{arith}
use Rattle.writer.specs.Laws.{word_put}
use Rattle.writer.proofs.put_word.Goals as goal

pub returns : goal.returns
returns c = word_put c.args.buffer.now c.to_be_bytes.result c.args.at c.args.n c.requires (omega arith) c.to_be_bytes.ensures
