use Rattle.value.specs.Words.{value_of}
use Rattle.heapops.specs.Makes.{joined}
use Rattle.heapops.proofs.joining.join.Goals as goal

pub returns : goal.returns
returns c = joined (value_of c.args.a) (value_of c.args.b) c.requires.text_le_text_limit.1 c.keep_joined-k.ensures c.push_text.ensures
