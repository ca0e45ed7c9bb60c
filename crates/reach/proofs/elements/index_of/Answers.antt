use Rattle.std.proofs.Common.{arith}
use Rattle.reach.specs.Elements.{whole_index}
use Rattle.reach.proofs.elements.index_of.Goals as goal

pub returns-then-v-eq0 : goal.returns-then-v-eq0
returns-then-v-eq0 c = whole_index _ (omega arith) (omega arith)
