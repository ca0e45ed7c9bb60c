use Rattle.std.proofs.Common.{arith}
use Rattle.arrays.specs.Keys.{sum_more, sum_all}
use Rattle.arrays.proofs.keys_size.Goals as goal

pub loop-i-preserved : goal.loop-i-preserved
loop-i-preserved c = (omega arith, sum_more c.loop-i.i c.args.count c.loop-i.sum c.key_size-sum.result _ (omega arith) c.key_size-sum.ensures.0 c.loop-i.invariant.1)

pub returns : goal.returns
returns c = sum_all c.loop-i.i c.args.count c.loop-i.sum _ (omega arith) c.loop-i.invariant.1
