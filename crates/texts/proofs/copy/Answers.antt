use native.Mathlib.Omega.{arith}
use Rattle.std.proofs.Common.{length-set}
use Rattle.texts.specs.Overwrite.{copy_more, copy_all}
use Rattle.texts.proofs.copy.Goals as goal

pub loop-i-preserved : goal.loop-i-preserved
loop-i-preserved c = (simp length-set c.loop-i.invariant.0, copy_more c.args.dest.now c.loop-i.dest c.args.bytes.now c.args.at c.loop-i.i (omega arith) (omega arith) c.loop-i.invariant.1)

pub returns : goal.returns
returns c = copy_all c.args.dest.now c.loop-i.dest c.args.bytes.now c.args.at c.loop-i.i (omega arith) c.loop-i.invariant.1
