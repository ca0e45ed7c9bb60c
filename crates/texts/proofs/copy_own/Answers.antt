use native.Mathlib.Omega.{arith}
use Rattle.std.proofs.Common.{length-set}
use Rattle.texts.specs.Overwrite.{own_more, own_all}
use Rattle.texts.proofs.copy_own.Goals as goal

pub loop-i-preserved : goal.loop-i-preserved
loop-i-preserved c = (simp length-set c.loop-i.invariant.0, own_more c.args.text.now c.loop-i.text c.args.e c.args.part.start c.args.part.end c.loop-i.i (omega arith) (omega arith) (omega arith) (omega arith) c.loop-i.invariant.1)

pub returns : goal.returns
returns c = own_all c.args.text.now c.loop-i.text c.args.e c.args.part.start c.args.part.end c.loop-i.i (omega arith) (omega arith) (omega arith) (omega arith) c.loop-i.invariant.1
