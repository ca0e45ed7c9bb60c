use native.Mathlib.Omega.{arith}
use Rattle.stacks.specs.Arguments.{copy_written}
use Rattle.stacks.proofs.copy_arguments.Goals as goal

pub loop-i-preserved : goal.loop-i-preserved
loop-i-preserved c = copy_written c.args.w.now c.loop-i.w c.write.new.w c.args.from c.args.to c.loop-i.i c.read-v.result (omega arith) (omega arith) c.loop-i.invariant c.read-v.ensures c.write.ensures
