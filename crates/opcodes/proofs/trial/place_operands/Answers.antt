use native.Mathlib.Omega.{arith}
use Rattle.opcodes.specs.Trials.{objects_more}
use Rattle.opcodes.proofs.trial.place_operands.Goals as goal

pub loop-i-preserved : goal.loop-i-preserved
loop-i-preserved c = objects_more c.args.stacks.now c.loop-i.stacks c.write.new.w c.loop-i.i (omega arith) c.loop-i.invariant c.write.ensures
