use native.Mathlib.Omega.{arith}
use Rattle.stacks.specs.Slots.{fill_more}
use Rattle.stacks.proofs.fill.Goals as goal

pub loop-i-preserved : goal.loop-i-preserved
loop-i-preserved c = fill_more c.args.w.now c.loop-i.w c.write.new.w c.args.from c.loop-i.i c.loop-i.auto.i (omega arith) c.loop-i.invariant c.write.ensures
