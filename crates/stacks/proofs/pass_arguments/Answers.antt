use native.Mathlib.Omega.{arith}
use Rattle.stacks.specs.Arguments.{passes}
use Rattle.stacks.proofs.pass_arguments.Goals as goal

pub returns : goal.returns
returns c = passes c.args.w.now c.copy_arguments.new.w c.fill.new.w c.args.from c.args.argc c.args.n c.args.params c.args.locals c.min-m.result c.min-m.ensures (omega arith) c.copy_arguments.ensures (rw c.max.ensures at c.fill.ensures)
