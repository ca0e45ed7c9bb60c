use native.Mathlib.Omega.{arith}
use mathlib.Core.Path.{sym, ◌∙◌}
use Rattle.stacks.specs.Cuts.{drop_more, some_pending}
use Rattle.stacks.proofs.pending_over.Goals as goal

pub overflow_sub-m : goal.overflow_sub-m
overflow_sub-m c = omega (arith, some_pending c.args.stacks.now c.args.k c.loop-m.m (sym c.saved_more.ensures ∙ c.loop-m-test.true))

pub loop-m-smaller : goal.loop-m-smaller
loop-m-smaller c = omega (arith, some_pending c.args.stacks.now c.args.k c.loop-m.m (sym c.saved_more.ensures ∙ c.loop-m-test.true))

pub loop-m-preserved : goal.loop-m-preserved
loop-m-preserved c = drop_more c.args.stacks.now (sym c.saved_more.ensures ∙ c.loop-m-test.true) c.loop-m.invariant
