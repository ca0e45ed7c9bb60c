use Rattle.stacks.specs.View.{Filled}
use Rattle.stacks.proofs.fill.Given as goal

abbrev pub invariant-loop-i : goal.invariant-loop-i
invariant-loop-i l = Filled l.initial.w l.w l.from l.i
