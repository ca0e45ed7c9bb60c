use Rattle.stacks.specs.View.{Copies}
use Rattle.stacks.proofs.copy_arguments.Given as goal

abbrev pub invariant-loop-i : goal.invariant-loop-i
invariant-loop-i l = Copies l.initial.w l.w l.from l.to l.i
