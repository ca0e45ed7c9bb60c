use Rattle.stacks.specs.View.{Ready}
use Rattle.store_rows.proofs.stack_rows.operands.Given as goal

abbrev pub invariant-loop-i : goal.invariant-loop-i
invariant-loop-i l = Ready l.d l.stacks
