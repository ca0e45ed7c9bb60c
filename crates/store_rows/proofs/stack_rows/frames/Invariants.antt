use Rattle.stacks.specs.View.{Ready}
use Rattle.store_rows.proofs.stack_rows.frames.Given as goal

abbrev pub invariant-loop : goal.invariant-loop
invariant-loop l = Ready l.d l.stacks
