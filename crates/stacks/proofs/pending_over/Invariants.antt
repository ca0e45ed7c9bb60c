use Rattle.stacks.specs.Cuts.{Dropping}
use Rattle.stacks.proofs.pending_over.Given as goal

abbrev pub invariant-loop-m : goal.invariant-loop-m
invariant-loop-m l = Dropping l.stacks l.n l.k l.m

abbrev pub decreases-loop-m : goal.decreases-loop-m
decreases-loop-m l = l.m
