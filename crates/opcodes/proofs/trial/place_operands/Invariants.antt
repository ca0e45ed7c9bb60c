use Rattle.opcodes.specs.Trials.{Objects}
use Rattle.opcodes.proofs.trial.place_operands.Given as goal

abbrev pub invariant-loop-i : goal.invariant-loop-i
invariant-loop-i l = Objects l.initial.stacks l.stacks l.i
