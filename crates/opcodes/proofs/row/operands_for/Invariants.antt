use Rattle.machine.specs.Opcodes.{attempt_for}
use Rattle.opcodes.specs.Rows.{Looking}
use Rattle.opcodes.proofs.row.operands_for.Given as goal

abbrev pub invariant-loop-m : goal.invariant-loop-m
invariant-loop-m l = Looking (λ k. (attempt_for l.op 0 2 k).number) 15 3 l.m
