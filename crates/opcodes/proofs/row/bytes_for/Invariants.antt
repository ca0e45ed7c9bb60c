use Rattle.machine.specs.Opcodes.{attempt_for}
use Rattle.opcodes.specs.Rows.{Looking}
use Rattle.opcodes.proofs.row.bytes_for.Given as goal

abbrev pub invariant-loop-n : goal.invariant-loop-n
invariant-loop-n l = Looking (λ k. (attempt_for l.op 0 k 4).number) 14 2 l.n
