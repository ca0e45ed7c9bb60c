use Rattle.machine.specs.Instruction.{joined}
use Rattle.number.specs.Layout.{Wrote}
use Rattle.texts.specs.Lines.{values_at}
use Rattle.texts.proofs.output.write_line.Given as goal

abbrev pub invariant-loop-i : goal.invariant-loop-i
invariant-loop-i l = Wrote (joined l.texts (values_at l.stacks l.from l.i)) l.initial.dest l.start l.dest l.at
