use Rattle.number.specs.Layout.{Underway}
use Rattle.number.proofs.format.Digits.write.Given as goal

abbrev pub invariant-loop-i : goal.invariant-loop-i
invariant-loop-i l = Underway l.fn.self.count l.initial.worth l.initial.out l.at l.out l.i l.worth
