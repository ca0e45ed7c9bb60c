use Rattle.number.specs.Parse.{Underway}
use Rattle.number.proofs.parse.digits.Given as goal

abbrev pub invariant-loop-k : goal.invariant-loop-k
invariant-loop-k l = Underway l.s l.minus l.n l.worth l.k
