use Rattle.convert.specs.Keys.{Reading}
use Rattle.convert.proofs.digits_key.Given as goal

abbrev pub invariant-loop-b : goal.invariant-loop-b
invariant-loop-b l = Reading l.s l.worth l.b-index
