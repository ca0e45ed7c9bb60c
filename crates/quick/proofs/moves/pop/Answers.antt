use Rattle.quick.specs.Quickly.{drops, went_as}
use Rattle.quick.proofs.moves.pop.Goals as goal

pub returns-clause-quickly : goal.returns-clause-quickly
returns-clause-quickly c = λ w r. went_as c.with_operands.ensures (drops r c.if-c-eq0.false)
