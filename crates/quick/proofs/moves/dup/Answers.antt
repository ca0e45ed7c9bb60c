use Rattle.quick.specs.Quickly.{after_top}
use Rattle.quick.proofs.moves.dup.Goals as goal

pub returns-clause-quickly : goal.returns-clause-quickly
returns-clause-quickly c = after_top c.requires c.if-c-eq0.false c.push_copy.ensures.quickly
