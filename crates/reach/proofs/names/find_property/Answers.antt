use Rattle.reach.specs.Distinct.{guessed}
use Rattle.reach.specs.Names.{row_pair}
use Rattle.reach.proofs.names.find_property.Goals as goal

pub returns-then-row_is : goal.returns-then-row_is
returns-then-row_is c = guessed c.if-guess-count.true (row_pair c.args.guess (c.row_is.ensures c.if-row_is.true))
