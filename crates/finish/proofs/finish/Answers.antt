use Rattle.finish.specs.Laws.{finish_more}
use Rattle.finish.proofs.finish.Goals as goal

pub returns-in-More : goal.returns-in-More
returns-in-More c = finish_more c.in-More.is (rw c.with_depths-e.ensures at c.execute_more-t.ensures) c.steady.ensures
