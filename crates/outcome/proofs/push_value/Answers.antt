use Rattle.outcome.specs.Meets.{settles}
use Rattle.outcome.proofs.push_value.Goals as goal

pub returns : goal.returns
returns c = settles c.push.ensures c.settle.ensures
