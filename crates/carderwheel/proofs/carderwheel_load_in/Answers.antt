use Rattle.answers.specs.Flat.{numbered_told}
use Rattle.carderwheel.proofs.carderwheel_load_in.Goals as goal

pub returns : goal.returns
returns c = numbered_told c.load-x.result c.answered.ensures c.load-x.ensures
