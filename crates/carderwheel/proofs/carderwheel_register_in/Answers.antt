use Rattle.answers.specs.Flat.{numbered_told}
use Rattle.carderwheel.proofs.carderwheel_register_in.Goals as goal

pub returns : goal.returns
returns c = numbered_told c.register-x.result c.answered.ensures c.register-x.ensures
