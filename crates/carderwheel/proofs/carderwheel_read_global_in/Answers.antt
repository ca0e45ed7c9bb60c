use Rattle.answers.specs.Flat.{read_told}
use Rattle.carderwheel.proofs.carderwheel_read_global_in.Goals as goal

pub returns : goal.returns
returns c = read_told c.read_global.result c.from.ensures c.read_global.ensures
