use Rattle.answers.specs.Flat.{run_told}
use Rattle.carderwheel.proofs.carderwheel_run_in.Goals as goal

pub returns : goal.returns
returns c = run_told c.run-x.result c.ran.ensures c.run-x.ensures
