use mathlib.Core.Path.{sym}
use Rattle.answers.specs.Flat.{changed_told}
use Rattle.carderwheel.proofs.carderwheel_set_global_in.Goals as goal

pub returns : goal.returns
returns c = rw (sym c.from-given.ensures) (changed_told c.set_global-x.result c.changed.ensures c.set_global-x.ensures)
