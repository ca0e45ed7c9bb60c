use mathlib.Core.Path.{refl}
use Rattle.heap.specs.Laws.{cleared}
use Rattle.heap.proofs.clear.Goals as goal

pub returns : goal.returns
returns c = cleared c.args.heap.now _ _ c.requires refl c.write_row.ensures
