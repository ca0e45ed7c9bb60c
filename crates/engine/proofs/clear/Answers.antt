use Rattle.heapops.specs.Turns.{mem}
use Rattle.finish.specs.Parts.{tables}
use Rattle.engine.specs.Clears.{clear_done}
use Rattle.engine.proofs.clear.Goals as goal

pub returns : goal.returns
returns c = clear_done (tables c.args.code.now c.args.places.now c.args.rows.now c.args.starts.now) (mem c.args.stacks.now c.args.heap.now c.args.text.now c.args.output.now) c.in_ok-sizes.ensures c.clear.ensures c.fresh.ensures
