use Rattle.heap.specs.Finds.{stores, global_at, global_none}
use Rattle.heap.proofs.rows.global.Goals as goal

pub returns-in-Some : goal.returns-in-Some
returns-in-Some c = λ k. global_at (stores k c.args.text.now) c.args.heap.now c.args.name.now c.args.count _ c.find_global.ensures _ _ c.in-Some.is c.read.ensures

pub returns-in-None : goal.returns-in-None
returns-in-None c = λ k. global_none (stores k c.args.text.now) c.args.heap.now c.args.name.now c.args.count _ c.find_global.ensures c.in-None.is
