use Rattle.heap.specs.Finds.{stores, property_at, property_none}
use Rattle.heap.proofs.rows.property.Goals as goal

pub returns-in-Some : goal.returns-in-Some
returns-in-Some c = λ k. property_at (stores k c.args.text.now) c.args.heap.now c.args.owner c.args.key.now c.args.count _ c.find_property.ensures _ _ c.in-Some.is c.read.ensures

pub returns-in-None : goal.returns-in-None
returns-in-None c = λ k. property_none (stores k c.args.text.now) c.args.heap.now c.args.owner c.args.key.now c.args.count _ c.find_property.ensures c.in-None.is
