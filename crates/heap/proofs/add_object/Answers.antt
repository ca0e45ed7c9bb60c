use Rattle.heap.specs.Laws.{object_full, object_went}
use Rattle.heap.proofs.add_object.Goals as goal

pub returns-then-z-ge-OBJECT_LIMIT : goal.returns-then-z-ge-OBJECT_LIMIT
returns-then-z-ge-OBJECT_LIMIT c = object_full c.args.z c.args.heap.now c.requires c.if-z-ge-OBJECT_LIMIT.true

pub returns : goal.returns
returns c = object_went c.args.z c.args.heap.now c.requires _ _ c.if-z-ge-OBJECT_LIMIT.false c.add_kind.ensures
