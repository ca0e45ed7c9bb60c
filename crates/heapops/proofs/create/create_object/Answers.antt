use Rattle.heapops.specs.Makes.{object_made}
use Rattle.heapops.proofs.create.create_object.Goals as goal

pub returns : goal.returns
returns c = object_made c.args.c c.args.stacks.now c.args.heap.now c.add_object-added.new.heap c.grown.ensures c.add_object-added.ensures c.push_made.ensures
