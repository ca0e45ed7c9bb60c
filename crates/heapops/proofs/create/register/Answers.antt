use Rattle.heapops.specs.Makes.{registered}
use Rattle.heapops.proofs.create.register.Goals as goal

pub returns : goal.returns
returns c = registered c.args.c c.args.stacks.now c.args.heap.now c.add_function-added.new.heap c.grown.ensures c.add_function-added.ensures c.push_made.ensures
