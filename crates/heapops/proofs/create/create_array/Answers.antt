use Rattle.machine.specs.Instruction.{create_array}
use Rattle.heapops.specs.Makes.{array_made}
use Rattle.heapops.specs.Follows.{fetch_fails}
use Rattle.heapops.proofs.create.create_array.Goals as goal

pub returns-in_default : goal.returns-in_default
returns-in_default c = λ o. fetch_fails c.fetch.ensures create_array (λ s h. h) c.requires.runs c.in_default.is c.past_end.ensures c.failed.ensures

pub returns : goal.returns
returns c = array_made c.args.x c.args.c c.args.code.now c.args.stacks.now c.args.heap.now c.add_array-added.new.heap c.args.text.now c.add_array-added.new.text c.fetch.ensures c.requires.runs c.in-Some.is c.saturating_sub-from.ensures c.min-given.ensures c.add_array-added.ensures c.truncate.ensures c.placed.ensures c.push_made.ensures
