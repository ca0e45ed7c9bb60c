use Rattle.heapops.specs.Stores.{index_empty, index_short, index_stored}
use Rattle.heapops.proofs.stores.store_index.Goals as goal

pub returns-in_default : goal.returns-in_default
returns-in_default c = index_empty c.args.code.now c.pop.ensures c.in_default.is c.with_operands.ensures c.failed.ensures

pub returns-in_default-pop_two : goal.returns-in_default-pop_two
returns-in_default-pop_two c = index_short c.args.code.now c.pop.ensures c.in-Some.is c.pop_two.ensures c.in_default-pop_two.is c.with_operands-in_default-pop_two.ensures c.failed-in_default-pop_two.ensures

pub returns : goal.returns
returns c = index_stored c.args.code.now c.pop.ensures c.in-Some.is c.pop_two.ensures c.in-Some-pop_two.is c.to_js_string-key.ensures c.set_property-r.ensures c.settle_placed.ensures
