use Rattle.readops.specs.Lookups.{index_short, loads_index}
use Rattle.readops.proofs.lookups.load_index.Goals as goal

pub returns-in_default : goal.returns-in_default
returns-in_default c = index_short c.pop_two.ensures c.in_default.is c.underflow.ensures

pub returns : goal.returns
returns c = loads_index c.pop_two.ensures c.get_property-v.result c.in-Some.is c.to_js_string-key.ensures c.bytes_of.ensures c.get_property-v.ensures.bytes c.push_value.ensures
