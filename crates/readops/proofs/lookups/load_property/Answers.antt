use Rattle.readops.specs.Lookups.{property_short, loads_property}
use Rattle.readops.proofs.lookups.load_property.Goals as goal

pub returns-in_default-pop : goal.returns-in_default-pop
returns-in_default-pop c = property_short c.fetch_word.ensures c.requires.runs c.in-Some.is c.pop.ensures c.in_default-pop.is c.underflow.ensures

pub returns : goal.returns
returns c = loads_property c.fetch_word.ensures c.requires.runs c.in-Some.is c.name-key.ensures c.bytes_of.ensures c.get_property-v.result c.pop.ensures c.in-Some-pop.is c.get_property-v.ensures.bytes c.push_value.ensures
