use Rattle.readops.specs.Lookups.{loads_global}
use Rattle.readops.proofs.lookups.load_global.Goals as goal

pub returns : goal.returns
returns c = loads_global c.fetch_word.ensures c.requires.runs c.in-Some.is c.name-key.ensures c.bytes_of.ensures c.global-v.result c.global-v.ensures c.push_value.ensures
