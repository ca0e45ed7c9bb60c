use Rattle.arrays.specs.Sets.{settles_text}
use Rattle.arrays.proofs.settled.Goals as goal

pub returns-in-Text : goal.returns-in-Text
returns-in-Text c = settles_text c.args.m c.args.key _ _ c.locate-part.result c.in-Text.is c.locate-part.ensures
