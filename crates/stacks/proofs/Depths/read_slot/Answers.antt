use mathlib.Core.Path.{◌∙◌}
use Rattle.stacks.specs.Places.{spot_read}
use Rattle.stacks.proofs.Depths.read_slot.Goals as goal

pub returns : goal.returns
returns c = c.read.ensures ∙ spot_read c.requires c.in-Some.ensures.place
