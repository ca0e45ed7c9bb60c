use Rattle.std.proofs.Common.{arith}
use Rattle.reach.specs.Elements.{is_below}
use Rattle.reach.proofs.elements.below_length.Goals as goal

pub returns-then-e-length_floor : goal.returns-then-e-length_floor
returns-then-e-length_floor c = is_below c.read.result c.in_ok-e.ensures c.in_ok-p.ensures c.read.ensures c.length_floor.ensures (omega (arith, c.if-e-length_floor.true))
