use Rattle.number.specs.Division.{aligned}
use Rattle.number.proofs.wide.quotient.Goals as goal

pub digit-below-requires : goal.digit-below-requires
digit-below-requires c = aligned c.args.a c.args.b c.requires c.ranges.b.fits
