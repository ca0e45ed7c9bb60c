use Rattle.answers.specs.Flat.{drain_told}
use Rattle.carderwheel.proofs.carderwheel_drain_in.Goals as goal

pub returns-clause-tells : goal.returns-clause-tells
returns-clause-tells c = (drain_told c.drain-x.result c.answered.ensures (c.drain-x.ensures.called, c.drain-x.ensures.buffered)).0

pub returns-clause-buffered : goal.returns-clause-buffered
returns-clause-buffered c = (drain_told c.drain-x.result c.answered.ensures (c.drain-x.ensures.called, c.drain-x.ensures.buffered)).1
