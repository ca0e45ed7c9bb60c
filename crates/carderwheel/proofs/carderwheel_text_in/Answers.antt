use mathlib.Core.Path.{sym}
use Rattle.answers.specs.Flat.{text_told}
use Rattle.carderwheel.proofs.carderwheel_text_in.Goals as goal

pub returns-clause-tells : goal.returns-clause-tells
returns-clause-tells c = rw (sym c.from.ensures) ((text_told c.text_of-x.result c.wrote.ensures (c.text_of-x.ensures.called, c.text_of-x.ensures.buffered)).0)

pub returns-clause-buffered : goal.returns-clause-buffered
returns-clause-buffered c = (text_told c.text_of-x.result c.wrote.ensures (c.text_of-x.ensures.called, c.text_of-x.ensures.buffered)).1
