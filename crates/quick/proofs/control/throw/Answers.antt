use mathlib.Core.Path.{refl}
use Rattle.quick.specs.Quickly.{throws_here}
use Rattle.quick.proofs.control.throw.Goals as goal

pub returns-clause-quickly : goal.returns-clause-quickly
returns-clause-quickly c = (throws_here c.requires.ready c.requires.in_frame c.read_handler-h.result c.if-c-eq0.false c.if-k-eq0.false c.read_handler-h.ensures c.if-h-d.false c.min-m.ensures c.copy.ensures c.copy.auto.w refl).0
