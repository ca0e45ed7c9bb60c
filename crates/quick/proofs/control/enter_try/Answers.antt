use mathlib.Core.Path.{refl}
use Rattle.quick.specs.Quickly.{enters_try}
use Rattle.quick.proofs.control.enter_try.Goals as goal

pub returns-clause-quickly : goal.returns-clause-quickly
returns-clause-quickly c = (enters_try c.requires.ready c.requires.in_frame c.requires.operand c.if-h-ge-HANDLER_LIMIT.false refl refl).0
