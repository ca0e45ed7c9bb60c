use mathlib.Core.Path.{refl}
use Rattle.stackops.specs.Control.{leaves}
use Rattle.stacks.specs.Laws.{one_handler}
use Rattle.quick.specs.Quickly.{goes}
use Rattle.quick.proofs.control.leave_try.Goals as goal

pub returns-clause-quickly : goal.returns-clause-quickly
returns-clause-quickly c = let o = one_handler c.args.d c.if-h-eq0.false in λ w r. goes (leaves o refl) (o.ready w r)
