use Rattle.quick.specs.Quickly.{pushes}
use Rattle.quick.proofs.push_copy.Goals as goal

pub returns-clause-quickly : goal.returns-clause-quickly
returns-clause-quickly c =
    let t = rw c.in_ok-at.was at c.room.ensures in
    (pushes c.requires.ready t.0 (rw t.1 at c.copy.ensures) c.copy.auto.w c.with_operands.ensures).0
