use native.Mathlib.Omega.{arith}
use Prim.Native.Nat.{◌*◌}
use Rattle.value.specs.Words.{value_of, holds_set, length_set_value}
use Rattle.quick.specs.Quickly.{pushes}
use Rattle.quick.proofs.push.Goals as goal

pub returns-clause-quickly : goal.returns-clause-quickly
returns-clause-quickly c =
    let t = rw c.in_ok-at.was at c.room.ensures in
    let e = rw t.1 at c.write.ensures in
    (pushes c.requires t.0 (rw e (holds_set c.args.stacks.now (3 * c.args.d.operands) c.args.v (omega (arith, c.requires.size, t.0)))) (rw e (length_set_value c.args.stacks.now (3 * c.args.d.operands) c.args.v)) c.with_operands.ensures).0

pub returns-clause-stays : goal.returns-clause-stays
returns-clause-stays c =
    let t = rw c.in_ok-at.was at c.room.ensures in
    let e = rw t.1 at c.write.ensures in
    (pushes {v = value_of c.args.v} c.requires t.0 (rw e (holds_set c.args.stacks.now (3 * c.args.d.operands) c.args.v (omega (arith, c.requires.size, t.0)))) (rw e (length_set_value c.args.stacks.now (3 * c.args.d.operands) c.args.v)) c.with_operands.ensures).1
