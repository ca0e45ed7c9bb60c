use native.Mathlib.Omega.{arith}
use Rattle.machine.specs.Program.{look}
use Rattle.machine.specs.Instruction as I
use Rattle.outcome.specs.Meets.{pop_fails, jumps}
use Rattle.stackops.specs.Control.{uncaught, caught, after_made, made_stops}
use Rattle.stackops.proofs.control.throw.Goals as goal

pub returns-in_default : goal.returns-in_default
returns-in_default c = pop_fails (λ v. look λ s. I.throw v s.handlers) c.pop.ensures c.in_default.is c.underflow.ensures

pub returns-in_default-checked_sub : goal.returns-in_default-checked_sub
returns-in_default-checked_sub c = uncaught c.pop.ensures c.in-Some.is (let t = rw c.in_default-checked_sub.is at c.checked_sub.ensures in omega (arith, t)) c.failed.ensures

pub returns-in-Ok : goal.returns-in-Ok
returns-in-Ok c =
    let t = rw c.in-Some-checked_sub.is at c.checked_sub.ensures in
    caught c.pop.ensures c.in-Some.is c.read_handler-h.result (λ z. omega (arith, t.0)) (rw t.1 at c.read_handler-h.ensures) c.unwind-u.ensures (after_made c.push.ensures c.in-Ok.is c.went.ensures (jumps c.with_ip.ensures c.went.ensures))

pub returns-in-Err : goal.returns-in-Err
returns-in-Err c =
    let t = rw c.in-Some-checked_sub.is at c.checked_sub.ensures in
    caught c.pop.ensures c.in-Some.is c.read_handler-h.result (λ z. omega (arith, t.0)) (rw t.1 at c.read_handler-h.ensures) c.unwind-u.ensures (made_stops c.push.ensures c.in-Err.is c.stopped.ensures)
