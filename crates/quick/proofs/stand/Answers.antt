use Rattle.quick.specs.Stays.{stands_here}
use native.Mathlib.Omega.{arith}
use Rattle.quick.proofs.stand.Goals as goal

pub returns : goal.returns
returns c =
    let t = rw c.in_ok-newest.was at c.checked_sub.ensures in
    let u = rw c.in_ok-count.was at c.checked_sub-2.ensures in
    stands_here c.args.d c.read_frame-f.result (λ z. omega (arith, t.0)) (rw t.1 at c.read_frame-f.ensures) c.if-f-x.false c.if-f-x-2.false u.0 u.1 c.if-f-count.false c.saturating_sub.ensures
