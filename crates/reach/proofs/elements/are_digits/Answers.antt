use Rattle.std.proofs.Common.{arith, eqb-true, ◌+◌}
use Rattle.reach.specs.Elements.{reading_all}
use Rattle.reach.proofs.elements.are_digits.Goals as goal

pub returns-then-m-lt10-2 : goal.returns-then-m-lt10-2
returns-then-m-lt10-2 c = λ q.
    let first = c.from-then-m-lt10-2 in
    reading_all c.loop-i.invariant (omega (arith, c.if-m-lt10-2.true)) (omega (arith, c.loop-i-test.false)) (omega (arith, first.ensures, eqb-true first.result (48 + c.loop-i.m) q))
