use Rattle.reach.specs.Elements.{Reading}
use Rattle.reach.proofs.elements.are_digits.Given as goal

abbrev pub invariant-loop-i : goal.invariant-loop-i
invariant-loop-i l = Reading l.s l.n l.i l.m
