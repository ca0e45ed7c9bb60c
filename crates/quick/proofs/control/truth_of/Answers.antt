use mathlib.Core.Path.{refl}
use Rattle.quick.specs.Senses.{sensed, zero_truth, number_truth_lem}
use Rattle.quick.proofs.control.truth_of.Goals as goal

pub returns-in-Boolean : goal.returns-in-Boolean
returns-in-Boolean c = sensed c.requires c.if-c-eq0.false c.read.ensures c.in-Boolean.is (λ m. refl)

pub returns-then-k : goal.returns-then-k
returns-then-k c = sensed c.requires c.if-c-eq0.false c.read.ensures c.in-Number.is (λ m. number_truth_lem m _ c.if-k.true)

pub returns-else-k : goal.returns-else-k
returns-else-k c = sensed c.requires c.if-c-eq0.false c.read.ensures c.in-Number.is (λ m. zero_truth m _ c.if-k.false)
