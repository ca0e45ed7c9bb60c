use native.Mathlib.Omega.{arith}
use mathlib.Core.Path.{◌∙◌}
use Rattle.run.specs.Speed.{stride_quick, stride_left, stride_reach, stride_stops}
use Rattle.run.proofs.speed.stride.Goals as goal

pub loop-k-preserved-in-Some : goal.loop-k-preserved-in-Some
loop-k-preserved-in-Some c = (stride_quick c.loop-k.invariant.0 c.step.ensures.quick_step c.step.ensures.stays c.in-Some.is c.stay-e.ensures c.loop-k-test.true, omega (arith, c.loop-k-test.true), c.step.auto.stacks ∙ c.loop-k.invariant.2, c.loop-k.invariant.3)

pub returns-in_default : goal.returns-in_default
returns-in_default c = rw c.strode_to.ensures (stride_stops (stride_left c.loop-k.invariant.0 c.step.ensures.quick_step c.step.ensures.stays c.in-None.is) c.step-in-None.result c.with_depths-b.ensures c.step-in-None.ensures.reaches c.step-in-None.ensures.stays c.in_default.is)

pub loop-k-preserved : goal.loop-k-preserved
loop-k-preserved c = (stride_reach (stride_left c.loop-k.invariant.0 c.step.ensures.quick_step c.step.ensures.stays c.in-None.is) c.step-in-None.result c.with_depths-b.ensures c.step-in-None.ensures.reaches c.step-in-None.ensures.stays c.in-Some-step.is c.stay-e-in-None.ensures c.step-in-None.auto.heap c.loop-k-test.true, omega (arith, c.loop-k-test.true), c.step-in-None.auto.stacks ∙ c.step.auto.stacks ∙ c.loop-k.invariant.2, c.step-in-None.auto.heap ∙ c.loop-k.invariant.3)
