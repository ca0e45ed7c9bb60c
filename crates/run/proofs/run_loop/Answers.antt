use native.Mathlib.Omega.{arith}
use mathlib.Core.Path.{◌∙◌}
use Rattle.run.specs.Advances.{after_went, after_ended, after_refused, over_stops, over_ran}
use Rattle.run.proofs.run_loop.Goals as goal

pub loop-steps-preserved : goal.loop-steps-preserved
loop-steps-preserved c = (after_went c.advance-p.ensures c.loop-steps.invariant.0 c.in-Went.is, c.advance-p.ensures.known, c.advance-p.ensures.to, c.advance-p.ensures.code ∙ c.loop-steps.invariant.3, c.advance-p.ensures.images ∙ c.loop-steps.invariant.4, c.advance-p.auto.stacks ∙ c.loop-steps.invariant.5, c.advance-p.auto.heap ∙ c.loop-steps.invariant.6, c.advance-p.auto.text ∙ c.loop-steps.invariant.7, c.advance-p.auto.output ∙ c.loop-steps.invariant.8)

pub returns-in-Ended-clause-ran : goal.returns-in-Ended-clause-ran
returns-in-Ended-clause-ran c = (over_ran c.args.c (after_ended c.advance-p.ensures c.loop-steps.invariant.0 c.in-Ended.is c.ended_by.ensures) c.ran_to.ensures (c.advance-p.ensures.code ∙ c.loop-steps.invariant.3) (c.advance-p.ensures.images ∙ c.loop-steps.invariant.4)).0

pub returns-in-Ended-clause-leaves : goal.returns-in-Ended-clause-leaves
returns-in-Ended-clause-leaves c = (over_ran c.args.c (after_ended c.advance-p.ensures c.loop-steps.invariant.0 c.in-Ended.is c.ended_by.ensures) c.ran_to.ensures (c.advance-p.ensures.code ∙ c.loop-steps.invariant.3) (c.advance-p.ensures.images ∙ c.loop-steps.invariant.4)).1

pub returns-in-Refused-clause-ran : goal.returns-in-Refused-clause-ran
returns-in-Refused-clause-ran c = (over_ran c.args.c (after_refused c.advance-p.ensures c.loop-steps.invariant.0 c.in-Refused.is) c.ran_to-in-Refused.ensures (c.advance-p.ensures.code ∙ c.loop-steps.invariant.3) (c.advance-p.ensures.images ∙ c.loop-steps.invariant.4)).0

pub returns-in-Refused-clause-leaves : goal.returns-in-Refused-clause-leaves
returns-in-Refused-clause-leaves c = (over_ran c.args.c (after_refused c.advance-p.ensures c.loop-steps.invariant.0 c.in-Refused.is) c.ran_to-in-Refused.ensures (c.advance-p.ensures.code ∙ c.loop-steps.invariant.3) (c.advance-p.ensures.images ∙ c.loop-steps.invariant.4)).1

pub returns-clause-ran : goal.returns-clause-ran
returns-clause-ran c = (over_ran c.args.c (over_stops c.loop-steps.invariant.0 (omega (arith, c.loop-steps.invariant.2, c.loop-steps-test.false))) c.ran_to-2.ensures c.loop-steps.invariant.3 c.loop-steps.invariant.4).0
