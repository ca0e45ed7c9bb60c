use Rattle.reach.specs.Reaches.{call_lifts, any_lifts}
use Rattle.reach.specs.Leaps.{leap_lifts, join_lifts}
use Rattle.reach.proofs.leaps.execute.Goals as goal

pub returns-in-10 : goal.returns-in-10
returns-in-10 c = rw c.in-10.is (λ places o. join_lifts (c.join.ensures c.args.heap.now o))

pub returns-in-50 : goal.returns-in-50
returns-in-50 c = rw c.in-50.is (λ places o. leap_lifts c.requires.text_le_text_limit.0 c.with_count.ensures (call_lifts (c.call.ensures places) o))

pub returns-in-51 : goal.returns-in-51
returns-in-51 c = rw c.in-51.is (λ places o. leap_lifts c.requires.text_le_text_limit.0 c.with_count-in-51.ensures (any_lifts c.return_value.ensures o))

pub returns-in-74 : goal.returns-in-74
returns-in-74 c = rw c.in-74.is (λ places o. leap_lifts c.requires.text_le_text_limit.0 c.with_count-in-74.ensures (any_lifts c.throw_far.ensures o))
