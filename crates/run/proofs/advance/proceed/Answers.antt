use Rattle.std.proofs.Common.{inl, inr}
use Rattle.run.specs.Runs.{whole_ready, whole_code, whole_sized, whole_text, whole_output}
use Rattle.run.specs.Advances.{sped_whole, advances_went, advances_ended, advances_refused}
use Rattle.run.proofs.advance.proceed.Goals as goal

pub speed-q-requires-clause-ready : goal.speed-q-requires-clause-ready
speed-q-requires-clause-ready c = whole_ready c.requires.whole

pub speed-q-requires-clause-code_in_bounds : goal.speed-q-requires-clause-code_in_bounds
speed-q-requires-clause-code_in_bounds c = whole_code c.requires.whole

pub speed-q-requires-clause-sized : goal.speed-q-requires-clause-sized
speed-q-requires-clause-sized c = whole_sized c.requires.whole

pub speed-q-requires-clause-text_le_text_limit : goal.speed-q-requires-clause-text_le_text_limit
speed-q-requires-clause-text_le_text_limit c = whole_text c.requires.whole

pub turn-t-requires-clause-code_in_bounds : goal.turn-t-requires-clause-code_in_bounds
turn-t-requires-clause-code_in_bounds c = whole_code (sped_whole c.speed-q.ensures c.requires.whole)

pub returns-in-Went : goal.returns-in-Went
returns-in-Went c = rw c.came.ensures (elim c.in-Went.is [
  | inl e ↦ advances_went c.speed-q.ensures c.current-x.ensures.known c.turn-t.ensures c.turn-t.auto.stacks c.turn-t.auto.heap c.turn-t.auto.text c.turn-t.auto.output e
  | inr (a, e) ↦ advances_ended c.speed-q.ensures c.current-x.ensures.known c.turn-t.ensures c.turn-t.auto.stacks c.turn-t.auto.heap c.turn-t.auto.text c.turn-t.auto.output e
])

pub returns-in-Refused : goal.returns-in-Refused
returns-in-Refused c = rw c.came-in-Refused.ensures (advances_refused c.speed-q.ensures c.current-x.ensures.known c.turn-t.ensures c.turn-t.auto.stacks c.turn-t.auto.heap c.turn-t.auto.text c.turn-t.auto.output c.in-Refused.is)

pub turn-t-requires-clause-output_le_output_limit : goal.turn-t-requires-clause-output_le_output_limit
turn-t-requires-clause-output_le_output_limit c = whole_output (sped_whole c.speed-q.ensures c.requires.whole)
