use mathlib.Core.Path.{refl}
use Rattle.dispatch.specs.Dispatch.{step_none, step_out, step_go, to_coded}
use Rattle.dispatch.proofs.step.Goals as goal

pub returns-then-d-eq0 : goal.returns-then-d-eq0
returns-then-d-eq0 c = step_none c.if-d-eq0.true c.halt.ensures

pub returns-in_default : goal.returns-in_default
returns-in_default c = step_out to_coded (c.requires.runs c.if-d-eq0.false) c.fetch.ensures c.in_default.is c.pop_frame.ensures c.went.ensures

pub returns : goal.returns
returns c = step_go to_coded (c.requires.runs c.if-d-eq0.false) c.fetch.ensures c.in-Some.is refl c.execute.ensures
