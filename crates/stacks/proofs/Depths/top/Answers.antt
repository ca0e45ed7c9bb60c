use Rattle.stacks.specs.Laws.{top_some, top_none}
use Rattle.stacks.proofs.Depths.top.Goals as goal

pub returns-then-n-eq0 : goal.returns-then-n-eq0
returns-then-n-eq0 c = top_none c.args.self c.args.stacks.now c.requires c.if-n-eq0.true

pub returns : goal.returns
returns c = top_some c.args.self c.args.stacks.now c.requires c.read.result c.if-n-eq0.false c.read.ensures
