use Rattle.stacks.specs.Enters.{save_none, save_some}
use Rattle.stacks.proofs.Depths.save_ip.Goals as goal

pub returns-then-k-eq0 : goal.returns-then-k-eq0
returns-then-k-eq0 c = save_none c.args.self c.args.stacks.now c.if-k-eq0.true

pub returns : goal.returns
returns c = save_some c.args.self c.args.stacks.now c.requires c.if-k-eq0.false
