use Rattle.stacks.specs.Cuts.{none_saved, newest_saved}
use Rattle.stacks.proofs.saved_more.Goals as goal

pub returns-then-n-eq0 : goal.returns-then-n-eq0
returns-then-n-eq0 c = none_saved c.args.stacks.now c.args.k c.args.n c.if-n-eq0.true

pub returns : goal.returns
returns c = newest_saved c.args.stacks.now c.args.k c.args.n c.if-n-eq0.false
