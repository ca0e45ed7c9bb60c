use Rattle.stacks.specs.Laws.{truncated}
use Rattle.stacks.proofs.Depths.truncate.Goals as goal

pub returns : goal.returns
returns c = rw c.with_operands.ensures (truncated c.args.self c.args.n c.saturating_sub.result c.saturating_sub.ensures)
