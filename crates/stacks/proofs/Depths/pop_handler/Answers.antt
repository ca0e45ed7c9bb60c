use Rattle.stacks.specs.Laws.{handler_off}
use Rattle.stacks.proofs.Depths.pop_handler.Goals as goal

pub returns : goal.returns
returns c = handler_off c.args.self c.saturating_sub.result c.saturating_sub.ensures
