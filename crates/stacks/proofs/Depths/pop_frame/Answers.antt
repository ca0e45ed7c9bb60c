use Rattle.stacks.specs.Cuts.{left}
use Rattle.stacks.proofs.Depths.pop_frame.Goals as goal

pub returns : goal.returns
returns c = left c.args.self c.args.stacks.now c.requires c.saturating_sub-k.result c.pending_over.result c.cut_frames.result c.saturating_sub-k.ensures c.pending_over.ensures c.cut_frames.ensures
