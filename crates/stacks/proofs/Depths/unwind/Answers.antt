use Rattle.stacks.specs.Cuts.{unwound}
use Rattle.stacks.proofs.Depths.unwind.Goals as goal

pub returns : goal.returns
returns c = unwound c.args.self c.args.stacks.now c.requires.ready c.args.h c.min.result c.cut_frames.result c.requires.pending c.requires.newest c.min.ensures c.cut_frames.ensures
