use Rattle.stacks.specs.Cuts.{keep_none, keep_some}
use Rattle.stacks.proofs.Depths.keep_frames.Goals as goal

pub returns-then-k-eq0 : goal.returns-then-k-eq0
returns-then-k-eq0 c = keep_none c.args.self c.args.stacks.now c.requires.ready c.args.k c.args.p c.if-k-eq0.true

pub returns-else-k-eq0 : goal.returns-else-k-eq0
returns-else-k-eq0 c = keep_some c.args.self c.args.stacks.now c.requires.ready c.args.k c.args.p c.end_of-slots.result c.read_frame-f.result c.requires.k_le_frame_limit c.if-k-eq0.false c.read_frame-f.ensures c.end_of-slots.ensures
