use mathlib.Core.List.{[]}
use Rattle.stacks.specs.Enters.{frames_full, frame_bare}
use Rattle.stacks.proofs.Depths.push_frame.Goals as goal

pub returns-then-self-ge-FRAME_LIMIT : goal.returns-then-self-ge-FRAME_LIMIT
returns-then-self-ge-FRAME_LIMIT c = frames_full c.args.self c.args.stacks.now c.requires c.args.image c.args.template [] c.if-self-ge-FRAME_LIMIT.true

pub returns : goal.returns
returns c = frame_bare c.args.self c.args.stacks.now c.add_frame.new.stacks c.add_frame.result c.args.image c.args.template c.add_frame.ensures
