use Rattle.stacks.specs.Cuts.{cut_all, cut_none, cut_some}
use Rattle.stacks.proofs.Depths.cut_frames.Goals as goal

pub returns-then-n-m : goal.returns-then-n-m
returns-then-n-m c = cut_all c.args.self c.args.stacks.now c.requires c.args.m c.keep_frames.result c.if-n-m.true c.keep_frames.ensures

pub returns-then-m-eq0 : goal.returns-then-m-eq0
returns-then-m-eq0 c = cut_none c.args.self c.args.stacks.now c.requires c.args.m c.keep_frames-then-m-eq0.result c.if-n-m.false c.if-m-eq0.true c.keep_frames-then-m-eq0.ensures

pub returns : goal.returns
returns c = cut_some c.args.self c.args.stacks.now c.requires c.args.m c.read_frame-f.result c.keep_frames-2.result c.if-n-m.false c.if-m-eq0.false c.read_frame-f.ensures c.keep_frames-2.ensures
