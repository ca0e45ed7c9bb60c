use Rattle.stacks.specs.Enters.{frame_added}
use Rattle.stacks.proofs.Depths.add_frame.Goals as goal

pub returns : goal.returns
returns c = frame_added c.args.self c.args.stacks.now c.requires.ready c.args.image c.args.template c.args.count c.save_ip.new.stacks c.write_frame.new.w c.requires.frames_lt_frame_limit.0 c.requires.frames_lt_frame_limit.1 c.save_ip.ensures c.save_ip.auto.stacks c.write_frame.ensures
