use native.Mathlib.Omega.{arith}
use Rattle.stacks.specs.Enters.{frames_full, slots_full}
use Rattle.stacks.specs.Arguments.{length_called, frame_called}
use Rattle.stacks.specs.View.{called}
use Prim.Native.Nat.{◌+◌}
use Rattle.stacks.proofs.Depths.call_frame.Goals as goal

pub returns-then-self-ge-FRAME_LIMIT : goal.returns-then-self-ge-FRAME_LIMIT
returns-then-self-ge-FRAME_LIMIT c = frames_full c.args.self c.args.stacks.now c.requires.ready c.args.image c.args.template (called c.args.stacks.now (c.args.self.operands + 1) c.args.argc c.args.params c.args.locals) c.if-self-ge-FRAME_LIMIT.true

pub returns-then-n-count : goal.returns-then-n-count
returns-then-n-count c = let e = length_called c.args.stacks.now (c.args.self.operands + 1) c.args.argc c.args.params c.args.locals in slots_full c.args.self c.args.stacks.now c.requires.ready c.args.image c.args.template (called c.args.stacks.now (c.args.self.operands + 1) c.args.argc c.args.params c.args.locals) c.if-self-ge-FRAME_LIMIT.false (omega (arith, c.if-n-count.true, c.max-count.ensures))

pub returns : goal.returns
returns c = frame_called c.args.self c.args.stacks.now c.pass_arguments.new.w c.add_frame.new.stacks c.add_frame.result c.args.image c.args.template (c.args.self.operands + 1) c.args.argc c.args.params c.args.locals c.requires.ready c.pass_arguments.ensures (rw c.max-count.ensures at c.add_frame.ensures)
