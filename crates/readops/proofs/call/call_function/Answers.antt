use Prim.Native.Nat.{◌+◌}
use Rattle.stacks.specs.View.{arguments}
use Rattle.readops.specs.Calls.{unknown, known}
use Rattle.readops.proofs.call.call_function.Goals as goal

pub returns-in_default : goal.returns-in_default
returns-in_default c = unknown (arguments c.args.stacks.now (c.args.d.operands + 1) c.args.argc) c.in_default.is c.failed.ensures

pub returns : goal.returns
returns c = known c.args.argc c.template_at-p.result c.in-Some.is c.template_at-p.ensures c.call_frame.ensures c.settle.ensures
