use native.Mathlib.Omega.{arith}
use Prim.Native.Nat.{◌+◌}
use Rattle.value.specs.Words.{value_of}
use Rattle.stacks.specs.Slots.{put_past, put_at}
use Rattle.stacks.proofs.put.Goals as goal

pub returns-then-b-saturating_sub : goal.returns-then-b-saturating_sub
returns-then-b-saturating_sub c = put_at c.args.w.now c.write.new.w c.args.n (c.args.base + c.args.i) c.args.v (omega arith) c.requires.0 c.requires.1 c.write.ensures

pub returns-else-b-saturating_sub : goal.returns-else-b-saturating_sub
returns-else-b-saturating_sub c = put_past c.args.w.now c.args.n (c.args.base + c.args.i) (value_of c.args.v) (omega arith)
