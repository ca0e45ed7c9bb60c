use Prim.Native.Nat.{◌<◌, ◌-◌}
use lib.ListN.{length}
use mathlib.Core.Path.{◌≡◌}
use Rattle.machine.specs.Run.{max_steps}
use Rattle.run.specs.Speed.{Strides, strode}
use Rattle.run.proofs.speed.stride.Given as goal

abbrev pub invariant-loop-k : goal.invariant-loop-k
invariant-loop-k l = Strides l.x l.y l.c l.code l.places l.initial.stacks l.initial.heap l.text l.initial.k (strode l.e l.k) l.stacks l.heap × (l.k < max_steps - 1) × (length l.stacks ≡ length l.initial.stacks) × (length l.heap ≡ length l.initial.heap)

abbrev pub decreases-loop-k : goal.decreases-loop-k
decreases-loop-k l = max_steps - l.k
