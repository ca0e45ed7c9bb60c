use Rattle.std.proofs.Common.{◌≡◌, ◌+◌, ◌-◌, ◌*◌, ◌≤◌}
use Rattle.arrays.specs.Keys.{keys_size}
use Rattle.arrays.proofs.keys_size.Given as goal

abbrev pub invariant-loop-i : goal.invariant-loop-i
invariant-loop-i l = (l.sum ≤ 4 * l.i) × (l.sum + keys_size l.i (l.count - l.i) ≡ keys_size 0 l.count)
