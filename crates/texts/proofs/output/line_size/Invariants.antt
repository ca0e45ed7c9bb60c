use Prim.Native.Nat.{◌+◌, ◌≤◌, ◌-◌}
use mathlib.Core.Path.{◌≡◌}
use Rattle.texts.specs.Lines.{values_at, total}
use Rattle.texts.proofs.output.line_size.Given as goal

abbrev pub invariant-loop-i : goal.invariant-loop-i
invariant-loop-i l = (l.size ≤ l.room) × (l.size ≡ l.count - 1 + total l.texts (values_at l.stacks l.from l.i))
