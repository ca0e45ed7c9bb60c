use Rattle.std.proofs.Common.{◌≡◌, length}
use Rattle.std.proofs.Math.Seq.{paste}
use Rattle.image.proofs.copy.Given as goal

abbrev pub invariant-loop-i : goal.invariant-loop-i
invariant-loop-i l = (l.code ≡ paste l.initial.code l.at l.image l.i) × (length l.code ≡ length l.initial.code)
