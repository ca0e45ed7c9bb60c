use Rattle.std.proofs.Common.{◌≡◌, length}
use Rattle.std.proofs.Math.Seq.{paste}
use Rattle.texts.specs.Spans.{part_of}
use Rattle.texts.proofs.copy_own.Given as goal

abbrev pub invariant-loop-i : goal.invariant-loop-i
invariant-loop-i l = (length l.text ≡ length l.initial.text) × (l.text ≡ paste l.initial.text l.e (part_of l.initial.text l.part.start l.part.end) l.i)
