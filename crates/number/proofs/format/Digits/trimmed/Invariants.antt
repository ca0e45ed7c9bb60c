use Rattle.std.proofs.Common.{◌-◌}
use Rattle.number.specs.Format.{Trimmed}
use Rattle.number.proofs.format.Digits.trimmed.Given as goal

abbrev pub invariant-loop-count : goal.invariant-loop-count
invariant-loop-count l = Trimmed l.n l.worth (l.count - 1)
