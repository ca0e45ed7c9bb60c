use Rattle.std.proofs.Common.{◌≡◌}
use Rattle.image.proofs.Views.{Placing}
use Rattle.image.proofs.fill_constants.Given as goal

abbrev pub invariant-loop-i : goal.invariant-loop-i
invariant-loop-i l = record {
  src : l.reader.src ≡ l.initial.reader.src;
  placing : Placing l.initial.reader.src.now l.initial.places l.places l.own l.count l.initial.reader.at l.n l.reader.at l.i;
}
