use Rattle.std.proofs.Common.{◌≡◌}
use Rattle.image.proofs.Views.{Filling}
use Rattle.image.proofs.fill_templates.Given as goal

abbrev pub invariant-loop-own : goal.invariant-loop-own
invariant-loop-own l = record {
  src : l.reader.src ≡ l.initial.reader.src;
  filling : Filling l.initial.reader.src.now l.initial.places l.initial.rows l.places l.rows l.count l.initial.reader.at l.reader.at l.own;
}
