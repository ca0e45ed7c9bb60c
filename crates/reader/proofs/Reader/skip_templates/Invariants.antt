use Rattle.std.proofs.Common.{◌≡◌, ◌≤◌, ◌-◌, drop}
use Rattle.machine.specs.Image as I
use Rattle.reader.specs.Laws.{Sofar}
use Rattle.reader.proofs.Reader.skip_templates.Given as goal

abbrev pub invariant-loop-own : goal.invariant-loop-own
invariant-loop-own l = record {
  same : l.self.src ≡ l.initial.self.src;
  on : l.initial.self.at ≤ l.self.at;
  left : Sofar (I.templates l.count 0 l.count l.initial.self.at (drop l.initial.self.at l.initial.self.src.now))
      (I.templates l.count l.own (l.count - l.own) l.self.at (drop l.self.at l.initial.self.src.now));
}
