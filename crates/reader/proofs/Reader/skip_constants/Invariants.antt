use Rattle.std.proofs.Common.{◌≡◌, ◌≤◌, ◌-◌, drop}
use Rattle.machine.specs.Image as I
use Rattle.reader.specs.Laws.{Sofar}
use Rattle.reader.proofs.Reader.skip_constants.Given as goal

abbrev pub invariant-loop : goal.invariant-loop
invariant-loop l = record {
  same : l.self.src ≡ l.initial.self.src;
  on : l.initial.self.at ≤ l.self.at;
  left : Sofar (I.times l.n (I.constant l.own l.count) l.initial.self.at (drop l.initial.self.at l.initial.self.src.now))
      (I.times (l.n - l.counter) (I.constant l.own l.count) l.self.at (drop l.self.at l.initial.self.src.now));
}
