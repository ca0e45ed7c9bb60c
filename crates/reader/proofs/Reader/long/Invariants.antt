use Rattle.std.proofs.Common.{◌≡◌, ◌^◌, ◌≤◌, ◌+◌, ◌-◌, ◌*◌, drop}
use Rattle.machine.specs.Image as I
use Rattle.reader.proofs.Reader.long.Given as goal

abbrev pub invariant-loop : goal.invariant-loop
invariant-loop l = record {
  same : l.self.src ≡ l.initial.self.src;
  on : l.self.at ≡ l.initial.self.at + l.counter;
  fits : (l.n + 1) * 256 ^ (8 - l.counter) ≤ 2 ^ 64;
  left : I.wide 8 0 l.initial.self.at (drop l.initial.self.at l.initial.self.src.now)
      ≡ I.wide (8 - l.counter) l.n l.self.at (drop l.self.at l.initial.self.src.now);
}
