use Rattle.machine.specs.Program.{next, make}
use Rattle.machine.specs.Act as A
use Rattle.outcome.specs.Meets.{jumps}
use Rattle.fetch.specs.Running.{after_fetch}
use Rattle.stackops.proofs.control.jump.Goals as goal

pub returns : goal.returns
returns c = λ w q. after_fetch c.fetch_word.ensures (λ p. make (A.jump p) next) (λ s h. h) q c.in-Some.is (jumps c.with_ip.ensures c.went.ensures)
