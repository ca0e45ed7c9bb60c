use Rattle.machine.specs.Program.{make, next}
use Rattle.machine.specs.Act as A
use mathlib.Core.Path.{refl}
use Rattle.outcome.specs.Meets.{jumps}
use Rattle.fetch.specs.Running.{after_fetch}
use Rattle.quick.specs.Quickly.{goes, carry, ip_ready}
use Rattle.quick.proofs.control.jump.Goals as goal

pub returns-clause-quickly : goal.returns-clause-quickly
returns-clause-quickly c = λ w r q. carry (λ y m. after_fetch c.requires (λ p. make (A.jump p) next) (λ s h. h) q refl m) (goes (jumps c.with_ip.ensures refl) (ip_ready c.with_ip.ensures r))
