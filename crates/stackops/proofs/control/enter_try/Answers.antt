use Rattle.machine.specs.Program.{next, make}
use Rattle.machine.specs.Act as A
use Rattle.outcome.specs.Meets.{settles}
use Rattle.fetch.specs.Running.{after_fetch}
use Rattle.stackops.proofs.control.enter_try.Goals as goal

pub returns : goal.returns
returns c = after_fetch c.fetch_word.ensures (λ p. make (A.push_handler p) next) (λ s h. h) c.requires.runs c.in-Some.is (settles c.push_handler.ensures c.settle.ensures)
