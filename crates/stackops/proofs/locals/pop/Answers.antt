use Rattle.machine.specs.Program.{next}
use Rattle.outcome.specs.Meets.{after_pop, pop_fails, goes_on}
use Rattle.stackops.proofs.locals.pop.Goals as goal

pub returns-in_default : goal.returns-in_default
returns-in_default c = pop_fails (λ v. next) c.pop.ensures c.in_default.is c.underflow.ensures

pub returns : goal.returns
returns c = after_pop (λ v. next) c.pop.ensures c.in-Some.is (goes_on c.went.ensures)
