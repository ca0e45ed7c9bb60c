use Rattle.machine.specs.Program.{next, make}
use Rattle.machine.specs.Instruction as I
use Rattle.machine.specs.Act as A
use Rattle.outcome.specs.Meets.{after_pop, pop_fails, settles}
use Rattle.fetch.specs.Running.{after_fetch}
use Rattle.machine.specs.Instruction.{LoadLocal, StoreLocal, GetThis, Pop, Dup}
use Rattle.stackops.proofs.locals.store_local.Goals as goal

pub returns-in_default-pop : goal.returns-in_default-pop
returns-in_default-pop c = after_fetch c.fetch_word.ensures (λ i. I.pop λ v. make (A.store i v) next) (λ s h. h) c.requires.runs c.in-Some.is (pop_fails (λ v. make (A.store c.in-Some.i v) next) c.pop.ensures c.in_default-pop.is c.underflow.ensures)

pub returns : goal.returns
returns c = after_fetch c.fetch_word.ensures (λ i. I.pop λ v. make (A.store i v) next) (λ s h. h) c.requires.runs c.in-Some.is (after_pop (λ v. make (A.store c.in-Some.i v) next) c.pop.ensures c.in-Some-pop.is (settles c.store.ensures c.settle.ensures))
