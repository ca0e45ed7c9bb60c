use mathlib.Core.Path.{ap, sym}
use Rattle.machine.specs.Instruction as I
use Rattle.outcome.specs.Meets.{after_look}
use Rattle.machine.specs.Instruction.{LoadLocal, StoreLocal, GetThis, Pop, Dup}
use Rattle.stackops.proofs.locals.dup.Goals as goal

pub returns : goal.returns
returns c = after_look (λ s h. ap I.pushed (sym c.top-v.ensures)) c.push_value.ensures
