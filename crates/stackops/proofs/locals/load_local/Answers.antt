use mathlib.Core.Path.{ap, sym}
use Rattle.machine.specs.Program.{look}
use Rattle.machine.specs.Instruction as I
use Rattle.outcome.specs.Meets.{after_look, any}
use Rattle.fetch.specs.Running.{after_fetch}
use Rattle.machine.specs.Instruction.{LoadLocal, StoreLocal, GetThis, Pop, Dup}
use Rattle.stackops.proofs.locals.load_local.Goals as goal

pub returns : goal.returns
returns c = after_fetch c.fetch_word.ensures (λ i. look λ s. I.pushed (I.slot_in s.slots i s.frames)) (λ s h. h) c.requires.runs c.in-Some.is (after_look (λ s h. ap I.pushed (sym c.read_slot-v.ensures)) (any c.push_value.ensures))
