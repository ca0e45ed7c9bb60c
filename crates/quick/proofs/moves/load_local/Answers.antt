use mathlib.Core.Path.{ap, sym, refl}
use Rattle.machine.specs.Program.{look}
use Rattle.machine.specs.Instruction as I
use Rattle.outcome.specs.Meets.{after_look}
use Rattle.stacks.specs.Places.{spot_read}
use Rattle.fetch.specs.Running.{after_fetch}
use Rattle.quick.specs.Quickly.{carry, anywhere, ip_ready, start_as}
use Rattle.quick.specs.Stays.{frame_spot, frame_kept, kept_ip}
use Rattle.machine.specs.Instruction.{LoadConst, LoadLocal, StoreLocal, Pop, Dup}
use Rattle.quick.proofs.moves.load_local.Goals as goal

pub returns-clause-quickly : goal.returns-clause-quickly
returns-clause-quickly c = carry (λ y m. after_fetch c.requires.operand (λ i. look λ s. I.pushed (I.slot_in s.slots i s.frames)) (λ s h. h) c.requires.in_frame.runs refl (after_look (λ s h. ap I.pushed (sym (spot_read (ip_ready refl c.requires.ready) (frame_spot (frame_kept c.requires.in_frame c.requires.ready (kept_ip refl)) (ip_ready refl c.requires.ready) c.args.i c.if-y-i.false)))) m)) (start_as c.with_ip.ensures (anywhere c.push_copy.ensures.quickly))
