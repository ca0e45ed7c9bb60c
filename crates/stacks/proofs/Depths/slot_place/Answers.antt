use native.Mathlib.Omega.{arith}
use Rattle.stacks.specs.Cuts.{slot_none, slot_past, slot_off}
use Rattle.stacks.proofs.Depths.slot_place.Goals as goal

pub returns-in_err-k : goal.returns-in_err-k
returns-in_err-k c = rw c.from_residual.ensures (record { place = slot_none c.args.self c.args.stacks.now c.requires c.args.i (omega (arith, c.in_err-k.ensures)) })

pub returns-then-f-i : goal.returns-then-f-i
returns-then-f-i c = record { place = slot_past c.args.self c.args.stacks.now c.requires c.args.i c.read_frame-f.result (λ e. omega (arith, c.in_ok-k.ensures.0)) (rw c.in_ok-k.ensures.1 at c.read_frame-f.ensures) c.if-f-i.true }

pub returns-then-saturating_sub-b : goal.returns-then-saturating_sub-b
returns-then-saturating_sub-b c = record { place = slot_off c.args.self c.args.stacks.now c.requires c.args.i c.read_frame-f.result (λ e. omega (arith, c.in_ok-k.ensures.0)) (rw c.in_ok-k.ensures.1 at c.read_frame-f.ensures) c.if-f-i.false (omega (arith, c.saturating_sub.ensures)) }
