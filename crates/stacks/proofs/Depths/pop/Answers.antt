use native.Mathlib.Omega.{arith}
use Rattle.stacks.specs.Laws.{pop_took, pop_none}
use Rattle.stacks.proofs.Depths.pop.Goals as goal

pub returns-in_err-n : goal.returns-in_err-n
returns-in_err-n c = rw c.from_residual.ensures (pop_none c.args.self c.args.stacks.now c.requires (omega (arith, c.in_err-n.ensures)))

pub returns : goal.returns
returns c = rw (c.with_operands.ensures, c.in_ok-n.ensures.1) (pop_took c.args.self c.args.stacks.now c.requires c.read.result (λ e. omega (arith, c.in_ok-n.ensures.0)) (rw c.in_ok-n.ensures.1 at c.read.ensures))
