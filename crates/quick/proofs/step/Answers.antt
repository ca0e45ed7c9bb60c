use native.Mathlib.Omega.{arith}
use Rattle.quick.specs.Quickly.{step_goes, operand_at}
use Rattle.quick.proofs.step.Goals as goal

pub execute-requires-clause-operand : goal.execute-requires-clause-operand
execute-requires-clause-operand c = operand_at c.args.x c.args.n c.args.code.now c.args.d c.requires.inside (omega (arith, c.if-p-y.true, c.requires.in_frame.last)) c.word_at-i.ensures c.with_ip.ensures

pub returns-then-p-y-clause-quick_step : goal.returns-then-p-y-clause-quick_step
returns-then-p-y-clause-quick_step c = step_goes c.args.x c.args.n c.args.code.now c.requires.inside (λ s h. h.coded) c.requires.in_frame.runs (omega (arith, c.if-p-y.true, c.requires.in_frame.last)) c.opcode_at-op.ensures.0 c.opcode_at-op.ensures.1 c.with_ip.ensures c.execute.ensures.quickly
