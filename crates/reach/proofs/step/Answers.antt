use Rattle.std.proofs.Common.{refl, arith}
use Rattle.finish.specs.Parts.{tables}
use Rattle.quick.specs.Quickly.{operand_at}
use Rattle.reach.specs.Reaches.{step_goes}
use Rattle.reach.proofs.step.Goals as goal

pub execute-requires-clause-operand : goal.execute-requires-clause-operand
execute-requires-clause-operand c = rw c.with_depths-e.ensures (rw c.with_ip.ensures (operand_at c.args.x c.args.c.code c.args.code.now c.args.c.depths c.requires.inside (omega (arith, c.if-p-y.true, c.requires.in_frame.last)) c.word_at-i.ensures refl))

pub returns-then-p-y-clause-reaches : goal.returns-then-p-y-clause-reaches
returns-then-p-y-clause-reaches c = λ rows starts o. step_goes c.args.c (tables c.args.code.now c.args.places.now rows starts) c.requires.inside c.requires.in_frame.runs (omega (arith, c.if-p-y.true, c.requires.in_frame.last)) o c.opcode_at-op.ensures.0 c.opcode_at-op.ensures.1 c.with_ip.ensures c.with_depths-e.ensures (c.execute.ensures.reaches rows starts o)
