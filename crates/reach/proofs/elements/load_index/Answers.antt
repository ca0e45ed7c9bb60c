use Rattle.std.proofs.Common.{refl, arith}
use Rattle.reach.specs.Elements.{index_loads}
use Rattle.reach.proofs.elements.load_index.Goals as goal

pub returns-clause-quickly : goal.returns-clause-quickly
returns-clause-quickly c = (index_loads c.args.c.sizes c.args.c.text c.args.text.now c.requires.ready (omega (arith, c.if-n-lt2.false)) refl c.in_ok-id.ensures (omega (arith, c.if-c-id.false)) c.in_use.ensures c.in_ok-row.ensures c.bring.ensures c.bring.auto.w c.with_operands.ensures c.args.c.code).0
