use Rattle.std.proofs.Common.{refl, arith}
use Rattle.reach.specs.Elements.{index_stores}
use Rattle.reach.proofs.elements.store_index.Goals as goal

pub returns-clause-reaches : goal.returns-clause-reaches
returns-clause-reaches c = (index_stores c.args.c c.args.text.now c.requires.ready c.requires.sized c.requires.text_le_text_limit (omega (arith, c.if-n-lt3.false)) refl c.in_ok-id.ensures c.in_use-t.ensures c.in_ok-row.ensures (rw c.new.ensures at c.in_ok-kind.ensures) c.in_ok-p.ensures c.bring.ensures c.bring.auto.w c.with_operands.ensures).0
