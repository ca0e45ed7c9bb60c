use Rattle.std.specs.Prelude.{Some}
use Rattle.std.proofs.Common.{ap}
use Rattle.heap.specs.declared.ObjectType.{ObjectType}
use Rattle.reach.specs.Reaches.{surely_reaches}
use Rattle.reach.specs.Names.{property_stores, two_dropped, pair_as}
use Rattle.reach.proofs.stores.store_property.Goals as goal

pub returns-clause-reaches : goal.returns-clause-reaches
returns-clause-reaches c = λ o. surely_reaches (two_dropped c.requires.ready c.with_ip-e.ensures c.with_operands.ensures) (λ u. property_stores c.requires.operand c.requires.runs c.requires.ready c.requires.sized c.requires.text_le_text_limit.0 c.requires.text_le_text_limit.1 c.with_ip-e.ensures c.in_ok-at.ensures c.if-k-lt2.false c.bring.auto.w c.read.ensures c.in-Object.is (rw c.new.ensures at c.in_ok-object_type.ensures) (ap (λ (k : ObjectType). Some k) c.in-Ordinary.is) ((pair_as c.args.text.now c.args.c.text c.args.code.now c.args.c.code c.in_ok-at.at c.in_ok-at.size c.args.heap.now c.in-Object.id c.in_use-2.ensures c.in_use.ensures c.cut-key.ensures c.in_ok-j.ensures).finds (u.pairs _ _)) c.bring.ensures c.with_operands.ensures o)
