use Rattle.quick.specs.Quickly.{ip_ready, dropped_ready}
use Rattle.reach.specs.Reaches.{surely_reaches}
use Rattle.reach.specs.Names.{global_stores, name_as}
use Rattle.reach.proofs.stores.store_global.Goals as goal

pub returns-clause-reaches : goal.returns-clause-reaches
returns-clause-reaches c = λ o. surely_reaches (dropped_ready c.with_operands.ensures (ip_ready c.with_ip-e.ensures c.requires.ready)) (λ u. global_stores c.requires.operand c.requires.runs c.requires.ready c.requires.sized c.requires.text_le_text_limit.0 c.requires.text_le_text_limit.1 c.with_ip-e.ensures c.in_ok-at.ensures c.if-k-eq0.false c.bring.auto.w ((name_as c.args.text.now c.args.c.text c.args.code.now c.args.c.code c.in_ok-at.at c.in_ok-at.size c.args.heap.now c.in_use-2.ensures c.in_use.ensures c.cut-name.ensures c.in_ok-j.ensures).finds (u.names _)) c.bring.ensures c.with_operands.ensures o)
