use Rattle.quick.specs.Quickly.{start_as}
use Rattle.reach.specs.Reaches.{surely, counted_quick}
use Rattle.reach.specs.Names.{global_loads, name_as}
use Rattle.reach.proofs.loads.load_global.Goals as goal

pub returns-clause-quickly : goal.returns-clause-quickly
returns-clause-quickly c = rw (counted_quick c.in_ok-j.j c.with_count.ensures) (surely c.push_from.ensures.quickly (λ u. global_loads c.args.c.text c.args.text.now c.args.c.sizes c.args.heap.now c.requires.operand c.requires.runs c.in_ok-at.ensures ((name_as c.args.text.now c.args.c.text c.args.code.now c.args.c.code c.in_ok-at.at c.in_ok-at.size c.args.heap.now c.in_use-2.ensures c.in_use.ensures c.cut-name.ensures c.in_ok-j.ensures).finds (u.names _)) (start_as c.with_ip-e.ensures c.push_from.ensures.quickly)))
