use Rattle.std.proofs.Common.{◌-◌, ap, ◌∙◌}
use Rattle.stacks.specs.declared.Depths.{Depths}
use Rattle.stacks.specs.Laws.{with_operands}
use Rattle.quick.specs.Quickly.{start_as}
use Rattle.reach.specs.Reaches.{surely, counted_quick}
use Rattle.reach.specs.Names.{property_loads, object_popped, pair_as}
use Rattle.reach.proofs.loads.load_property.Goals as goal

pub returns-clause-quickly : goal.returns-clause-quickly
returns-clause-quickly c = rw (counted_quick c.in_ok-j.j c.with_count.ensures) (surely c.push_from.ensures.quickly (λ u. property_loads c.args.c.text c.args.text.now c.args.c.sizes c.args.heap.now c.requires.operand c.requires.runs c.in_ok-at.ensures (object_popped c.requires.ready c.with_ip-e.ensures c.if-n-eq0.false c.read.ensures c.in-Object.is) c.if-c-id.false c.requires.code_in_bounds ((pair_as c.args.text.now c.args.c.text c.args.code.now c.args.c.code c.in_ok-at.at c.in_ok-at.size c.args.heap.now c.in-Object.id c.in_use-2.ensures c.in_use.ensures c.cut-key.ensures c.in_ok-j.ensures).finds (u.pairs _ _)) (start_as (c.with_operands-f.ensures ∙ ap (λ (u : Depths). with_operands (u.operands - 1) u) c.with_ip-e.ensures) c.push_from.ensures.quickly)))
