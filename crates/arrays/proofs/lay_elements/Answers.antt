use Rattle.std.proofs.Common.{◌+◌, ◌*◌, refl, arith}
use Rattle.machine.specs.Number.{decimal}
use Rattle.value.specs.Words.{value_at}
use Rattle.arrays.specs.Arrays.{given, laying_more, laying_fits}
use Rattle.arrays.proofs.lay_elements.Goals as goal

pub lay_element-e-requires-clause-text_len : goal.lay_element-e-requires-clause-text_len
lay_element-e-requires-clause-text_len c = (c.loop-i.invariant.long, laying_fits c.args.id (given c.args.argc (λ j. value_at c.args.stacks.now (3 * (c.args.from + j)))) c.args.count c.args.z c.args.heap.now c.args.m c.args.text.now c.loop-i.i c.loop-i.e _ _ (decimal c.loop-i.i) c.loop-i.invariant (omega arith) c.requires.text_len.1 refl)

pub loop-i-preserved : goal.loop-i-preserved
loop-i-preserved c = laying_more c.args.id (given c.args.argc (λ j. value_at c.args.stacks.now (3 * (c.args.from + j)))) c.args.count c.args.z c.args.heap.now c.args.m c.args.text.now c.loop-i.i c.loop-i.e _ _ _ c.element-v.result _ _ _ c.loop-i.invariant (omega arith) c.requires.text_len.2 c.requires.text_len.1 refl c.element-v.ensures c.lay_element-e.ensures
