use Rattle.std.proofs.Common.{◌+◌, ◌*◌, arith}
use Rattle.machine.specs.State.{array}
use Rattle.value.specs.Words.{value_at}
use Rattle.arrays.specs.Arrays.{given, kind_same, laid_room, array_no_object, array_no_rows, array_no_text, array_made}
use Rattle.arrays.proofs.add_array.Goals as goal

pub returns-then-z-ge-OBJECT_LIMIT : goal.returns-then-z-ge-OBJECT_LIMIT
returns-then-z-ge-OBJECT_LIMIT c = array_no_object c.args.z c.args.heap.now c.args.m c.args.text.now c.requires.sized c.requires.m_le_text_limit.0 c.requires.m_le_text_limit.1 c.args.argc (λ j. value_at c.args.stacks.now (3 * (c.args.from + j))) c.args.count c.if-z-ge-OBJECT_LIMIT.true

pub returns-then-z-count : goal.returns-then-z-count
returns-then-z-count c = array_no_rows c.args.z c.args.heap.now c.args.m c.args.text.now c.requires.sized c.requires.m_le_text_limit.0 c.requires.m_le_text_limit.1 c.args.argc (λ j. value_at c.args.stacks.now (3 * (c.args.from + j))) c.args.count c.if-z-ge-OBJECT_LIMIT.false (omega (arith, c.if-z-count.true, c.requires.sized.properties))

pub returns-then-m-keys_size : goal.returns-then-m-keys_size
returns-then-m-keys_size c = array_no_text c.args.z c.args.heap.now c.args.m c.args.text.now c.requires.sized c.requires.m_le_text_limit.0 c.requires.m_le_text_limit.1 c.args.argc (λ j. value_at c.args.stacks.now (3 * (c.args.from + j))) c.args.count c.if-z-ge-OBJECT_LIMIT.false (omega (arith, c.if-z-count.false, c.requires.sized.properties)) (omega (arith, c.if-m-keys_size.true, c.keys_size.ensures, c.requires.m_le_text_limit.0))

pub lay_elements-e-requires-clause-text_len : goal.lay_elements-e-requires-clause-text_len
lay_elements-e-requires-clause-text_len c = (c.requires.m_le_text_limit.1, omega (arith, c.if-m-keys_size.false, c.keys_size.ensures, c.requires.m_le_text_limit.0), omega (arith, (kind_same array c.args.z c.args.heap.now c.add_kind-y.result _ c.add_kind-y.ensures), c.if-m-keys_size.false, c.requires.sized.properties))

pub lay_row-end-requires-clause-key_bound : goal.lay_row-end-requires-clause-key_bound
lay_row-end-requires-clause-key_bound c = omega (arith, (laid_room c.args.z.objects (given c.args.argc (λ j. value_at c.args.stacks.now (3 * (c.args.from + j)))) c.args.count c.add_kind-y.result _ c.args.m c.args.text.now c.lay_elements-e.result _ _ c.lay_elements-e.ensures), c.if-m-keys_size.false, c.keys_size.ensures, c.requires.m_le_text_limit.0)

pub returns : goal.returns
returns c = array_made c.args.z c.args.heap.now c.args.m c.args.text.now c.requires.sized c.requires.m_le_text_limit.0 c.requires.m_le_text_limit.1 c.args.argc (λ j. value_at c.args.stacks.now (3 * (c.args.from + j))) c.args.count c.add_kind-y.result _ c.lay_elements-e.result _ _ _ c.lay_row-end.result _ _ c.if-z-ge-OBJECT_LIMIT.false (omega (arith, c.if-z-count.false, c.requires.sized.properties)) (omega (arith, c.if-m-keys_size.false, c.keys_size.ensures, c.requires.m_le_text_limit.0)) c.add_kind-y.ensures c.lay_elements-e.ensures c.whole-v.ensures c.lay_row-end.ensures
