use Rattle.std.proofs.Common.{ap, ◌∙◌, ℕ, List}
use Rattle.machine.specs.Basic.{same}
use Rattle.heap.specs.Finds.{pair_not, pair_is}
use Rattle.heap.proofs.rows.is_pair.Goals as goal

pub returns-then-heap-k : goal.returns-then-heap-k
returns-then-heap-k c = pair_is c.args.text.now c.args.owner c.args.key.now c.args.heap.now c.args.k _ c.if-heap-k.true (c.equal_bytes.ensures ∙ ap (λ (x : List ℕ). same x c.args.key.now) c.cut.ensures)

pub returns-else-heap-k : goal.returns-else-heap-k
returns-else-heap-k c = pair_not c.args.text.now c.args.owner c.args.key.now c.args.heap.now c.args.k c.if-heap-k.false
