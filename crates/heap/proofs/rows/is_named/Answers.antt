use Rattle.std.proofs.Common.{ap, ◌∙◌, ℕ, List}
use Rattle.machine.specs.Basic.{same}
use Rattle.heap.specs.Finds.{named_console, named_kept}
use Rattle.heap.proofs.rows.is_named.Goals as goal

pub returns-then-heap-k-ne0 : goal.returns-then-heap-k-ne0
returns-then-heap-k-ne0 c = named_console c.args.text.now c.args.name.now c.args.heap.now c.args.k _ c.if-heap-k-ne0.true c.equal_bytes.ensures

pub returns : goal.returns
returns c = named_kept c.args.text.now c.args.name.now c.args.heap.now c.args.k _ c.if-heap-k-ne0.false (c.equal_bytes-2.ensures ∙ ap (λ (x : List ℕ). same x c.args.name.now) c.cut.ensures)
