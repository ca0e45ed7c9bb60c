use native.Mathlib.Omega.{arith}
use Rattle.heap.specs.Laws.{kind_none, kind_ordinary, kind_array}
use Rattle.heap.proofs.held.Heap.object_type.Goals as goal

pub returns-then-self-id : goal.returns-then-self-id
returns-then-self-id c = rw (← c.self.view_is) (kind_none c.self.inside.sizes c.self.inside.words.now c.self.invariant c.args.id (omega (arith, c.if-self-id.true)))

pub returns-then-self-id-eq0 : goal.returns-then-self-id-eq0
returns-then-self-id-eq0 c = rw (← c.self.view_is) (kind_ordinary c.self.inside.sizes c.self.inside.words.now c.self.invariant c.args.id (omega (arith, c.if-self-id.false)) c.if-self-id-eq0.true)

pub returns : goal.returns
returns c = rw (← c.self.view_is) (kind_array c.self.inside.sizes c.self.inside.words.now c.self.invariant c.args.id (omega (arith, c.if-self-id.false)) c.if-self-id-eq0.false)
