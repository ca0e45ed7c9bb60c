use native.Mathlib.Omega.{arith}
use mathlib.Core.Path.{refl}
use Rattle.heap.specs.Laws.{function_known, function_unknown}
use Rattle.heap.proofs.held.Heap.function.Goals as goal

pub returns-then-self-i : goal.returns-then-self-i
returns-then-self-i c = rw (← c.self.view_is) (function_unknown c.self.inside.sizes c.self.inside.words.now c.self.invariant c.args.i (omega (arith, c.if-self-i.true)))

pub returns : goal.returns
returns c = rw (← c.self.view_is) (function_known c.self.inside.sizes c.self.inside.words.now c.self.invariant c.args.i _ _ (omega (arith, c.if-self-i.false)) refl refl)
