use mathlib.Core.Path.{refl}
use Rattle.heap.specs.Laws.{function_full, function_went}
use Rattle.heap.proofs.add_function.Goals as goal

pub returns-then-n-ge-FUNCTION_LIMIT : goal.returns-then-n-ge-FUNCTION_LIMIT
returns-then-n-ge-FUNCTION_LIMIT c = function_full c.args.z c.args.heap.now c.requires c.args.image c.args.template c.if-n-ge-FUNCTION_LIMIT.true

pub returns : goal.returns
returns c = function_went c.args.z c.args.heap.now c.requires c.args.image c.args.template _ c.if-n-ge-FUNCTION_LIMIT.false refl
