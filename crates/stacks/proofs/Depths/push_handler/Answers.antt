use mathlib.Core.Path.{refl}
use Rattle.stacks.specs.Laws.{handler_none, handler_full, handler_went}
use Rattle.stacks.proofs.Depths.push_handler.Goals as goal

pub returns-then-self-eq0 : goal.returns-then-self-eq0
returns-then-self-eq0 c = handler_none c.args.self c.args.stacks.now c.requires c.args.catch c.if-self-eq0.true

pub returns-then-n-ge-HANDLER_LIMIT : goal.returns-then-n-ge-HANDLER_LIMIT
returns-then-n-ge-HANDLER_LIMIT c = handler_full c.args.self c.args.stacks.now c.requires c.args.catch c.if-self-eq0.false c.if-n-ge-HANDLER_LIMIT.true

pub returns : goal.returns
returns c = handler_went c.args.self c.args.stacks.now c.requires c.args.catch _ c.if-self-eq0.false c.if-n-ge-HANDLER_LIMIT.false refl
