use Rattle.heapops.specs.Makes.{text_refused, text_pushed_lem}
use Rattle.heapops.proofs.joining.push_text.Goals as goal

pub returns-in_default : goal.returns-in_default
returns-in_default c = text_refused c.args.c c.args.d c.args.stacks.now c.in_default.is c.refused.ensures

pub returns : goal.returns
returns c = text_pushed_lem c.args.c c.args.d c.args.stacks.now c.in-Some.is c.saturating_sub.ensures c.push-r.ensures c.settle_push.ensures
