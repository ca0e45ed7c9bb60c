use Rattle.number.specs.Layout.{formatted_short, formatted_fits}
use Rattle.number.proofs.JsNumber.format_into.Goals as goal

pub returns-then-out-count : goal.returns-then-out-count
returns-then-out-count c = formatted_short c.args.self.bits c.layout-l.result c.args.out.now c.layout-l.ensures _ c.size-count.ensures c.if-out-count.true

pub returns : goal.returns
returns c = formatted_fits c.args.self.bits c.layout-l.result c.args.out.now c.layout-l.ensures _ _ c.write.ensures _ c.size-count.ensures c.if-out-count.false
