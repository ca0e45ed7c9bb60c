use Rattle.std.proofs.Common.{rules}
use Rattle.number.specs.Layout.{formats}
use Rattle.number.proofs.JsNumber.format_js_number.Goals as goal

pub returns : goal.returns
returns c = formats c.args.self.bits c.layout.result c.args.out.now c.layout.ensures _ _ c.write.ensures (search rules)
