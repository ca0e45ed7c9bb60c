use Rattle.std.proofs.Common.{arith, rules}
use Rattle.number.specs.Layout.{lays_whole, lays_pointed}
use Rattle.number.proofs.JsNumber.layout.Goals as goal

pub returns-then-minus : goal.returns-then-minus
returns-then-minus c = lays_whole c.args.self.bits (omega arith) (search rules) _ _ c.is_negative-minus.ensures c.magnitude-magnitude.ensures _ c.all-digits.ensures _ c.if-millionths-eq0.true (search rules)

pub returns-else-minus : goal.returns-else-minus
returns-else-minus c = lays_whole c.args.self.bits (omega arith) (search rules) _ _ c.is_negative-minus.ensures c.magnitude-magnitude.ensures _ c.all-digits.ensures _ c.if-millionths-eq0.true (search rules)

pub returns : goal.returns
returns c = lays_pointed c.args.self.bits (omega arith) (search rules) _ _ c.is_negative-minus.ensures c.magnitude-magnitude.ensures _ c.all-digits.ensures _ c.if-millionths-eq0.false c.trimmed.ensures
