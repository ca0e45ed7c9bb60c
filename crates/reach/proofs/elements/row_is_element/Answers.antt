use Rattle.std.proofs.Common.{arith}
use Rattle.reach.specs.Elements.{digits_row}
use Rattle.reach.proofs.elements.row_is_element.Goals as goal

pub returns : goal.returns
returns c = λ q. digits_row c.index_of.ensures c.in-Some.is (omega (arith, c.if-heap-k.false)) c.cut.ensures (c.are_digits.ensures q)
