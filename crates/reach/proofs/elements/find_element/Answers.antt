use Rattle.std.proofs.Common.{arith}
use Rattle.reach.specs.Elements.{element_guessed}
use Rattle.reach.proofs.elements.find_element.Goals as goal

pub returns-then-row_is_element : goal.returns-then-row_is_element
returns-then-row_is_element c = element_guessed c.row_by-row.result (omega (arith, c.ranges)) (omega (arith, c.if-row-count.true)) (c.row_is_element.ensures c.if-row_is_element.true)
