use Rattle.reach.specs.Elements.{element_searched}
use Rattle.reach.proofs.elements.search_element.Goals as goal

pub returns : goal.returns
returns c = element_searched c.raw.ensures c.format_js_number-size.ensures c.find_property.ensures
