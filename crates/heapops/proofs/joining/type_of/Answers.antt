use Rattle.heapops.specs.Makes.{text_pushed, type_pushed}
use Rattle.heapops.specs.Follows.{pop_fails}
use Rattle.machine.specs.Convert.{js_typeof}
use Rattle.heapops.proofs.joining.type_of.Goals as goal

pub returns-in_default : goal.returns-in_default
returns-in_default c = λ h o. pop_fails (λ v. text_pushed (js_typeof v)) c.pop.ensures c.in_default.is c.with_operands.ensures c.failed.ensures

pub returns : goal.returns
returns c = type_pushed c.requires.text_le_text_limit.1 c.pop.ensures c.in-Some.is c.keep_typeof-k.ensures c.push_text.ensures
