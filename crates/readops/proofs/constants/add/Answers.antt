use Rattle.readops.specs.Constants.{add_first, add_second}
use mathlib.Core.Path.{sym, ◌∙◌}
use Rattle.readops.proofs.constants.add.Goals.{then-is_text-via-then-is_text, then-is_text-via-else-is_text+then-is_text-2}
use Rattle.readops.proofs.constants.add.Goals as goal

pub returns-then-is_text : goal.returns-then-is_text
returns-then-is_text c = elim c.then-is_text.branch [
  | then-is_text-via-then-is_text w ↦ add_first c.pop_two.ensures c.in-Some.is (sym c.is_text.ensures ∙ w.if-is_text.true) c.left_to_do.ensures
  | then-is_text-via-else-is_text+then-is_text-2 w ↦ add_second c.pop_two.ensures c.in-Some.is (sym c.is_text.ensures ∙ w.if-is_text.false) (sym w.is_text-else-is_text.ensures ∙ w.if-is_text-2.true) c.left_to_do.ensures
]
