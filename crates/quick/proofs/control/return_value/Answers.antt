use mathlib.Core.Path.{sym, ◌∙◌}
use Rattle.quick.specs.Quickly.{returns_only}
use Rattle.quick.proofs.control.return_value.Goals as goal

pub returns : goal.returns
returns c = returns_only c.requires c.if-c-eq0.false c.with_operands.ensures c.saturating_sub-k.ensures (sym c.saved_more.ensures ∙ c.if-saved_more.false) c.cut_frames-e.ensures c.with_operands-2.ensures
