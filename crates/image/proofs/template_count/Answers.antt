use mathlib.Core.Path.{sym, ◌∙◌}
use Rattle.image.proofs.Lookups.{count_past, count_is}
use Rattle.image.proofs.template_count.Goals as goal

pub returns-then-n-i : goal.returns-then-n-i
returns-then-n-i c = let a = c.args in λ code places. sym (count_past code places a.rows.now a.starts.now a.n a.i c.if-n-i.true)

pub returns : goal.returns
returns c = let a = c.args in let e = c.entry in λ code places. c.entry-2.ensures.0 ∙ sym (count_is code places a.rows.now a.starts.now a.n a.i e.result e.ensures.0 c.if-n-i.false)
