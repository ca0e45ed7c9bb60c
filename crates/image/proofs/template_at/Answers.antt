use native.Mathlib.Omega.{arith}
use Prim.Native.Nat.{◌<◌}
use mathlib.Core.Path.{sym, ◌∙◌}
use lib.ListN.{get_or}
use Rattle.image.proofs.Lookups.{look_past, look_none, look, no_template_lem, row_shown}
use Rattle.image.proofs.template_at.Goals as goal

pub returns-then-n-i : goal.returns-then-n-i
returns-then-n-i c = let a = c.args in let h = c.default.ensures in λ code places. rw (h.0, h.1.0, h.1.1.0, h.1.1.1.0, h.1.1.1.1.0, h.1.1.1.1.1) (sym (look_past code places a.rows.now a.starts.now a.n a.i a.t c.if-n-i.true ∙ no_template_lem code places))

pub returns-then-entry-t : goal.returns-then-entry-t
returns-then-entry-t c = let a = c.args in let e = c.entry-b in let h = c.default-then-entry-t.ensures in λ code places. rw (h.0, h.1.0, h.1.1.0, h.1.1.1.0, h.1.1.1.1.0, h.1.1.1.1.1) (sym (look_none code places a.rows.now a.starts.now a.n a.i a.t e.result e.ensures.0 c.if-n-i.false (omega (arith, c.entry.ensures, c.if-entry-t.true)) ∙ no_template_lem code places))

pub returns : goal.returns
returns c = let a = c.args in let e = c.entry-b in
    let h : a.t < get_or a.rows.now e.result 0 = omega (arith, c.entry.ensures, c.if-entry-t.false) in
    λ code places. sym (look code places a.rows.now a.starts.now a.n a.i a.t e.result e.ensures.0 c.if-n-i.false h ∙ row_shown code places a.rows.now _
    ∙ rw (c.entry-2.ensures.0, c.entry-3.ensures.0, c.entry-4.ensures.0, c.entry-5.ensures.0, c.entry-6.ensures.0, c.entry-7.ensures.0))
