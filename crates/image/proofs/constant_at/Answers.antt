use Rattle.std.proofs.Common.{sym, ◌∙◌}
use Rattle.image.proofs.Lookups.{constant_none, constant_is}
use Rattle.image.proofs.constant_at.Goals as goal

pub returns-in_err-p : goal.returns-in_err-p
returns-in_err-p c = let a = c.args in
    rw c.from_residual.ensures (sym (constant_none a.code.now a.places.now a.t.constants a.t.constant_count a.k c.in_err-p.ensures))

pub returns : goal.returns
returns c = let a = c.args in let h = c.in_ok-p.ensures in
    sym (constant_is a.code.now a.places.now a.t.constants a.t.constant_count a.k h.0 ∙ rw (← h.1, c.held.ensures))
