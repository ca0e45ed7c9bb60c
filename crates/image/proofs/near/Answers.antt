use Rattle.std.proofs.Common.{sym, ◌∙◌}
use Rattle.image.proofs.Lookups.{constant_is, window_first}
use Rattle.image.proofs.near.Goals as goal

pub returns : goal.returns
returns c = let a = c.args in let h = c.in_ok-p.ensures in let w = window_first a.code.now _ _ _ c.in_ok-get.ensures.lookup.0.2 c.in_ok-first_chunk.ensures.cases.same in
    record { told = sym (constant_is a.code.now a.places.now a.t.constants a.t.constant_count a.k h.0 ∙ rw (← h.1, c.constant_in.ensures a.code.now w)) }
