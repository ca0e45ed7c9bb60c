use Rattle.std.proofs.Common.{◌≡◌, arith, ◌∙◌}
use Rattle.image.proofs.Views.{fill_image}
use Rattle.image.proofs.fill_image.Goals as goal

pub returns : goal.returns
returns c = let a = c.args in let t = c.fill_templates in
    let e : c.new-reader.result.at ≡ a.at = omega arith in
    let h = rw (c.new-reader.ensures.src, e) at c.in_ok-count.ensures.says in
    let g = rw (c.in_ok-count.ensures.src ∙ c.new-reader.ensures.src, c.from.ensures) at t.ensures.fills in
    fill_image a.s.now a.places.now a.rows.now _ _ a.at _ _ _ t.result h.0 h.1 (omega (arith, h.0.inside)) g
