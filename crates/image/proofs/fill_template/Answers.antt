use Rattle.std.proofs.Common.{rules, arith, ◌∙◌}
use Rattle.image.proofs.Lists.{same_refl}
use Rattle.image.proofs.Views.{fill_one, row_put}
use Rattle.reader.specs.Laws.{template_missing}
use Rattle.image.proofs.fill_template.Goals as goal

pub returns-in_err-tail-clause-fills : goal.returns-in_err-tail-clause-fills
returns-in_err-tail-clause-fills c = let a = c.args in let s = a.reader.now.src.now in
    let g = rw c.in_ok-head.ensures.src at c.in_ok-fill_constants.ensures.fills in
    let t = rw (c.in_ok-fill_constants.ensures.src ∙ c.in_ok-head.ensures.src) at c.in_err-tail.ensures.tailed in
    let e = template_missing s a.own a.count a.reader.now.at _ _ _ _ c.in_ok-head.ensures.headed _ _ _ (g.reads s c.fill_constants.new.places same_refl same_refl) t.0 in
    search rules

pub returns-clause-fills : goal.returns-clause-fills
returns-clause-fills c = let a = c.args in
    let g = rw c.in_ok-head.ensures.src at c.in_ok-fill_constants.ensures.fills in
    let t = rw (c.in_ok-fill_constants.ensures.src ∙ c.in_ok-head.ensures.src) at c.in_ok-tail.ensures.tailed in
    let h = c.in_ok-head.ensures.headed in
    rw c.at-first.ensures (fill_one h g t (row_put a.rows.now a.r _ (omega (arith, h.on, g.room, t.on, t.second.inside))))
