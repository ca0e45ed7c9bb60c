use Rattle.std.proofs.Common.{arith, rules, refl, ◌∙◌, ◌-◌}
use Rattle.reader.specs.Laws.{templates_refused}
use Rattle.image.proofs.Lists.{same_refl}
use Rattle.image.proofs.Views.{filling_start, filling_step, filling_end}
use Rattle.image.proofs.fill_templates.Goals as goal

pub loop-own-init : goal.loop-own-init
loop-own-init c = let a = c.args in record { src = refl; filling = filling_start a.reader.now.src.now a.places.now a.rows.now a.count a.reader.now.at (omega arith) }

pub loop-own-preserved : goal.loop-own-preserved
loop-own-preserved c = let l = c.loop-own in let h = rw (l.invariant.src, c.at-first.ensures) at c.in_ok-fill_template.ensures.fills in
    record {
      src = c.in_ok-fill_template.ensures.src ∙ l.invariant.src;
      filling = filling_step c.loop-own-test.true l.invariant.filling h c.fill_template.auto.places c.fill_template.auto.rows;
    }

pub returns-in_err-fill_template-clause-fills : goal.returns-in_err-fill_template-clause-fills
returns-in_err-fill_template-clause-fills c = let l = c.loop-own in let a = c.args in let h = rw l.invariant.src at c.in_err-fill_template.ensures.fills in
    let e = l.invariant.filling.is a.reader.now.src.now l.places l.rows same_refl same_refl same_refl
    ∙ templates_refused a.reader.now.src.now a.count l.own _ l.reader.at _ (a.count - l.own) (omega (arith, c.loop-own-test.true)) h in
    search rules

pub returns-clause-fills : goal.returns-clause-fills
returns-clause-fills c = filling_end c.loop-own-test.false c.loop-own.invariant.filling
