use Rattle.std.proofs.Common.{arith, rules, refl, ◌∙◌, ◌-◌}
use Rattle.machine.specs.Image as I
use Rattle.reader.specs.Laws.{times_refused}
use Rattle.image.proofs.Lists.{same_refl}
use Rattle.image.proofs.Views.{placing_start, placing_step, placing_end}
use Rattle.image.proofs.fill_constants.Goals as goal

pub loop-i-init : goal.loop-i-init
loop-i-init c = let a = c.args in record { src = refl; placing = placing_start a.reader.now.src.now a.places.now a.own a.count a.reader.now.at a.n (omega arith) }

pub loop-i-preserved : goal.loop-i-preserved
loop-i-preserved c = let l = c.loop-i in let a = c.args in let h = rw l.invariant.src at c.in_ok-constant.ensures.tells in
    record {
      src = c.in_ok-constant.ensures.src ∙ l.invariant.src;
      placing = rw (c.at-first.ensures, c.at-at.ensures)
          (placing_step a.reader.now.src.now a.places.now l.places a.own a.count a.reader.now.at a.n l.reader.at l.i _ _ (omega arith) (omega (arith, l.invariant.placing.room, l.invariant.placing.sized, h.0.inside)) h.1 l.invariant.placing h.0);
    }

pub returns-in_err-constant-clause-fills : goal.returns-in_err-constant-clause-fills
returns-in_err-constant-clause-fills c = let l = c.loop-i in let a = c.args in let h = rw l.invariant.src at c.in_err-constant.ensures.tells in
    let e = l.invariant.placing.is a.reader.now.src.now l.places same_refl same_refl ∙ times_refused a.reader.now.src.now (I.constant a.own a.count) _ l.reader.at _ (a.n - l.i) (omega arith) h in
    search rules

pub returns-clause-fills : goal.returns-clause-fills
returns-clause-fills c = let l = c.loop-i in let a = c.args in
    placing_end a.reader.now.src.now a.places.now l.places a.own a.count a.reader.now.at a.n l.reader.at l.i (omega arith) l.invariant.placing
