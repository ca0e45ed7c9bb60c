use Rattle.std.proofs.Common.{arith, ◌∙◌, ◌-◌, ◌+◌, [], ◌∷◌, ◌++◌}
use Rattle.reader.specs.Laws.{templates_step}
use Rattle.reader.proofs.Reader.skip_templates.Goals as goal

pub loop-own-preserved : goal.loop-own-preserved
loop-own-preserved c =
    let l = c.loop-own in
    let h = rw l.invariant.same at c.in_ok-skip_template.ensures.passes in
    record {
      same = c.in_ok-skip_template.ensures.src ∙ l.invariant.same;
      on = omega (arith, h.reads.on);
      left = record {
        items = l.invariant.left.items ++ (h.value ∷ []);
        is = l.invariant.left.is ∙ templates_step _ _ _ _ _ _ _ (c.args.count - l.own) (c.args.count - (l.own + 1)) (omega arith) h.reads;
      };
    }
