use Rattle.std.proofs.Common.{arith, ◌∙◌, ◌-◌, ◌+◌, [], ◌∷◌, ◌++◌}
use Rattle.reader.specs.Laws.{times_step}
use Rattle.reader.proofs.Reader.skip_constants.Goals as goal

pub loop-preserved : goal.loop-preserved
loop-preserved c =
    let l = c.loop in
    let h = rw l.invariant.same at c.in_ok-constant.ensures.tells in
    record {
      same = c.in_ok-constant.ensures.src ∙ l.invariant.same;
      on = omega arith;
      left = record {
        items = l.invariant.left.items ++ (_ ∷ []);
        is = l.invariant.left.is ∙ times_step _ _ _ _ _ _ (c.args.n - l.counter) (c.args.n - (l.counter + 1)) (omega arith) h.0;
      };
    }
