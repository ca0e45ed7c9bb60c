use Rattle.std.proofs.lemmas.Result.{err_from_is_err_and}
use Rattle.stacks.specs.Laws.{push_holds, push_full}
use Rattle.value.specs.Words.{value_at}
use Rattle.stacks.proofs.Depths.push_copy.Goals as goal

pub returns-in_err-d : goal.returns-in_err-d
returns-in_err-d c =
    let p = err_from_is_err_and c.from_residual.result c.from_residual.ensures.1 in
    rw (p.1, p.2, c.in_err-d.ensures.1) (push_full c.args.self c.args.stacks.now c.requires.ready (value_at c.args.stacks.now c.args.k) c.in_err-d.ensures.0)

pub returns : goal.returns
returns c = rw c.in_ok-d.ensures.1 (push_holds c.args.self c.args.stacks.now c.requires.ready (value_at c.args.stacks.now c.args.k) c.copy.new.w c.in_ok-d.ensures.0 c.copy.ensures c.copy.auto.w)
