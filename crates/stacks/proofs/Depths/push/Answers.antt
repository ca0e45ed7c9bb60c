use Rattle.std.proofs.lemmas.Result.{err_from_is_err_and}
use Rattle.stacks.specs.Laws.{push_went, push_full}
use Rattle.value.specs.Words.{value_of}
use Rattle.stacks.proofs.Depths.push.Goals as goal

pub returns-in_err-d : goal.returns-in_err-d
returns-in_err-d c =
    let p = err_from_is_err_and c.from_residual.result c.from_residual.ensures.1 in
    rw (p.1, p.2, c.in_err-d.ensures.1) (push_full c.args.self c.args.stacks.now c.requires (value_of c.args.v) c.in_err-d.ensures.0)

pub returns : goal.returns
returns c = rw c.in_ok-d.ensures.1 (push_went c.args.self c.args.stacks.now c.requires c.args.v c.write.new.w c.in_ok-d.ensures.0 c.write.ensures)
