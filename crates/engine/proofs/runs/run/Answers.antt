use Rattle.std.specs.Prelude.{refl}
use Rattle.std.proofs.lemmas.Result.{err_from_is_err_and}
use Rattle.run.specs.Runs.{whole_ready}
use Rattle.host.specs.Lent.{whole_lent}
use Rattle.engine.specs.Runs.{no_image, start_refused, start_whole, start_ran}
use Rattle.engine.proofs.runs.run.Goals as goal

pub push_frame-requires : goal.push_frame-requires
push_frame-requires c = whole_ready (whole_lent c.in_ok-lent.ensures)

pub returns-in_err-loaded : goal.returns-in_err-loaded
returns-in_err-loaded c =
    let p = err_from_is_err_and c.from_residual-in_err-loaded.result c.from_residual-in_err-loaded.ensures.1 in
    let q = c.in_err-loaded.ensures in
    rw (p.1, p.2, q.1) (no_image c.args.image c.in_ok-lent.ensures q.0)

pub returns-in_err-depths : goal.returns-in_err-depths
returns-in_err-depths c =
    let p = err_from_is_err_and c.from_residual-in_err-depths.result c.from_residual-in_err-depths.ensures.1 in
    rw (p.1, p.2) (start_refused c.args.image c.in_ok-lent.ensures c.in_ok-loaded.ensures c.in_err-depths.field-0.0 c.in_err-depths.ensures)

pub run_loop-requires : goal.run_loop-requires
run_loop-requires c = start_whole c.args.image c.in_ok-lent.ensures c.in_ok-loaded.ensures c.in_ok-depths.ensures

pub returns : goal.returns
returns c = start_ran c.args.image c.in_ok-lent.ensures c.in_ok-loaded.ensures c.in_ok-depths.ensures c.run_loop.result refl c.run_loop.ensures.ran c.run_loop.ensures.leaves
