use Rattle.std.proofs.lemmas.Result.{err_from_is_err_and}
use Rattle.engine.specs.Loads.{load_refused, load_done}
use Rattle.engine.proofs.images.load.Goals as goal

pub returns-in_err-number : goal.returns-in_err-number
returns-in_err-number c =
    let p = err_from_is_err_and c.from_residual-in_err-number.result c.from_residual-in_err-number.ensures.1 in
    rw (p.1, p.2) (load_refused c.in_ok-lent.ensures c.in_err-number.ensures)

pub returns : goal.returns
returns c = load_done c.in_ok-lent.ensures c.in_ok-number.ensures c.load.auto.code c.load.auto.places c.load.auto.rows c.load.auto.starts
