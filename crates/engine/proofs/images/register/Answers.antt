use Rattle.std.proofs.lemmas.Result.{err_from_is_err_and}
use Rattle.host.specs.Lent.{lent_sized}
use Rattle.engine.specs.Registers.{register_10, register_32, register_full, register_done}
use Rattle.engine.proofs.images.register.Goals as goal

pub add_function-requires : goal.add_function-requires
add_function-requires c = lent_sized c.in_ok-lent.ensures

pub returns-in_err-loaded : goal.returns-in_err-loaded
returns-in_err-loaded c =
    let p = err_from_is_err_and c.from_residual-in_err-loaded.result c.from_residual-in_err-loaded.ensures.1 in
    let q = c.in_err-loaded.ensures in
    rw (p.1, p.2, q.1) (register_10 c.args.image c.args.template c.in_ok-lent.ensures q.0)

pub returns-in_err-template : goal.returns-in_err-template
returns-in_err-template c =
    let p = err_from_is_err_and c.from_residual-in_err-template.result c.from_residual-in_err-template.ensures.1 in
    let q = c.in_err-template.ensures in
    rw (p.1, p.2, q.1) (register_32 c.args.image c.args.template c.in_ok-lent.ensures c.in_ok-loaded.ensures q.0)

pub returns-in_err-sizes : goal.returns-in_err-sizes
returns-in_err-sizes c =
    let p = err_from_is_err_and c.from_residual-in_err-sizes.result c.from_residual-in_err-sizes.ensures.1 in
    rw (p.1, p.2) (register_full c.args.image c.args.template c.in_ok-lent.ensures c.in_ok-loaded.ensures c.in_ok-template.ensures c.in_err-sizes.ensures)

pub returns : goal.returns
returns c = register_done c.args.image c.args.template c.in_ok-lent.ensures c.in_ok-loaded.ensures c.in_ok-template.ensures c.in_ok-sizes.ensures
