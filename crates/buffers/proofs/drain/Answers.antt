use Rattle.std.proofs.Common.{◌≡◌}
use Rattle.std.proofs.lemmas.Result.{err_from_is_err_and}
use Rattle.host.specs.declared.refusal.Refusal.TheVariants.{BufferTooShort}
use Rattle.buffers.specs.Writes.{drain_short, drain_bytes}
use Rattle.buffers.proofs.drain.Goals as goal

pub returns-in_err-size-clause-called : goal.returns-in_err-size-clause-called
returns-in_err-size-clause-called c =
    let e = c.in_err-size.ensures in
    let v = rw e.ok_part at e.value in
    let short : c.in_err-size.field-0.0 ≡ BufferTooShort = cc in
    let p = err_from_is_err_and c.from_residual-in_err-size.result c.from_residual-in_err-size.ensures.1 in
    rw (p.1, p.2, short) (drain_short c.in_ok-lent.ensures (rw e.ok_part at c.write_bytes.ensures)).0

pub returns-clause-called : goal.returns-clause-called
returns-clause-called c = (drain_bytes c.in_ok-lent.ensures (rw c.in_ok-size.ensures.ok_part at c.write_bytes.ensures)).0

pub returns-clause-buffered : goal.returns-clause-buffered
returns-clause-buffered c = (drain_bytes c.in_ok-lent.ensures (rw c.in_ok-size.ensures.ok_part at c.write_bytes.ensures)).1
