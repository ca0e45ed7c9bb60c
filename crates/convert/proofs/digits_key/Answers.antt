use native.Mathlib.Omega.{arith}
use Rattle.std.proofs.Common.{◌≡◌, refl, true, slice_index}
use Rattle.machine.specs.Number.{is_digit}
use Rattle.convert.specs.Keys.{reading_large}
use Rattle.convert.proofs.digits_key.Goals as goal

pub returns-in_err-checked_mul : goal.returns-in_err-checked_mul
returns-in_err-checked_mul c =
    let e : is_digit (slice_index c.args.s.now c.loop-b.b-index) ≡ true = cc in
    rw c.from_residual.ensures (reading_large c.args.s.now c.loop-b.worth c.loop-b.b-index c.loop-b.invariant c.loop-b-test.true _ e refl (omega (arith, c.in_err-checked_mul.ensures)))

pub returns-in_err-worth : goal.returns-in_err-worth
returns-in_err-worth c =
    let e : is_digit (slice_index c.args.s.now c.loop-b.b-index) ≡ true = cc in
    rw c.from_residual-in_err-worth.ensures (reading_large c.args.s.now c.loop-b.worth c.loop-b.b-index c.loop-b.invariant c.loop-b-test.true _ e refl (omega (arith, c.in_err-worth.ensures, c.in_ok-checked_mul.ensures, c.from.ensures)))
