use mathlib.Core.Path.{sym, ap, ◌∙◌}
use Rattle.machine.specs.Opcodes.{Attempt}
use Rattle.opcodes.specs.Rows.{row_unknown, row_made}
use Rattle.opcodes.proofs.row.row_of.Goals as goal

pub returns-then-whole-eq13 : goal.returns-then-whole-eq13
returns-then-whole-eq13 c = row_unknown c.args.op (sym (ap (λ (a : Attempt). a.number) c.attempt_of-whole.ensures) ∙ c.if-whole-eq13.true)

pub returns : goal.returns
returns c =
    row_made c.args.op (λ q. c.if-whole-eq13.false (ap (λ (a : Attempt). a.number) c.attempt_of-whole.ensures ∙ q)) (ap (λ (a : Attempt). a.standing) c.attempt_of-whole.ensures)
    (ap (λ (a : Attempt). a.standing) c.attempt_of-other.ensures) c.bytes_for-bytes.ensures c.operands_for-least.ensures.0 c.taken.ensures c.pushed.ensures
