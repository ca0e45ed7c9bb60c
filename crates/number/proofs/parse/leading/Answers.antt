use Rattle.std.proofs.Common.{◌∙◌, arith}
use Rattle.std.proofs.lemmas.List.{take_rest}
use Rattle.number.specs.Parse.{leading_end, leading_minus, leading_other}
use Rattle.number.proofs.parse.leading.Goals as goal

pub returns-in-empty : goal.returns-in-empty
returns-in-empty c = leading_end c.args.s.now c.after_blanks.result.now c.after_blanks.ensures c.in-empty.len_below

pub returns-in-45 : goal.returns-in-45
returns-in-45 c = rw take_rest at c.digits.ensures ∙ leading_minus c.args.s.now c.after_blanks.result.now c.after_blanks.ensures c.in-45.len_at_least (omega arith)

pub returns-in_default : goal.returns-in_default
returns-in_default c = c.digits-in_default.ensures ∙ leading_other c.args.s.now c.after_blanks.result.now c.after_blanks.ensures c.in_default.len_at_least (omega arith)
