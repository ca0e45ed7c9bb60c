use native.Mathlib.Omega.{arith}
use mathlib.Core.Path.{sym, ◌∙◌}
use Rattle.image.proofs.Lookups.{constant_by_lem, constant_unknown}
use Rattle.image.proofs.held.Goals as goal

pub returns-in-0 : goal.returns-in-0
returns-in-0 c = let a = c.args in rw (constant_by_lem a.code.now a.p 0 (sym c.in-0.is ∙ c.byte_of.ensures)) (rw c.long_of.ensures)

pub returns-in-1 : goal.returns-in-1
returns-in-1 c = let a = c.args in rw (constant_by_lem a.code.now a.p 1 (sym c.in-1.is ∙ c.byte_of.ensures)) (rw c.word_of.ensures)

pub returns-in-2 : goal.returns-in-2
returns-in-2 c = let a = c.args in rw (constant_by_lem a.code.now a.p 2 (sym c.in-2.is ∙ c.byte_of.ensures)) (rw c.byte_of-in-2.ensures)

pub returns-in-3 : goal.returns-in-3
returns-in-3 c = let a = c.args in rw (constant_by_lem a.code.now a.p 3 (sym c.in-3.is ∙ c.byte_of.ensures))

pub returns-in-4 : goal.returns-in-4
returns-in-4 c = let a = c.args in rw (constant_by_lem a.code.now a.p 4 (sym c.in-4.is ∙ c.byte_of.ensures))

pub returns-in-5 : goal.returns-in-5
returns-in-5 c = let a = c.args in rw (constant_by_lem a.code.now a.p 5 (sym c.in-5.is ∙ c.byte_of.ensures)) (rw c.word_of-in-5.ensures)

pub returns-in_default : goal.returns-in_default
returns-in_default c = let a = c.args in sym (constant_unknown a.code.now a.p c.byte_of.result c.byte_of.ensures (omega (arith, c.in_default.in_default-own.rest)))
