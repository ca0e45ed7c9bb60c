use Rattle.std.proofs.Common.{◌+◌, arith, ap, sym, refl, ◌∙◌, eqb, get_or}
use Rattle.machine.specs.Value.{in_code}
use Rattle.machine.specs.Image.{Constant}
use Rattle.image.proofs.Lookups.{kind_in, unknown_in, word_in, long_in}
use Rattle.image.proofs.constant_in.Goals as goal

pub returns-in-0 : goal.returns-in-0
returns-in-0 c = let a = c.args in λ code w.
    ap Constant.number (c.from_be_bytes.ensures ∙ long_in code a.bytes.now a.p w) ∙ sym (kind_in code a.bytes.now a.p w 0 c.in-0.is)

pub returns-in-1 : goal.returns-in-1
returns-in-1 c = let a = c.args in λ code w.
    ap (λ n. Constant.text (record { store = in_code; at = a.p + 3; size = n })) (c.from.ensures ∙ c.from_be_bytes-in-1.ensures ∙ word_in code a.bytes.now a.p w)
    ∙ sym (kind_in code a.bytes.now a.p w 1 c.in-1.is)

pub returns-in-2 : goal.returns-in-2
returns-in-2 c = let a = c.args in λ code w.
    ap (λ n. Constant.boolean (eqb n 1)) (w.same 1 (omega arith)) ∙ sym (kind_in code a.bytes.now a.p w 2 c.in-2.is)

pub returns-in-3 : goal.returns-in-3
returns-in-3 c = let a = c.args in λ code w. sym (kind_in code a.bytes.now a.p w 3 c.in-3.is)

pub returns-in-4 : goal.returns-in-4
returns-in-4 c = let a = c.args in λ code w. sym (kind_in code a.bytes.now a.p w 4 c.in-4.is)

pub returns-in-5 : goal.returns-in-5
returns-in-5 c = let a = c.args in λ code w.
    ap Constant.function (c.from-in-5.ensures ∙ c.from_be_bytes-in-5.ensures ∙ word_in code a.bytes.now a.p w) ∙ sym (kind_in code a.bytes.now a.p w 5 c.in-5.is)

pub returns-in_default : goal.returns-in_default
returns-in_default c = let a = c.args in λ code w. sym (unknown_in code a.bytes.now a.p w (get_or a.bytes.now 0 0) refl (omega arith))
