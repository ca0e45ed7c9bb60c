use Rattle.std.proofs.Common.{◌∙◌, rules}
use Rattle.reader.specs.Laws.{template_got, template_missing}
use Rattle.reader.proofs.Reader.skip_template.Goals as goal

pub returns-in_err-tail-clause-passes : goal.returns-in_err-tail-clause-passes
returns-in_err-tail-clause-passes c =
    let s = c.args.self.now.src.now in
    let h = c.in_ok-head.ensures.headed in
    let g = rw c.in_ok-head.ensures.src at c.in_ok-skip_constants.ensures.passes in
    let f = rw (c.in_ok-skip_constants.ensures.src ∙ c.in_ok-head.ensures.src) at c.in_err-tail.ensures.tailed in
    let e = template_missing s c.args.own c.args.count c.args.self.now.at _ _ _ _ h _ _ _ g.reads f.0 in
    search rules

pub returns-clause-passes : goal.returns-clause-passes
returns-clause-passes c =
    let s = c.args.self.now.src.now in
    let h = c.in_ok-head.ensures.headed in
    let g = rw c.in_ok-head.ensures.src at c.in_ok-skip_constants.ensures.passes in
    let f = rw (c.in_ok-skip_constants.ensures.src ∙ c.in_ok-head.ensures.src) at c.in_ok-tail.ensures.tailed in
    record { value = _; reads = template_got s c.args.own c.args.count c.args.self.now.at _ _ _ _ h _ _ _ _ _ g.reads f }
