use Rattle.std.proofs.Common.{arith, ◌∙◌}
use Rattle.reader.specs.Laws.{image_over}
use Rattle.reader.proofs.Reader.image.Goals as goal

pub returns-then-self-clause-passes : goal.returns-then-self-clause-passes
returns-then-self-clause-passes c =
    let h = c.in_ok-count.ensures in
    let g = rw (h.src, c.from.ensures) at c.in_ok-skip_templates.ensures.passes in
    let e = rw (c.in_ok-skip_templates.ensures.src ∙ h.src) at c.if-self.true in
    image_over h.says.0 (omega arith) (omega arith) g.reads e
