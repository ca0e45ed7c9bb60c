use Rattle.reader.specs.Laws.{text_got}
use Rattle.reader.proofs.Reader.text.Goals as goal

pub returns-then-is_ascii-clause-tells : goal.returns-then-is_ascii-clause-tells
returns-then-is_ascii-clause-tells c =
    let g = rw (c.in_ok-size.ensures.src, c.from.ensures) at c.in_ok-bytes.ensures.spans.0 in
    rw c.from-then-is_ascii.ensures (text_got c.in_ok-size.ensures.says.0 g c.if-is_ascii.ensures.cases)
