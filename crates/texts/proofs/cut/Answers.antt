use native.Mathlib.Omega.{arith}
use Rattle.std.proofs.Common.{ap, ◌∙◌, List, ℕ, take, drop}
use Rattle.texts.specs.Spans.{bytes_all}
use Rattle.texts.proofs.cut.Goals as goal

pub returns : goal.returns
returns c = c.locate.ensures.bytes c.args.bytes.now (omega arith) ∙ ap (λ (x : List ℕ). take c.args.size (drop c.args.at x)) (bytes_all c.args.bytes.now)
