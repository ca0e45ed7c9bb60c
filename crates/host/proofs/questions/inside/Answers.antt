use Rattle.host.specs.Inside.{inside_is}
use Rattle.host.proofs.questions.inside.Goals as goal

pub returns-then-is_ascii : goal.returns-then-is_ascii
returns-then-is_ascii c =
    let f = rw c.in_ok-text.ensures.ok_part at c.named.ensures in
    inside_is c.args.bytes.now c.args.at c.args.size f.0 f.1 c.if-is_ascii.ensures.cases
