use Rattle.std.proofs.Common.{true}
use Rattle.host.specs.Inside.{ascii_is}
use Rattle.host.proofs.questions.ascii.Goals as goal

pub returns-then-is_ascii : goal.returns-then-is_ascii
returns-then-is_ascii c = ascii_is c.args.s.now true c.if-is_ascii.ensures.cases
