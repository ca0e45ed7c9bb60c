use Rattle.texts.specs.Spans.{places}
use Rattle.texts.proofs.locate.Goals as goal

pub returns : goal.returns
returns c = places c.args.at c.args.size c.args.n _ _ c.min-from.ensures c.min.ensures
