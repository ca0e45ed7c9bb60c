use Rattle.std.proofs.Common.{sym}
use Rattle.texts.specs.Spans.{bytes_take}
use Rattle.texts.proofs.stores.in_use.Goals as goal

pub returns : goal.returns
returns c = sym (bytes_take c.args.store.now c.args.n c.requires)
