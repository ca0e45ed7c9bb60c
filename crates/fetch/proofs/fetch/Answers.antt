use Rattle.fetch.specs.Running.{reads_past, reads_there}
use Rattle.fetch.proofs.fetch.Goals as goal

pub returns-then-x-p : goal.returns-then-x-p
returns-then-x-p c = let a = c.args in reads_past a.x a.n a.code.now a.d c.if-x-p.true

pub returns : goal.returns
returns c = let a = c.args in reads_there a.x a.n a.code.now a.d c.byte_at.result c.with_ip.result c.if-x-p.false c.byte_at.ensures.0 c.byte_at.ensures.1 c.with_ip.ensures
