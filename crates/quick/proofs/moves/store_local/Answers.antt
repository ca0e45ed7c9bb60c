use Rattle.quick.specs.Quickly.{stores_local}
use Rattle.quick.proofs.moves.store_local.Goals as goal

pub returns-clause-quickly : goal.returns-clause-quickly
returns-clause-quickly c = (stores_local c.requires.ready c.requires.in_frame c.requires.operand c.if-c-eq0.false c.if-y-i.false c.copy.ensures c.copy.auto.w c.with_ip.ensures c.with_operands.ensures).0
