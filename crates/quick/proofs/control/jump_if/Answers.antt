use Rattle.quick.specs.Senses.{jump_if_goes, jump_if_stays}
use Rattle.quick.proofs.control.jump_if.Goals as goal

pub returns-then-t-clause-quickly : goal.returns-then-t-clause-quickly
returns-then-t-clause-quickly g c = jump_if_goes _ c.requires.operand c.requires.in_frame.runs c.with_ip-e.ensures c.truth_of.ensures c.in_ok-t.was c.if-t.true c.with_operands-f.ensures c.with_ip.ensures

pub returns-clause-quickly : goal.returns-clause-quickly
returns-clause-quickly g c = jump_if_stays _ c.requires.operand c.requires.in_frame.runs c.with_ip-e.ensures c.truth_of.ensures c.in_ok-t.was c.if-t.false c.with_operands-f.ensures
