use Rattle.dispatch.specs.Dispatch.{by_meets, by_any, to_coded_text}
use Rattle.dispatch.proofs.execute_opcode.Goals as goal

pub returns-in-JumpIfFalse : goal.returns-in-JumpIfFalse
returns-in-JumpIfFalse c = rw c.in-JumpIfFalse.is (by_meets to_coded_text c.jump_if.ensures.bytes)

pub returns-in-JumpIfTrue : goal.returns-in-JumpIfTrue
returns-in-JumpIfTrue c = rw c.in-JumpIfTrue.is (by_meets to_coded_text c.jump_if-in-JumpIfTrue.ensures.bytes)

pub returns-in-LeaveTry : goal.returns-in-LeaveTry
returns-in-LeaveTry c = rw c.in-LeaveTry.is (by_any (c.leave_try.ensures c.args.stacks.now))
