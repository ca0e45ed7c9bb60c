use Rattle.machine.specs.Program.{make}
use Rattle.machine.specs.Instruction as I
use Rattle.machine.specs.Act as A
use Rattle.machine.specs.Out.{out_pop_frame}
use Rattle.outcome.specs.Meets.{after_pop, pop_fails, after_gives}
use Rattle.machine.specs.Instruction.{Jump, JumpIfFalse, JumpIfTrue, Return, Throw, EnterTry, LeaveTry, Halt}
use Rattle.stackops.proofs.control.return_value.Goals as goal

pub returns-in_default : goal.returns-in_default
returns-in_default c = pop_fails (λ v. make A.pop_frame (I.pushed v)) c.pop.ensures c.in_default.is c.underflow.ensures

pub returns : goal.returns
returns c = after_pop (λ v. make A.pop_frame (I.pushed v)) c.pop.ensures c.in-Some.is (after_gives out_pop_frame c.pop_frame-f.ensures c.push_value.ensures)
