use Rattle.opcode.specs.declared.Deferred.TheVariants.{Unknown}
use Rattle.dispatch.specs.Dispatch.{by_program, by_more}
use Rattle.dispatch.proofs.execute.Goals as goal

pub returns-in-Some : goal.returns-in-Some
returns-in-Some c = by_program (rw c.in-Some.is at c.from_byte.ensures) c.execute_opcode.ensures

pub returns-in-None : goal.returns-in-None
returns-in-None c = by_program (rw c.in-None.is at c.from_byte.ensures) (by_more {op = Unknown c.args.op} c.requires.ready c.requires.runs c.defer.ensures)
