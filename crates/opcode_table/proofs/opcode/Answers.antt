use mathlib.Core.Path.{sym}
use native.Mathlib.Omega.{arith}
use Rattle.machine.specs.OpcodeTable.{opcode_table}
use Rattle.machine.proofs.OpcodeTable.{agrees, past}
use Rattle.opcode_table.proofs.opcode.Goals as goal

pub returns-then-b-gt255 : goal.returns-then-b-gt255
returns-then-b-gt255 c = sym (past c.args.b (omega (arith, c.if-b-gt255.true)))

pub returns : goal.returns
unfolding opcode_table
returns c = agrees c.args.b (omega (arith, c.if-b-gt255.false))
