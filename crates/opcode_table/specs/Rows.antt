-- A row of the code as the machine's. Assumes nothing.
use Rattle.machine.specs.Opcodes as Machine
use Rattle.opcode_table.specs.declared.Row.{Row}

abbrev pub row_by : Row → Machine.Row
row_by r = Machine.row r.bytes r.taken r.pushed
