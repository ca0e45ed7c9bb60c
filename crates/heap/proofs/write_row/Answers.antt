use Rattle.heap.specs.Tables.{row_written}
use Rattle.heap.proofs.write_row.Goals as goal

pub returns : goal.returns
returns c = row_written c.args.heap.now c.args.k c.args.head c.args.at c.args.size c.args.v _ c.write.ensures
