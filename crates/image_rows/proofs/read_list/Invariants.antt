use Rattle.std.proofs.Common.{◌≤◌, length}
use Rattle.image_rows.proofs.read_list.Given as goal

abbrev pub invariant-loop : goal.invariant-loop
invariant-loop l = l.size ≤ length l.list
