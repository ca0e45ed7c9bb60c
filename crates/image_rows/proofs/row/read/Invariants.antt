use Rattle.std.proofs.Common.{length}
use Rattle.image_rows.proofs.row.read.Given as goal

abbrev pub decreases-loop-found : goal.decreases-loop-found
decreases-loop-found l = length l.rest
