use native.Mathlib.Omega.{arith}
use Rattle.std.proofs.Common.{add-one, length-set}
use Rattle.std.proofs.Math.Seq.{paste-suc}
use Rattle.image.proofs.copy.Goals as goal

pub loop-i-preserved : goal.loop-i-preserved
loop-i-preserved c = let l = c.loop-i in let a = c.args in
    (rw (l.invariant.0, add-one) (paste-suc a.code.now a.at a.image.now l.i 0 (omega arith) (omega arith)), simp length-set l.invariant.1)
