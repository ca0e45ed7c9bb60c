use Rattle.std.proofs.Common.{refl}
use Rattle.number.specs.Layout.{room_as, spelled, whole_of, wrote_nan, wrote_pointed}
use Rattle.number.proofs.format.Layout.write.Goals as goal

pub returns-in-NotANumber : goal.returns-in-NotANumber
returns-in-NotANumber c = rw c.in-NotANumber.is (wrote_nan c.args.out.now c.args.at _ (room_as c.args.self _ c.args.at _ c.in-NotANumber.is c.requires) refl)

pub returns-in-Pointed : goal.returns-in-Pointed
returns-in-Pointed c = rw c.in-Pointed.is (wrote_pointed (whole_of c.in-Pointed.minus c.in-Pointed.d) (spelled c.in-Pointed.e) c.args.out.now c.args.at _ _ (room_as c.args.self _ c.args.at _ c.in-Pointed.is c.requires) c.write_signed-point.ensures _ _ c.write.ensures)
