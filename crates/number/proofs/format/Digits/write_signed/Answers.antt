use Rattle.number.specs.Layout.{wrote_minus}
use Rattle.number.proofs.format.Digits.write_signed.Goals as goal

pub returns-then-minus : goal.returns-then-minus
returns-then-minus c = wrote_minus c.args.minus c.args.self c.args.out.now c.args.at c.requires c.if-minus.true _ _ c.write.ensures
