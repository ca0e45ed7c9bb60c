use Rattle.texts.specs.Lines.{later_wrote}
use Rattle.texts.proofs.output.write_item.Goals as goal

pub returns : goal.returns
returns c = later_wrote c.args.i _ c.if-i-eq0.false c.args.dest.now c.args.at c.requires _ _ c.write_value-2.ensures
