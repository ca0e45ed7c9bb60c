use Rattle.texts.specs.Spells.{writes_whole}
use Rattle.texts.proofs.output.write_bytes.Goals as goal

pub returns : goal.returns
returns c = writes_whole c.args.bytes.now c.args.buffer.now _ c.if-buffer-size.false c.copy.ensures
