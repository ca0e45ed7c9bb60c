use native.Mathlib.Omega.{arith}
use Rattle.texts.specs.Spells.{spelling_bytes, writes_sized, writes_as}
use Rattle.texts.proofs.output.write_text.Goals as goal

pub returns : goal.returns
returns c = writes_as (c.of-spelling.ensures.bytes c.args.texts.now) (writes_sized (spelling_bytes c.args.texts.now c.of-spelling.result) c.args.buffer.now _ _ (omega (arith, c.write.ensures.place)) (omega (arith, c.write.ensures.place, c.size.ensures)) c.write.ensures.bytes)
