use Rattle.std.proofs.Common.{ap, length}
use Rattle.texts.specs.Spells.{sized_of}
use Rattle.texts.proofs.spell.Spelling.size.Goals as goal

pub returns-in-Code-clause-lengths : goal.returns-in-Code-clause-lengths
returns-in-Code-clause-lengths c = rw c.in-Code.is (sized_of c.args.texts.now _ _ (ap length c.code_text.ensures))

pub returns-in-Text-clause-lengths : goal.returns-in-Text-clause-lengths
returns-in-Text-clause-lengths c = rw c.in-Text.is (sized_of c.args.texts.now _ _ (ap length c.made_text.ensures))
