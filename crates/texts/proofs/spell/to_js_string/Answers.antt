use Rattle.texts.specs.Spells.{spells_number, spells_word}
use Rattle.texts.proofs.spell.to_js_string.Goals as goal

pub returns-in-Number : goal.returns-in-Number
returns-in-Number c = spells_number c.of.ensures c.args.buffer.now c.requires _ _ _ c.in-Number.is c.write.ensures

pub returns-in-Word : goal.returns-in-Word
returns-in-Word c = spells_word c.of.ensures c.args.buffer.now c.requires _ _ _ c.in-Word.is c.put.ensures
