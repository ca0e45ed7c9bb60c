use mathlib.Core.Path.{refl}
use Rattle.machine.specs.Instruction as I
use Rattle.readops.specs.Constants.{constant_none, constant_some, constant_function}
use Rattle.readops.proofs.constants.load_const.Goals as goal

pub returns-in-Some-Number : goal.returns-in-Some-Number
returns-in-Some-Number c = constant_some I.load_constant c.fetch_word.ensures c.requires.runs c.in-Some.is c.constant_at.ensures c.in-Some-Number.is c.in-Some-Number.field-0-is c.push_value.ensures

pub returns-in-Some-Str : goal.returns-in-Some-Str
returns-in-Some-Str c = constant_some I.load_constant c.fetch_word.ensures c.requires.runs c.in-Some.is c.constant_at.ensures c.in-Some-Str.is c.in-Some-Str.field-0-is c.push_value-in-Some-Str.ensures

pub returns-in-Some-Bool : goal.returns-in-Some-Bool
returns-in-Some-Bool c = constant_some I.load_constant c.fetch_word.ensures c.requires.runs c.in-Some.is c.constant_at.ensures c.in-Some-Bool.is c.in-Some-Bool.field-0-is c.push_value-in-Some-Bool.ensures

pub returns-in-Some-Null : goal.returns-in-Some-Null
returns-in-Some-Null c = constant_some I.load_constant c.fetch_word.ensures c.requires.runs c.in-Some.is c.constant_at.ensures c.in-Some-Null.is c.in-Some-Null.field-0-is c.push_value-in-Some-Null.ensures

pub returns-in-Some-Undefined : goal.returns-in-Some-Undefined
returns-in-Some-Undefined c = constant_some I.load_constant c.fetch_word.ensures c.requires.runs c.in-Some.is c.constant_at.ensures c.in-Some-Undefined.is c.in-Some-Undefined.field-0-is c.push_value-in-Some-Undefined.ensures

pub returns-in-None : goal.returns-in-None
returns-in-None c = constant_none I.load_constant c.fetch_word.ensures c.requires.runs c.in-Some.is c.constant_at.ensures c.in-None.is c.push_value-in-None.ensures

pub returns-in-Some-Function : goal.returns-in-Some-Function
returns-in-Some-Function c = constant_function I.load_constant c.fetch_word.ensures c.requires.runs c.in-Some.is c.constant_at.ensures c.in-Some-Function.is c.in-Some-Function.field-0-is refl c.requires.ready c.left_to_do.ensures
