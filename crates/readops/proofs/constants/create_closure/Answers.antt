use mathlib.Core.Path.{◌≡◌, refl}
use Rattle.std.proofs.Common.{rules}
use Rattle.machine.specs.Value as M
use Rattle.machine.specs.Instruction as I
use Rattle.image.specs.Load.{found_of}
use Rattle.readops.specs.Constants.{constant_makes, constant_function}
use Rattle.readops.proofs.constants.create_closure.Goals as goal

pub returns-in_default-constant_at : goal.returns-in_default-constant_at
returns-in_default-constant_at c =
    let e : I.closure (found_of c.constant_at.result) ≡ I.pushed M.undefined = search rules in
    constant_makes I.closure c.fetch_word.ensures c.requires.runs c.constant_at.result c.in-Some.is c.constant_at.ensures e c.push_value.ensures

pub returns : goal.returns
returns c = constant_function I.closure c.fetch_word.ensures c.requires.runs c.in-Some.is c.constant_at.ensures c.in-Some-Function.is c.in-Some-Function.field-0-is refl c.requires.ready c.left_to_do.ensures
