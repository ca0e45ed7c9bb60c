use Rattle.std.proofs.Common.{rules, ◌≡◌}
use mathlib.Core.Bool.{not}
use Rattle.machine.specs.Convert.{to_boolean}
use Rattle.value.specs.Words.{value_of}
use Rattle.convert.specs.Truth.{truth_of}
use Rattle.convert.proofs.to_boolean.Goals as goal

pub returns-in-CodeText-clause-lengths : goal.returns-in-CodeText-clause-lengths
returns-in-CodeText-clause-lengths c =
    let e : not c.is_empty.result ≡ to_boolean c.args.texts.now (value_of c.args.v) = search rules in
    truth_of c.args.texts.now _ _ e

pub returns-in-MadeText-clause-lengths : goal.returns-in-MadeText-clause-lengths
returns-in-MadeText-clause-lengths c =
    let e : not c.is_empty-in-MadeText.result ≡ to_boolean c.args.texts.now (value_of c.args.v) = search rules in
    truth_of c.args.texts.now _ _ e
