use mathlib.Core.Path.{sym, ap, ◌∙◌}
use Rattle.convert.specs.Truth.{truth_in}
use Rattle.stackops.specs.Values.{agrees, agrees_is}
use Rattle.stackops.specs.Control.{branch_cut, branch_short, branch_goes, branch_stays}
use Rattle.stackops.proofs.control.jump_if.Goals as goal

pub returns-in_default-clause-lengths : goal.returns-in_default-clause-lengths
returns-in_default-clause-lengths g c = λ b h. branch_cut (agrees _) c.fetch_word.ensures c.requires.runs c.in_default.is c.cut_short.ensures

pub returns-in_default-pop-clause-bytes : goal.returns-in_default-pop-clause-bytes
returns-in_default-pop-clause-bytes g c = branch_short (agrees _) c.fetch_word.ensures c.requires.runs c.in-Some.is c.pop.ensures c.in_default-pop.is c.underflow.ensures

pub returns-in_default-pop-clause-lengths : goal.returns-in_default-pop-clause-lengths
returns-in_default-pop-clause-lengths g c = λ b h. branch_short (agrees _) c.fetch_word.ensures c.requires.runs c.in-Some.is c.pop.ensures c.in_default-pop.is c.underflow.ensures

pub returns-then-to_boolean-clause-bytes : goal.returns-then-to_boolean-clause-bytes
returns-then-to_boolean-clause-bytes g c = branch_goes (agrees _) c.fetch_word.ensures c.requires.runs c.in-Some.is c.pop.ensures c.in-Some-pop.is (ap (agrees _) (sym c.to_boolean.ensures.bytes) ∙ agrees_is _ _ ∙ c.if-to_boolean.true) c.with_ip.ensures c.went.ensures

pub returns-then-to_boolean-clause-lengths : goal.returns-then-to_boolean-clause-lengths
returns-then-to_boolean-clause-lengths g c = λ b h. branch_goes (agrees _) c.fetch_word.ensures c.requires.runs c.in-Some.is c.pop.ensures c.in-Some-pop.is (ap (agrees _) (sym (truth_in c.to_boolean.ensures.lengths b h)) ∙ agrees_is _ _ ∙ c.if-to_boolean.true) c.with_ip.ensures c.went.ensures

pub returns-clause-bytes : goal.returns-clause-bytes
returns-clause-bytes g c = branch_stays (agrees _) c.fetch_word.ensures c.requires.runs c.in-Some.is c.pop.ensures c.in-Some-pop.is (ap (agrees _) (sym c.to_boolean.ensures.bytes) ∙ agrees_is _ _ ∙ c.if-to_boolean.false) c.went-2.ensures

pub returns-clause-lengths : goal.returns-clause-lengths
returns-clause-lengths g c = λ b h. branch_stays (agrees _) c.fetch_word.ensures c.requires.runs c.in-Some.is c.pop.ensures c.in-Some-pop.is (ap (agrees _) (sym (truth_in c.to_boolean.ensures.lengths b h)) ∙ agrees_is _ _ ∙ c.if-to_boolean.false) c.went-2.ensures
