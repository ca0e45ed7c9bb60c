use Rattle.std.proofs.Common.{sym, ap, ◌∙◌, Bool, rules, tests}
use Rattle.std.specs.Prelude.{if◌then◌else◌}
use Rattle.std.proofs.lemmas.Iterator.{YieldsList-from_slice}
use Rattle.std.proofs.lemmas.Iterator.Search.{all_from_yields_List}
use Rattle.machine.specs.Number as N
use Rattle.machine.specs.Reading as R
use Rattle.number.specs.Parse.{trailing_lem}
use Rattle.number.proofs.parse.trailing.Goals as goal

pub returns-then-all : goal.returns-then-all
returns-then-all c =
    let all = all_from_yields_List N.is_blank _ _ _ c.all.ensures.ran (YieldsList-from_slice c.args.s.now (cc)) (λ x b q k. search (rules, tests)) in
    sym (trailing_lem c.args.minus c.args.n c.args.s.now ∙ ap (λ (t : Bool). if t then R.trailing c.args.minus c.args.n else R.invalid) (sym all ∙ c.if-all.true))

pub returns-else-all : goal.returns-else-all
returns-else-all c =
    let all = all_from_yields_List N.is_blank _ _ _ c.all.ensures.ran (YieldsList-from_slice c.args.s.now (cc)) (λ x b q k. search (rules, tests)) in
    sym (trailing_lem c.args.minus c.args.n c.args.s.now ∙ ap (λ (t : Bool). if t then R.trailing c.args.minus c.args.n else R.invalid) (sym all ∙ c.if-all.false))
