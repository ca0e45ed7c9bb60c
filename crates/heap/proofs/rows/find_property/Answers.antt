use Rattle.std.proofs.Common.{◌≡◌, true, false, rules}
use Rattle.std.proofs.lemmas.Iterator.{first_from_Range}
use Rattle.heap.specs.Rows.{finds_first}
use Rattle.heap.specs.Finds.{pair_at}
use Rattle.heap.proofs.rows.find_property.Goals as goal

pub returns : goal.returns
returns c =
    let t = pair_at c.args.text.now c.args.heap.now c.args.owner c.args.key.now in
    finds_first t c.args.count _ (first_from_Range _ _ _ _ (λ i. t i ≡ true) (λ i. t i ≡ false) c.find.ensures.ran (λ x q k. search rules) (λ x q k. (search rules, search rules)))
