use Rattle.std.proofs.Common.{ap, sym, ◌∙◌, ℕ, length}
use Rattle.texts.specs.Lengths.{part_same}
use Rattle.heap.specs.Finds.{stores, length_of, object_known, object_unknown}
use Rattle.heap.proofs.held.Heap.get_property.Goals as goal

pub returns-in-CodeText-clause-lengths : goal.returns-in-CodeText-clause-lengths
returns-in-CodeText-clause-lengths c = λ k h.
    rw c.in-CodeText.is (c.text_property.ensures ∙ ap (λ (n : ℕ). length_of n c.args.key.now) (ap length c.code_text.ensures ∙ part_same c.args.texts.now.code k c.in-CodeText.at c.in-CodeText.size (sym h)))

pub returns-in-Object-clause-bytes : goal.returns-in-Object-clause-bytes
returns-in-Object-clause-bytes c =
    rw (c.in-Object.is, ← c.self.view_is) (object_known c.args.texts.now c.self.inside.words.now c.self.inside.sizes.objects c.self.inside.sizes.properties c.in-Object.id c.args.key.now _ c.if-id-self.true (rw c.text.ensures at c.property.ensures c.args.texts.now.code))

pub returns-in-Object-clause-lengths : goal.returns-in-Object-clause-lengths
returns-in-Object-clause-lengths c = λ k h.
    rw (c.in-Object.is, ← c.self.view_is) (object_known (stores k c.args.texts.now.text) c.self.inside.words.now c.self.inside.sizes.objects c.self.inside.sizes.properties c.in-Object.id c.args.key.now _ c.if-id-self.true (rw c.text.ensures at c.property.ensures k))

pub returns-in_default-clause-bytes : goal.returns-in_default-clause-bytes
returns-in_default-clause-bytes c =
    rw (c.in-Object.is, ← c.self.view_is) (object_unknown c.args.texts.now c.self.inside.words.now c.self.inside.sizes.objects c.self.inside.sizes.properties c.in-Object.id c.args.key.now c.if-id-self.false)

pub returns-in_default-clause-lengths : goal.returns-in_default-clause-lengths
returns-in_default-clause-lengths c = λ k h.
    rw (c.in-Object.is, ← c.self.view_is) (object_unknown (stores k c.args.texts.now.text) c.self.inside.words.now c.self.inside.sizes.objects c.self.inside.sizes.properties c.in-Object.id c.args.key.now c.if-id-self.false)
