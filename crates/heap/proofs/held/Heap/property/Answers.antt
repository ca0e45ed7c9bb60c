use Rattle.heap.proofs.held.Heap.property.Goals as goal

pub returns : goal.returns
returns c = rw (← c.self.view_is) (rw c.text.ensures at c.property.ensures c.args.texts.now.code)
