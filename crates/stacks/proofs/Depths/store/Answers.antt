use lib.ListN.{length-set}
use mathlib.Core.Path.{refl, ◌∙◌}
use Rattle.value.specs.Words.{value_of}
use Rattle.stacks.specs.Slots.{store_none, store_full, store_went}
use Rattle.stacks.proofs.Depths.store.Goals as goal

pub returns-then-k-eq0 : goal.returns-then-k-eq0
returns-then-k-eq0 c = store_none c.args.self c.args.stacks.now c.requires.ready c.args.i (value_of c.args.v) c.if-k-eq0.true

pub returns-then-n-more : goal.returns-then-n-more
returns-then-n-more c = store_full c.args.self c.args.stacks.now c.requires.ready c.args.i (value_of c.args.v) c.read_frame-f.result c.lacking-more.result c.if-k-eq0.false c.read_frame-f.ensures c.lacking-more.ensures c.if-n-more.true

pub returns : goal.returns
returns c = store_went c.args.self c.args.stacks.now c.requires.ready c.args.i (value_of c.args.v) c.read_frame-f.result c.lacking-more.result c.if-k-eq0.false c.read_frame-f.ensures c.lacking-more.ensures c.fill.new.w _ c.put.new.w c.if-n-more.false c.fill.ensures c.fill.auto.w refl c.put.ensures (simp length-set at c.put.auto.w ∙ c.fill.auto.w)
