use native.Mathlib.Omega.{arith}
use Rattle.value.specs.Words.{value_of}
use Rattle.texts.specs.Lines.{line_start, line_fits, line_step}
use Rattle.texts.proofs.output.write_line.Goals as goal

pub loop-i-init : goal.loop-i-init
loop-i-init c = line_start c.args.texts.now c.args.stacks.now c.args.from c.args.dest.now c.args.start

pub write_item-at-requires : goal.write_item-at-requires
write_item-at-requires c = line_fits c.args.texts.now c.args.stacks.now c.args.from c.args.dest.now c.args.start c.args.count c.loop-i.i c.loop-i.at c.loop-i.dest (value_of c.read.result) c.requires.fits (omega arith) c.read.ensures c.loop-i.invariant

pub loop-i-preserved : goal.loop-i-preserved
loop-i-preserved c = line_step c.args.texts.now c.args.stacks.now c.args.from c.args.dest.now c.args.start c.args.count c.loop-i.i c.loop-i.at c.loop-i.dest (value_of c.read.result) c.requires.fits (omega arith) c.read.ensures c.loop-i.invariant _ _ c.write_item-at.ensures
