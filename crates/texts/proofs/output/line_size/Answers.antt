use native.Mathlib.Omega.{arith}
use Rattle.value.specs.Words.{value_of}
use Rattle.texts.specs.Lines.{line_blanks, sum_none, sum_more, line_long, line_whole}
use Rattle.texts.proofs.output.line_size.Goals as goal

pub returns-then-room-size : goal.returns-then-room-size
returns-then-room-size c = line_blanks c.args.texts.now c.args.stacks.now c.args.from c.args.count _ c.args.room c.saturating_sub-size.ensures c.if-room-size.true

pub loop-i-init : goal.loop-i-init
loop-i-init c = (c.if-room-size.false, sum_none c.args.texts.now c.args.stacks.now c.args.from c.args.count _ c.saturating_sub-size.ensures)

pub returns-then-room-size-2 : goal.returns-then-room-size-2
returns-then-room-size-2 c = line_long c.args.texts.now c.args.stacks.now c.args.from c.args.count c.loop-i.i c.loop-i.size _ (value_of c.read.result) c.read.ensures c.size_of_value-k.ensures c.loop-i.invariant.1 c.args.room (omega arith) c.loop-i.invariant.0 c.if-room-size-2.true

pub loop-i-preserved : goal.loop-i-preserved
loop-i-preserved c = (omega arith, sum_more c.args.texts.now c.args.stacks.now c.args.from c.args.count c.loop-i.i c.loop-i.size _ (value_of c.read.result) c.read.ensures c.size_of_value-k.ensures c.loop-i.invariant.1)

pub returns : goal.returns
returns c = line_whole c.args.texts.now c.args.stacks.now c.args.from c.args.count c.loop-i.i c.loop-i.size c.args.room (omega arith) c.loop-i.invariant.0 c.loop-i.invariant.1
