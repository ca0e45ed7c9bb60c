use Rattle.heapops.specs.Makes.{print_refused, print_pushed}
use Rattle.heapops.proofs.print.print.Goals as goal

pub returns-in_default : goal.returns-in_default
returns-in_default c = print_refused c.args.c c.args.code.now c.args.stacks.now c.args.text.now c.args.output.now c.print-printed.new.output c.args.argc c.requires.output_le_output_limit.1 (rw c.new-texts.ensures at c.print-printed.ensures) c.in_default.is c.refused.ensures

pub returns : goal.returns
returns c = print_pushed c.args.c c.args.code.now c.args.stacks.now c.args.text.now c.args.output.now c.print-printed.new.output c.args.argc c.requires.output_le_output_limit.1 (rw c.new-texts.ensures at c.print-printed.ensures) c.in-Some.is c.push-r.ensures c.settle_push.ensures
