use Rattle.std.proofs.Common.{◌+◌, ◌*◌, ◌∙◌}
use Rattle.value.specs.Words.{value_at}
use Rattle.arrays.specs.Arrays.{given_in, given_past}
use Rattle.arrays.proofs.element.Goals as goal

pub returns-then-i-argc : goal.returns-then-i-argc
returns-then-i-argc c = c.read.ensures ∙ given_in c.args.argc c.args.i (λ j. value_at c.args.stacks.now (3 * (c.args.from + j))) c.if-i-argc.true

pub returns : goal.returns
returns c = given_past c.args.argc c.args.i (λ j. value_at c.args.stacks.now (3 * (c.args.from + j))) c.if-i-argc.false
