use Rattle.std.proofs.Common.{◌+◌, ◌*◌}
use Rattle.value.specs.Words.{value_at}
use Rattle.arrays.specs.Arrays.{given, Laying}
use Rattle.arrays.proofs.lay_elements.Given as goal

abbrev pub invariant-loop-i : goal.invariant-loop-i
invariant-loop-i l = Laying l.id (given l.argc (λ j. value_at l.stacks (3 * (l.from + j)))) l.count l.z l.initial.heap l.m l.initial.text l.i l.e l.heap l.text
