use mathlib.Core.Path.{ap, sym}
use mathlib.Core.Option.{some}
use Rattle.machine.specs.Value as M
use Rattle.stacks.specs.declared.Depths.{Depths}
use Rattle.std.specs.Prelude.{Some}
use Rattle.quick.specs.Numbers.{found, computes, number_of}
use Rattle.quick.proofs.numbers.compute.Goals as goal

pub returns-clause-quickly : goal.returns-clause-quickly
returns-clause-quickly g c =
    let t = found c.find_numbers.ensures c.in_ok-k.was in
    (computes c.requires t c.number_at-a.ensures c.number_at-b.ensures (number_of c.requires t c.number_at-a.ensures c.number_at-b.ensures c.put_number.ensures.stacks_after) c.put_number.auto.stacks (ap (λ (e : Depths). Some e) c.put_number.ensures.value)
    g.met.O.Arithmetic.takes (ap M.number (sym c.apply.ensures))).0
