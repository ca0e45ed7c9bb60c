use Prim.Native.Nat.{◌+◌}
use native.Mathlib.Omega.{arith}
use lib.ListN.{get_or}
use mathlib.Core.Path.{sym, ◌∙◌}
use Rattle.value.specs.Lists.{row_past, row_at_lem}
use Rattle.fetch.proofs.byte_at.Goals as goal

pub returns-then-n-at : goal.returns-then-n-at
returns-then-n-at c = let a = c.args in (sym (row_past a.n (λ i. get_or a.code.now i 0) (a.at + a.p) 0 (omega arith)), omega arith)

pub returns : goal.returns
returns c = let a = c.args in (c.from.ensures ∙ sym (row_at_lem a.n (λ i. get_or a.code.now i 0) (a.at + a.p) 0 (omega arith)), omega (arith, c.from.ensures, c.type_inv.code (a.at + a.p)))
