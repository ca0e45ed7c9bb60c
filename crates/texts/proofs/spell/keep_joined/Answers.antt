use native.Mathlib.Omega.{arith}
use mathlib.Core.List.{List, ◌++◌}
use Rattle.std.proofs.Common.{ap, ap₂, ◌∙◌, ℕ, length}
use Rattle.machine.specs.State.{Bytes}
use Rattle.texts.specs.Spells.{spelling_bytes}
use Rattle.texts.specs.Keeps.{keeps_as, join_room, join_went}
use Rattle.texts.proofs.spell.keep_joined.Goals as goal

pub append-requires-2-clause-s_in_bounds : goal.append-requires-2-clause-s_in_bounds
append-requires-2-clause-s_in_bounds c = join_room c.args.code.now c.args.text.now c.args.n c.args.m (λ z. spelling_bytes z c.of-a.result) (λ z. spelling_bytes z c.of-b.result) (omega arith) c.requires.m_le_text_limit.1 c.size-x.result c.size-y.result (c.size-x.ensures.bytes ∙ ap (λ (z : Bytes). length (spelling_bytes z c.of-a.result)) c.new-texts.ensures) (c.size-y.ensures.bytes ∙ ap (λ (z : Bytes). length (spelling_bytes z c.of-b.result)) c.new-texts.ensures) _ c.append.ensures (omega (arith, c.if-m-x.false, c.if-e-y.false))

pub returns : goal.returns
returns c = keeps_as (ap₂ (λ (x y : List ℕ). x ++ y) (c.of-a.ensures.bytes _) (c.of-b.ensures.bytes _)) (join_went c.args.code.now c.args.text.now c.args.n c.args.m (λ z. spelling_bytes z c.of-a.result) (λ z. spelling_bytes z c.of-b.result) (omega arith) c.requires.m_le_text_limit.1 c.size-x.result c.size-y.result (c.size-x.ensures.bytes ∙ ap (λ (z : Bytes). length (spelling_bytes z c.of-a.result)) c.new-texts.ensures) (c.size-y.ensures.bytes ∙ ap (λ (z : Bytes). length (spelling_bytes z c.of-b.result)) c.new-texts.ensures) _ c.append.ensures (omega (arith, c.if-m-x.false, c.if-e-y.false)) _ c.append-2.ensures)
