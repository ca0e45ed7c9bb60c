-- What a byte that no instruction has comes to. Assumes nothing.
use Rattle.std.specs.Prelude.{ℕ, List, ◌≡◌, Err}
use Rattle.std.proofs.Common.{ap, sym, subst, ◌∙◌}
use Rattle.machine.specs.State as St
use Rattle.machine.specs.Error.{unknown_opcode}
use Rattle.machine.specs.Program.{Program, end, failed}
use Rattle.machine.specs.Instruction.{instruction}
use Rattle.value.specs.declared.JsVmError.TheVariants.{UnknownOpcode}
use Rattle.stacks.specs.declared.Depths.{Depths}
use Rattle.opcode.specs.Unknown.{NoneOf, numbers, unknown_instruction}
use Rattle.outcome.specs.Meets.{Meets, stepped, fails}
use Rattle.outcome.specs.declared.Part.TheVariants.{Ended}
use Rattle.outcome.specs.declared.Stepped.{Stepped}

pub unknown : {H : St.State → Type 0} {b k : ℕ} {d : Depths} {w : List ℕ} {x : Stepped} → NoneOf b numbers → k ≡ b → x ≡ stepped d (Ended (Err (UnknownOpcode k)))
    → Meets H (instruction b) d w x w
unknown {H} {b} {k} {d} {w} {x} n i j =
    subst (λ (p : Program). Meets H p d w x w) (ap (λ (m : ℕ). end (failed (unknown_opcode m))) i ∙ sym (unknown_instruction b n)) (fails {e = UnknownOpcode k} j)
