use native.Mathlib.Omega.{arith}
use mathlib.Core.Path.{refl}
use Rattle.machine.specs.Instruction.{joined}
use Rattle.texts.specs.Lines.{values_at, measured, print_went}
use Rattle.texts.proofs.output.print.Goals as goal

pub returns : goal.returns
returns c =
    let q = measured c.line_size.ensures c.in_ok-size.was in
    print_went c.args.o _ c.args.output.now (joined c.args.texts.now (values_at c.args.stacks.now c.args.from c.args.count)) c.requires.o_le_output_limit.1 c.requires.o_le_output_limit.0 q.1 _ _ _ (omega (arith, q.0, c.if-o-lt2.false)) refl refl c.write_line.ensures
