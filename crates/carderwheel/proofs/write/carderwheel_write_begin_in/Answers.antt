use Rattle.answers.specs.Written.{write_told_lem}
use Rattle.carderwheel.proofs.write.carderwheel_write_begin_in.Goals as goal

pub returns : goal.returns
returns c = write_told_lem c.begin.result c.written.ensures (c.begin.ensures c.args.w)
