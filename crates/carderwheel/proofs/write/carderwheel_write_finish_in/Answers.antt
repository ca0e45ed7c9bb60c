use Rattle.answers.specs.Written.{write_told_lem}
use Rattle.carderwheel.proofs.write.carderwheel_write_finish_in.Goals as goal

pub returns : goal.returns
returns c = λ b. write_told_lem c.finish.result c.written.ensures (c.finish.ensures b)
