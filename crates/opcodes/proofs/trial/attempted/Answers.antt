use Rattle.opcodes.specs.Trials.{tells_went}
use Rattle.opcodes.proofs.trial.attempted.Goals as goal

pub returns-in-Went : goal.returns-in-Went
returns-in-Went c = tells_went c.args.t c.in-Went.is c.standing_in.ensures c.came.ensures
