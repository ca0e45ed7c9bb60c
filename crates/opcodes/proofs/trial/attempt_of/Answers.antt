use mathlib.Core.Path.{refl}
use Rattle.opcodes.specs.Trials.{attempt_is}
use Rattle.opcodes.proofs.trial.attempt_of.Goals as goal

pub returns : goal.returns
returns c = attempt_is c.args.op c.args.b c.args.n c.args.m c.requires.0 c.requires.1 c.place_operands.ensures c.find-x.ensures.known refl c.perform-t.ensures c.attempted.ensures
