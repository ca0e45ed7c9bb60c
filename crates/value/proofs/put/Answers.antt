use Rattle.value.specs.Words.{put_number, put_words}
use Rattle.value.proofs.put.Goals as goal

pub returns-then-e-eq-NUMBER : goal.returns-then-e-eq-NUMBER
returns-then-e-eq-NUMBER c = put_number c.args.w.now c.args.to c.args.e c.requires c.if-e-eq-NUMBER.true

pub returns : goal.returns
returns c = put_words c.args.w.now c.args.to c.args.e c.requires
