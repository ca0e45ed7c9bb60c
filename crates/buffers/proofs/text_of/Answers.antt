use Rattle.host.specs.Givens.{given_of}
use Rattle.host.specs.Lent.{lent_use}
use Rattle.buffers.specs.Writes.{text_by}
use Rattle.buffers.proofs.text_of.Goals as goal

pub returns-clause-called : goal.returns-clause-called
returns-clause-called c =
    rw c.ok_or.ensures.value ((text_by c.in_ok-lent.ensures (given_of c.args.given) c.in_ok-ascii.ensures (rw c.new-texts.ensures at c.in_ok-handle.ensures) c.write.result (rw c.new-texts.ensures at c.write.ensures)).0)

pub returns-clause-buffered : goal.returns-clause-buffered
returns-clause-buffered c =
    rw c.ok_or.ensures.value ((text_by c.in_ok-lent.ensures (given_of c.args.given) c.in_ok-ascii.ensures (rw c.new-texts.ensures at c.in_ok-handle.ensures) c.write.result (rw c.new-texts.ensures at c.write.ensures)).1)

pub new-texts-requires : goal.new-texts-requires
new-texts-requires c = lent_use c.in_ok-lent.ensures
