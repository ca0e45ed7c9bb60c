use Rattle.host.specs.Lent.{lent_use, lent_sized}
use Rattle.globals.proofs.read_global.Goals as goal

pub new-texts-requires : goal.new-texts-requires
new-texts-requires c = lent_use c.in_ok-lent.ensures

pub new-requires : goal.new-requires
new-requires c = lent_sized c.in_ok-lent.ensures
