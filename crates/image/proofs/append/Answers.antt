use Rattle.std.proofs.Common.{refl}
use Rattle.image.proofs.Loads.{append_never, appended}
use Rattle.image.proofs.append.Goals as goal

pub returns-in_err-fill_image : goal.returns-in_err-fill_image
returns-in_err-fill_image c = let a = c.args in
    absurd (append_never (record { code = a.code.now; places = a.places.now; rows = a.rows.now; starts = a.starts.now }) a.counts a.image.now _ c.requires c.copy.ensures _ c.in_err-fill_image.ensures)

pub returns : goal.returns
returns c = let a = c.args in
    (refl, appended (record { code = a.code.now; places = a.places.now; rows = a.rows.now; starts = a.starts.now }) a.counts a.image.now _ c.requires c.copy.ensures _ _ c.in_ok-fill_image.ensures)
