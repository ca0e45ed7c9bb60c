use Rattle.std.proofs.Common.{◌≡◌, sym, ◌∙◌, arith, rules, Err}
use Rattle.image.specs.Load.{Stores, Fitting}
use Rattle.image.specs.declared.error.LoadError.TheVariants.{Image}
use Rattle.image.proofs.Loads.{good, refused_there}
use Rattle.image.proofs.Machine.{loads_refused, image_refused, space_refused, loads_done}
use Rattle.image.proofs.load.Goals as goal

pub append-requires : goal.append-requires
append-requires c = let a = c.args in
    let e : c.new.result.at ≡ 0 = omega arith in
    record {
      sized = sym c.listed.ensures ∙ c.if-not-listed.false;
      good = good a.counts.code a.image.now _ (rw (c.new.ensures.src, e) at c.in_ok-image.ensures.passes);
      room = sym c.in_ok-ask_space.ensures;
    }

pub returns-in_err-image : goal.returns-in_err-image
returns-in_err-image c = let a = c.args in
    let e : c.new.result.at ≡ 0 = omega arith in
    let h = rw (c.new.ensures.src, e) at c.in_err-image.ensures.passes in
    let r : c.from_residual.result ≡ Err (Image c.in_err-image.field-0.0) = search rules in
    let x : Stores = record { code = a.code.now; places = a.places.now; rows = a.rows.now; starts = a.starts.now } in
    rw r (loads_refused x a.counts a.image.now _ (sym c.listed.ensures ∙ c.if-not-listed.false) (image_refused x a.counts a.image.now _ (refused_there a.counts.code a.image.now _ h)))

pub returns-in_err-ask_space : goal.returns-in_err-ask_space
returns-in_err-ask_space c = let a = c.args in
    let e : c.new.result.at ≡ 0 = omega arith in
    let h = rw (c.new.ensures.src, e) at c.in_ok-image.ensures.passes in
    let r : c.from_residual-in_err-ask_space.result ≡ Err c.in_err-ask_space.field-0.0 = search rules in
    let x : Stores = record { code = a.code.now; places = a.places.now; rows = a.rows.now; starts = a.starts.now } in
    rw r (loads_refused x a.counts a.image.now _ (sym c.listed.ensures ∙ c.if-not-listed.false) (space_refused x a.counts a.image.now _ (good a.counts.code a.image.now _ h) (sym c.in_err-ask_space.ensures)))

pub returns : goal.returns
returns c = let a = c.args in
    let e : c.new.result.at ≡ 0 = omega arith in
    let x : Stores = record { code = a.code.now; places = a.places.now; rows = a.rows.now; starts = a.starts.now } in
    let f : Fitting x a.counts a.image.now = record {
      sized = sym c.listed.ensures ∙ c.if-not-listed.false;
      good = good a.counts.code a.image.now _ (rw (c.new.ensures.src, e) at c.in_ok-image.ensures.passes);
      room = sym c.in_ok-ask_space.ensures;
    } in
    loads_done x a.counts a.image.now _ c.append.result f c.append.ensures
