-- What the quick lookup of a constant promises: the constant where it has one, and nothing where it has none. Assumes nothing.
use Rattle.std.specs.Prelude.{◌≡◌, Option, Some, None}
use Rattle.std.proofs.Math.Option.{Option as Maybe}
use Rattle.machine.specs.Image as Im
use Rattle.image.specs.Load.{found_of}
use Rattle.reader.specs.declared.Constant.{Constant}

abbrev pub NearTold : Maybe Im.Constant → Option Constant → Type 0
NearTold o (Some c) = found_of (Some c) ≡ o
NearTold o None = Unit {0}

pub record Nears (o : Maybe Im.Constant) (r : Option Constant) : Type 0 where
  pub told : NearTold o r

-- For callers: the constant that was found.
pub near_is : {o : Maybe Im.Constant} {r : Option Constant} {c : Constant} → Nears o r → r ≡ Some c → found_of r ≡ o
near_is {r = Some c} n e = n.told
near_is {r = None} n e = cc
