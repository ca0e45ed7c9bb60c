-- What the lengths of the texts settle, whatever their bytes are. Assumes nothing.
use Rattle.std.specs.Prelude.{ℕ, List, ◌≡◌, length, take, drop}
use Rattle.std.proofs.Common.{arith, length-take, length-drop}
use Rattle.machine.specs.State as St
use Rattle.value.specs.Lists.{row_length}
use Rattle.texts.specs.Sources.{stores_of}

-- as many bytes of code, and as many of text
pub record SameLengths (a b : St.Bytes) : Type 0 where
  pub code : length a.code ≡ length b.code
  pub text : length a.text ≡ length b.text

-- a text that a handle names is as long in both
pub part_same : (a b : List ℕ) (at size : ℕ) → length a ≡ length b → length (take size (drop at a)) ≡ length (take size (drop at b))
part_same a b at size e = simp (length-take, length-drop) (omega (arith, e))

-- any two stores of which as many bytes are in use
pub stores_same : (b : St.Bytes) (c t : List ℕ) → SameLengths (stores_of c (length b.code) t (length b.text)) b
stores_same b c t = record { code = row_length (length b.code) _; text = row_length (length b.text) _ }
