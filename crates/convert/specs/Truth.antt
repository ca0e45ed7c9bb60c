-- A value as a boolean. Assumes nothing.
use Rattle.std.specs.Prelude.{ℕ, ◌≤◌, Bool, not, List, ◌≡◌, refl, eqb, length}
use Rattle.std.proofs.Common.{arith, sym, ap, ◌∙◌}
use Rattle.machine.specs.Value as M
use Rattle.machine.specs.State as St
use Rattle.machine.specs.Convert.{to_boolean}
use Rattle.texts.specs.Sources.{stores_of}
use Rattle.value.specs.Lists.{row_length}
use Rattle.texts.specs.Lengths.{SameLengths, part_same, stores_same}

-- with n bytes of code and m of text in use, whatever they are
pub record Truth (n m : ℕ) (v : M.Value) (r : Bool) : Type 0 where
  pub told : (c t : List ℕ) → n ≤ length c → m ≤ length t → r ≡ to_boolean (stores_of c n t m) v

-- a text: its length
text_same : (a b : St.Bytes) → SameLengths a b → (h : M.Home) (at size : ℕ) → length (St.bytes_of a (record { store = h; at = at; size = size })) ≡ length (St.bytes_of b (record { store = h; at = at; size = size }))
text_same a b h M.in_code at size = part_same a.code b.code at size h.code
text_same a b h M.in_text at size = part_same a.text b.text at size h.text

truth_same : (a b : St.Bytes) → SameLengths a b → (v : M.Value) → to_boolean a v ≡ to_boolean b v
truth_same a b h M.undefined = refl
truth_same a b h M.null = refl
truth_same a b h (M.boolean x) = refl
truth_same a b h (M.number n) = refl
truth_same a b h (M.text t) = ap (λ (k : ℕ). not (eqb k 0)) (text_same a b h t.store t.at t.size)
truth_same a b h (M.object o) = refl
truth_same a b h (M.function f) = refl

pub truth_of : (b : St.Bytes) (v : M.Value) (r : Bool) → r ≡ to_boolean b v → Truth (length b.code) (length b.text) v r
truth_of b v r e = record { told = λ c t h g. e ∙ sym (truth_same _ b (stores_same b c t) v) }

-- of two stores that have so many bytes
pub truth_in : {b : St.Bytes} {v : M.Value} {r : Bool} → Truth (length b.code) (length b.text) v r → (a : St.Bytes) → SameLengths a b → r ≡ to_boolean a v
truth_in {b} {v} h a g =
    h.told a.code a.text (omega (arith, g.code)) (omega (arith, g.text))
    ∙ truth_same _ a (record { code = row_length (length b.code) _ ∙ sym g.code; text = row_length (length b.text) _ ∙ sym g.text }) v
