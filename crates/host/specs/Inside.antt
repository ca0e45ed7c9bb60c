-- Questions 29 and 30, as the library answers them. Assumes nothing.
use Rattle.std.specs.Prelude.{◌≡◌, refl, Bool, true, false, ◌&&◌, List, ℕ, ◌+◌, ◌≤◌, ◌<◌, leb, ltb, length, get_or, take, drop, MatchBool}
use Rattle.std.specs.Str.{IsAscii, IsNotAscii}
use Rattle.std.proofs.Common.{arith, sym, ap, ◌∙◌, lt-ltb, le-ltb, le-leb}
use Rattle.std.proofs.lemmas.Bool.{lt-leb}
use Rattle.std.proofs.lemmas.List.{get_or_past}
use Rattle.std.proofs.lemmas.List.Recursion.{and_from_places, and_fails_at}
use Rattle.machine.specs.Basic.{is_ascii}

pub ascii_is : (bs : List ℕ) (x : Bool) → MatchBool x (IsAscii bs) (IsNotAscii bs) → is_ascii bs ≡ x
ascii_is bs true h = and_from_places is_ascii (λ b. ltb b 128) refl (λ _ _. refl) bs 0 (λ i l. lt-ltb (get_or bs i 0) 128 (h i))
ascii_is bs false h =
    let past = get_or_past bs h.0 0 in
    let high : 128 ≤ get_or bs h.0 0 = h.1 in
    and_fails_at is_ascii (λ b. ltb b 128) refl (λ _ _. refl) bs h.0 0 (grind (arith, past, high)) (le-ltb (get_or bs h.0 0) 128 h.1)

-- a handle among the bytes in use
abbrev pub inside_of : List ℕ → ℕ → ℕ → Bool
inside_of bs at size = leb (at + size) (length bs) && is_ascii (take size (drop at bs))

module _ (bs : List ℕ) (at size : ℕ) where
  pub inside_not : length bs < at + size → inside_of bs at size ≡ false
  inside_not h = ap (λ (x : Bool). x && is_ascii (take size (drop at bs))) (lt-leb (at + size) (length bs) h)

  pub inside_is : {t : List ℕ} {x : Bool} → at + size ≤ length bs → t ≡ take size (drop at bs) → MatchBool x (IsAscii t) (IsNotAscii t) → inside_of bs at size ≡ x
  inside_is {t} {x} h e k =
      ap (λ (y : Bool). y && is_ascii (take size (drop at bs))) (le-leb (at + size) (length bs) h) ∙ ap is_ascii (sym e) ∙ ascii_is t x k
