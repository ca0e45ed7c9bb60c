-- Two operands that are numbers. Assumes nothing.
use Rattle.std.specs.Prelude.{ℕ, ◌+◌, ◌-◌, ◌*◌, ◌≤◌, ◌<◌, Bool, true, false, ◌||◌, List, ◌++◌, ◌≡◌, refl, length, get_or, set, Option, Some, None}
use Rattle.std.proofs.Common.{arith, sym, ap, subst, ◌∙◌, length-set, get_or-set_same, get_or-set_other}
use Rattle.machine.specs.Value as M
use Rattle.machine.specs.State as St
use Rattle.machine.specs.Program.{Program}
use Rattle.machine.specs.Instruction as I
use Rattle.std.specs.Prelude.{if◌then◌else◌}
use Rattle.machine.specs.Convert.{is_text, to_number, to_js_string}
use Rattle.machine.specs.Number as N
use Rattle.number.specs.declared.JsNumber.{JsNumber}
use Rattle.value.specs.Words.{value_at, decode_of, Holds, bit}
use Rattle.value.specs.declared.Value.TheVariants.{Number}
use Rattle.stacks.specs.Layout.{slots_at}
use Rattle.stacks.specs.declared.Depths.{Depths}
use Rattle.stacks.specs.Laws.{with_operands, pop_took, pop_ready, push_holds}
use Rattle.stacks.specs.View
use Rattle.outcome.specs.Meets.{Pairs, settles, pair_both, after_two}
use Rattle.stackops.specs.Operators.{OnNumbers}
use Rattle.quick.specs.Quickly.{Quickly, carry, goes}
use Rattle.quick.specs.Stays.{Stays, stays_went, kept_within, below_frames}

-- the two newest operands are numbers, the older one at place k
pub record TwoNumbers (d : Depths) (w : List ℕ) (k : ℕ) : Type 0 where
  pub two : 2 ≤ d.operands
  pub place : k ≡ 3 * (d.operands - 2)
  pub older : get_or w k 0 ≡ 3
  pub newer : get_or w (k + 3) 0 ≡ 3

abbrev pub FoundAt : Depths → List ℕ → Option ℕ → Type 0
FoundAt d w (Some k) = TwoNumbers d w k
FoundAt d w None = Unit {0}

pub record FindsNumbers (d : Depths) (w : List ℕ) (r : Option ℕ) : Type 0 where
  pub told : FoundAt d w r

pub found : {d : Depths} {w : List ℕ} {r : Option ℕ} {k : ℕ} → FindsNumbers d w r → r ≡ Some k → TwoNumbers d w k
found f e = rw e at f.told

-- a number's kind is 3
number_read : (w : List ℕ) (k : ℕ) → get_or w k 0 ≡ 3 → M.number (get_or w (k + 1) 0) ≡ value_at w k
unfolding value_at decode_of
number_read w k e = rw e refl

pub number_put : {w w' : List ℕ} {k u : ℕ} → k + 1 < length w → get_or w k 0 ≡ 3 → w' ≡ set w (k + 1) u → Holds w w' k (M.number u)
unfolding value_at decode_of
number_put {w} {w'} {k} {u} l e z = rw z (record {
  value = rw (get_or-set_other w (k + 1) k u 0 (λ q. omega arith), e, get_or-set_same w (k + 1) u 0 l) refl;
  apart = record { at = λ j h. get_or-set_other w (k + 1) j u 0 (λ q. h (omega arith) (omega arith)) };
})

boolean_read : (b : Bool) (c : ℕ) → decode_of 2 (bit b) c ≡ M.boolean b
unfolding decode_of
boolean_read true c = refl
boolean_read false c = refl

pub boolean_put : {w w' : List ℕ} {k : ℕ} (b : Bool) → k + 1 < length w → w' ≡ set (set w k 2) (k + 1) (bit b) → Holds w w' k (M.boolean b)
unfolding value_at
boolean_put {w} {w'} {k} b l z = rw z (record {
  value = rw (get_or-set_other (set w k 2) (k + 1) k (bit b) 0 (λ q. omega arith), get_or-set_same w k 2 0 (omega arith), get_or-set_same (set w k 2) (k + 1) (bit b) 0 (simp length-set l)) (boolean_read b _);
  apart = record { at = λ j h. get_or-set_other (set w k 2) (k + 1) j (bit b) 0 (λ q. h (omega arith) (omega arith)) ∙ get_or-set_other w k j 2 0 (λ q. h (omega arith) (omega arith)) };
})

-- both stand within the operands
pub numbers_within : {d : Depths} {w : List ℕ} {k : ℕ} → View.Ready d w → TwoNumbers d w k → (k + 5 < length w) × (1 ≤ d.operands) × (k < slots_at)
numbers_within good t = (omega (arith, t.place, t.two, good.operands, good.size), omega (arith, t.two), omega (arith, t.place, t.two, good.operands))

-- THE LAW OF TWO NUMBERS: what is computed of them stands where the older one stood
module _ {d : Depths} {w : List ℕ} {k : ℕ} (good : View.Ready d w) (t : TwoNumbers d w k) {a b : JsNumber} (ea : a.bits ≡ get_or w (k + 1) 0) (eb : b.bits ≡ get_or w (k + 3 + 1) 0) where
  abbrev below : Depths
  below = with_operands (d.operands - 2) d

  both : Pairs d w (Some ((Number a.bits), (Number b.bits), below))
  both =
      let n = d.operands in
      let y : k + 3 ≡ 3 * (n - 1) = omega (arith, t.place, t.two) in
      let z : k ≡ 3 * (n - 1 - 1) = omega (arith, t.place, t.two) in
      let e : n - 1 - 1 ≡ n - 2 = omega arith in
      let top = pop_took d w good (Number b.bits) (λ q. omega (arith, t.two)) (ap M.number eb ∙ number_read w (k + 3) t.newer ∙ ap (value_at w) y) in
      let next = pop_took (with_operands (n - 1) d) w (pop_ready d w good) (Number a.bits) (λ q. omega (arith, t.two)) (ap M.number ea ∙ number_read w k t.older ∙ ap (value_at w) z) in
      subst (λ (m : ℕ). Pairs d w (Some ((Number a.bits), (Number b.bits), (with_operands m d)))) e (pair_both top refl next refl)

  below_ready : View.Ready below w
  below_ready = record { operands = omega (arith, good.operands); slots = good.slots; frames = good.frames; handlers = good.handlers; size = good.size }

  module _ {v : M.Value} {w' : List ℕ} {q : Option Depths} (h : Holds w w' k v) (l : length w' ≡ length w) (z : q ≡ Some (with_operands (d.operands - 1) d)) where
    put : {H : St.State → Type 0} → Quickly H (I.pushed v) below w q w'
    put {H} =
        let e : d.operands - 2 + 1 ≡ d.operands - 1 = omega (arith, t.two) in
        let m = push_holds below w below_ready v w' (omega (arith, good.operands, t.two)) (subst (λ (j : ℕ). Holds w w' j v) t.place h) l in
        subst (λ (y : Option Depths). Quickly H (I.pushed v) below w y w') (ap (λ (j : ℕ). Some (with_operands j d)) e ∙ sym z) (goes (settles m refl) m.ready)

    stays : Stays d w q w'
    stays = subst (λ (y : Option Depths). Stays d w y w') (sym z) (stays_went (kept_within refl (below_frames h.apart (omega (arith, t.place, good.operands)))))

    after : {H : St.State → Type 0} (f : St.Bytes → M.Value → M.Value → Program) → ((m : St.Bytes) → f m (M.number a.bits) (M.number b.bits) ≡ I.pushed v) → Quickly H (I.pop_two f) d w q w'
    after f e = carry (λ y m. after_two f both refl (λ s h. e (St.bytes s)) m) put

    -- of a value that is computed of these two numbers alone
    pub computes_at : {H : St.State → Type 0} (f : St.Bytes → M.Value → M.Value → M.Value) → ((m : St.Bytes) → f m (M.number a.bits) (M.number b.bits) ≡ v) → Quickly H (I.binary f) d w q w' × Stays d w q w'
    computes_at f e = (after (λ m a b. I.pushed (f m a b)) (λ m. ap I.pushed (e m)), stays)

    pub computes : {H : St.State → Type 0} {p : Program} {f : ℕ → ℕ → M.Value} → OnNumbers p f → f a.bits b.bits ≡ v → Quickly H p d w q w' × Stays d w q w'
    computes {H} o e = (subst (λ (p : Program). Quickly H p d w q w') (sym o.pops) (after o.makes (λ m. o.numbers m a.bits b.bits ∙ ap I.pushed e)), stays)

  -- where the functions that put it say so
  within_words : k + 1 < length w
  within_words = omega (arith, t.place, t.two, good.operands, good.size)

  pub number_of : {u : JsNumber} {w' : List ℕ} → w' ≡ set w (k + 1) u.bits → Holds w w' k (M.number u.bits)
  number_of e = number_put within_words t.older e

  pub boolean_of : {u : Bool} {w' : List ℕ} → w' ≡ set (set w k 2) (k + 1) (bit u) → Holds w w' k (M.boolean u)
  boolean_of {u} e = boolean_put u within_words e
