-- A Throw that has popped its value, with a handler pending. Assumes nothing.
use mathlib.Core.Path.{◌≡◌, refl, sym, ap, ◌∙◌, subst}
use mathlib.Core.Bool.{Bool, true, false}
use mathlib.Core.Option.{Option, none, some}
use mathlib.Core.List.{List, [], ◌∷◌, map}
use Prim.Native.Nat.{ℕ, zero, suc, ◌+◌, ◌-◌, ◌≤◌, ◌<◌, min}
use native.Mathlib.Omega.{arith}
use lib.Dec.{ltb, T, lt→ltb}
use lib.ListN.{length, drop, length-drop}
use Rattle.machine.specs.Basic.{lowest}
use Rattle.std.specs.Prelude.{if◌then◌else◌}
use Rattle.machine.specs.Value.{Value}
use Rattle.machine.specs.Error.{JsVmError, stack_overflow}
use Rattle.machine.specs.State.{State, Frame, Handler, set_ip, top_at, operand_limit}
use Rattle.machine.specs.Fields as S
use Rattle.machine.specs.Act as A
use Rattle.machine.specs.Act.{apply, error}
use Rattle.machine.specs.Program.{went, did, Outcome, over, noting, unless_error, exec}
use Rattle.machine.specs.Instruction.{instruction}
use Rattle.machine.specs.Run.{Kind, begun, no_frame, kind_in, kind_of, body, Step, step, after}
use Rattle.machine.specs.Tally.{Tally, Saved}
use Rattle.machine.specs.Demand3.{Throws, Caught, saved_by}
use Rattle.machine.proofs.Sound.{Sound}
use Rattle.machine.proofs.Begun.{begins}

module _ (s : State) (f : Frame) (fs : List Frame) (v : Value) (vs : List Value) (h : Handler) where
  -- after the opcode is fetched, its value popped, and the handler taken
  abbrev s₁ : State
  s₁ = apply (A.jump (f.ip + 1)) s

  abbrev s₅ : State
  s₅ = apply A.unwind (apply A.drop s₁)

  abbrev s₇ : State
  s₇ = apply (A.jump h.catch) (apply (A.push v) s₅)

  abbrev pushing : Option JsVmError → Outcome
  pushing e =
      noting (did A.drop []) (noting (did A.unwind [])
      (unless_error e s₅ (noting (did (A.push v) []) (noting (did (A.jump h.catch) []) (over went s₇)))))

thrown : (s : State) (f : Frame) (fs : List Frame) (v : Value) (vs : List Value) (h : Handler) (hs : List Handler)
    → let s' : State = S.set_operands (v ∷ vs) (S.set_handlers (h ∷ hs) (S.set_frames (f ∷ fs) s)) in
    exec (instruction 74) (s₁ s' f fs v vs h) ≡ pushing s' f fs v vs h (error (A.push v) (s₅ s' f fs v vs h))
thrown s f fs v vs h hs = refl

-- A stack cut to its lowest n, or to the lowest min (its length, n).
lowest_min : {A : Type 0} (n : ℕ) (xs : List A) → lowest (min (length xs) n) xs ≡ lowest n xs
lowest_min n xs =
    let e : length xs - min (length xs) n ≡ length xs - n = omega arith in ap (λ (k : ℕ). drop k xs) e

record Left (p c : ℕ) (f : Frame) (fs : List Frame) (k : ℕ) : Type 0 where
  top : Frame
  below : List Frame
  left : drop k (f ∷ fs) ≡ top ∷ below
  at : top_at c (drop k (set_ip p f ∷ fs)) ≡ set_ip c top ∷ below
  size : suc (length below) ≡ suc (length fs) - k

some_left : (j : ℕ) (fs : List Frame) → j < length fs → (top : Frame) × (below : List Frame) × (drop j fs ≡ top ∷ below)
some_left j [] l = absurd (omega arith)
some_left zero (f ∷ fs) l = (f, fs, refl)
some_left (suc j) (f ∷ fs) l = some_left j fs (omega arith)

frames_left : (p c : ℕ) (f : Frame) (fs : List Frame) (k : ℕ) → k ≤ length fs → Left p c f fs k
frames_left p c f fs zero l = record { top = f; below = fs; left = refl; at = refl; size = omega arith }
frames_left p c f fs (suc j) l =
    let x = some_left j fs l in
    let e : length (drop j fs) ≡ suc (length x.1) = ap length x.2 in let d = length-drop j fs in
    record { top = x.0; below = x.1; left = x.2; at = ap (top_at c) x.2; size = omega arith }

is_true : (b : Bool) → T b → b ≡ true
is_true true t = refl
is_true false t = absurd t

room : (vs : List Value) (n : ℕ) → suc (length vs) ≤ operand_limit → ◌≡◌ {A = Option JsVmError} (if ltb (length (lowest n vs)) operand_limit then none else some stack_overflow) none
room vs n l =
    let k : length (lowest n vs) < operand_limit = let q = length-drop (length vs - n) vs in omega arith in
    rw (is_true (ltb (length (lowest n vs)) operand_limit) (lt→ltb (length (lowest n vs)) operand_limit k))

module _ (s : State) (f : Frame) (fs : List Frame) (v : Value) (vs : List Value) (h : Handler) (hs : List Handler) where
  abbrev throwing : State
  throwing = S.set_operands (v ∷ vs) (S.set_handlers (h ∷ hs) (S.set_frames (f ∷ fs) s))

  outcome : suc (length vs) ≤ operand_limit → kind_of throwing ≡ begun 74
      → exec (body (kind_of throwing)) throwing ≡ noting (did (A.jump (f.ip + 1)) []) (pushing throwing f fs v vs h none)
  outcome l e =
      begins (S.set_operands (v ∷ vs) (S.set_handlers (h ∷ hs) s)) f fs 74 e
      ∙ ap (λ (o : Outcome). noting (did (A.jump (f.ip + 1)) []) o) (thrown s f fs v vs h hs)
      ∙ ap (λ (x : Option JsVmError). noting (did (A.jump (f.ip + 1)) []) (pushing throwing f fs v vs h x)) (room vs h.operands l)

  caught : suc (length vs) ≤ operand_limit → 1 ≤ h.frames → h.frames ≤ suc (length fs) → kind_of throwing ≡ begun 74
      → Caught (step throwing) v vs (saved_by h) (map saved_by hs)
  caught l g m e =
      let E = outcome l e in
      let k = frames_left (f.ip + 1) h.catch f fs (suc (length fs) - h.frames) (omega arith) in
      record {
        no_error = ap (λ (o : Outcome). o.how) E;
        operands = ap (λ (o : Outcome). (after throwing o).operands) E ∙ ap (λ (x : List Value). v ∷ x) (sym (lowest_min h.operands vs));
        handlers = ap (λ (o : Outcome). map saved_by (after throwing o).handlers) E;
        top = k.top;
        below = k.below;
        left = k.left;
        frames = ap (λ (o : Outcome). (after throwing o).frames) E ∙ k.at;
        saved = ap (λ (o : Outcome). length (after throwing o).frames) E ∙ ap length k.at ∙ (let n = k.size in omega arith);
      }

-- The newest handler of the machine is the tally's.
abbrev CaughtBy : Step → Value → List Value → List Saved → Type 0
CaughtBy p v vs [] = ⊥
CaughtBy p v vs (k ∷ ks) = Caught p v vs k ks

pub throws : (s : State) (t : Tally) → Sound s t → Throws t (step s)
throws s t r e v vs k ks eo ek = pending s.handlers refl
  where
    go : (h : Handler) (hs : List Handler) → s.handlers ≡ h ∷ hs → (fs : List Frame) → s.frames ≡ fs → Caught (step s) v vs (saved_by h) (map saved_by hs)
    go h hs eh [] ef = let z : ◌≡◌ {A = Kind} no_frame (begun 74) = ap (kind_in s) (sym ef) ∙ e in let y : ◌≡◌ {A = ℕ} 0 1 = cc in absurd (omega arith)
    go h hs eh (f ∷ fs) ef =
        let σ : s ≡ throwing s f fs v vs h hs = λ i. S.set_operands (eo i) (S.set_handlers (eh i) (S.set_frames (ef i) s)) in
        subst (λ (x : State). Caught (step x) v vs (saved_by h) (map saved_by hs)) (sym σ)
        (caught s f fs v vs h hs (let q = r.few in let p = ap length eo in omega arith)
        (rw eh at r.saved).0 (let q = (rw eh at r.saved).1 in let p = ap length ef in omega arith) (subst (λ (x : State). kind_of x ≡ begun 74) σ e))

    pending : (hs : List Handler) → s.handlers ≡ hs → Caught (step s) v vs k ks
    pending [] eh = let z : ◌≡◌ {A = List Saved} [] (k ∷ ks) = ap (map saved_by) (sym eh) ∙ r.handlers ∙ ek in let y : ◌≡◌ {A = ℕ} 0 (suc (length ks)) = ap length z in absurd (omega arith)
    pending (h ∷ hs) eh = subst (CaughtBy (step s) v vs) (ap (map saved_by) (sym eh) ∙ r.handlers ∙ ek) (go h hs eh s.frames refl)
