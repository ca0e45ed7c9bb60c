-- The table of opcodes holds at every state. The shape of an instruction's program gives a row, and one computed test says that it is the row that trying the program
-- gives. Assumes nothing.
use mathlib.Core.Path.{◌≡◌, refl, sym, ap, ap₂, ◌∙◌, subst}
use mathlib.Core.Bool.{Bool, true, false, not, ◌&&◌, ◌||◌, true≢false}
use mathlib.Core.List.{List, [], ◌∷◌}
use Prim.Native.Nat.{ℕ, ◌+◌, ◌≤◌, ◌<◌}
use native.Mathlib.Omega.{arith}
use lib.Dec.{leb, ltb, eqb}
use lib.ListN.{length}
use borrow.Author.Tests.{ltb-true, leb-true, leb-false, eqb-true}
use Rattle.std.specs.Prelude.{if◌then◌else◌}
use Rattle.machine.specs.Error.{unknown_opcode}
use Rattle.machine.specs.State.{State, Frame, fresh}
use Rattle.machine.specs.Act as A
use Rattle.machine.specs.Program.{Program, end, failed, How, went, ended, refused, Outcome, noting, did, exec}
use Rattle.machine.specs.Instruction as I
use Rattle.machine.specs.Instruction.{instruction}
use Rattle.machine.specs.Run.{step, settled, after}
use Rattle.machine.specs.Host.{Call, history}
use Rattle.machine.specs.Demand3.{All}
use Rattle.machine.specs.Opcodes.{Row, row, number, row_of, row_for, following, Listed, AsListed, is_counting, is_leaving}
use Rattle.machine.proofs.Begun.{here, fetched, begins, in_frame}
use Rattle.machine.proofs.Enter.{calls_each}
use Rattle.machine.proofs.Shapes.{Shape, plain_question, bytes_in, taken_in, pushed_in, fixed, stays, left, Standing, Obeys, Always, shapes, Ruled, last, also, ruled}

abbrev shape_row : Shape → Row
shape_row x = row (bytes_in x) (if fixed x then taken_in x else 254) (pushed_in x)

-- One computed test over the instructions: each shape's row is the row that trying the program gives, and the exceptions are those named.

abbrev alike : Bool → Bool → Bool
alike true b = b
alike false b = not b

alike_same : (a b : Bool) → alike a b ≡ true → a ≡ b
alike_same true b e = sym e
alike_same false true e = e
alike_same false false e = refl

both : (a b : Bool) → a && b ≡ true → (a ≡ true) × (b ≡ true)
both true b e = (refl, e)
both false b e = absurd (true≢false (sym e))

abbrev same_row : Row → Row → Bool
same_row q r = eqb q.bytes r.bytes && (eqb q.taken r.taken && eqb q.pushed r.pushed)

row_same : (q r : Row) → same_row q r ≡ true → q ≡ r
row_same q r e =
    let h = both (eqb q.bytes r.bytes) _ e in let k = both (eqb q.taken r.taken) _ h.1 in
    let a = eqb-true q.bytes r.bytes h.0 in let b = eqb-true q.taken r.taken k.0 in let c = eqb-true q.pushed r.pushed k.1 in
    λ i. row (a i) (b i) (c i)

abbrev fits_row : ℕ → Program → Shape → Bool
fits_row b p x =
    same_row (row_of p) (shape_row x) && (ltb (bytes_in x) 255 && (alike (fixed x) (not (is_counting b)) && alike (stays x) (not (is_counting b || is_leaving b))))

abbrev all_fit : List (ℕ × Program) → List Shape → Bool
all_fit [] [] = true
all_fit [] (x ∷ xs) = false
all_fit (i ∷ is) [] = false
all_fit (i ∷ is) (x ∷ xs) = fits_row i.0 i.1 x && all_fit is xs

tested : all_fit I.instructions shapes ≡ true
tested = refl

-- What the test says at each opcode.

record Shaped (b : ℕ) (p : Program) : Type 0 where
  shape : Shape
  obeys : Always shape p
  row : row_of p ≡ shape_row shape
  few : bytes_in shape < 255
  counting : fixed shape ≡ not (is_counting b)
  leaving : stays shape ≡ not (is_counting b || is_leaving b)

data Found (b : ℕ) (p : Program) : Type 0 where
  unknown : p ≡ end (failed (unknown_opcode b)) → Found b p
  shaped : Shaped b p → Found b p

shaped_row : (b : ℕ) (p : Program) (x : Shape) → Always x p → fits_row b p x ≡ true → Shaped b p
shaped_row b p x o e =
    let h = both (same_row (row_of p) (shape_row x)) _ e in let l = both (ltb (bytes_in x) 255) _ h.1 in
    let k = both (alike (fixed x) (not (is_counting b))) _ l.1 in
    record { shape = x; obeys = o; row = row_same _ _ h.0; few = ltb-true (bytes_in x) 255 l.0; counting = alike_same _ _ k.0; leaving = alike_same _ _ k.1 }

found : (b : ℕ) (is : List (ℕ × Program)) (xs : List Shape) → Ruled is xs → all_fit is xs ≡ true → Found b (I.find b is)
found b [] [] last e = unknown refl
found b [] (x ∷ xs) r e = elim r [ ]
found b (i ∷ is) [] r e = elim r [ ]
found b (i ∷ is) (x ∷ xs) (also f r) e = go (eqb b i.0) refl (found b is xs r h.1)
  where
    h : (fits_row i.0 i.1 x ≡ true) × (all_fit is xs ≡ true)
    h = both (fits_row i.0 i.1 x) (all_fit is xs) e

    go : (t : Bool) → eqb b i.0 ≡ t → Found b (I.find b is) → Found b (if t then i.1 else I.find b is)
    go true q k = shaped (subst (λ (c : ℕ). Shaped c i.1) (sym (eqb-true b i.0 q)) (shaped_row i.0 i.1 x f h.0))
    go false q k = k

-- A step

below : (m n : ℕ) → (n ≤ m → ⊥) → m < n
below m n f = go (leb n m) refl
  where
    go : (b : Bool) → leb n m ≡ b → m < n
    go true e = absurd (f (leb-true n m e))
    go false e = leb-false n m e

reached : (m n : ℕ) → (m < n → ⊥) → n ≤ m
reached m n f = go (leb n m) refl
  where
    go : (b : Bool) → leb n m ≡ b → n ≤ m
    go true e = leb-true n m e
    go false e = absurd (f (leb-false n m e))

-- Only a space question restores the state, and each has a number.
unrefused : (s : State) (h : How) (t : State) → number h ≡ 0 → settled s h t ≡ t
unrefused s went t e = refl
unrefused s (ended x) t e = refl
unrefused s (refused q) t e = absurd ((plain_question q).not0 e)

module _ (s : State) (b : ℕ) (o : Outcome) where
  listed_unknown : number o.how ≡ 13 → Listed s b (row 255 255 255) o
  listed_unknown e = record {
    known = ((λ q. refl), (λ q. e));
    cut = λ n. absurd (n e);
    short = λ n. absurd (n e);
    moves = λ c l w. absurd (omega arith);
  }

  -- o is what the program comes to, from a state with as many bytes left and the same operands
  module _ (p : Program) (s₁ : State) (eo : exec p s₁ ≡ o) (en : left s₁ ≡ following s) (ev : s₁.operands ≡ s.operands) (st : Standing s₁.frames) where
    listed_shaped : (k : Shaped b p) → Listed s b (shape_row k.shape) o
    listed_shaped k =
        let x = k.shape in let small = k.few in
        let y : Obeys x p s₁ = k.obeys s₁ in
        let h : number (exec p s₁).how ≡ number o.how = ap (λ (z : Outcome). number z.how) eo in
        let n : length s₁.operands ≡ length s.operands = ap length ev in
        record {
          known = ((λ q. absurd (y.known (h ∙ q))), (λ q. absurd (omega arith)));
          cut = λ u. ((λ q. below (following s) (bytes_in x) (λ l. y.uncut (omega arith) (h ∙ q))), (λ l. sym h ∙ y.cut st (omega arith)));
          short = λ u v c.
              let f : fixed x ≡ true = k.counting ∙ ap not c in
              let l : bytes_in x ≤ left s₁ = reached (left s₁) (bytes_in x) (λ m. v (sym h ∙ y.cut st m)) in
              rw f ((λ q. below (length s.operands) (taken_in x) (λ m. y.enough f l (omega arith) (h ∙ q))), (λ m. sym h ∙ y.short f l (omega arith)));
          moves = λ c d w.
              let f : fixed x ≡ true = k.counting ∙ ap not c in
              let g : stays x ≡ true = k.leaving ∙ ap₂ (λ (i j : Bool). not (i || j)) c d in
              let z : number (exec p s₁).how ≡ 0 = h ∙ w in
              let l : bytes_in x ≤ left s₁ = reached (left s₁) (bytes_in x) (λ m. let q = y.cut st m in omega arith) in
              let t : taken_in x ≤ length s₁.operands = reached (length s₁.operands) (taken_in x) (λ m. let q = y.short f l m in omega arith) in
              let a : length (exec p s₁).state.operands ≡ length (after s o).operands =
              ap (λ (z : Outcome). length z.state.operands) eo ∙ sym (ap (λ (t : State). length t.operands) (unrefused s o.how o.state w)) in
              rw f (let q = y.moves g l t z in omega arith);
        }

    listed_found : Found b p → Listed s b (row_of p) o
    listed_found (unknown e) =
        subst (λ (r : Row). Listed s b r o) (sym (ap row_of e))
        (listed_unknown (ap (λ (z : Outcome). number z.how) (sym eo) ∙ ap (λ (q : Program). number (exec q s₁).how) e))
    listed_found (shaped k) = subst (λ (r : Row). Listed s b r o) (sym k.row) (listed_shaped k)

module _ (s : State) (f : Frame) (fs : List Frame) where
  listed_here : AsListed (step (here s f fs))
  unfolding row_for
  listed_here b e =
      subst (λ (o : Outcome). Listed (here s f fs) b (row_for b) o) (sym (begins s f fs b e))
      (noted (listed_found (here s f fs) b (exec (instruction b) (fetched s f fs)) (instruction b) (fetched s f fs) refl (omega arith) refl tt (found b I.instructions shapes ruled tested)))
    where
      noted : {o : Outcome} → Listed (here s f fs) b (row_for b) o → Listed (here s f fs) b (row_for b) (noting (did (A.jump (f.ip + 1)) []) o)
      noted l = record { known = l.known; cut = l.cut; short = l.short; moves = l.moves }

-- Change 6 of document 02: of a step from every state, and of each that calls come to.
pub as_listed : (s : State) → AsListed (step s)
as_listed s b e = in_frame b (λ t. AsListed (step t)) listed_here s e b e

pub calls_listed : (cs : List Call) → All (λ d. All AsListed d.steps) (history fresh cs)
calls_listed cs = calls_each AsListed as_listed cs fresh
