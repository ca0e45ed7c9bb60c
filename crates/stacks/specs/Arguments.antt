-- A called function's frame: its arguments, taken from the operands, and Undefined for what is missing. Assumes nothing.
use Rattle.stacks.specs.Layout.{slot_limit, slots_at, frames_at, handlers_at}
use Rattle.std.specs.Prelude.{ℕ, zero, suc, ◌+◌, ◌-◌, ◌*◌, ◌≤◌, ◌<◌, min, max, List, [], ◌∷◌, ◌++◌, ◌≡◌, refl, length, replicate, Ok}
use Rattle.std.proofs.Common.{arith, zero-add, suc-add, append_assoc, sym, subst, ap, ap₂, ◌∙◌, length-append}
use Rattle.std.proofs.Math.Decide.{dec_lt}
use Rattle.std.proofs.lemmas.List.{length-replicate, replicate-append-replicate}
use Rattle.machine.specs.Value as M
use Rattle.machine.specs.Act as A
use Rattle.machine.specs.Program.{make}
use Rattle.machine.specs.Instruction as I
use Rattle.machine.specs.Out.{out}
use Rattle.value.specs.declared.Value.{Value}
use Rattle.value.specs.Words.{value_of, value_at, set_value, value_reads, Holds, holds_set}
use Rattle.value.specs.Arena.{apart_below, apart_above}
use Rattle.value.specs.Lists.{row_of, row_append, row_ext}
use Rattle.stacks.specs.declared.Depths.{Depths}
use Rattle.stacks.specs.View
use Rattle.stacks.specs.Laws.{operands_kept, slots_kept, frames_kept, handlers_kept}
use Rattle.stacks.specs.Slots.{undefined_rows}

-- one value after the other
pub copy_more : (w₀ w w' : List ℕ) (from to i : ℕ) → 3 * (from + i) + 3 ≤ slots_at → View.Copies w₀ w from to i
    → Holds w w' (slots_at + 3 * (to + i)) (value_at w (3 * (from + i))) → View.Copies w₀ w' from to (i + 1)
copy_more w₀ w w' from to i b c h = record {
  values = λ j q. go j q (dec_lt j i);
  apart = record { at = λ j n. h.apart.at j (λ x y. n (omega arith) (omega arith)) ∙ c.apart.at j (λ x y. n x (omega arith)) };
}
  where
    go : (j : ℕ) → j < i + 1 → Dec (j < i) → value_at w' (slots_at + 3 * (to + j)) ≡ value_at w₀ (3 * (from + j))
    go j q (yes l) = value_reads w w' (slots_at + 3 * (to + j)) (λ m x y. h.apart.at m (λ s t. omega arith)) ∙ c.values j l
    go j q (no l) =
        let z : j ≡ i = omega (arith, l) in
        let own : value_at w (3 * (from + i)) ≡ value_at w₀ (3 * (from + i)) = value_reads w₀ w (3 * (from + i)) (λ m x y. c.apart.at m (λ s t. omega arith)) in
        rw z (h.value ∙ own)

-- the same of a value that is read and written
pub copy_written : (w₀ w w' : List ℕ) (from to i : ℕ) (v : Value) → 3 * (from + i) + 3 ≤ slots_at → slots_at + 3 * (to + i) + 2 < length w → View.Copies w₀ w from to i
    → value_of v ≡ value_at w (3 * (from + i)) → w' ≡ set_value w (slots_at + 3 * (to + i)) v → View.Copies w₀ w' from to (i + 1)
copy_written w₀ w w' from to i v b l c r e = rw e (copy_more w₀ w (set_value w (slots_at + 3 * (to + i)) v) from to i b c (subst (λ (x : M.Value). Holds w (set_value w (slots_at + 3 * (to + i)) v) (slots_at + 3 * (to + i)) x) r (holds_set w (slots_at + 3 * (to + i)) v l)))

-- the first p of a values, with Undefined where there are fewer
exactly_none : (r : ℕ) → I.exactly r [] ≡ replicate r M.undefined
exactly_none zero = refl
exactly_none (suc r) = ap {B = List M.Value} (λ x. M.undefined ∷ x) (exactly_none r)

exactly_more : (a r : ℕ) (f : ℕ → M.Value) → I.exactly (a + r) (row_of a f) ≡ row_of a f ++ replicate r M.undefined
unfolding row_of
exactly_more zero r f = rw zero-add (exactly_none r)
exactly_more (suc a) r f = rw suc-add (ap {B = List M.Value} (λ x. f 0 ∷ x) (exactly_more a r (λ k. f (suc k))))

exactly_fewer : (p r : ℕ) (f : ℕ → M.Value) → I.exactly p (row_of (p + r) f) ≡ row_of p f
unfolding row_of
exactly_fewer zero r f = refl
exactly_fewer (suc p) r f = rw suc-add (ap {B = List M.Value} (λ x. f 0 ∷ x) (exactly_fewer p r (λ k. f (suc k))))

length_exactly : (p : ℕ) (vs : List M.Value) → length (I.exactly p vs) ≡ p
length_exactly zero vs = refl
length_exactly (suc p) [] = ap suc (length_exactly p [])
length_exactly (suc p) (v ∷ vs) = ap suc (length_exactly p vs)

pub length_called : (w : List ℕ) (from argc params locals : ℕ) → length (View.called w from argc params locals) ≡ max params locals
length_called w from argc params locals = simp (length-append, length_exactly, length-replicate) (omega arith)

-- m arguments, then Undefined up to the last local
called_is : (w : List ℕ) (from argc params locals m : ℕ) → m ≡ min argc params
    → View.called w from argc params locals ≡ View.arguments w from m ++ replicate (max params locals - m) M.undefined
called_is w from argc params locals m e = go (dec_lt argc params)
  where
    f : ℕ → M.Value
    f i = value_at w (3 * (from + i))

    go : Dec (argc < params) → View.called w from argc params locals ≡ View.arguments w from m ++ replicate (max params locals - m) M.undefined
    go (yes h) =
        let g : ℕ → M.Value = λ i. value_at w (3 * (from + i)) in
        let p : argc + (params - argc) ≡ params = omega arith in
        let q : argc ≡ m = omega arith in
        let n : params - argc + (locals - params) ≡ max params locals - m = omega arith in
        ap (λ (x : ℕ). I.exactly x (row_of argc g) ++ replicate (locals - params) M.undefined) (sym p)
        ∙ ap (λ (x : List M.Value). x ++ replicate (locals - params) M.undefined) (exactly_more argc (params - argc) g)
        ∙ append_assoc (row_of argc g) (replicate (params - argc) M.undefined) (replicate (locals - params) M.undefined)
        ∙ ap (λ (x : List M.Value). row_of argc g ++ x) (replicate-append-replicate (params - argc) (locals - params) M.undefined)
        ∙ ap₂ (λ (x y : ℕ). row_of x g ++ replicate y M.undefined) q n
    go (no h) =
        let g : ℕ → M.Value = λ i. value_at w (3 * (from + i)) in
        let p : params + (argc - params) ≡ argc = omega (arith, h) in
        let q : params ≡ m = omega (arith, h) in
        let n : locals - params ≡ max params locals - m = omega (arith, h) in
        ap (λ (x : ℕ). I.exactly params (row_of x g) ++ replicate (locals - params) M.undefined) (sym p)
        ∙ ap (λ (x : List M.Value). x ++ replicate (locals - params) M.undefined) (exactly_fewer params (argc - params) g)
        ∙ ap₂ (λ (x y : ℕ). row_of x g ++ replicate y M.undefined) q n

-- m arguments copied, and the rest filled
pub passes : (w w₁ w₂ : List ℕ) (from argc n params locals m : ℕ) → m ≡ min argc params → n + max params locals ≤ slot_limit
    → View.Copies w w₁ from n m → View.Filled w₁ w₂ (n + m) (n + max params locals) → View.Passes w w₂ from argc n params locals
passes w w₁ w₂ from argc n params locals m e l c f =
    let count = max params locals in
    let g : ℕ → M.Value = λ i. value_at w₂ (slots_at + 3 * (n + i)) in
    let split : m + (count - m) ≡ count = omega arith in
    let first : row_of m g ≡ View.arguments w from m =
    row_ext m g (λ i. value_at w (3 * (from + i))) (λ i h. value_reads w₁ w₂ (slots_at + 3 * (n + i)) (λ j x y. f.apart.at j (λ s t. omega arith)) ∙ c.values i h) in
    let rest : row_of (count - m) (λ k. g (m + k)) ≡ replicate (count - m) M.undefined =
    undefined_rows (count - m) (λ k. g (m + k)) (λ k h. let z : slots_at + 3 * (n + (m + k)) ≡ slots_at + 3 * (n + m + k) = omega arith in rw z (f.values (n + m + k) (omega arith) (omega arith))) in
    record {
      slots = ap (λ (x : ℕ). row_of x g) (sym split) ∙ row_append m (count - m) g ∙ ap₂ (λ (x y : List M.Value). x ++ y) first rest ∙ sym (called_is w from argc params locals m e);
      apart = record { at = λ j h. f.apart.at j (λ x y. h (omega arith) (omega arith)) ∙ c.apart.at j (λ x y. h (omega arith) (omega arith)) };
    }

-- a frame pushed after its slots were laid above those that stand
pub frame_called : (d : Depths) (w w₁ w₂ : List ℕ) (r : Depths) (image template from argc params locals : ℕ) → View.Ready d w
    → View.Passes w w₁ from argc d.slots params locals → View.Makes (A.push_frame image template (View.above w₁ d.slots (max params locals))) d w₁ (Ok r) w₂
    → View.Makes (A.push_frame image template (View.called w from argc params locals)) d w (Ok r) w₂
frame_called d w w₁ w₂ r image template from argc params locals good p m =
    let o = operands_kept w w₁ d.operands (apart_below p.apart 0 (0 + 3 * d.operands) (omega (arith, good.operands))) in
    let l = slots_kept w w₁ d.slots (apart_below p.apart slots_at (slots_at + 3 * d.slots) (omega arith)) in
    let f = frames_kept w w₁ d.frames (apart_above p.apart frames_at (frames_at + 5 * d.frames) (omega arith)) in
    let h = handlers_kept w w₁ d.handlers (apart_above p.apart handlers_at (handlers_at + 3 * d.handlers) (omega arith)) in
    record {
      goes = λ s q.
          let same : View.on_stacks d w₁ s ≡ View.on_stacks d w s = rw (o, l, f, h) in
          ap (λ (x : List M.Value). out (make (A.push_frame image template x) q) (View.on_stacks d w s)) (sym p.slots)
          ∙ ap (out (make (A.push_frame image template (View.above w₁ d.slots (max params locals))) q)) (sym same) ∙ m.goes s q;
      ready = m.ready;
    }
