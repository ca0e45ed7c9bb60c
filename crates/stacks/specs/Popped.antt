-- Many operands popped: what `pop_many` of the machine comes to on the view, and the same values as CreateArray takes them. Assumes nothing.
use Rattle.std.specs.Prelude.{ℕ, zero, suc, ◌+◌, ◌-◌, ◌*◌, ◌≤◌, ◌<◌, min, ◌≡◌, take}
use Rattle.std.proofs.Common.{arith, zero-add, suc-add, add-one, sym, ap, ◌∙◌, take_all}
use Rattle.std.proofs.Math.Decide.{dec_lt}
use mathlib.Core.List.{List, [], ◌∷◌, ◌++◌, append_assoc, append-nil, reverse, reverse_aux}
use Rattle.machine.specs.Value as M
use Rattle.machine.specs.State as St
use Rattle.machine.specs.Program.{Program, failed}
use Rattle.machine.specs.Error.{stack_underflow}
use Rattle.machine.specs.Instruction as I
use Rattle.machine.specs.Out.{ended, out, out_pop, out_empty}
use Rattle.value.specs.Words.{value_at}
use Rattle.value.specs.Lists.{stack_of, row_of, row_none, stack_none, stack_suc, stack_length, one_more}
use Rattle.stacks.specs.declared.Depths.{Depths}
use Rattle.stacks.specs.View
use Rattle.stacks.specs.Laws.{with_operands}

-- an argument more: the operand above n others
argument_more : (w : List ℕ) (from n : ℕ) (vs : List M.Value)
    → View.arguments w from n ++ (value_at w (0 + 3 * (n + from)) ∷ vs) ≡ View.arguments w from (suc n) ++ vs
argument_more w from n vs =
    let g : ℕ → M.Value = λ i. value_at w (3 * (from + i)) in
    let z : 3 * (from + n) ≡ 0 + 3 * (n + from) = omega arith in
    let v = value_at w (0 + 3 * (n + from)) in
    let m : row_of (suc n) g ≡ row_of n g ++ v ∷ [] = ap (λ (x : ℕ). row_of x g) (sym (add-one n)) ∙ one_more n g v (ap (value_at w) z) in
    sym (ap (λ (x : List M.Value). x ++ vs) m ∙ append_assoc (row_of n g) (v ∷ []) vs)

module _ (d : Depths) (w : List ℕ) (s : St.State) where
  -- n + b operands stand, and vs were popped before
  popped_onto : (n b : ℕ) (vs : List M.Value) (k : List M.Value → Program)
      → out (I.pop_many n vs k) (View.on_stacks (with_operands (n + b) d) w s) ≡ out (k (View.arguments w b n ++ vs)) (View.on_stacks (with_operands b d) w s)
  popped_onto zero b vs k =
      let e : View.arguments w b 0 ++ vs ≡ vs = ap (λ (x : List M.Value). x ++ vs) (row_none (λ i. value_at w (3 * (b + i)))) in
      ap (λ (x : ℕ). out (k vs) (View.on_stacks (with_operands x d) w s)) (zero-add b)
      ∙ ap (λ (x : List M.Value). out (k x) (View.on_stacks (with_operands b d) w s)) (sym e)
  popped_onto (suc n) b vs k =
      let f : ℕ → M.Value = λ i. value_at w (0 + 3 * i) in
      let t : stack_of f (suc n + b) ≡ f (n + b) ∷ stack_of f (n + b) = ap (stack_of f) (suc-add n b) ∙ stack_suc f (n + b) in
      out_pop (View.on_stacks (with_operands (suc n + b) d) w s) (λ v. I.pop_many n (v ∷ vs) k) (f (n + b)) (stack_of f (n + b)) t
      ∙ popped_onto n b (f (n + b) ∷ vs) k
      ∙ ap (λ (x : List M.Value). out (k x) (View.on_stacks (with_operands b d) w s)) (argument_more w b n vs)

  -- c operands stand, which are fewer
  short_onto : (n c : ℕ) (vs : List M.Value) (k : List M.Value → Program) → c < n
      → out (I.pop_many n vs k) (View.on_stacks (with_operands c d) w s) ≡ ended (failed stack_underflow) (View.on_stacks (with_operands 0 d) w s)
  short_onto zero c vs k h = absurd (omega arith)
  short_onto (suc n) zero vs k h = out_empty (View.on_stacks (with_operands 0 d) w s) (λ v. I.pop_many n (v ∷ vs) k) (stack_none (λ i. value_at w (0 + 3 * i)))
  short_onto (suc n) (suc c) vs k h =
      let f : ℕ → M.Value = λ i. value_at w (0 + 3 * i) in
      out_pop (View.on_stacks (with_operands (suc c) d) w s) (λ v. I.pop_many n (v ∷ vs) k) (f c) (stack_of f c) (stack_suc f c)
      ∙ short_onto n c (f c ∷ vs) k (omega arith)

  -- n operands, the oldest first
  pub popped_many : (n : ℕ) (k : List M.Value → Program) → n ≤ d.operands
      → out (I.pop_many n [] k) (View.on_stacks d w s) ≡ out (k (View.arguments w (d.operands - n) n)) (View.on_stacks (with_operands (d.operands - n) d) w s)
  popped_many n k h =
      let b = d.operands - n in
      let e : d.operands ≡ n + (d.operands - n) = omega arith in
      ap (λ (x : ℕ). out (I.pop_many n [] k) (View.on_stacks (with_operands x d) w s)) e
      ∙ popped_onto n b [] k
      ∙ ap (λ (x : List M.Value). out (k x) (View.on_stacks (with_operands b d) w s)) (append-nil (View.arguments w b n))

  -- fewer stand: question 15, with all of them popped
  pub popped_short : (n : ℕ) (k : List M.Value → Program) → d.operands < n
      → out (I.pop_many n [] k) (View.on_stacks d w s) ≡ ended (failed stack_underflow) (View.on_stacks (with_operands 0 d) w s)
  popped_short n k h = short_onto n d.operands [] k h

  -- n arguments, and the operand under them
  module _ (n : ℕ) (k : List M.Value → M.Value → Program) where
    pub popped_call : n + 1 ≤ d.operands
        → out (I.pop_many n [] (λ args. I.pop λ f. k args f)) (View.on_stacks d w s)
        ≡ out (k (View.arguments w (d.operands - n) n) (value_at w (3 * (d.operands - n - 1)))) (View.on_stacks (with_operands (d.operands - n - 1) d) w s)
    popped_call h =
        let f : ℕ → M.Value = λ i. value_at w (0 + 3 * i) in
        let b = d.operands - n - 1 in
        let args = View.arguments w (d.operands - n) n in
        let e : d.operands - n ≡ suc (d.operands - n - 1) = omega arith in
        let t : stack_of f (d.operands - n) ≡ f b ∷ stack_of f b = ap (stack_of f) e ∙ stack_suc f b in
        let z : 0 + 3 * (d.operands - n - 1) ≡ 3 * (d.operands - n - 1) = omega arith in
        popped_many n (λ args. I.pop λ f. k args f) (omega arith)
        ∙ out_pop (View.on_stacks (with_operands (d.operands - n) d) w s) (λ v. k args v) (f b) (stack_of f b) t
        ∙ ap (λ (x : ℕ). out (k args (value_at w x)) (View.on_stacks (with_operands b d) w s)) z

    pub popped_call_short : d.operands ≤ n
        → out (I.pop_many n [] (λ args. I.pop λ f. k args f)) (View.on_stacks d w s) ≡ ended (failed stack_underflow) (View.on_stacks (with_operands 0 d) w s)
    popped_call_short h = go (dec_lt d.operands n)
      where
        go : Dec (d.operands < n)
            → out (I.pop_many n [] (λ args. I.pop λ f. k args f)) (View.on_stacks d w s) ≡ ended (failed stack_underflow) (View.on_stacks (with_operands 0 d) w s)
        go (yes l) = popped_short n (λ args. I.pop λ f. k args f) l
        go (no l) =
            let z : d.operands - n ≡ 0 = omega arith in
            let args = View.arguments w (d.operands - n) n in
            popped_many n (λ args. I.pop λ f. k args f) (omega (arith, l))
            ∙ ap (λ (x : ℕ). out (I.pop λ f. k args f) (View.on_stacks (with_operands x d) w s)) z
            ∙ out_empty (View.on_stacks (with_operands 0 d) w s) (λ f. k args f) (stack_none (λ i. value_at w (0 + 3 * i)))

-- The newest n of a stack, turned round: its rows in order.
taken_onto : (w : List ℕ) (n b : ℕ) (r : List M.Value) → reverse_aux (take n (View.operands_of w (n + b))) r ≡ View.arguments w b n ++ r
taken_onto w zero b r = sym (ap (λ (x : List M.Value). x ++ r) (row_none (λ i. value_at w (3 * (b + i)))))
taken_onto w (suc n) b r =
    let f : ℕ → M.Value = λ i. value_at w (0 + 3 * i) in
    let t : stack_of f (suc n + b) ≡ f (n + b) ∷ stack_of f (n + b) = ap (stack_of f) (suc-add n b) ∙ stack_suc f (n + b) in
    ap (λ (x : List M.Value). reverse_aux (take (suc n) x) r) t ∙ taken_onto w n b (f (n + b) ∷ r) ∙ argument_more w b n r

pub taken : (w : List ℕ) (c n : ℕ) → reverse (take n (View.operands_of w c)) ≡ View.arguments w (c - n) (min n c)
taken w c n = go (dec_lt c n)
  where
    go : Dec (c < n) → reverse (take n (View.operands_of w c)) ≡ View.arguments w (c - n) (min n c)
    go (yes h) =
        let f : ℕ → M.Value = λ i. value_at w (0 + 3 * i) in
        let a : c - n ≡ 0 = omega arith in
        let m : min n c ≡ c = omega arith in
        let e : c ≡ c + 0 = omega arith in
        let all : take n (stack_of f c) ≡ take c (stack_of f c) = take_all n (stack_of f c) (rw stack_length (omega arith)) ∙ sym (take_all c (stack_of f c) (rw stack_length (omega arith))) in
        ap (λ (x : List M.Value). reverse x) all
        ∙ ap (λ (x : ℕ). reverse (take c (stack_of f x))) e
        ∙ taken_onto w c 0 [] ∙ append-nil (View.arguments w 0 c)
        ∙ ap (λ (x : ℕ). View.arguments w x c) (sym a) ∙ ap (λ (x : ℕ). View.arguments w (c - n) x) (sym m)
    go (no h) =
        let m : min n c ≡ n = omega (arith, h) in
        let e : c ≡ n + (c - n) = omega (arith, h) in
        ap (λ (x : ℕ). reverse (take n (View.operands_of w x))) e
        ∙ taken_onto w n (c - n) [] ∙ append-nil (View.arguments w (c - n) n)
        ∙ ap (λ (x : ℕ). View.arguments w (c - n) x) (sym m)

-- the elements of CreateArray n over c operands
pub taken_exactly : (w : List ℕ) (c n : ℕ) → I.exactly n (reverse (take n (View.operands_of w c))) ≡ I.exactly n (View.arguments w (c - n) (min n c))
taken_exactly w c n = ap (I.exactly n) (taken w c n)
