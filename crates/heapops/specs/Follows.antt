-- How a program is followed over all of the lent stores: one law for each way that it goes on. Assumes nothing.
use Rattle.std.specs.Prelude.{ℕ, max, Bool, true, false, List, ◌≡◌, refl, ltb, length, Option, Some, None, Result, Ok, Err}
use Rattle.std.proofs.Math.Option.{none, some}
use Rattle.std.proofs.Common.{sym, ap, ◌∙◌}
use Rattle.std.proofs.Math.Path.{subst}
use Rattle.std.specs.Prelude.{if◌then◌else◌}
use Rattle.machine.specs.Value as M
use Rattle.machine.specs.State as St
use Rattle.machine.specs.Act as A
use Rattle.machine.specs.Error as E
use Rattle.machine.specs.Program as P
use Rattle.machine.specs.Program.{Program, next, look, make}
use Rattle.machine.specs.Instruction as I
use Rattle.machine.specs.Out.{Out, went, ended, refused, out_of, out, out_next, out_look, out_pop}
use Rattle.value.specs.Errors.{space_of}
use Rattle.value.specs.Words.{value_of}
use Rattle.value.specs.declared.JsVmError.{JsVmError}
use Rattle.value.specs.declared.JsVmError.TheVariants.{StackUnderflow, IpOutOfBounds}
use Rattle.value.specs.declared.Space.{Space}
use Rattle.value.specs.declared.Value.{Value}
use Rattle.texts.specs.Keeps.{on_output}
use Rattle.stacks.specs.View
use Rattle.stacks.specs.Laws.{with_operands, with_ip}
use Rattle.stacks.specs.declared.Depths.{Depths}
use Rattle.heap.specs.declared.Sizes.{Sizes}
use Rattle.objects.specs.View.{on_stores, placed_then, PlacedReady}
use Rattle.arrays.specs.Sets.{Leaves}
use Rattle.outcome.specs.Meets as Me
use Rattle.outcome.specs.Meets.{Meets, Any, Pairs, pair_then, stepped}
use Rattle.outcome.specs.declared.Part.TheVariants.{Ended as Part-as-Ended}
use Rattle.fetch.specs.Running.{Runs, Coded, Reads, fetch_then}
use Rattle.fetch.specs.declared.Running.{Running}
use Rattle.heapops.specs.Turns.{Mem, mem, below, state_of, with_depths, turned, settled_in, placed_in, Tells, KeptOf, Turns}
use Rattle.heapops.specs.declared.Counts.{Counts}
use Rattle.heapops.specs.declared.How.{How}
use Rattle.heapops.specs.declared.How.TheVariants.{Went, Ended, Refused}
use Rattle.heapops.specs.declared.Turned.{Turned}
use Rattle.value.specs.declared.Stop.{Stop}
use Rattle.value.specs.declared.Stop.TheVariants.{Failed, Refused}

-- what holds of more states holds of fewer
pub weaken : {H K : St.State → Type 0} {p : Program} {c : Counts} {m m' : Mem} {t : Turned} → ((s : St.State) → K s → H s) → Turns H p c m t m' → Turns K p c m t m'
weaken f a = record { goes = λ s k. a.goes s (f s k); kept = a.kept }

pub any : {K : St.State → Type 0} {p : Program} {c : Counts} {m m' : Mem} {t : Turned} → Turns Any p c m t m' → Turns K p c m t m'
any a = weaken (λ s k. tt) a

-- what the rest of the state holds, it holds under the stores
pub coded_below : {x : Running} {n : ℕ} {code : List ℕ} (c : Counts) (m : Mem) {s : St.State} → Coded x n code s → Coded x n code (below c m s)
coded_below c m h = record { code = h.code; at = h.at; size = h.size }

kept_as : (h : How) (c : Counts) (d : Depths) (m m' : Mem) → KeptOf h (with_depths d c) m m' → KeptOf h c m m'
kept_as Went c d m m' k = k
kept_as (Ended e) c d m m' k = k
kept_as (Refused q) c d m m' k = k

pub kept_from : (h : How) (c : Counts) (d : Depths) (m m' : Mem) → KeptOf h c m m' → KeptOf h (with_depths d c) m m'
kept_from Went c d m m' k = k
kept_from (Ended e) c d m m' k = k
kept_from (Refused q) c d m m' k = k

-- what a refusal leaves of the heap and the text
abbrev pub Left : Sizes → List ℕ → ℕ → List ℕ → Result (Sizes × ℕ) Space → List ℕ → List ℕ → Type 0
Left z h m t (Ok (y, e)) h' t' = Unit {0}
Left z h m t (Err q) h' t' = (s : St.State) → on_stores z h' m t' s ≡ on_stores z h m t s

pub left_of : (z : Sizes) (h : List ℕ) (m : ℕ) (t : List ℕ) (r : Result (Sizes × ℕ) Space) (h' t' : List ℕ) → Leaves z h m t r h' t' → Left z h m t r h' t'
left_of z h m t (Ok (y, e)) h' t' k = tt
left_of z h m t (Err q) h' t' k = k.0

pub left_put : (z : Sizes) (h : List ℕ) (m : ℕ) (t : List ℕ) (r : Result (Sizes × ℕ) Space) (h' t' : List ℕ) → PlacedReady r h t h' t' → Left z h m t r h' t'
left_put z h m t (Ok (y, e)) h' t' k = tt
left_put z h m t (Err q) h' t' k = λ s. ap (λ (u : List ℕ). on_stores z u m t' s) k.0 ∙ ap (λ (u : List ℕ). on_stores z h m u s) k.1

-- A push is made or ends the run: no store refuses it.
Unrefused : Out → Type 0
Unrefused (went s) = Unit {0}
Unrefused (ended e s) = Unit {0}
Unrefused (refused q) = ⊥

abbrev pushing : St.State → M.Value → Bool → P.Outcome
pushing s v b = P.unless_error (if b then none else some E.stack_overflow) s (P.noting (P.did (A.push v) (A.brings (A.push v) s)) (P.exec next (A.apply (A.push v) s)))

push_made : (s : St.State) (v : M.Value) → Unrefused (out (I.pushed v) s)
unfolding out Unrefused
push_made s v = go (ltb (length s.operands) St.operand_limit)
  where
    go : (b : Bool) → Unrefused (out_of (pushing s v b).how (pushing s v b).state)
    go true = tt
    go false = tt

pub push_kept : (e : Counts) (w w' : List ℕ) (v : M.Value) (r : Result Depths Stop) → View.Makes (A.push v) e.depths w r w' → (c : Counts) (m m' : Mem) → KeptOf (settled_in e r).how c m m'
unfolding Unrefused
push_kept e w w' v (Ok d) a c m m' = tt
push_kept e w w' v (Err (Failed b)) a c m m' = tt
push_kept e w w' v (Err (Refused q)) a c m m' = absurd (subst Unrefused (a.goes St.fresh next) (push_made (View.on_stacks e.depths w St.fresh) v))

-- a look more changes nothing
two_plain : (k : M.Value → M.Value → Program) (s : St.State) → out (I.pop λ b. I.pop λ a. k a b) s ≡ out (I.pop_two λ m a b. k a b) s
unfolding out
two_plain k s = refl

-- an act without error and questions
pub drops : (n : ℕ) (p : Program) (s : St.State) → out (make (A.drop_many n) p) s ≡ out p (A.apply (A.drop_many n) s)
unfolding out
drops n p s = refl

module _ {H : St.State → Type 0} {c : Counts} {m : Mem} where
  -- the program goes on as another one, from other depths
  pub onward : (d : Depths) {p q : Program} {m' : Mem} {t : Turned} → ((s : St.State) → H s → out p (state_of c m s) ≡ out q (state_of (with_depths d c) m s))
      → Turns H q (with_depths d c) m t m' → Turns H p c m t m'
  onward d {p} {q} {m'} {t} f a = record {
    goes = λ s h. subst (Tells t.how t.counts m' s) (sym (f s h)) (a.goes s h);
    kept = kept_as t.how c d m m' a.kept;
  }

  pub after_look : {f : St.State → Program} {p : Program} {m' : Mem} {t : Turned} → ((s : St.State) → H s → f (state_of c m s) ≡ p) → Turns H p c m t m' → Turns H (look f) c m t m'
  after_look {f} {p} e a = onward c.depths (λ s h. out_look (state_of c m s) f ∙ ap (λ (q : Program). out q (state_of c m s)) (e s h)) a

  -- the run ends
  pub fails : {p : Program} {e : JsVmError} {d : Depths} {x : Turned} → Meets Any p c.depths m.stacks (stepped d (Part-as-Ended (Err e))) m.stacks
      → x ≡ turned (with_depths d c) (Ended (Err e)) → Turns H p c m x m
  fails {p} a g = subst (λ (y : Turned). Turns H p c m y m) (sym g) (record { goes = λ s h. a.goes (below c m s) tt; kept = tt })

  -- one operand, and two
  pub after_pop : (k : M.Value → Program) {e : Depths} {m' : Mem} {q : Option (Value × Depths)} {v : Value} {t : Turned}
      → View.Pops c.depths m.stacks q → q ≡ Some (v, e) → Turns H (k (value_of v)) (with_depths e c) m t m' → Turns H (I.pop k) c m t m'
  after_pop k {e} {m'} {q} {v} f g a = onward e
      (λ s h. ap (out (I.pop k)) ((rw g at f.state) (below c m s))
      ∙ out_pop (A.apply (A.push (value_of v)) (state_of (with_depths e c) m s)) k (value_of v) (state_of (with_depths e c) m s).operands refl) a

  pub pop_fails : (k : M.Value → Program) {q : Option (Value × Depths)} {d : Depths} {x : Turned} → View.Pops c.depths m.stacks q → q ≡ None → d ≡ with_operands 0 c.depths
      → x ≡ turned (with_depths d c) (Ended (Err StackUnderflow)) → Turns H (I.pop k) c m x m
  pop_fails k f g b e = fails (Me.pop_fails k f g refl) (e ∙ ap (λ (u : Depths). turned (with_depths u c) (Ended (Err StackUnderflow))) b)

  pub after_two : (k : M.Value → M.Value → Program) {e : Depths} {m' : Mem} {r : Option (Value × Value × Depths)} {a b : Value} {t : Turned}
      → Pairs c.depths m.stacks r → r ≡ Some (a, b, e) → Turns H (k (value_of a) (value_of b)) (with_depths e c) m t m' → Turns H (I.pop λ b. I.pop λ a. k a b) c m t m'
  after_two k {e} f g a = onward e
      (λ s h. two_plain k (state_of c m s) ∙ f.goes (below c m s) (λ m a b. k a b) ∙ ap (λ (y : Option (Value × Value × Depths)). pair_then y (λ m a b. k a b) c.depths m.stacks (below c m s)) g) a

  pub two_fail : (k : M.Value → M.Value → Program) {r : Option (Value × Value × Depths)} {d : Depths} {x : Turned} → Pairs c.depths m.stacks r → r ≡ None → d ≡ with_operands 0 c.depths
      → x ≡ turned (with_depths d c) (Ended (Err StackUnderflow)) → Turns H (I.pop λ b. I.pop λ a. k a b) c m x m
  two_fail k {r} {d} f g b e =
      onward c.depths (λ s h. two_plain k (state_of c m s))
      (fails (Me.two_fail (λ m a b. k a b) f g refl) (e ∙ ap (λ (u : Depths). turned (with_depths u c) (Ended (Err StackUnderflow))) b))

  -- operand bytes
  module _ {l width : ℕ} {reader : (ℕ → Program) → Program} {x : Running} {n : ℕ} {code : List ℕ} {r : Option (ℕ × Depths)} (f : Reads l width reader x n code c.depths r)
      (k : ℕ → Program) (held : (s : St.State) → H s → Coded x n code s) (q : Runs x c.depths m.stacks) where
    pub after_fetch : {b : ℕ} {e : Depths} {t : Turned} {m' : Mem} → r ≡ Some (b, e) → Turns H (k b) (with_depths e c) m t m' → Turns H (reader k) c m t m'
    after_fetch {b} {e} g a = onward e (λ s h. f.goes m.stacks q (below c m s) (coded_below c m (held s h)) k ∙ ap (λ (u : Option (ℕ × Depths)). fetch_then u k x c.depths m.stacks (below c m s)) g) a

    pub fetch_fails : {d : Depths} {t : Turned} → r ≡ None → d ≡ with_ip (max c.depths.ip x.shape.size) c.depths
        → t ≡ turned (with_depths d c) (Ended (Err IpOutOfBounds)) → Turns H (reader k) c m t m
    fetch_fails {d} {t} g b e =
        let z : t ≡ turned (with_depths (with_ip (max c.depths.ip x.shape.size) c.depths) c) (Ended (Err IpOutOfBounds)) =
        e ∙ ap (λ (u : Depths). turned (with_depths u c) (Ended (Err IpOutOfBounds))) b in
        subst (λ (y : Turned). Turns H (reader k) c m y m) (sym z) (record {
          goes = λ s h. f.goes m.stacks q (below c m s) (coded_below c m (held s h)) k ∙ ap (λ (u : Option (ℕ × Depths)). fetch_then u k x c.depths m.stacks (below c m s)) g;
          kept = tt;
        })

  -- a store refuses
  pub refuses : {p : Program} {q : Space} {e : Counts} {x : Turned} {m' : Mem} → ((s : St.State) → H s → out p (state_of c m s) ≡ refused (space_of q))
      → ((d : Depths) (s : St.State) → state_of (with_depths d c) m' s ≡ state_of (with_depths d c) m s) → x ≡ turned e (Refused q) → Turns H p c m x m'
  refuses {p} {q} {e} {x} {m'} f k g = subst (λ (y : Turned). Turns H p c m y m') (sym g) (record { goes = f; kept = k })

  -- what is done with the other stores ends in a push, over the counts e
  pub pushes : (e : Counts) (w h t o : List ℕ) {p : Program} {v : M.Value} {w' : List ℕ} {r : Result Depths Stop} {x : Turned} → ((s : St.State) → H s → out p (state_of c m s) ≡ out (I.pushed v) (state_of e (mem w h t o) s))
      → View.Makes (A.push v) e.depths w r w' → x ≡ settled_in e r → Turns H p c m x (mem w' h t o)
  unfolding Unrefused
  pushes e w h t o {p} {v} {w'} {r} {x} f a g = subst (λ (y : Turned). Turns H p c m y (mem w' h t o)) (sym g) (by r a)
    where
      by : (r : Result Depths Stop) → View.Makes (A.push v) e.depths w r w' → Turns H p c m (settled_in e r) (mem w' h t o)
      by (Ok d) a = record { goes = λ s i. f s i ∙ a.goes (below e (mem w h t o) s) next ∙ out_next (state_of (with_depths d e) (mem w' h t o) s); kept = tt }
      by (Err (Failed b)) a = record { goes = λ s i. f s i ∙ a.goes (below e (mem w h t o) s) next; kept = tt }
      by (Err (Refused q)) a = absurd (subst Unrefused (a.goes St.fresh next) (push_made (View.on_stacks e.depths w St.fresh) v))

  -- what is done ends in the heap and the text, over the depths d; the instruction began with b
  pub puts : (b d : Depths) (r : Result (Sizes × ℕ) Space) {p : Program} {h' t' : List ℕ} {x : Turned}
      → ((s : St.State) → H s → out p (state_of c m s) ≡ placed_then r next h' t' (View.on_stacks d m.stacks (on_output c.output m.output s)))
      → Left c.sizes m.heap c.text m.text r h' t' → x ≡ placed_in (with_depths b c) d r → Turns H p c m x (mem m.stacks h' t' m.output)
  puts b d r {p} {h'} {t'} {x} f k g = subst (λ (y : Turned). Turns H p c m y (mem m.stacks h' t' m.output)) (sym g) (by r f k)
    where
      by : (r : Result (Sizes × ℕ) Space) → ((s : St.State) → H s → out p (state_of c m s) ≡ placed_then r next h' t' (View.on_stacks d m.stacks (on_output c.output m.output s)))
          → Left c.sizes m.heap c.text m.text r h' t' → Turns H p c m (placed_in (with_depths b c) d r) (mem m.stacks h' t' m.output)
      by (Ok (y, e)) f k = record { goes = λ s i. f s i ∙ out_next (on_stores y h' e t' (View.on_stacks d m.stacks (on_output c.output m.output s))); kept = tt }
      by (Err q) f k = record { goes = f; kept = λ u s. k (View.on_stacks u m.stacks (on_output c.output m.output s)) }
