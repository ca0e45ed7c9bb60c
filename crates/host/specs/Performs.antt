-- The machine's call, by its questions and by what comes of its acts; and what a contract needs beside it. Assumes nothing.
use Rattle.std.specs.Prelude.{ℕ, Bool, true, false, ◌≡◌, refl}
use Rattle.std.proofs.lemmas.Bool.{false≢true}
use Rattle.std.proofs.Math.Option.{Option, none, some}
use Rattle.std.proofs.Common.{sym, subst, ◌∙◌}
use Rattle.std.proofs.Math.Path.{ap}
use Rattle.machine.specs.State as St
use Rattle.machine.specs.Error as E
use Rattle.machine.specs.Program as P
use Rattle.machine.specs.Program.{exec}
use Rattle.machine.specs.Out.{out_of, went, ended, refused, out}
use Rattle.machine.specs.Host as H
use Rattle.heapops.specs.declared.Counts.{Counts}
use Rattle.heapops.specs.Turns.{Mem}
use Rattle.finish.specs.Parts.{Tables}
use Rattle.run.specs.Runs.{state_in, Placed}
use Rattle.host.specs.Calls.{lent, Stands, Rests, performed, Called}
use Rattle.host.specs.Lent.{Lent}

module _ (h : P.How) (t : St.State) where
  how_went : (x : St.State) → out_of h t ≡ went x → h ≡ P.How.went
  how_went x e = go h e
    where
      go : (k : P.How) → out_of k t ≡ went x → k ≡ P.How.went
      go P.How.went e = refl
      go (P.How.ended y) e = cc
      go (P.How.refused q) e = cc

  state_went : (x : St.State) → out_of h t ≡ went x → t ≡ x
  state_went x e = go h e
    where
      go : (k : P.How) → out_of k t ≡ went x → t ≡ x
      go P.How.went e = cc
      go (P.How.ended y) e = cc
      go (P.How.refused q) e = cc

  how_ended : (y : P.End) (x : St.State) → out_of h t ≡ ended y x → h ≡ P.How.ended y
  how_ended y x e = go h e
    where
      go : (k : P.How) → out_of k t ≡ ended y x → k ≡ P.How.ended y
      go P.How.went e = cc
      go (P.How.ended z) e = cc
      go (P.How.refused q) e = cc

  how_refused : (q : St.Store) → out_of h t ≡ refused q → h ≡ P.How.refused q
  how_refused q e = go h e
    where
      go : (k : P.How) → out_of k t ≡ refused q → k ≡ P.How.refused q
      go P.How.went e = cc
      go (P.How.ended y) e = cc
      go (P.How.refused z) e = cc

-- what is seen of a call
abbrev pub Comes : H.Call → St.State → H.Answer → St.State → Type 0
Comes call s a t = ((H.perform call s).answer ≡ a) × ((H.perform call s).after ≡ t)

module _ (call : H.Call) (s : St.State) where
  pub comes_no : {n : ℕ} → H.questions call s ≡ some n → Comes call s (H.refusal n) s
  comes_no e = (ap (λ (q : Option ℕ). (H.performed q call s).answer) e, ap (λ (q : Option ℕ). (H.performed q call s).after) e)

  module _ (e : H.questions call s ≡ none) where
    abbrev o : P.Outcome
    o = exec (H.makes call) s

    performs : (h : P.How) → o.how ≡ h → H.perform call s ≡ H.settled_call h call s o
    performs h f = ap (λ (q : Option ℕ). H.performed q call s) e ∙ ap (λ (k : P.How). H.settled_call k call s o) f

    pub comes_full : (q : St.Store) → out (H.makes call) s ≡ refused q → Comes call s (H.refusal (St.question q)) s
    unfolding out
    comes_full q f =
        let p = performs (P.How.refused q) (how_refused o.how o.state q f) in
        (ap (λ (x : H.Called). x.answer) p, ap (λ (x : H.Called). x.after) p)

    pub comes_failed : (q : E.JsVmError) (t : St.State) → out (H.makes call) s ≡ ended (P.failed q) t → Comes call s (H.refusal (E.error_number q)) s
    unfolding out
    comes_failed q t f =
        let p = performs (P.How.ended (P.failed q)) (how_ended o.how o.state (P.failed q) t f) in
        (ap (λ (x : H.Called). x.answer) p, ap (λ (x : H.Called). x.after) p)

    pub comes_went : (t : St.State) → out (H.makes call) s ≡ went t → (H.perform call s ≡ H.accepted call s o) × (o.state ≡ t)
    unfolding out
    comes_went t f = (performs P.How.went (how_went o.how o.state t f), state_went o.how o.state t f)

abbrev is_refusal : H.Answer → Bool
is_refusal (H.refusal n) = true
is_refusal (H.numbered n) = false
is_refusal H.done = false
is_refusal (H.valued v) = false
is_refusal (H.ran e n) = false
is_refusal (H.wrote bs) = false

-- The machine's call, over what is lent
pub comes_lent : (call : H.Call) {c : Counts} {g : Tables} {m : Mem} {a : H.Answer} {t : St.State} → Lent c g m → Comes call (state_in c g m) a t
    → ((performed call c g m).answer ≡ a) × ((performed call c g m).after ≡ t)
comes_lent call {c} {g} {m} e p = (
  ap (λ (b : Bool). (H.perform_on b call (state_in c g m)).answer) e.right ∙ p.0,
  ap (λ (b : Bool). (H.perform_on b call (state_in c g m)).after) e.right ∙ p.1,
)

-- The contract, over what is lent
module _ {call : H.Call} {c : Counts} {g : Tables} {m : Mem} (e : Lent c g m) where
  -- of a call that is refused
  pub called_refused : {n : ℕ} {m' : Mem} → m' ≡ m → Comes call (state_in c g m) (H.refusal n) (state_in c g m) → Called call c g m (H.refusal n) c g m'
  called_refused q p = record {
    machine = λ r. comes_lent call e (p.0, p.1 ∙ sym (ap (λ (x : Mem). state_in c g x) q));
    refused = λ n u. (refl, refl, q);
    stands = λ f s. (subst (λ (x : Mem). lent c g x ≡ true) (sym q) e.right, s);
    placed = λ z. z;
  }

  pub called_no : {n : ℕ} → H.questions call (state_in c g m) ≡ some n → Called call c g m (H.refusal n) c g m
  called_no q = called_refused refl (comes_no call (state_in c g m) q)

  pub called_full : {n : ℕ} {m' : Mem} (q : St.Store) → H.questions call (state_in c g m) ≡ none → out (H.makes call) (state_in c g m) ≡ refused q → n ≡ St.question q → m' ≡ m
      → Called call c g m (H.refusal n) c g m'
  called_full q k f u v = let p = comes_full call (state_in c g m) k q f in called_refused v (p.0 ∙ ap H.refusal (sym u), p.1)

  -- and of one that is accepted
  pub called_sure : {a : H.Answer} {c' : Counts} {g' : Tables} {m' : Mem} → is_refusal a ≡ false → (Rests call c g m → Comes call (state_in c g m) a (state_in c' g' m'))
      → lent c' g' m' ≡ true → (Stands c g → Stands c' g') → (Placed c.depths → Placed c'.depths) → Called call c g m a c' g' m'
  called_sure h p l s z = record {
    machine = λ r. comes_lent call e (p (r e.right));
    refused = λ n u. absurd (false≢true (sym h ∙ ap is_refusal u));
    stands = λ f k. (l, s k);
    placed = z;
  }

  pub called_done : {a : H.Answer} {c' : Counts} {g' : Tables} {m' : Mem} → is_refusal a ≡ false → Comes call (state_in c g m) a (state_in c' g' m')
      → lent c' g' m' ≡ true → (Stands c g → Stands c' g') → (Placed c.depths → Placed c'.depths) → Called call c g m a c' g' m'
  called_done h p l s z = called_sure h (λ u. p) l s z
