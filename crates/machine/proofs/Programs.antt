-- Whatever a program does, the tally stays right, no store is overfull and held texts keep their bytes: one induction over programs.
-- Assumes nothing.
use mathlib.Core.Path.{◌≡◌, refl, ap}
use mathlib.Core.Bool.{Bool, true, false, true≢false}
use mathlib.Core.Option.{Option, none, some}
use mathlib.Core.List.{List, [], ◌∷◌}
use mathlib.Core.Logic.{◌↔◌}
use Prim.Native.Nat.{ℕ, ◌+◌, ◌≤◌, ◌<◌}
use native.Mathlib.Omega.{arith}
use lib.Dec.{leb, leb→le, nleb→lt}
use Rattle.machine.specs.Error.{JsVmError}
use Rattle.machine.specs.State.{State, bytes, Store, limit, used}
use Rattle.machine.specs.Act.{Act, apply, error, Need, needs, brings}
use Rattle.machine.specs.Program.{Program, next, end, look, make, End, Event, asked, did, How, went, ended, refused, Outcome, over, noting, fits, answered, asking, unless_error, exec}
use Rattle.machine.specs.Tally.{Tally, count, counted, use_of}
use Rattle.machine.specs.Demand3.{All, Right, refused_last, brought_by}
use Rattle.machine.proofs.Texts.{Grows, grows, grows_trans, Holds, all_append, held_grows, brought}
use Rattle.machine.proofs.Sound.{Sound, used_is, sound}
use Rattle.machine.proofs.Bounded.{Bounded, bounded}
use Rattle.machine.proofs.Amounts.{amounts, charges}

-- A state that agrees with the tally, and whose stores are within their limits.
pub record Fine (s : State) (t : Tally) : Type 0 where
  pub agrees : Sound s t
  pub bounded : Bounded s

pub record Kept (s : State) (t : Tally) (o : Outcome) : Type 0 where
  pub right : Right t o.events
  pub fine : Fine o.state (counted t o.events)
  pub grew : Grows (bytes s) (bytes o.state)
  pub held : All (Holds (bytes o.state)) (brought_by o.events)
  pub refuses : (q : Store) → (o.how ≡ refused q) ↔ refused_last q o.events

-- A program that is over without a refusal.
kept_over : (s : State) (t : Tally) (h : How) → ((q : Store) → h ≡ refused q → ⊥) → Fine s t → Kept s t (over h s)
kept_over s t h n f = record { right = tt; fine = f; grew = λ x i. (i, refl); held = tt; refuses = λ q. (n q, λ z. absurd z) }

pub went_not : (q : Store) → went ≡ refused q → ⊥
went_not q e = let z : ◌≡◌ {A = ℕ} 0 1 = cc in omega arith

pub ended_not : (e : End) (q : Store) → ended e ≡ refused q → ⊥
ended_not e q p = let z : ◌≡◌ {A = ℕ} 0 1 = cc in omega arith

-- A question is answered no exactly where the tally says so.
answer_right : (b : Bool) (u a l : ℕ) → leb (u + a) l ≡ b → (b ≡ false) ↔ (l < u + a)
answer_right true u a l e =
    let h : u + a ≤ l = leb→le (u + a) l (rw e tt) in
    ((λ q. absurd (true≢false q)), (λ q. absurd (omega arith)))
answer_right false u a l e = ((λ q. nleb→lt (u + a) l (rw e tt)), (λ q. refl))

-- A yes is not the question that refuses.
after_yes : (q : Store) (a : Act) (n : Need) (es : List Event) → refused_last q es ↔ refused_last q (asked a n true ∷ es)
after_yes q a n [] = ((λ z. absurd z), (λ z. absurd (true≢false z.1)))
after_yes q a n (e ∷ es) = ((λ z. z), (λ z. z))

-- What the act of a question adds to that store's use.
abbrev Adds : Act → Tally → Need → Type 0
Adds a t n = use_of (count a t) n.of ≡ use_of t n.of + n.amount

kept_answered : (b : Bool) (a : Act) (n : Need) (s : State) (t : Tally) (o : Outcome) → fits s n ≡ b → Adds a t n → Fine s t → (b ≡ true → Kept s t o)
    → Kept s t (answered b a s n o)
kept_answered true a n s t o e m f k' =
    let k = k' refl in
    record {
      right = (
        rw (used_is n.of s t f.agrees) at (answer_right true (used s n.of) n.amount (limit n.of) e),
        m,
        (λ q. absurd (true≢false q)),
        k.right,
      );
      fine = k.fine;
      grew = k.grew;
      held = k.held;
      refuses = λ q. let y = after_yes q a n o.events in ((λ z. y.0 ((k.refuses q).0 z)), (λ z. (k.refuses q).1 (y.1 z)));
    }
kept_answered false a n s t o e m f k = record {
  right = (
    rw (used_is n.of s t f.agrees) at (answer_right false (used s n.of) n.amount (limit n.of) e),
    m,
    (λ q. refl),
    tt,
  );
  fine = f;
  grew = λ x i. (i, refl);
  held = tt;
  refuses = λ q. ((λ z. (cc, refl)), (λ z. ap refused z.0));
}

kept_asking : (a : Act) (ns : List Need) (s : State) (t : Tally) (o : Outcome) → Fine s t → All (Adds a t) ns
    → (All (λ n. fits s n ≡ true) ns → Kept s t o) → Kept s t (asking a s ns o)
kept_asking a [] s t o f m k = k tt
kept_asking a (n ∷ ns) s t o f m k =
    kept_answered (fits s n) a n s t (asking a s ns o) refl m.0 f (λ e. kept_asking a ns s t o f m.1 (λ es. k (e, es)))

kept_unless : (e : Option JsVmError) (s : State) (t : Tally) (o : Outcome) → Fine s t → (e ≡ none → Kept s t o) → Kept s t (unless_error e s o)
kept_unless (some e) s t o f k = kept_over s t _ (ended_not (End.failed e)) f
kept_unless none s t o f k = k refl

kept_did : (a : Act) (s : State) (t : Tally) (o : Outcome) → Sound s t → Kept (apply a s) (count a t) o → Kept s t (noting (did a (brings a s)) o)
kept_did a s t o r k = record {
  right = (charges a s t r, k.right);
  fine = k.fine;
  grew = grows_trans (bytes s) (bytes (apply a s)) (bytes o.state) (grows a s) k.grew;
  held = all_append (Holds (bytes o.state)) (brings a s) (brought_by o.events) (held_grows (bytes (apply a s)) (bytes o.state) k.grew (brings a s) (brought a s)) k.held;
  refuses = k.refuses;
}

pub kept : (p : Program) (s : State) (t : Tally) → Fine s t → Kept s t (exec p s)
kept next s t f = kept_over s t went went_not f
kept (end e) s t f = kept_over s t (ended e) (ended_not e) f
kept (look g) s t f = kept (g s) s t f
kept (make a p) s t f =
    kept_unless (error a s) s t _ f λ e.
    kept_asking a (needs a s) s t _ f (amounts a s t f.agrees) λ yes.
    kept_did a s t (exec p (apply a s)) f.agrees
    (kept p (apply a s) (count a t) (record { agrees = sound a s t e f.agrees; bounded = bounded a s e yes f.bounded }))
