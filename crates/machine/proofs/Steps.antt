-- Steps and runs. Assumes nothing.
use mathlib.Core.Path.{◌≡◌, refl, sym, ap, ◌∙◌}
use mathlib.Core.List.{List, [], ◌∷◌, ◌++◌}
use mathlib.Core.Logic.{◌↔◌}
use Prim.Native.Nat.{ℕ, zero, suc, ◌+◌}
use native.Mathlib.Omega.{arith}
use lib.ListN.{length}
use Rattle.machine.specs.Value.{Value}
use Rattle.machine.specs.Error.{execution_limit_exceeded}
use Rattle.machine.specs.State.{State, bytes, Store}
use Rattle.machine.specs.Act as A
use Rattle.machine.specs.Act.{Held, error}
use Rattle.machine.specs.Program.{End, How, went, ended, refused, Outcome, exec}
use Rattle.machine.specs.Instruction as I
use Rattle.machine.specs.Run.{Kind, begun, run_out, no_frame, kind_of, body, Step, step, settled, after, Result, Ran, stopped, stepped, go_on, steps}
use Rattle.machine.specs.Tally.{Tally, counted, unless_refused}
use Rattle.machine.specs.Demand3.{All, Orderly, brought_by, brought_in, unless_undone, held_steps, HasBytes, TextsSteps, tally_step, tally_steps, RightSteps, IsFull, refused_last, refused_at_last, WentOn, is_begun, is_run_out, is_no_frame, total, finish, Pending, PendingSteps, Drops, Throws, ThrowsSteps}
use Rattle.machine.proofs.Texts.{Holds, all_append, all_map, held_grows}
use Rattle.machine.proofs.Sound.{nested_all}
use Rattle.machine.proofs.Bounded.{bounded_used}
use Rattle.machine.proofs.Programs.{Fine, Kept, kept, went_not, ended_not}
use Rattle.machine.proofs.Begun.{ended_went, no_error_lem}
use Rattle.machine.proofs.Throw.{throws}
use Rattle.machine.proofs.Leave.{drops}

pub orderly : (s : State) (t : Tally) → Fine s t → Orderly s
orderly s t f = record {
  contiguous = f.agrees.frames.contiguous;
  no_others = f.agrees.frames.full;
  bounded = bounded_used s f.bounded;
  operands = f.bounded.operands;
  handlers = nested_all (length s.frames) (length s.frames) s.handlers (omega arith) f.agrees.saved;
}

pub have_bytes : (s : State) (hs : List Held) → All (Holds (bytes s)) hs → All (HasBytes s) hs
have_bytes s hs h = all_map (Holds (bytes s)) (HasBytes s) (λ x i. i.same) hs h

-- What an outcome leaves once a refusal has restored the state: hs is held before it.
pub record Settled (t : Tally) (s : State) (hs : List Held) : Type 0 where
  pub fine : Fine s t
  pub held : All (Holds (bytes s)) hs

pub settle : (h : How) (s : State) (t : Tally) (o : Outcome) (hs : List Held) → Fine s t → All (Holds (bytes s)) hs → Kept s t o
    → Settled (unless_refused h t (counted t o.events)) (settled s h o.state) (hs ++ unless_undone h (brought_by o.events))
settle went s t o hs f h k = record {
  fine = k.fine;
  held = all_append (Holds (bytes o.state)) hs (brought_by o.events) (held_grows (bytes s) (bytes o.state) k.grew hs h) k.held;
}
settle (ended e) s t o hs f h k = record {
  fine = k.fine;
  held = all_append (Holds (bytes o.state)) hs (brought_by o.events) (held_grows (bytes s) (bytes o.state) k.grew hs h) k.held;
}
settle (refused q) s t o hs f h k = record { fine = f; held = all_append (Holds (bytes s)) hs [] h tt }

-- A finish with no frame ends the run.
finish_ends : (vs : List Value) (s : State) → (exec (I.finish vs) s).how ≡ went → ◌≡◌ {A = ℕ} 1 0
finish_ends [] s q = absurd (ended_went q)
finish_ends (v ∷ vs) s q = absurd (ended_went (sym (ap (λ (o : Outcome). o.how) (no_error_lem (error A.drop s) s _ q)) ∙ q))

no_frame_ends : (k : Kind) (s : State) → (exec (body k) s).how ≡ went → is_no_frame k ≡ 0
no_frame_ends (begun b) s q = refl
no_frame_ends run_out s q = refl
no_frame_ends no_frame s q = finish_ends s.operands s q

one_kind : (k : Kind) → is_begun k + is_run_out k + is_no_frame k ≡ 1
one_kind (begun b) = refl
one_kind run_out = refl
one_kind no_frame = refl

finish_later : (t : Step) (ts : List Step) → is_no_frame t.kind ≡ 0 → finish (t ∷ ts) ≡ finish ts
finish_later t [] e = e
finish_later t (u ∷ ts) e = refl

-- A run from a fine state that holds hs, of which n steps have been made.
pub record KeptRun (n : ℕ) (t : Tally) (hs : List Held) (r : Ran) : Type 0 where
  pub right : RightSteps t r.steps
  pub fine : Fine r.state (tally_steps t r.steps)
  pub orderly : All (λ p. Orderly p.before) r.steps
  pub texts : TextsSteps hs r.steps
  pub held : All (Holds (bytes r.state)) (held_steps hs r.steps)
  pub summed : r.made ≡ n + (total is_begun r.steps + total is_run_out r.steps + finish r.steps)
  pub pending : PendingSteps t r.steps
  pub dropped : All Drops r.steps
  pub threw : ThrowsSteps t r.steps
  pub full : (q : Store) → IsFull q r.result ↔ refused_at_last q r.steps
  pub went_on : WentOn r.steps

-- What follows the last step, of which `full` is told apart.
module _ (n : ℕ) (s : State) (t : Tally) (hs : List Held) (f : Fine s t) (h : All (Holds (bytes s)) hs) where
  kept_limit : KeptRun n t hs (stopped n (Result.ended (End.failed execution_limit_exceeded)) s)
  kept_limit = record {
    right = tt;
    fine = f;
    orderly = tt;
    texts = tt;
    held = h;
    summed = omega arith;
    pending = tt;
    dropped = tt;
    threw = tt;
    full = λ q. ((λ z. absurd z), (λ z. absurd z));
    went_on = tt;
  }

-- A step p from s, of which n have been made before.
module _ (n : ℕ) (s : State) (t : Tally) (hs : List Held) (p : Step) (f : Fine s t) (h : All (Holds (bytes s)) hs) (k : Kept s t p.outcome)
    (at : Orderly p.before) (had : All (HasBytes p.before) hs) (stood : Pending t p.before) (left : Drops p) (thrown : Throws t p)
    (ends : p.outcome.how ≡ went → is_no_frame p.kind ≡ 0) where
  after_step : Settled (tally_step t p) (after s p.outcome) (hs ++ brought_in p)
  after_step = settle p.outcome.how s t p.outcome hs f h k

  -- The last step of a run.
  kept_last : (e : Result) → ((q : Store) → IsFull q e ↔ refused_last q p.outcome.events) → KeptRun n t hs (stepped p (stopped (n + 1) e (after s p.outcome)))
  kept_last e g = record {
    right = (k.right, tt);
    fine = after_step.fine;
    orderly = (at, tt);
    texts = (had, tt);
    held = after_step.held;
    summed = let b = one_kind p.kind in omega arith;
    pending = (stood, tt);
    dropped = (left, tt);
    threw = (thrown, tt);
    full = g;
    went_on = tt;
  }

  full_later : (q : Store) (ts : List Step) → p.outcome.how ≡ went → refused_at_last q ts ↔ refused_at_last q (p ∷ ts)
  full_later q [] e = ((λ z. absurd z), (λ z. absurd (went_not q (sym e ∙ (k.refuses q).1 z))))
  full_later q (u ∷ ts) e = ((λ z. z), (λ z. z))

  went_later : (ts : List Step) → p.outcome.how ≡ went → WentOn ts → WentOn (p ∷ ts)
  went_later [] e w = tt
  went_later (u ∷ ts) e w = (e, w)

  kept_on : (x : How) → p.outcome.how ≡ x → (r : Ran) → KeptRun (n + 1) (tally_step t p) (hs ++ brought_in p) r
      → KeptRun n t hs (stepped p (go_on x (n + 1) (after s p.outcome) r))
  kept_on went e r l = record {
    right = (k.right, l.right);
    fine = l.fine;
    orderly = (at, l.orderly);
    texts = (had, l.texts);
    held = l.held;
    summed = let a = l.summed in let b = one_kind p.kind in let c = finish_later p r.steps (ends e) in let d = ends e in omega arith;
    pending = (stood, l.pending);
    dropped = (left, l.dropped);
    threw = (thrown, l.threw);
    full = λ q. let y = full_later q r.steps e in ((λ z. y.0 ((l.full q).0 z)), (λ z. (l.full q).1 (y.1 z)));
    went_on = went_later r.steps e l.went_on;
  }
  kept_on (ended e) x r l = kept_last (Result.ended e) (λ q. ((λ z. absurd z), (λ z. absurd (ended_not e q (sym x ∙ (k.refuses q).1 z)))))
  kept_on (refused y) x r l = kept_last (Result.full y) (λ q. (
    (λ z. (k.refuses q).0 (x ∙ ap refused z)),
    (λ z. let e : refused y ≡ refused q = sym x ∙ (k.refuses q).1 z in cc),
  ))

pub kept_steps : (k n : ℕ) (s : State) (t : Tally) (hs : List Held) → Fine s t → All (Holds (bytes s)) hs → KeptRun n t hs (steps k n s)
kept_steps zero n s t hs f h = kept_limit n s t hs f h
kept_steps (suc k) n s t hs f h =
    let p = step s in
    let l = kept (body (kind_of s)) s t f in
    let q = throws s t f.agrees in
    let w = f.agrees.handlers in let d = drops s f.agrees.saved in
    let e = no_frame_ends (kind_of s) s in
    let o = orderly s t f in let b = have_bytes s hs h in
    let next = after_step n s t hs p f h l o b w d q e in
    kept_on n s t hs p f h l o b w d q e p.outcome.how refl (steps k (n + 1) (after s p.outcome))
    (kept_steps k (n + 1) (after s p.outcome) (tally_step t p) (hs ++ brought_in p) next.fine next.held)
