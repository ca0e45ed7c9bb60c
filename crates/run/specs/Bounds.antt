-- What a program leaves is within the stores. Assumes nothing.
use Rattle.std.specs.Prelude.{◌≡◌}
use Rattle.machine.specs.State.{State}
use Rattle.machine.specs.Act.{apply}
use Rattle.machine.specs.Program as P
use Rattle.machine.specs.Program.{Program, next, end, look, make, exec}
use Rattle.machine.specs.Out.{out_of, went, ended, out}
use Rattle.machine.proofs.Acts.{after_act}
use Rattle.machine.proofs.Bounded.{Bounded, bounded}

bounded_exec : (p : Program) (s : State) → Bounded s → Bounded (exec p s).state
bounded_exec next s b = b
bounded_exec (end e) s b = b
bounded_exec (look f) s b = bounded_exec (f s) s b
bounded_exec (make a p) s b =
    after_act Bounded a s b _ (λ e f. bounded_exec p (apply a s) (bounded a s e f b))

module _ (s' : State) where
  went_state : (h : P.How) (t : State) → out_of h t ≡ went s' → t ≡ s'
  went_state P.How.went t e = cc
  went_state (P.How.ended x) t e = cc
  went_state (P.How.refused q) t e = cc

  ended_state : (x : P.End) (h : P.How) (t : State) → out_of h t ≡ ended x s' → t ≡ s'
  ended_state x P.How.went t e = cc
  ended_state x (P.How.ended y) t e = cc
  ended_state x (P.How.refused q) t e = cc

  pub went_bounded : (p : Program) (s : State) → out p s ≡ went s' → Bounded s → Bounded s'
  unfolding out
  went_bounded p s e b = rw (went_state (exec p s).how (exec p s).state e) at (bounded_exec p s b)

  pub ended_bounded : (x : P.End) (p : Program) (s : State) → out p s ≡ ended x s' → Bounded s → Bounded s'
  unfolding out
  ended_bounded x p s e b = rw (ended_state x (exec p s).how (exec p s).state e) at (bounded_exec p s b)
