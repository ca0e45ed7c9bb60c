-- For the proofs of code, and no part of the machine: what is seen of a program from outside. It went on, with the state it left; it ended the
-- run, with the state; or a store refused, which restores the state. One law for each way that an act can go. Assumes nothing.
use Rattle.std.specs.Prelude.{◌≡◌, Bool, true, false, ℕ}
use Rattle.std.proofs.Math.Path.{refl, ap}
use Rattle.std.proofs.Common.{◌∙◌}
use Rattle.std.proofs.Math.Option.{Option, none, some}
use mathlib.Core.List.{List, [], ◌∷◌}
use Rattle.machine.specs.Value.{Value}
use Rattle.machine.specs.State.{State, Store}
use Rattle.machine.specs.Error.{JsVmError, stack_underflow}
use Rattle.machine.specs.Fields as S
use Rattle.machine.specs.Act as A
use Rattle.machine.specs.Act.{Act, apply, error, Need, needs}
use Rattle.machine.specs.Program.{Program, next, end, look, make, End, failed, How, Outcome, noting, did, fits, asking, answered, unless_error, exec}
use Rattle.machine.specs.Instruction.{pop, top, fetch, fetch_from}

pub data Out : Type 0 where
  went : State → Out
  ended : End → State → Out
  refused : Store → Out

abbrev pub out_of : How → State → Out
out_of How.went s = went s
out_of (How.ended e) s = ended e s
out_of (How.refused q) s = refused q

seen : Outcome → Out
seen o = out_of o.how o.state

unfoldable pub out : Program → State → Out
out p s = out_of (exec p s).how (exec p s).state

module _ (s : State) where
  pub out_next : out next s ≡ went s
  unfolding out
  out_next = refl

  pub out_end : (e : End) → out (end e) s ≡ ended e s
  unfolding out
  out_end e = refl

  pub out_look : (f : State → Program) → out (look f) s ≡ out (f s) s
  unfolding out
  out_look f = refl

  -- the needs that an act asks, one after the other: all of them fit, or the first that does not
  pub data Asked : List Need → Option Store → Type 0 where
    all : Asked [] none
    yes : {n : Need} {ns : List Need} {q : Option Store} → fits s n ≡ true → Asked ns q → Asked (n ∷ ns) q
    no : {n : Need} {ns : List Need} → fits s n ≡ false → Asked (n ∷ ns) (some n.of)

  asked_all : (a : Act) (ns : List Need) (o : Outcome) → Asked ns none → seen (asking a s ns o) ≡ seen o
  unfolding seen
  asked_all a [] o all = refl
  asked_all a (n ∷ ns) o (yes f y) = ap (λ (b : Bool). seen (answered b a s n (asking a s ns o))) f ∙ asked_all a ns o y

  asked_no : (a : Act) (ns : List Need) (o : Outcome) (q : Store) → Asked ns (some q) → seen (asking a s ns o) ≡ refused q
  unfolding seen
  asked_no a [] o q k = elim k [ ]
  asked_no a (n ∷ ns) o q (yes f y) = ap (λ (b : Bool). seen (answered b a s n (asking a s ns o))) f ∙ asked_no a ns o q y
  asked_no a (n ∷ ns) o q (no f) = ap (λ (b : Bool). seen (answered b a s n (asking a s ns o))) f

  module _ (a : Act) (p : Program) where
    after : Outcome
    after = asking a s (needs a s) (noting (did a (A.brings a s)) (exec p (apply a s)))

    -- An act is made, stopped by an error of 000, or refused for want of space.
    pub out_make : error a s ≡ none → Asked (needs a s) none → out (make a p) s ≡ out p (apply a s)
    unfolding out seen after
    out_make e f = ap (λ (x : Option JsVmError). seen (unless_error x s after)) e ∙ asked_all a (needs a s) (noting (did a (A.brings a s)) (exec p (apply a s))) f

    pub out_error : (x : JsVmError) → error a s ≡ some x → out (make a p) s ≡ ended (failed x) s
    unfolding out seen after
    out_error x e = ap (λ (x : Option JsVmError). seen (unless_error x s after)) e

    pub out_refused : (q : Store) → error a s ≡ none → Asked (needs a s) (some q) → out (make a p) s ≡ refused q
    unfolding out seen after
    out_refused q e f = ap (λ (x : Option JsVmError). seen (unless_error x s after)) e ∙ asked_no a (needs a s) (noting (did a (A.brings a s)) (exec p (apply a s))) q f

  -- the next operand
  pub out_pop : (k : Value → Program) (v : Value) (vs : List Value) → s.operands ≡ v ∷ vs → out (pop k) s ≡ out (k v) (S.set_operands vs s)
  unfolding out
  out_pop k v vs e =
      let f : List Value → Out = λ o. out_of (unless_error (A.or_else stack_underflow o) s (noting (did A.drop []) (exec (k (top o)) (S.set_operands (A.rest o) s)))).how (unless_error (A.or_else stack_underflow o) s (noting (did A.drop []) (exec (k (top o)) (S.set_operands (A.rest o) s)))).state in
      ap f e

  pub out_empty : (k : Value → Program) → s.operands ≡ [] → out (pop k) s ≡ ended (failed stack_underflow) s
  unfolding out
  out_empty k e =
      let f : List Value → Out = λ o. out_of (unless_error (A.or_else stack_underflow o) s (noting (did A.drop []) (exec (k (top o)) (S.set_operands (A.rest o) s)))).how (unless_error (A.or_else stack_underflow o) s (noting (did A.drop []) (exec (k (top o)) (S.set_operands (A.rest o) s)))).state in
      ap f e

  -- acts that nothing stops
  pub out_jump : (p : ℕ) (q : Program) → out (make (A.jump p) q) s ≡ out q (apply (A.jump p) s)
  unfolding out
  out_jump p q = refl

  pub out_pop_frame : (q : Program) → out (make A.pop_frame q) s ≡ out q (apply A.pop_frame s)
  unfolding out
  out_pop_frame q = refl

  pub out_pop_handler : (q : Program) → out (make A.pop_handler q) s ≡ out q (apply A.pop_handler s)
  unfolding out
  out_pop_handler q = refl

  pub out_unwind : (q : Program) → out (make A.unwind q) s ≡ out q (apply A.unwind s)
  unfolding out
  out_unwind q = refl

  -- the next byte of code
  pub out_fetch : (k : ℕ → Program) → out (fetch k) s ≡ out (fetch_from s s.frames k) s
  unfolding out
  out_fetch k = refl
