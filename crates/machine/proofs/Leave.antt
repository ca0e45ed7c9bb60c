-- A frame that is taken off, by Return or at the end of its code, and the handlers that go with it. Assumes nothing.
use mathlib.Core.Path.{◌≡◌, refl, sym, ap, ◌∙◌, subst}
use mathlib.Core.Bool.{true, true≢false}
use mathlib.Core.List.{List, ◌∷◌}
use Prim.Native.Nat.{ℕ}
use borrow.Author.Tests.{eqb-true}
use lib.Dec.{eqb}
use lib.ListN.{length}
use Rattle.machine.specs.State.{State, Frame}
use Rattle.machine.specs.Act as A
use Rattle.machine.specs.Act.{apply, error}
use Rattle.machine.specs.Program.{How, went, Outcome, exec}
use Rattle.machine.specs.Instruction.{instruction, top}
use Rattle.machine.specs.Run.{Kind, begun, run_out, no_frame, kind_of, body, step, settled}
use Rattle.machine.specs.Demand3.{Drops, Dropped, saved_within, takes_frame}
use Rattle.machine.proofs.Sound.{Nested, pending_over_lem}
use Rattle.machine.proofs.Begun.{here, fetched, begins, in_frame, no_error_lem}

-- What a Return that goes on leaves, when its opcode is fetched.
module _ (s : State) where
  abbrev returned : State
  returned = apply (A.push (top s.operands)) (apply A.pop_frame (apply A.drop s))

  returns : (exec (instruction 51) s).how ≡ went → (exec (instruction 51) s).state ≡ returned
  returns h =
      let E = no_error_lem (error A.drop s) s _ h in
      let h' = sym (ap (λ (o : Outcome). o.how) E) ∙ h in
      ap (λ (o : Outcome). o.state) E ∙ ap (λ (o : Outcome). o.state) (no_error_lem (error (A.push (top s.operands)) (apply A.pop_frame (apply A.drop s))) _ _ h')

abbrev Leaves : State → Type 0
Leaves s = Nested (length s.frames) s.handlers → kind_of s ≡ begun 51 → (step s).outcome.how ≡ went → Dropped (step s)

return_drops : (s : State) (f : Frame) (fs : List Frame) → Leaves (here s f fs)
return_drops s f fs a e h =
    let E = begins s f fs 51 e in
    let h' : (exec (instruction 51) (fetched s f fs)).how ≡ went = sym (ap (λ (o : Outcome). o.how) E) ∙ h in
    let x : settled (here s f fs) (step (here s f fs)).outcome.how (step (here s f fs)).outcome.state ≡ returned (fetched s f fs)
    = ap (λ (w : How). settled (here s f fs) w (step (here s f fs)).outcome.state) h ∙ ap (λ (o : Outcome). o.state) E ∙ returns (fetched s f fs) h' in
    let l = ap (λ (t : State). length t.frames) x in
    record {
      frames = ap (λ (t : State). t.frames) x;
      handlers = ap (λ (t : State). t.handlers) x ∙ (pending_over_lem (length (f ∷ fs)) (length fs) s.handlers a).each ∙ sym (ap (λ (n : ℕ). saved_within n s.handlers) l);
    }

-- Every step that takes a frame off: k is its kind.
takes : (s : State) → Nested (length s.frames) s.handlers → (k : Kind) → kind_of s ≡ k → Drops (step s)
takes s a (begun b) q e h =
    let x : eqb b 51 ≡ true = subst (λ (k : Kind). takes_frame k ≡ true) q e in
    in_frame 51 Leaves return_drops s (q ∙ ap begun (eqb-true b 51 x)) a (q ∙ ap begun (eqb-true b 51 x)) h
takes s a run_out q e h =
    let o : (step s).outcome ≡ exec (body run_out) s = ap (λ (k : Kind). exec (body k) s) q in
    subst (λ (x : Outcome). Dropped (record { before = s; kind = kind_of s; outcome = x })) (sym o)
    (record { frames = refl; handlers = (pending_over_lem (length s.frames) (length (A.rest s.frames)) s.handlers a).each })
takes s a no_frame q e h = absurd (true≢false (sym (subst (λ (k : Kind). takes_frame k ≡ true) q e)))

pub drops : (s : State) → Nested (length s.frames) s.handlers → Drops (step s)
drops s a = takes s a (kind_of s) refl
