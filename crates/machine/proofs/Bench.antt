-- The endless row of the bench sheet: a step that goes on and leaves the state as it was is made until the limit.
use Rattle.std.specs.Prelude.{◌≡◌, refl, [], ℕ, zero, suc, ◌+◌}
use Rattle.std.proofs.Common.{ap, ap₂, ◌∙◌, arith}
use Rattle.machine.specs.State.{State}
use Rattle.machine.specs.Error.{JsVmError}
use Rattle.machine.specs.Act.{apply, Act}
use Rattle.machine.specs.Program.{End, How, went}
use Rattle.machine.specs.Run.{Result, Ran, step, after, steps, go_on, step_limit}
use Rattle.machine.specs.Host.{Call, Answer, perform}
use Rattle.machine.specs.Bench.{Limited, jumping}

repeats : (s : State) → (step s).outcome.how ≡ went → after s (step s).outcome ≡ s → (k n : ℕ) → Limited (steps k n s) (k + n)
repeats s w e zero n = record { made = omega arith; result = refl }
repeats s w e (suc k) n =
    let h = repeats s w e k (n + 1) in
    let s' = after s (step s).outcome in
    let same : go_on (step s).outcome.how (n + 1) s' (steps k (n + 1) s') ≡ steps k (n + 1) s
    = ap (λ (x : How). go_on x (n + 1) s' (steps k (n + 1) s')) w ∙ ap (λ (x : State). steps k (n + 1) x) e in
    let m : k + (n + 1) ≡ suc k + n = omega arith in
    record { made = ap (λ (r : Ran). r.made) same ∙ h.made ∙ m; result = ap (λ (r : Ran). r.result) same ∙ h.result }

limit_is : step_limit + 0 ≡ 100000
unfolding step_limit
limit_is = refl

pub jumps : (perform (Call.run 0) jumping).answer ≡ Answer.ran (Result.ended (End.failed JsVmError.execution_limit_exceeded)) 100000
jumps =
    let h = repeats (apply (Act.push_frame 0 0 []) jumping) refl refl step_limit 0 in
    ap₂ (λ (e : Result) (n : ℕ). Answer.ran e n) h.result (h.made ∙ limit_is)
