-- The outer step: some steps of a run, and how the last of them came out. Assumes nothing.
use Rattle.std.specs.Prelude.{ℕ, ◌+◌, ◌≤◌, ◌<◌, List, ◌≡◌, refl, length, Result, Err}
use Rattle.std.proofs.Common.{arith, sym, ap, subst, ◌∙◌}
use Rattle.machine.specs.State as St
use Rattle.machine.specs.Run.{max_steps}
use Rattle.machine.proofs.Bounded.{Bounded}
use Rattle.machine.proofs.Unique.{Unique}
use Rattle.value.specs.declared.JsVmError.TheVariants.{ExecutionLimitExceeded}
use Rattle.value.specs.declared.Space.{Space}
use Rattle.fetch.specs.declared.Running.{Running}
use Rattle.fetch.specs.Running.{Known}
use Rattle.heapops.specs.declared.Counts.{Counts}
use Rattle.heapops.specs.declared.How.{How}
use Rattle.heapops.specs.declared.How.TheVariants.{Went, Ended, Refused}
use Rattle.heapops.specs.declared.Turned.{Turned}
use Rattle.heapops.specs.Turns.{Mem, mem, state_of}
use Rattle.finish.specs.Parts.{Tables}
use Rattle.run.specs.Runs.{Told, tell, result_of, ending_of, Whole, Takes, Underway, begins_at, goes_on, finishes, finishes_whole, refuses, refuses_whole, stops, at_rest, rest_state, rest_placed, ran_to, ground_of, ran_of, Leaves}
use Rattle.run.specs.Speed.{Speeds}
use Rattle.run.specs.declared.Ran.{Ran}
use Rattle.run.specs.declared.advance.Progress.{Progress}
use Rattle.run.specs.declared.advance.Advanced.{Advanced}
use Rattle.run.specs.declared.speed.Sped.{Sped}
use Rattle.value.specs.declared.Value.{Value}
use Rattle.value.specs.declared.Stop.{Stop}
use Rattle.value.specs.declared.JsVmError.{JsVmError}
use Rattle.value.specs.declared.Stop.TheVariants.{Failed, Refused}

abbrev pub progress : Running → ℕ → How → Progress
progress x k h = record { running = x; steps = k; how = h }

abbrev pub advanced : Counts → Progress → Advanced
advanced c p = record { counts = c; progress = p }

-- a run that is over: what is told of it is all that it comes to
pub record Over (b : St.State) (all : Told) (z : Result Value Stop) (k : ℕ) (c : Counts) (g : Tables) (m : Mem) (s : St.State) : Type 0 where
  pub told : Unique b → tell k (result_of z) (state_of c m s) ≡ all
  pub whole : Whole c g m s

abbrev pub After : St.State → Told → How → ℕ → Counts → Tables → Mem → St.State → Type 0
After b all Went k c g m s = Underway b all k c g m s
After b all (Ended e) k c g m s = Over b all (ending_of e) k c g m s
After b all (Refused q) k c g m s = Over b all (Err (Refused q)) k c g m s

-- THE CONTRACT OF THE OUTER STEP: wherever a run is under way, it is so after these steps, or it is over.
pub record Advances (c : Counts) (g : Tables) (m : Mem) (k : ℕ) (r : Advanced) (m' : Mem) : Type 0 where
  pub goes : {b : St.State} {all : Told} {s : St.State} → Underway b all k c g m s → After b all r.progress.how r.progress.steps r.counts g m' s
  pub known : Known g.rows g.starts r.counts.images r.progress.running
  pub code : r.counts.code ≡ c.code
  pub images : r.counts.images ≡ c.images
  pub from : k < r.progress.steps
  pub to : r.progress.steps ≤ max_steps

-- Quick steps, and then one by the dispatcher
module _ {c : Counts} {g : Tables} {w h t w₁ h₁ t₁ o : List ℕ} {k : ℕ} {q : Sped} (p : Speeds c g w h t k q w₁ h₁ t₁) where
  pub sped_whole : {s : St.State} → Whole c g (mem w h t o) s → Whole q.counts g (mem w₁ h₁ t₁ o) s
  sped_whole u = (p.goes (begins_at k u)).whole

  module _ {x : Running} (n : Known g.rows g.starts q.counts.images x) {r : Turned} {m' : Mem} (tk : Takes x q.counts g (mem w₁ h₁ t₁ o) r m')
      (l₁ : length m'.stacks ≡ length w₁) (l₂ : length m'.heap ≡ length h₁) (l₃ : length m'.text ≡ length t₁) (l₄ : length m'.output ≡ length o) where
    of_how : (a : How) → r.how ≡ a → (d : Counts) → d.code ≡ q.counts.code → d.images ≡ q.counts.images
        → ((b : St.State) (all : Told) (s : St.State) → Underway b all q.steps q.counts g (mem w₁ h₁ t₁ o) s → After b all a (q.steps + 1) d g m' s)
        → Advances c g (mem w h t o) k (advanced d (progress x (q.steps + 1) r.how)) m'
    of_how a e d ec ei f = record {
      goes = λ {b} {all} {s} u. subst (λ (a : How). After b all a (q.steps + 1) d g m' s) (sym e) (f b all s (p.goes u));
      known = subst (λ (i : ℕ). Known g.rows g.starts i x) (sym ei) n;
      code = ec ∙ p.code;
      images = ei ∙ p.images;
      from = omega (arith, p.from);
      to = omega (arith, p.to);
    }

    pub advances_went : r.how ≡ Went → Advances c g (mem w h t o) k (advanced r.counts (progress x (q.steps + 1) r.how)) m'
    advances_went e = of_how Went e r.counts tk.steady.0 tk.steady.1 (λ b all s u. goes_on u p.to n tk e l₁ l₂ l₃ l₄)

    pub advances_ended : {a : Result Value JsVmError} → r.how ≡ Ended a → Advances c g (mem w h t o) k (advanced r.counts (progress x (q.steps + 1) r.how)) m'
    advances_ended {a} e = of_how (Ended a) e r.counts tk.steady.0 tk.steady.1
        (λ b all s u. record { told = finishes u p.to n tk e refl; whole = finishes_whole u p.to n tk e l₁ l₂ l₃ l₄ })

    pub advances_refused : {a : Space} → r.how ≡ Refused a → Advances c g (mem w h t o) k (advanced q.counts (progress x (q.steps + 1) r.how)) m'
    advances_refused {a} e = of_how (Refused a) e q.counts refl refl
        (λ b all s u. record { told = refuses u p.to n tk e; whole = refuses_whole u p.to n tk e l₁ l₂ l₃ l₄ })

-- What the loop of a run does with it
module _ {b : St.State} {all : Told} {d : Counts} {g : Tables} {m m' : Mem} {s : St.State} {k : ℕ} {r : Advanced} (a : Advances d g m k r m') (u : Underway b all k d g m s) where
  pub after_went : r.progress.how ≡ Went → Underway b all r.progress.steps r.counts g m' s
  after_went e = subst (λ (h : How). After b all h r.progress.steps r.counts g m' s) e (a.goes u)

  pub after_ended : {e : Result Value JsVmError} {z : Result Value Stop} → r.progress.how ≡ Ended e → z ≡ ending_of e → Over b all z r.progress.steps r.counts g m' s
  after_ended {e} {z} h i =
      subst (λ (y : Result Value Stop). Over b all y r.progress.steps r.counts g m' s) (sym i)
      (subst (λ (h : How). After b all h r.progress.steps r.counts g m' s) h (a.goes u))

  pub after_refused : {q : Space} → r.progress.how ≡ Refused q → Over b all (Err (Refused q)) r.progress.steps r.counts g m' s
  after_refused e = subst (λ (h : How). After b all h r.progress.steps r.counts g m' s) e (a.goes u)

pub over_stops : {b : St.State} {all : Told} {k : ℕ} {c : Counts} {g : Tables} {m : Mem} {s : St.State} → Underway b all k c g m s → k ≡ max_steps → Over b all (Err (Failed ExecutionLimitExceeded)) k c g m s
over_stops u e = record { told = stops u e; whole = u.whole }

pub over_ran : {b : St.State} {all : Told} (c : Counts) {d : Counts} {g : Tables} {m : Mem} {z : Result Value Stop} {k : ℕ} {r : Ran} → Over b all z k d g m (ground_of c g) → r ≡ ran_to z k d
    → d.code ≡ c.code → d.images ≡ c.images → (Unique b → ran_of r c g m ≡ all) × Leaves c r.counts g m
over_ran {b} {all} c {d} {g} {m} {z} {k} v e i j =
    let f = v.whole in
    let l : Leaves c (at_rest d) g m = record {
      placed = rest_placed d;
      whole = record {
        bounded = subst (λ (x : St.State). Bounded x) (sym (rest_state d m (ground_of c g))) f.bounded;
        code = f.code;
        images = f.images;
        codes = f.codes;
        stacks = f.stacks;
        heap = f.heap;
        text = f.text;
        output = f.output;
      };
      code = i;
      images = j;
    } in
    subst (λ (r : Ran). (Unique b → ran_of r c g m ≡ all) × Leaves c r.counts g m) (sym e)
    (λ y. ap (λ (x : St.State). tell k (result_of z) x) (rest_state d m (ground_of c g)) ∙ v.told y, l)
