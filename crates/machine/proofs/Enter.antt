-- How an EnterTry comes out, what one that goes on saves, and what holds of each step by itself, over every list of calls. Assumes nothing.
use mathlib.Core.Path.{◌≡◌, refl, sym, ap, ap₂, ◌∙◌}
use mathlib.Core.Bool.{Bool, true, false}
use mathlib.Core.Option.{Option, none, some}
use mathlib.Core.List.{List, [], ◌∷◌}
use Prim.Native.Nat.{ℕ, zero, suc, ◌+◌, ◌*◌, ◌<◌}
use native.Mathlib.Omega.{arith}
use borrow.Author.Tests.{ltb-true, lt-ltb}
use lib.Dec.{leb, ltb}
use lib.ListN.{length, get_or}
use Rattle.std.specs.Prelude.{if◌then◌else◌}
use Rattle.machine.specs.Error.{ip_out_of_bounds}
use Rattle.machine.specs.State.{State, Frame, handler_store, limit, running, fresh}
use Rattle.machine.specs.Act as A
use Rattle.machine.specs.Act.{Act, Need, need, apply}
use Rattle.machine.specs.Program.{Program, next, make, end, failed, How, went, ended, refused, did, Outcome, noting, fits, answered, exec}
use Rattle.machine.specs.Instruction.{fetch, instruction}
use Rattle.machine.specs.Run.{begun, kind_of, body, Step, step, after, settled, Ran, go_on, steps, step_limit}
use Rattle.machine.specs.Host.{Call, questions, makes, performed, perform, settled_call, accepted, history}
use Rattle.machine.specs.Demand3.{All, Enters, word_at}
use Rattle.machine.specs.Tries.{tried, Tried}
use Rattle.machine.proofs.Begun.{ended_went, refused_went, in_frame}
use Rattle.machine.proofs.Begun as B

-- a byte that was there
module _ (s : State) (p : ℕ) (k : Program) where
  fetched : (b : Bool) → (exec (if b then make (A.jump p) k else end (failed ip_out_of_bounds)) s).how ≡ went
      → exec (if b then make (A.jump p) k else end (failed ip_out_of_bounds)) s ≡ noting (did (A.jump p) []) (exec k (apply (A.jump p) s))
  fetched true h = refl
  fetched false h = absurd (ended_went h)

-- room that was there
granted : (b : Bool) (a : Act) (s : State) (n : Need) (o : Outcome) → (answered b a s n o).how ≡ went → (answered b a s n o).state ≡ o.state
granted true a s n o h = refl
granted false a s n o h = absurd (refused_went h)

abbrev cut : How
cut = ended (failed ip_out_of_bounds)

-- how it comes out where a byte is fetched, and where room is asked
fetched_how : (s : State) (p : ℕ) (k : Program) (b : Bool)
    → (exec (if b then make (A.jump p) k else end (failed ip_out_of_bounds)) s).how
    ≡ (if b then (exec k (apply (A.jump p) s)).how else cut)
fetched_how s p k true = refl
fetched_how s p k false = refl

answered_how : (b : Bool) (a : Act) (s : State) (o : Outcome) → o.how ≡ went → (answered b a s (need handler_store 1) o).how ≡ tried true b
answered_how true a s o h = h
answered_how false a s o h = refl

-- a second byte is there only behind a first
both : (i n : ℕ) (left : Bool) (b c : Bool) → ltb (i + 1) n ≡ b → ltb (i + 1 + 1) n ≡ c
    → (if b then (if c then tried true left else cut) else cut) ≡ tried c left
both i n left true true e f = refl
both i n left true false e f = refl
both i n left false false e f = refl
both i n left false true e f =
    let g : i + 1 + 1 < n = ltb-true (i + 1 + 1) n f in
    let z : true ≡ false = sym (lt-ltb (i + 1) n (omega arith)) ∙ e in let y : ◌≡◌ {A = ℕ} 0 1 = cc in absurd (omega arith)

module _ (s₀ : State) (f : Frame) (fs : List Frame) where
  abbrev here : State
  here = B.here s₀ f fs

  abbrev at : ℕ
  at = (running here f).at

  abbrev size : ℕ
  size = (running here f).size

  abbrev s₁ : State
  s₁ = B.fetched s₀ f fs

  abbrev s₂ : State
  s₂ = apply (A.jump (f.ip + 1 + 1)) s₁

  abbrev s₃ : State
  s₃ = apply (A.jump (f.ip + 1 + 1 + 1)) s₂

  abbrev word : ℕ
  word = word_at s₀.code (at + (f.ip + 1)) (at + (f.ip + 1 + 1))

  abbrev saving : Program
  saving = make (A.push_handler word) next

  -- what is left to do when the opcode and a byte are fetched
  abbrev second : Program
  second = fetch λ lo. make (A.push_handler (get_or s₀.code (at + (f.ip + 1)) 0 * 256 + lo)) next

  entered : kind_of here ≡ begun 75 → (exec (body (kind_of here)) here).how ≡ went
      → (exec (body (kind_of here)) here).state ≡ apply (A.push_handler word) s₃
  entered e h =
      let E₀ = B.begins s₀ f fs 75 e in
      let h₁ : (exec (instruction 75) s₁).how ≡ went = sym (ap (λ (o : Outcome). o.how) E₀) ∙ h in
      let E₁ = fetched s₁ (f.ip + 1 + 1) second (ltb (f.ip + 1) size) h₁ in
      let h₂ = sym (ap (λ (o : Outcome). o.how) E₁) ∙ h₁ in
      let E₂ = fetched s₂ (f.ip + 1 + 1 + 1) saving (ltb (f.ip + 1 + 1) size) h₂ in
      let h₃ = sym (ap (λ (o : Outcome). o.how) E₂) ∙ h₂ in
      ap (λ (o : Outcome). o.state) E₀ ∙ ap (λ (o : Outcome). o.state) E₁ ∙ ap (λ (o : Outcome). o.state) E₂
      ∙ granted (fits s₃ (need handler_store 1)) (A.push_handler word) s₃ (need handler_store 1) _ h₃

  enters_at : Enters (step here)
  enters_at e h =
      ap (λ (x : How). (settled here x (exec (body (kind_of here)) here).state).handlers) h ∙ ap (λ (x : State). x.handlers) (entered e h)

  tries_at : Tried (step here)
  tries_at e =
      let left = leb (length s₀.handlers + 1) (limit handler_store) in
      let E₁ = fetched_how s₁ (f.ip + 1 + 1) second (ltb (f.ip + 1) size) in
      let E₂ = fetched_how s₂ (f.ip + 1 + 1 + 1) saving (ltb (f.ip + 1 + 1) size) in
      let E₃ : (exec saving s₃).how ≡ tried true left = answered_how left (A.push_handler word) s₃ _ refl in
      ap (λ (o : Outcome). o.how) (B.begins s₀ f fs 75 e) ∙ E₁
      ∙ ap (λ (h : How). if ltb (f.ip + 1) size then h else cut) (E₂ ∙ ap (λ (h : How). if ltb (f.ip + 1 + 1) size then h else cut) E₃)
      ∙ both f.ip size left (ltb (f.ip + 1) size) (ltb (f.ip + 1 + 1) size) refl refl
      ∙ (let p : f.ip + 1 + 1 ≡ f.ip + 2 = omega arith in let q : length s₀.handlers + 1 ≡ suc (length s₀.handlers) = omega arith in
      ap₂ (λ (i j : ℕ). tried (ltb i size) (leb j (limit handler_store))) p q)

pub enters : (s : State) → Enters (step s)
enters s e = in_frame 75 (λ t. Enters (step t)) enters_at s e e

pub tries : (s : State) → Tried (step s)
tries s e = in_frame 75 (λ t. Tried (step t)) tries_at s e e

-- What holds of a step from every state holds of each step of a run, of a call, and of every list of calls.
module _ (P : Step → Type 0) (each : (s : State) → P (step s)) where
  on_each : (h : How) (n : ℕ) (s : State) (r : Ran) → All P r.steps → All P (go_on h n s r).steps
  on_each went n s r p = p
  on_each (ended e) n s r p = tt
  on_each (refused q) n s r p = tt

  run_each : (k n : ℕ) (s : State) → All P (steps k n s).steps
  run_each zero n s = tt
  run_each (suc k) n s =
      let t = after s (step s).outcome in (each s, on_each (step s).outcome.how (n + 1) t (steps k (n + 1) t) (run_each k (n + 1) t))

  accepted_each : (c : Call) (s : State) (o : Outcome) → All P (accepted c s o).steps
  accepted_each (Call.load bs) s o = tt
  accepted_each (Call.register i t) s o = tt
  accepted_each (Call.set_global n g) s o = tt
  accepted_each (Call.read_global n) s o = tt
  accepted_each (Call.run i) s o = run_each step_limit 0 o.state
  accepted_each (Call.text g n) s o = tt
  accepted_each (Call.drain n) s o = tt
  accepted_each Call.clear s o = tt

  settled_each : (h : How) (c : Call) (s : State) (o : Outcome) → All P (settled_call h c s o).steps
  settled_each went c s o = accepted_each c s o
  settled_each (ended e) c s o = tt
  settled_each (refused q) c s o = tt

  call_each : (q : Option ℕ) (c : Call) (s : State) → All P (performed q c s).steps
  call_each (some n) c s = tt
  call_each none c s = let o = exec (makes c) s in settled_each o.how c s o

  pub calls_each : (cs : List Call) (s : State) → All (λ d. All P d.steps) (history s cs)
  calls_each [] s = tt
  calls_each (c ∷ cs) s = (call_each (questions c s) c s, calls_each cs (perform c s).after)

-- Change 1 of document 02, of every EnterTry that calls come to.
pub calls_try : (cs : List Call) → All (λ d. All Tried d.steps) (history fresh cs)
calls_try cs = calls_each Tried tries cs fresh
