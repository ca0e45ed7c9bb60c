-- What trying an instruction's code comes to. Assumes nothing.
use Rattle.std.specs.Prelude.{ℕ, zero, suc, ◌+◌, ◌-◌, ◌*◌, ◌≤◌, ◌<◌, Bool, List, [], ◌∷◌, ◌≡◌, refl, eqb, length, get_or, replicate, Result, Ok, Err}
use Rattle.std.proofs.Common.{arith, sym, ap, ap₂, subst, ◌∙◌, ne_eqb}
use Rattle.std.proofs.Math.Decide.{dec_lt}
use Rattle.std.proofs.lemmas.List.{get_or-replicate}
use Rattle.std.specs.Prelude.{if◌then◌else◌}
use Rattle.machine.specs.Value as M
use Rattle.machine.specs.State as St
use Rattle.machine.specs.Error.{error_number, unknown_opcode}
use Rattle.machine.specs.Program as P
use Rattle.machine.specs.Program.{Program, exec}
use Rattle.machine.specs.Instruction.{instruction}
use Rattle.machine.specs.Out.{Out, went, ended, refused, out, out_of}
use Rattle.machine.specs.Opcodes as Machine
use Rattle.machine.specs.Opcodes.{number, standing_in, trial, attempt, attempt_for}
use Rattle.value.specs.Arena.{Apart}
use Rattle.value.specs.Errors.{error_of, space_of}
use Rattle.value.specs.Lists.{bytes_of, row_of, row_none, stack_none, stack_suc, stack_length}
use Rattle.value.specs.Words.{value_at, set_value, value_same, value_reads, value_apart}
use Rattle.value.specs.declared.JsVmError.{JsVmError}
use Rattle.value.specs.declared.Space.{Space}
use Rattle.value.specs.declared.Value.TheVariants.{Object}
use Rattle.value.specs.declared.Value.{Value}
use Rattle.stacks.specs.Layout.{slots_at, frames_at, handlers_at, stack_words}
use Rattle.stacks.specs.Laws.{top_length}
use Rattle.stacks.specs.View.{frame_at, handler_at, operands_of, frames_of}
use Rattle.texts.specs.Sources.{stores_of}
use Rattle.heap.specs.Layout.{objects_at, properties_at, globals_at}
use Rattle.heap.specs.View.{function_at, kind_at, row_at, property_of, global_of}
use Rattle.image.specs.View.{images_of, image_at, templates_at, template_at, constants_of}
use Rattle.outcome.specs.Meets.{end_of}
use Rattle.fetch.specs.declared.Running.{Running}
use Rattle.fetch.specs.Running.{Known, Runs}
use Rattle.outcome.specs.declared.Stepped.{Stepped}
use Rattle.dispatch.specs.Dispatch.{Dispatches, Held}
use Rattle.heapops.specs.declared.Counts.{Counts}
use Rattle.heapops.specs.declared.How.{How}
use Rattle.heapops.specs.declared.How.TheVariants.{Went, Ended, Refused}
use Rattle.heapops.specs.declared.Turned.{Turned}
use Rattle.heapops.specs.Turns as Turns
use Rattle.heapops.specs.Turns.{Mem, mem, below, state_of, Turns}
use Rattle.finish.specs.Laws.{looks_named, looks_below}
use Rattle.finish.specs.Parts.{Tables, tables, Ground, LeftBy, told, with_stacks, Finishes}
use Rattle.run.specs.Runs.{left_by}
use Rattle.opcodes.specs.declared.trial.Attempt.{Attempt}

-- An attempt of the code as the machine's, and as it is seen of what a program comes to.
abbrev pub attempt_by : Attempt → Machine.Attempt
attempt_by a = record { number = a.number; standing = a.standing }

abbrev pub attempted_as : ℕ → ℕ → Machine.Attempt
attempted_as n k = record { number = n; standing = k }

abbrev attempt_in : Out → Machine.Attempt
attempt_in (went s) = record { number = 0; standing = standing_in P.went s }
attempt_in (ended e s) = record { number = number (P.ended e); standing = 0 }
attempt_in (refused q) = record { number = number (P.refused q); standing = 0 }

attempt_out : (p : Program) (s : St.State) → Machine.attempted (exec p s) ≡ attempt_in (out p s)
unfolding out
attempt_out p s = go (exec p s).how (exec p s).state
  where
    go : (h : P.How) (t : St.State) → record { number = number h; standing = standing_in h t } ≡ attempt_in (out_of h t)
    go P.went t = refl
    go (P.ended e) t = refl
    go (P.refused q) t = refl

-- THE STORES of a trial

-- the first n operands are objects, and every other word is as it was
pub record Objects (w w' : List ℕ) (n : ℕ) : Type 0 where
  pub values : (i : ℕ) → i < n → value_at w' (0 + 3 * i) ≡ M.object 0
  pub apart : Apart w w' 0 (3 * n)

pub objects_none : (w : List ℕ) → Objects w w 0
objects_none w = record { values = λ i h. absurd (omega arith); apart = record { at = λ j h. refl } }

pub objects_more : (w₀ w w' : List ℕ) (i : ℕ) → 3 * i + 2 < length w → Objects w₀ w i → w' ≡ set_value w (3 * i) (Object 0) → Objects w₀ w' (i + 1)
objects_more w₀ w w' i l f e = rw e (record {
  values = λ j b. go j b (dec_lt j i);
  apart = record { at = λ j n. (value_apart w (3 * i) (Object 0)).at j (λ x y. n (omega arith) (omega arith)) ∙ f.apart.at j (λ x y. n x (omega arith)) };
})
  where
    go : (j : ℕ) → j < i + 1 → Dec (j < i) → value_at (set_value w (3 * i) (Object 0)) (0 + 3 * j) ≡ M.object 0
    go j b (yes q) = value_reads w (set_value w (3 * i) (Object 0)) (0 + 3 * j) (λ k x y. (value_apart w (3 * i) (Object 0)).at k (λ u v. omega arith)) ∙ f.values j q
    go j b (no q) = let z : 0 + 3 * j ≡ 3 * i = omega (arith, q) in rw z (value_same w (3 * i) (Object 0) l)

pub objects_all : {w w' : List ℕ} {i n : ℕ} → i ≡ n → Objects w w' i → Objects w w' n
objects_all {w} {w'} e o = rw e at o

operands_are : {w w' : List ℕ} {n : ℕ} → Objects w w' n → (m : ℕ) → m ≤ n → operands_of w' m ≡ replicate m (M.object 0)
operands_are {w} {w'} o zero h = stack_none (λ i. value_at w' (0 + 3 * i))
operands_are {w} {w'} o (suc m) h =
    stack_suc (λ i. value_at w' (0 + 3 * i)) m ∙ ap₂ (λ (v : M.Value) (vs : List M.Value). v ∷ vs) (o.values m (omega arith)) (operands_are o m (omega arith))

-- in a store of zeros otherwise, the first frame is one of template 0 of image 0
module _ {w' : List ℕ} (o : Objects (replicate stack_words 0) w' 4) where
  pub zero_word : (k : ℕ) → 12 ≤ k → k < stack_words → get_or w' k 0 ≡ 0
  zero_word k a b = o.apart.at k (λ x y. omega arith) ∙ get_or-replicate stack_words k 0 0 b

  frame_is : frame_at w' (frames_at + 5 * 0) ≡ record { image = 0; template = 0; ip = 0; base = 0; count = 0 }
  unfolding frame_at
  frame_is = λ i. record {
    image = zero_word (frames_at + 5 * 0) (omega arith) (omega arith) i;
    template = zero_word (frames_at + 5 * 0 + 1) (omega arith) (omega arith) i;
    ip = zero_word (frames_at + 5 * 0 + 2) (omega arith) (omega arith) i;
    base = zero_word (frames_at + 5 * 0 + 3) (omega arith) (omega arith) i;
    count = zero_word (frames_at + 5 * 0 + 4) (omega arith) (omega arith) i;
  }

  frames_are : frames_of w' 1 0 ≡ record { image = 0; template = 0; ip = 0; base = 0; count = 0 } ∷ []
  frames_are =
      ap (St.top_at 0) (stack_suc (λ i. frame_at w' (frames_at + 5 * i)) 0 ∙ ap₂ (λ (f : St.Frame) (fs : List St.Frame). f ∷ fs) frame_is (stack_none (λ i. frame_at w' (frames_at + 5 * i))))

-- n bytes of code, and m operands
abbrev pub trial_counts : ℕ → ℕ → Counts
trial_counts n m = record {
  depths = record { operands = m; slots = 0; frames = 1; handlers = 0; ip = 0 };
  sizes = record { functions = 0; objects = 0; properties = 0; globals = 0 };
  code = n;
  images = 1;
  text = 0;
  output = 0;
}

abbrev pub trial_tables : ℕ → ℕ → Tables
trial_tables b n = tables (b ∷ b ∷ []) (0 ∷ []) (1 ∷ 0 ∷ 0 ∷ 0 ∷ 0 ∷ 0 ∷ 0 ∷ n ∷ []) (0 ∷ [])

state_is : (b n m : ℕ) {w' : List ℕ} (h t u : List ℕ) → Objects (replicate stack_words 0) w' 4 → m ≤ 4 → state_of (trial_counts n m) (mem w' h t u) (trial b n m) ≡ trial b n m
state_is b n m {w'} h t u o l = λ i. record {
  code = (trial b n m).code;
  images = (trial b n m).images;
  operands = operands_are o m l i;
  slots = row_none (λ k. value_at w' (slots_at + 3 * k)) i;
  frames = frames_are o i;
  handlers = stack_none (λ k. handler_at w' (handlers_at + 3 * k)) i;
  functions = row_none (λ k. function_at h (0 + 2 * k)) i;
  objects = row_none (λ k. kind_at h (objects_at + 1 * k)) i;
  properties = row_none (λ k. property_of (row_at h (properties_at + 6 * k))) i;
  globals = row_none (λ k. global_of (row_at h (globals_at + 6 * k))) i;
  text = row_none (λ k. get_or t k 0) i;
  output = row_none (λ k. get_or u k 0) i;
}

code_is : (b n : ℕ) → n ≤ 2 → replicate n b ≡ bytes_of (b ∷ b ∷ []) n
unfolding row_of
code_is b zero l = refl
code_is b (suc zero) l = refl
code_is b (suc (suc zero)) l = refl
code_is b (suc (suc (suc n))) l = absurd (omega arith)

images_are : (b n m : ℕ) → (trial b n m).images ≡ images_of (b ∷ b ∷ []) (0 ∷ []) (1 ∷ 0 ∷ 0 ∷ 0 ∷ 0 ∷ 0 ∷ 0 ∷ n ∷ []) (0 ∷ []) 1
unfolding images_of image_at templates_at template_at constants_of
images_are b n m = refl

base : (b n m : ℕ) {x : Running} → n ≤ 2 → Known (trial_tables b n).rows (trial_tables b n).starts 1 x → Ground x (trial_counts n m) (trial_tables b n) (trial b n m)
base b n m l k = record { code = code_is b n l; images = images_are b n m; known = k }

pub trial_runs : (n m : ℕ) {w' : List ℕ} {x : Running} → Objects (replicate stack_words 0) w' 4 → (x.image ≡ 0) × (x.template ≡ 0) → Runs x (trial_counts n m).depths w'
trial_runs n m o e = record { stands = λ q. omega arith; image = zero_word o (frames_at + 5 * (1 - 1)) (omega arith) (omega arith) ∙ sym e.0; template = zero_word o (frames_at + 5 * (1 - 1) + 1) (omega arith) (omega arith) ∙ sym e.1 }

-- THE INSTRUCTION, on the stacks and then with the other stores
module _ (c : Counts) (g : Tables) (m : Mem) {p : Program} {x : Running} {r : Stepped} {w' : List ℕ}
    (d : Dispatches (Held x c.code g.code g.places (stores_of g.code c.code m.text c.text)) x p c.depths m.stacks r w') where
  pub left_ready : LeftBy x r.how r.depths w'
  left_ready = left_by x r.how r.depths m.stacks w' d.kept

  pub turns : {t : Turned} {m' : Mem} → Finishes (Ground x c g) x c (with_stacks w' m) r t m' → Turns (Ground x c g) p c m t m'
  turns {t} {m'} f = record {
    goes = λ s a. subst (Turns.Tells t.how t.counts m' s)
        (sym (told r.how r.depths w' (below c m s) _ (d.goes (below c m s) (record { constants = (looks_named (below c m s) (looks_below m s a)).constants; holding = (looks_below m s a).holding }))))
        (f.goes s a);
    kept = f.kept m.stacks d.kept;
  }

-- WHAT IS TOLD of how it came out, of every outcome that it came to
pub record Tells (t : Turned) (r : Attempt) : Type 0 where
  pub told : (m : Mem) (s : St.State) (o : Out) → Turns.Tells t.how t.counts m s o → attempt_by r ≡ attempt_in o

module _ (t : Turned) where
  tells_as : (h : How) (r : Attempt) → t.how ≡ h → ((m : Mem) (s : St.State) (o : Out) → Turns.Tells h t.counts m s o → attempt_by r ≡ attempt_in o) → Tells t r
  tells_as h r e f = record { told = λ m s o k. f m s o (subst (λ (y : How). Turns.Tells y t.counts m s o) e k) }

  -- it went on: how many frames and operands there are
  standing_is : (m : Mem) (s : St.State) → standing_in P.went (state_of t.counts m s) ≡ (if eqb t.counts.depths.frames 1 then t.counts.depths.operands else 0)
  standing_is m s = ap₂ (λ (a b : ℕ). if eqb a 1 then b else 0) frames operands
    where
      frames : length (frames_of m.stacks t.counts.depths.frames t.counts.depths.ip) ≡ t.counts.depths.frames
      frames = rw (top_length, stack_length) refl

      operands : length (operands_of m.stacks t.counts.depths.operands) ≡ t.counts.depths.operands
      operands = stack_length (λ i. value_at m.stacks (0 + 3 * i)) t.counts.depths.operands

  pub tells_went : {k : ℕ} {r : Attempt} → t.how ≡ Went → k ≡ (if eqb t.counts.depths.frames 1 then t.counts.depths.operands else 0) → attempt_by r ≡ attempted_as 0 k → Tells t r
  tells_went {k} {r} e f a = tells_as Went r e (λ m s o j. a ∙ ap (attempted_as 0) (f ∙ sym (standing_is m s)) ∙ sym (ap attempt_in j))

  pub tells_finished : {e : Result Value JsVmError} {v : Value} {r : Attempt} → t.how ≡ Ended e → e ≡ Ok v → attempt_by r ≡ attempted_as 0 0 → Tells t r
  tells_finished {e} {v} {r} q p a = tells_as (Ended e) r q (λ m s o k. a ∙ sym (ap attempt_in k ∙ ap (λ (y : Result Value JsVmError). attempt_in (ended (end_of y) (state_of t.counts m s))) p))

  pub tells_failed : {e : Result Value JsVmError} {x : JsVmError} {n : ℕ} {r : Attempt} → t.how ≡ Ended e → e ≡ Err x → n ≡ error_number (error_of x) → attempt_by r ≡ attempted_as n 0 → Tells t r
  tells_failed {e} {x} {n} {r} q p g a = tells_as (Ended e) r q
      (λ m s o k. a ∙ ap (λ (i : ℕ). attempted_as i 0) g ∙ sym (ap attempt_in k ∙ ap (λ (y : Result Value JsVmError). attempt_in (ended (end_of y) (state_of t.counts m s))) p))

  pub tells_refused : {x : Space} {n : ℕ} {r : Attempt} → t.how ≡ Refused x → n ≡ St.question (space_of x) → attempt_by r ≡ attempted_as n 0 → Tells t r
  tells_refused {x} {n} {r} q g a = tells_as (Refused x) r q (λ m s o k. a ∙ ap (λ (i : ℕ). attempted_as i 0) g ∙ sym (ap attempt_in k))

-- THE ATTEMPT
module _ (p : Program) (b n m : ℕ) {x : Running} {w' h t u : List ℕ} {y : Turned} {m' : Mem} {r : Attempt} where
  attempt_of : n ≤ 2 → m ≤ 4 → Objects (replicate stack_words 0) w' 4 → Known (trial_tables b n).rows (trial_tables b n).starts 1 x
      → Turns (Ground x (trial_counts n m) (trial_tables b n)) p (trial_counts n m) (mem w' h t u) y m' → Tells y r → attempt_by r ≡ attempt p b n m
  attempt_of l k o f g e =
      e.told m' (trial b n m) (out p (state_of (trial_counts n m) (mem w' h t u) (trial b n m))) (g.goes (trial b n m) (base b n m l f))
      ∙ ap (λ (s : St.State). attempt_in (out p s)) (state_is b n m h t u o k) ∙ sym (attempt_out p (trial b n m))

module _ (op b n m : ℕ) {x : Running} {w' h t u : List ℕ} {y : Turned} {m' : Mem} {r : Attempt} where
  pub attempt_is : n ≤ 2 → m ≤ 4 → Objects (replicate stack_words 0) w' 4 → Known (trial_tables b n).rows (trial_tables b n).starts 1 x
      → {p : Program} → instruction op ≡ p → Turns (Ground x (trial_counts n m) (trial_tables b n)) p (trial_counts n m) (mem w' h t u) y m' → Tells y r → attempt_by r ≡ attempt_for op b n m
  unfolding attempt_for
  attempt_is l k o f {p} i g e = attempt_of p b n m l k o f g e ∙ ap (λ (p : Program). attempt p b n m) (sym i)

-- a byte that names no instruction
pub attempt_unknown : (op b n m : ℕ) {r : Attempt} → instruction op ≡ P.end (P.failed (unknown_opcode op)) → attempt_by r ≡ attempted_as 13 0 → attempt_by r ≡ attempt_for op b n m
unfolding attempt_for
attempt_unknown op b n m i a = a ∙ ap (λ (p : Program). attempt p b n m) (sym i)
