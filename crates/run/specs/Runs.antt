-- A run, step by step. Assumes nothing.
use Prim.Native.Nat.{ℕ, zero, suc, ◌+◌, ◌-◌, ◌*◌, ◌≤◌, ◌<◌}
use native.Mathlib.Omega.{arith}
use Rattle.std.specs.Prelude.{List, ◌≡◌, refl, length, get_or, Result, Ok, Err}
use Rattle.std.proofs.Common.{sym, ap, subst, ◌∙◌}
use Rattle.machine.specs.Fields as Fi
use Rattle.machine.specs.State as St
use Rattle.machine.specs.State.{limit, code_store, image_store}
use Rattle.machine.specs.Error.{execution_limit_exceeded}
use Rattle.machine.specs.Program as P
use Rattle.machine.specs.Program.{Program}
use Rattle.machine.specs.Run as R
use Rattle.machine.specs.Run.{max_steps}
use Rattle.machine.specs.Out.{Out, out_of, went, ended, refused, out}
use Rattle.machine.proofs.Bounded.{Bounded}
use Rattle.machine.proofs.Unique.{Unique, went_unique}
use Rattle.value.specs.Errors.{error_of, space_of}
use Rattle.value.specs.Lists.{bytes_of, row_length, stack_length, stack_none}
use Rattle.value.specs.Words.{value_of}
use Rattle.value.specs.declared.JsVmError.TheVariants.{ExecutionLimitExceeded}
use Rattle.value.specs.declared.Space.{Space}
use Rattle.texts.specs.Keeps.{text_limit, output_limit}
use Rattle.texts.specs.Sources.{stores_of, InUse}
use Rattle.stacks.specs.Layout.{frames_at, stack_words}
use Rattle.stacks.specs.Laws.{top_length}
use Rattle.stacks.specs.View as Stacks
use Rattle.stacks.specs.declared.Depths.{Depths}
use Rattle.heap.specs.Layout.{heap_words}
use Rattle.heap.specs.View.{Sized}
use Rattle.image.specs.View.{images_of}
use Rattle.outcome.specs.Meets.{end_of}
use Rattle.outcome.specs.declared.Part.{Part}
use Rattle.outcome.specs.declared.Part.TheVariants.{Went as Part-as-Went, Ended as Part-as-Ended, Refused as Part-as-Refused, Register, Join, Print, More}
use Rattle.outcome.specs.declared.Stepped.{Stepped}
use Rattle.fetch.specs.declared.Running.{Running}
use Rattle.fetch.specs.Running.{Known}
use Rattle.dispatch.specs.Dispatch.{Held, Steps, KeptBy}
use Rattle.heapops.specs.declared.Counts.{Counts}
use Rattle.heapops.specs.declared.How.{How}
use Rattle.heapops.specs.declared.How.TheVariants.{Went, Ended, Refused}
use Rattle.heapops.specs.declared.Turned.{Turned}
use Rattle.heapops.specs.Turns.{Mem, mem, below, state_of, with_depths, turned, Tells, KeptOf}
use Rattle.finish.specs.Parts.{Tables, Ground, Finishes, with_stacks, part_out, told, LeftBy}
use Rattle.finish.specs.Laws.{looks_named, looks_below}
use Rattle.reach.specs.Leaps.{leapt_to}
use Rattle.run.specs.Bounds.{went_bounded, ended_bounded}
use Rattle.run.specs.declared.Ran.{Ran}
use Rattle.value.specs.declared.Value.{Value}
use Rattle.value.specs.declared.Stop.{Stop}
use Rattle.value.specs.declared.JsVmError.{JsVmError}
use Rattle.value.specs.declared.Stop.TheVariants.{Failed, Refused}

-- The place of the newest frame: 0 where none stands.
abbrev pub place_in : ℕ → ℕ → ℕ
place_in zero p = 0
place_in (suc n) p = p

abbrev pub at_rest : Counts → Counts
at_rest c = let d = c.depths in
    with_depths (record { operands = d.operands; slots = d.slots; frames = d.frames; handlers = d.handlers; ip = place_in d.frames d.ip }) c

place_some : (n p : ℕ) → (n ≡ 0 → ⊥) → p ≡ place_in n p
place_some zero p h = absurd (h refl)
place_some (suc n) p h = refl

-- the counts with another place
abbrev placed_at : ℕ → Counts → Counts
placed_at p c = let d = c.depths in with_depths (record { operands = d.operands; slots = d.slots; frames = d.frames; handlers = d.handlers; ip = p }) c

pub rest_none : (c : Counts) → c.depths.frames ≡ 0 → placed_at 0 c ≡ at_rest c
rest_none c e = ap (λ (n : ℕ). placed_at (place_in n c.depths.ip) c) (sym e)

pub rest_some : (c : Counts) → (c.depths.frames ≡ 0 → ⊥) → c ≡ at_rest c
rest_some c h = ap (λ (p : ℕ). placed_at p c) (place_some c.depths.frames c.depths.ip h)

pub record Placed (d : Depths) : Type 0 where
  pub place : d.frames ≡ 0 → d.ip ≡ 0

pub rest_placed : (c : Counts) → Placed (at_rest c).depths
rest_placed c = record { place = λ e. ap (λ (n : ℕ). place_in n c.depths.ip) e }

frames_rest : (w : List ℕ) (n p : ℕ) → Stacks.frames_of w n (place_in n p) ≡ Stacks.frames_of w n p
frames_rest w zero p = rw (stack_none (λ i. Stacks.frame_at w (frames_at + 5 * i))) refl
frames_rest w (suc n) p = refl

-- the state does not see it
pub rest_state : (c : Counts) (m : Mem) (s : St.State) → state_of (at_rest c) m s ≡ state_of c m s
rest_state c m s =
    let d = c.depths in
    ap (λ (f : List St.Frame). Stacks.under (Stacks.operands_of m.stacks d.operands) (Stacks.slots_of m.stacks d.slots) f (Stacks.handlers_of m.stacks d.handlers) (below c m s))
    (frames_rest m.stacks d.frames d.ip)

abbrev pub ran_to : Result Value Stop → ℕ → Counts → Ran
ran_to e n c = record { end = e; steps = n; counts = at_rest c }

abbrev pub result_of : Result Value Stop → R.Result
result_of (Ok v) = R.ended (P.finished (value_of v))
result_of (Err (Failed e)) = R.ended (P.failed (error_of e))
result_of (Err (Refused q)) = R.full (space_of q)

abbrev pub ending_of : Result Value JsVmError → (Result Value Stop)
ending_of (Ok v) = Ok v
ending_of (Err e) = Err (Failed e)

pub ending_is : (e : Result Value JsVmError) → result_of (ending_of e) ≡ R.ended (end_of e)
ending_is (Ok v) = refl
ending_is (Err e) = refl

-- what is seen of a run: its steps, its result, and the state that it leaves
pub record Told : Type 0 where
  pub made : ℕ
  pub result : R.Result
  pub state : St.State

abbrev pub tell : ℕ → R.Result → St.State → Told
tell n e s = record { made = n; result = e; state = s }

abbrev pub then_do : Out → ℕ → St.State → (St.State → Told) → Told
then_do (went t) n s k = k t
then_do (ended e t) n s k = tell n (R.ended e) t
then_do (refused q) n s k = tell n (R.full q) s

abbrev pub program_of : St.State → Program
program_of s = R.body (R.kind_of s)

-- k steps may still be made, and n have been
unfoldable pub run_of : ℕ → ℕ → St.State → Told
run_of zero n s = tell n (R.ended (P.failed execution_limit_exceeded)) s
run_of (suc k) n s = then_do (out (program_of s) s) (n + 1) s (λ t. run_of k (n + 1) t)

-- It is the machine's run.
abbrev pub seen : R.Ran → Told
seen r = tell r.made r.result r.state

one : (h : P.How) (n : ℕ) (s t : St.State) (r : R.Ran) (k : St.State → Told) → k (R.settled s h t) ≡ seen r → then_do (out_of h t) n s k ≡ seen (R.go_on h n (R.settled s h t) r)
one P.How.went n s t r k e = e
one (P.How.ended x) n s t r k e = refl
one (P.How.refused q) n s t r k e = refl

pub run_is : (k n : ℕ) (s : St.State) → run_of k n s ≡ seen (R.steps k n s)
unfolding run_of out
run_is zero n s = refl
run_is (suc k) n s =
    let o = P.exec (program_of s) s in
    one o.how (n + 1) s o.state (R.steps k (n + 1) (R.after s o)) (λ t. run_of k (n + 1) t) (run_is k (n + 1) (R.after s o))

-- every store has its size, and every count is within it
pub record Whole (c : Counts) (g : Tables) (m : Mem) (s : St.State) : Type 0 where
  pub bounded : Bounded (state_of c m s)
  pub code : s.code ≡ bytes_of g.code c.code
  pub images : s.images ≡ images_of g.code g.places g.rows g.starts c.images
  pub codes : length g.code ≡ limit code_store
  pub stacks : length m.stacks ≡ stack_words
  pub heap : length m.heap ≡ heap_words
  pub text : length m.text ≡ text_limit
  pub output : length m.output ≡ output_limit

module _ {c : Counts} {g : Tables} {m : Mem} {s : St.State} (f : Whole c g m s) where
  pub whole_ready : Stacks.Ready c.depths m.stacks
  whole_ready = let b = f.bounded in record {
    operands = rw stack_length at b.operands;
    slots = rw row_length at b.slots;
    frames = rw (top_length, stack_length) at b.frames;
    handlers = rw stack_length at b.handlers;
    size = f.stacks;
  }

  pub whole_sized : Sized c.sizes m.heap
  whole_sized = let b = f.bounded in record {
    functions = rw row_length at b.functions;
    objects = rw row_length at b.objects;
    properties = rw row_length at b.properties;
    globals = rw row_length at b.globals;
    size = f.heap;
  }

  pub whole_code : c.code ≤ length g.code
  whole_code =
      let k : length s.code ≡ c.code = ap length f.code ∙ row_length c.code (λ i. get_or g.code i 0) in
      omega (arith, f.bounded.code, f.codes, k)

  pub whole_text : (c.text ≤ text_limit) × (length m.text ≡ text_limit)
  whole_text = (rw row_length at f.bounded.text, f.text)

  pub whole_output : (c.output ≤ output_limit) × (length m.output ≡ output_limit)
  whole_output = (rw row_length at f.bounded.output, f.output)

  pub whole_use : InUse g.code c.code m.text c.text
  whole_use = record { code = whole_code; text = omega (arith, whole_text.0, whole_text.1) }

-- what a step stands on
module _ {c : Counts} {g : Tables} {m : Mem} {s : St.State} {x : Running} (f : Whole c g m s) (k : Known g.rows g.starts c.images x) where
  pub whole_base : Ground x c g s
  whole_base = record { code = f.code; images = f.images; known = k }

-- other stacks, and a heap and a text of the same size
pub whole_moved : {c : Counts} {g : Tables} {w h t o : List ℕ} {s : St.State} → Whole c g (mem w h t o) s → {e : Depths} {k : ℕ} {w' h' t' : List ℕ} → Stacks.Ready e w' → Sized c.sizes h' → k ≤ text_limit → length t' ≡ text_limit
    → Whole (leapt_to e k c) g (mem w' h' t' o) s
whole_moved f r z l n = let b = f.bounded in record {
  bounded = record {
    code = b.code;
    images = b.images;
    operands = rw stack_length r.operands;
    slots = rw row_length r.slots;
    frames = rw (top_length, stack_length) r.frames;
    handlers = rw stack_length r.handlers;
    functions = rw row_length z.functions;
    objects = rw row_length z.objects;
    properties = rw row_length z.properties;
    globals = rw row_length z.globals;
    text = rw row_length l;
    output = b.output;
  };
  code = f.code;
  images = f.images;
  codes = f.codes;
  stacks = r.size;
  heap = z.size;
  text = n;
  output = f.output;
}

-- what a step on the stacks leaves ready
pub left_by : (x : Running) (h : Part) (d : Depths) (w w' : List ℕ) → KeptBy x h d w w' → LeftBy x h d w'
left_by x Part-as-Went d w w' k = tt
left_by x (Part-as-Ended e) d w w' k = tt
left_by x (Part-as-Refused q) d w w' k = tt
left_by x (Register i t) d w w' k = subst (λ (u : List ℕ). Stacks.Ready d u) (sym k.0) k.1
left_by x (Join a b) d w w' k = subst (λ (u : List ℕ). Stacks.Ready d u) (sym k.0) k.1
left_by x (Print n) d w w' k = subst (λ (u : List ℕ). Stacks.Ready d u × (d.operands + 1 + n ≤ St.operand_limit)) (sym k.0) (k.1, k.2)
left_by x (More b) d w w' k = subst (λ (u : List ℕ). LeftBy x (More b) d u) (sym k.0) (record { ready = k.1; runs = k.2 })

-- THE CONTRACT OF A STEP over all stores: it comes to what the answer says. A refusal leaves the state.
pub record Takes (x : Running) (c : Counts) (g : Tables) (m : Mem) (t : Turned) (m' : Mem) : Type 0 where
  pub goes : (s : St.State) → Ground x c g s → Tells t.how t.counts m' s (out (program_of (state_of c m s)) (state_of c m s))
  pub kept : KeptOf t.how c m m'
  pub steady : (t.counts.code ≡ c.code) × (t.counts.images ≡ c.images)

module _ (c : Counts) (g : Tables) (m : Mem) {x : Running} {r : Stepped} {w' : List ℕ} (st : Steps (Held x c.code g.code g.places (stores_of g.code c.code m.text c.text)) x c.depths m.stacks r w') where
  pub left_ready : LeftBy x r.how r.depths w'
  left_ready = left_by x r.how r.depths m.stacks w' st.kept

  step_out : (s : St.State) → Ground x c g s → out (program_of (state_of c m s)) (state_of c m s) ≡ part_out r.how r.depths w' (below c m s)
  step_out s a = told r.how r.depths w' (below c m s) _ (st.goes (below c m s) (record { constants = (looks_named (below c m s) (looks_below m s a)).constants; holding = (looks_below m s a).holding }))

  -- on the stacks alone
  pub takes_stacks : {b : Counts} {t : Turned} → r.how ≡ Part-as-Went → b ≡ with_depths r.depths c → t ≡ turned b Went → Takes x c g m t (with_stacks w' m)
  takes_stacks {b} {t} e z y =
      subst (λ (u : Turned). Takes x c g m u (with_stacks w' m)) (sym (y ∙ ap (λ (u : Counts). turned u Went) z)) (record {
        goes = λ s a. step_out s a ∙ ap (λ (h : Part). part_out h r.depths w' (below c m s)) e;
        kept = tt;
        steady = (refl, refl);
      })

  -- with the other stores
  pub takes_all : {t : Turned} {m' : Mem} → Finishes (Ground x c g) x c (with_stacks w' m) r t m' → Takes x c g m t m'
  takes_all {t} {m'} fin = record {
    goes = λ s a. subst (Tells t.how t.counts m' s) (sym (step_out s a)) (fin.goes s a);
    kept = fin.kept m.stacks st.kept;
    steady = fin.steady;
  }

-- THE LAW OF THE LOOP: after k steps, what is left gives what the whole gives. It does so if no two rows of the state b at
-- the beginning have one key, as in every state that calls leave; whether or not, the stores are whole.
pub record Underway (b : St.State) (all : Told) (k : ℕ) (c : Counts) (g : Tables) (m : Mem) (s : St.State) : Type 0 where
  pub left : Unique b → run_of (max_steps - k) k (state_of c m s) ≡ all
  pub unique : Unique b → Unique (state_of c m s)
  pub whole : Whole c g m s

module _ {b : St.State} {all : Told} {k : ℕ} {c : Counts} {g : Tables} {m : Mem} {s : St.State} (u : Underway b all k c g m s) where
  pub stops : k ≡ max_steps → Unique b → tell k (result_of (Err (Failed ExecutionLimitExceeded))) (state_of c m s) ≡ all
  unfolding run_of
  stops e h = let z : max_steps - k ≡ 0 = omega arith in rw z at (u.left h)

  module _ {x : Running} (l : k < max_steps) (n : Known g.rows g.starts c.images x) {t : Turned} {m' : Mem} (tk : Takes x c g m t m') where
    more : Unique b → then_do (out (program_of (state_of c m s)) (state_of c m s)) (k + 1) (state_of c m s) (λ t. run_of (max_steps - (k + 1)) (k + 1) t) ≡ all
    unfolding run_of
    more h = let e : max_steps - k ≡ suc (max_steps - (k + 1)) = omega arith in rw e at (u.left h)

    tells : Tells t.how t.counts m' s (out (program_of (state_of c m s)) (state_of c m s))
    tells = tk.goes s (whole_base u.whole n)

    whole_if : (e : Counts) → Bounded (state_of e m' s) → e.code ≡ c.code → e.images ≡ c.images
        → length m'.stacks ≡ length m.stacks → length m'.heap ≡ length m.heap → length m'.text ≡ length m.text → length m'.output ≡ length m.output → Whole e g m' s
    whole_if e o a n p q t v = let f = u.whole in record {
      bounded = o;
      code = f.code ∙ ap (bytes_of g.code) (sym a);
      images = f.images ∙ ap (images_of g.code g.places g.rows g.starts) (sym n);
      codes = f.codes;
      stacks = p ∙ f.stacks;
      heap = q ∙ f.heap;
      text = t ∙ f.text;
      output = v ∙ f.output;
    }

    pub goes_on : t.how ≡ Went → length m'.stacks ≡ length m.stacks → length m'.heap ≡ length m.heap → length m'.text ≡ length m.text → length m'.output ≡ length m.output
        → Underway b all (k + 1) t.counts g m' s
    goes_on e p q y v =
        let o : out (program_of (state_of c m s)) (state_of c m s) ≡ went (state_of t.counts m' s) = subst (λ (h : How). Tells h t.counts m' s (out (program_of (state_of c m s)) (state_of c m s))) e tells in
        record {
          left = λ h. ap (λ (y : Out). then_do y (k + 1) (state_of c m s) (λ t. run_of (max_steps - (k + 1)) (k + 1) t)) (sym o) ∙ more h;
          unique = λ h. went_unique (state_of c m s) (state_of t.counts m' s) o (u.unique h);
          whole = whole_if t.counts (went_bounded (state_of t.counts m' s) (program_of (state_of c m s)) (state_of c m s) o u.whole.bounded) tk.steady.0 tk.steady.1 p q y v;
        }

    pub known_after : Known g.rows g.starts t.counts.images x
    known_after = subst (λ (i : ℕ). Known g.rows g.starts i x) (sym tk.steady.1) n

    pub finishes : {e : Result Value JsVmError} {z : Result Value Stop} → t.how ≡ Ended e → z ≡ ending_of e → Unique b → tell (k + 1) (result_of z) (state_of t.counts m' s) ≡ all
    finishes {e} {z} h i f =
        let o : out (program_of (state_of c m s)) (state_of c m s) ≡ ended (end_of e) (state_of t.counts m' s) = subst (λ (h : How). Tells h t.counts m' s (out (program_of (state_of c m s)) (state_of c m s))) h tells in
        ap (λ (y : Result Value Stop). tell (k + 1) (result_of y) (state_of t.counts m' s)) i ∙ ap (λ (y : R.Result). tell (k + 1) y (state_of t.counts m' s)) (ending_is e)
        ∙ ap (λ (y : Out). then_do y (k + 1) (state_of c m s) (λ t. run_of (max_steps - (k + 1)) (k + 1) t)) (sym o) ∙ more f

    pub finishes_whole : {e : Result Value JsVmError} → t.how ≡ Ended e → length m'.stacks ≡ length m.stacks → length m'.heap ≡ length m.heap → length m'.text ≡ length m.text → length m'.output ≡ length m.output
        → Whole t.counts g m' s
    finishes_whole {e} h p q y v =
        let o : out (program_of (state_of c m s)) (state_of c m s) ≡ ended (end_of e) (state_of t.counts m' s) = subst (λ (h : How). Tells h t.counts m' s (out (program_of (state_of c m s)) (state_of c m s))) h tells in
        whole_if t.counts (ended_bounded (state_of t.counts m' s) (end_of e) (program_of (state_of c m s)) (state_of c m s) o u.whole.bounded) tk.steady.0 tk.steady.1 p q y v

    module _ {q : Space} (h : t.how ≡ Refused q) where
      same : state_of c m' s ≡ state_of c m s
      same = (subst (λ (h : How). KeptOf h c m m') h tk.kept) c.depths s

      pub refuses : Unique b → tell (k + 1) (result_of (Err (Refused q))) (state_of c m' s) ≡ all
      refuses f =
          let o : out (program_of (state_of c m s)) (state_of c m s) ≡ refused (space_of q) = subst (λ (h : How). Tells h t.counts m' s (out (program_of (state_of c m s)) (state_of c m s))) h tells in
          ap (λ (y : St.State). tell (k + 1) (R.full (space_of q)) y) same
          ∙ ap (λ (y : Out). then_do y (k + 1) (state_of c m s) (λ t. run_of (max_steps - (k + 1)) (k + 1) t)) (sym o) ∙ more f

      pub refuses_whole : length m'.stacks ≡ length m.stacks → length m'.heap ≡ length m.heap → length m'.text ≡ length m.text → length m'.output ≡ length m.output → Whole c g m' s
      refuses_whole a n y v = whole_if c (subst (λ (x : St.State). Bounded x) (sym same) u.whole.bounded) refl refl a n y v

-- the state that the stores hold, with nothing else
abbrev pub ground_of : Counts → Tables → St.State
ground_of c g = Fi.set_code (bytes_of g.code c.code) (Fi.set_images (images_of g.code g.places g.rows g.starts c.images) St.fresh)

grounds : (c e : Counts) (g : Tables) → e.code ≡ c.code → e.images ≡ c.images → ground_of c g ≡ ground_of e g
grounds c e g p q =
    ap (λ (n : ℕ). Fi.set_code (bytes_of g.code n) (Fi.set_images (images_of g.code g.places g.rows g.starts c.images) St.fresh)) (sym p)
    ∙ ap (λ (n : ℕ). Fi.set_code (bytes_of g.code e.code) (Fi.set_images (images_of g.code g.places g.rows g.starts n) St.fresh)) (sym q)

abbrev pub state_in : Counts → Tables → Mem → St.State
state_in c g m = state_of c m (ground_of c g)

abbrev pub ran_of : Ran → Counts → Tables → Mem → Told
ran_of r c g m = tell r.steps (result_of r.end) (state_of r.counts m (ground_of c g))

-- a run that begins, and one that goes on from here
pub begins : {c : Counts} {g : Tables} {m : Mem} → Whole c g m (ground_of c g) → Underway (state_in c g m) (run_of max_steps 0 (state_in c g m)) 0 c g m (ground_of c g)
begins w = record { left = λ z. refl; unique = λ z. z; whole = w }

pub begins_at : (k : ℕ) {c : Counts} {g : Tables} {m : Mem} {s : St.State} → Whole c g m s → Underway (state_of c m s) (run_of (max_steps - k) k (state_of c m s)) k c g m s
begins_at k w = record { left = λ z. refl; unique = λ z. z; whole = w }

-- the same code and images, so the same tables at hand
pub whole_here : (c : Counts) {e : Counts} {g : Tables} {m : Mem} → Whole e g m (ground_of c g) → e.code ≡ c.code → e.images ≡ c.images → Whole e g m (ground_of e g)
whole_here c {e} {g} {m} w p q = subst (λ (s : St.State). Whole e g m s) (grounds c e g p q) w

-- what a run leaves: the stores whole, the code and the images as many as before, and no place where no frame stands
pub record Leaves (c e : Counts) (g : Tables) (m : Mem) : Type 0 where
  pub placed : Placed e.depths
  pub whole : Whole e g m (ground_of c g)
  pub code : e.code ≡ c.code
  pub images : e.images ≡ c.images
