-- DEMAND 3 OF THE ENGINE: one claim about lists of calls, from what clear gives, on stores that nobody else writes meanwhile.
-- How it is tied to the code: the `ensures` of each public function is a `Called` of its call, that of clear a `Clears`, and `Does` has just these two.
-- So a list of calls that were made is a `Made`, step by step by what the functions ensure. Assumes nothing.
use Rattle.std.specs.Prelude.{Bool, true, List, [], ◌∷◌, ◌≡◌, refl, ℕ, zero, suc, ◌+◌, ◌*◌, length, Result, Ok, Err}
use Rattle.std.proofs.Common.{sym, ap, subst, ◌∙◌}
use Rattle.machine.specs.State as St
use Rattle.machine.specs.State.{State, fresh}
use Rattle.machine.specs.Host as H
use Rattle.machine.specs.Host.{perform, history, leaves}
use Rattle.machine.specs.Demand3 as Machine
use Rattle.machine.proofs.Engine as Machine-as-Engine
use Rattle.machine.proofs.Unique.{Unique, unique_fresh, unique_perform}
use Rattle.value.specs.Lists.{stack_none, stack_suc, stack_length, row_length}
use Rattle.stacks.specs.Layout.{frames_at}
use Rattle.stacks.specs.View.{frame_at, frames_of}
use Rattle.stacks.specs.Laws.{top_length}
use Rattle.heapops.specs.declared.Counts.{Counts}
use Rattle.heapops.specs.Turns.{Mem}
use Rattle.finish.specs.Parts.{Tables}
use Rattle.run.specs.Runs.{state_in, Placed}
use Rattle.host.specs.Calls.{sizes_right, lent, Stands, Rests, Called, Clears, answer_of_changed, counts_of_changed}
use Rattle.host.specs.Lent.{lent_sizes, images_length}
use Rattle.host.specs.declared.refusal.Refusal.{Refusal}

-- what a host has between two calls: the counts of the last answer, and the stores
pub record Engine : Type 0 where
  pub counts : Counts
  pub tables : Tables
  pub mem : Mem

abbrev pub engine : Counts → Tables → Mem → Engine
engine c g m = record { counts = c; tables = g; mem = m }

-- The engine holds a state of the machine.
pub record Holds (e : Engine) (s : State) : Type 0 where
  pub right : lent e.counts e.tables e.mem ≡ true
  pub stands : Stands e.counts e.tables
  pub state : state_in e.counts e.tables e.mem ≡ s
  pub unique : Unique s
  pub placed : Placed e.counts.depths

-- What a call rests on, it has.
rests : (e : Engine) (s : State) (call : H.Call) → Holds e s → Rests call e.counts e.tables e.mem
rests e s (H.load bs) h = h.stands
rests e s (H.register i t) h = tt
rests e s (H.set_global n v) h = tt
rests e s (H.read_global n) h = tt
rests e s (H.run i) h = subst Unique (sym h.state) h.unique
rests e s (H.text v n) h = tt
rests e s (H.drain n) h = tt
rests e s H.clear h = tt

-- A call, its answer and what it leaves, as the contracts say. Clear takes no counts; where it is refused, those that stood still do.
pub data Does : Engine → H.Call → H.Answer → Engine → Type 0 where
  called : {e e' : Engine} {call : H.Call} {a : H.Answer} → Called call e.counts e.tables e.mem a e'.counts e'.tables e'.mem → Does e call a e'
  cleared : {e e' : Engine} {a : H.Answer} (r : Result Counts Refusal) → Clears e.tables e.mem r e'.tables e'.mem → a ≡ answer_of_changed r → e'.counts ≡ counts_of_changed e.counts r
      → Does e H.clear a e'

-- what clear gives, over stores of listed size
module _ {g g' : Tables} {m m' : Mem} where
  pub clear_holds : {c : Counts} → Clears g m (Ok c) g' m' → Holds (engine c g' m') fresh
  clear_holds k = record { right = k.told.1; stands = k.told.2; state = k.told.0; unique = unique_fresh; placed = k.told.3 }

  clears : (r : Result Counts Refusal) (c₀ c : Counts) (a : H.Answer) (s : State) → sizes_right g m ≡ true → Clears g m r g' m' → a ≡ answer_of_changed r → c ≡ counts_of_changed c₀ r
      → (a ≡ (perform H.clear s).answer) × Holds (engine c g' m') (perform H.clear s).after
  clears (Ok d) c₀ c a s l k p q = (p, rw q (clear_holds k))
  clears (Err x) c₀ c a s l k p q = absurd (k.granted l x refl)

-- A call over an engine that holds a state does as the machine.
pub meets : (e e' : Engine) (s : State) (call : H.Call) (a : H.Answer) → Holds e s → Does e call a e' → (a ≡ (perform call s).answer) × Holds e' (perform call s).after
meets e e' s call a h (called k) =
    let x = k.machine (λ l. rests e s call h) in
    let y = k.stands h.right h.stands in
    let p : H.perform_on (lent e.counts e.tables e.mem) call (state_in e.counts e.tables e.mem) ≡ perform call s =
    ap (λ (b : Bool). H.perform_on b call (state_in e.counts e.tables e.mem)) h.right ∙ ap (perform call) h.state in (
      sym x.0 ∙ ap (λ (d : H.Called). d.answer) p,
      record {
        right = y.0;
        stands = y.1;
        state = sym x.1 ∙ ap (λ (d : H.Called). d.after) p;
        unique = unique_perform call s h.unique;
        placed = k.placed h.placed;
      },
    )
meets e e' s call a h (cleared r k p q) = clears r e.counts e'.counts a s (lent_sizes {c = e.counts} {g = e.tables} {m = e.mem} (record { right = h.right })) k p q

-- calls made one after another, each on what the last one left
abbrev pub Made : Engine → List H.Call → List H.Answer → Engine → Type 0
Made = Machine-as-Engine.Made Engine Holds Does meets

-- The counts are what the state has of each store, and the place of its newest frame: none of them is left open.
abbrev place_of : List St.Frame → ℕ
place_of [] = 0
place_of (f ∷ fs) = f.ip

abbrev pub counts_of : State → Counts
counts_of s = record {
  depths = record { operands = length s.operands; slots = length s.slots; frames = length s.frames; handlers = length s.handlers; ip = place_of s.frames };
  sizes = record { functions = length s.functions; objects = length s.objects; properties = length s.properties; globals = length s.globals };
  code = length s.code;
  images = length s.images;
  text = length s.text;
  output = length s.output;
}

place_told : (w : List ℕ) (n p : ℕ) → (n ≡ 0 → p ≡ 0) → p ≡ place_of (frames_of w n p)
place_told w zero p h = rw (stack_none (λ i. frame_at w (frames_at + 5 * i))) (h refl)
place_told w (suc n) p h = rw (stack_suc (λ i. frame_at w (frames_at + 5 * i)) n) refl

counts_in : (c : Counts) (g : Tables) (m : Mem) → Placed c.depths → c ≡ counts_of (state_in c g m)
counts_in c g m h =
    let s = state_in c g m in
    let d = c.depths in
    let z = c.sizes in
    let operands : d.operands ≡ length s.operands = rw stack_length in
    let slots : d.slots ≡ length s.slots = rw row_length in
    let frames : d.frames ≡ length s.frames = rw (top_length, stack_length) in
    let handlers : d.handlers ≡ length s.handlers = rw stack_length in
    let place : d.ip ≡ place_of s.frames = place_told m.stacks d.frames d.ip h.place in
    let functions : z.functions ≡ length s.functions = rw row_length in
    let objects : z.objects ≡ length s.objects = rw row_length in
    let properties : z.properties ≡ length s.properties = rw row_length in
    let globals : z.globals ≡ length s.globals = rw row_length in
    let code : c.code ≡ length s.code = rw row_length in
    let images : c.images ≡ length s.images = sym (images_length g c.images) in
    let text : c.text ≡ length s.text = rw row_length in
    let output : c.output ≡ length s.output = rw row_length in
    λ i. record {
      depths = record { operands = operands i; slots = slots i; frames = frames i; handlers = handlers i; ip = place i };
      sizes = record { functions = functions i; objects = objects i; properties = properties i; globals = globals i };
      code = code i;
      images = images i;
      text = text i;
      output = output i;
    }

pub counts_told : {e : Engine} {s : State} → Holds e s → e.counts ≡ counts_of s
counts_told {e} {s} h = counts_in e.counts e.tables e.mem h.placed ∙ ap counts_of h.state

-- THE CLAIM, over any stores of listed size that were cleared: demand 3 holds of every list of the calls, with any arguments; the engine's answers are the
-- machine's, and so is what its stores then hold, and how much of each it says is in use.
pub demand3 : {g g' : Tables} {m m' : Mem} {c : Counts} {calls : List H.Call} {answers : List H.Answer} {e : Engine}
    → Clears g m (Ok c) g' m' → Made (engine c g' m') calls answers e
    → Machine.Demand3 calls × (answers ≡ Machine-as-Engine.answers (history fresh calls)) × Holds e (leaves fresh calls) × (e.counts ≡ counts_of (leaves fresh calls))
demand3 k r = let d = Machine-as-Engine.engine Engine Holds Does meets (clear_holds k) r in (d.0, d.1, d.2, counts_told d.2)
