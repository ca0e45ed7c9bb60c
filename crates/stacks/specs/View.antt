-- The machine's four stacks in one list of words: operands from 0, slots from slots_at, frames from frames_at, handlers from handlers_at.
-- Every list of words stands for stacks, whatever its words are. Assumes nothing.
use Rattle.stacks.specs.Layout.{slot_limit, frame_limit, handler_limit, slots_at, frames_at, handlers_at, stack_words}
use Rattle.machine.specs.State.{operand_limit}
use Rattle.machine.specs.Basic.{lowest}
use Rattle.std.specs.Prelude.{ℕ, ◌+◌, ◌-◌, ◌*◌, ◌≤◌, ◌<◌, max, Bool, false, List, [], ◌∷◌, ◌++◌, ◌≡◌, ltb, length, get_or, set, replicate, Option, Some, None, Result, Ok, Err}
use Rattle.value.specs.Arena.{Apart, set3}
use Rattle.machine.specs.Program.{Program, make, failed}
use Rattle.machine.specs.Error.{stack_underflow}
use Rattle.value.specs.Errors.{error_of, space_of}
use Rattle.machine.specs.Out.{Out, ended, refused, out}
use Rattle.value.specs.Words.{value_of, value_at}
use Rattle.value.specs.Lists.{stack_of, row_of}
use Rattle.stacks.specs.declared.Depths.{Depths}
use Rattle.stacks.specs.declared.Frame.{Frame}
use Rattle.stacks.specs.declared.Handler.{Handler}
use Rattle.machine.specs.Value as M
use Rattle.machine.specs.State as St
use Rattle.machine.specs.Act as A
use Rattle.machine.specs.Instruction as I
use Rattle.value.specs.declared.Value.{Value}
use Rattle.value.specs.declared.Stop.{Stop}
use Rattle.value.specs.declared.Stop.TheVariants.{Failed, Refused}

abbrev pub frame_of : Frame → St.Frame
frame_of f = record { image = f.image; template = f.template; ip = f.ip; base = f.base; count = f.count }

abbrev pub handler_of : Handler → St.Handler
handler_of h = record { catch = h.catch; operands = h.operands; frames = h.frames }

unfoldable pub frame_at : List ℕ → ℕ → St.Frame
frame_at w k = record { image = get_or w k 0; template = get_or w (k + 1) 0; ip = get_or w (k + 2) 0; base = get_or w (k + 3) 0; count = get_or w (k + 4) 0 }

unfoldable pub handler_at : List ℕ → ℕ → St.Handler
handler_at w k = record { catch = get_or w k 0; operands = get_or w (k + 1) 0; frames = get_or w (k + 2) 0 }

abbrev pub operands_of : List ℕ → ℕ → List M.Value
operands_of w n = stack_of (λ i. value_at w (0 + 3 * i)) n

abbrev pub slots_of : List ℕ → ℕ → List M.Value
slots_of w n = row_of n (λ i. value_at w (slots_at + 3 * i))

abbrev pub rows_of : List ℕ → ℕ → List St.Frame
rows_of w n = stack_of (λ i. frame_at w (frames_at + 5 * i)) n

-- the newest frame's place is among the depths
abbrev pub frames_of : List ℕ → ℕ → ℕ → List St.Frame
frames_of w n p = St.top_at p (rows_of w n)

abbrev pub handlers_of : List ℕ → ℕ → List St.Handler
handlers_of w n = stack_of (λ i. handler_at w (handlers_at + 3 * i)) n

-- a state with these stacks
abbrev pub under : List M.Value → List M.Value → List St.Frame → List St.Handler → St.State → St.State
under o l f h s = record {
  code = s.code;
  images = s.images;
  operands = o;
  slots = l;
  frames = f;
  handlers = h;
  functions = s.functions;
  objects = s.objects;
  properties = s.properties;
  globals = s.globals;
  text = s.text;
  output = s.output;
}

-- the state s with the stacks that the words w hold
abbrev pub on_stacks : Depths → List ℕ → St.State → St.State
on_stacks d w s = under (operands_of w d.operands) (slots_of w d.slots) (frames_of w d.frames d.ip) (handlers_of w d.handlers) s

pub record Ready (d : Depths) (w : List ℕ) : Type 0 where
  pub operands : d.operands ≤ operand_limit
  pub slots : d.slots ≤ slot_limit
  pub frames : d.frames ≤ frame_limit
  pub handlers : d.handlers ≤ handler_limit
  pub size : length w ≡ stack_words

-- The contract of an act. Whatever program p follows, and whatever the rest of the state is, the program that makes the act and goes on as p comes to what
-- the answer says: p goes on from the new state, or the run ended, or a store refused. An error and a refusal leave the words.
abbrev pub made_then : Result Depths Stop → Program → Depths → List ℕ → St.State → Out
made_then (Ok e) p d w s = out p (on_stacks e w s)
made_then (Err (Failed e)) p d w s = ended (failed (error_of e)) (on_stacks d w s)
made_then (Err (Refused q)) p d w s = refused (space_of q)

abbrev pub MadeReady : Result Depths Stop → List ℕ → List ℕ → Type 0
MadeReady (Ok e) w w' = Ready e w'
MadeReady (Err (Failed e)) w w' = w' ≡ w
MadeReady (Err (Refused q)) w w' = w' ≡ w

pub record Makes (a : A.Act) (d : Depths) (w : List ℕ) (r : Result Depths Stop) (w' : List ℕ) : Type 0 where
  pub goes : (s : St.State) (p : Program) → out (make a p) (on_stacks d w s) ≡ made_then r p d w' s
  pub ready : MadeReady r w w'

abbrev pub pop_then : Option (Value × Depths) → (M.Value → Program) → Depths → List ℕ → St.State → Out
pop_then (Some (v, e)) k d w s = out (k (value_of v)) (on_stacks e w s)
pop_then None k d w s = ended (failed stack_underflow) (on_stacks d w s)

abbrev pub PopReady : Option (Value × Depths) → List ℕ → Type 0
PopReady (Some (v, e)) w = Ready e w
PopReady None w = Unit {0}

-- what stood before a pop: the value on what is left, or nothing
abbrev pub PopState : Option (Value × Depths) → Depths → List ℕ → Type 0
PopState (Some (v, e)) d w = (s : St.State) → on_stacks d w s ≡ A.apply (A.push (value_of v)) (on_stacks e w s)
PopState None d w = operands_of w d.operands ≡ []

pub record Pops (d : Depths) (w : List ℕ) (r : Option (Value × Depths)) : Type 0 where
  pub state : PopState r d w
  pub ready : PopReady r w

abbrev pub top_of : Depths → List ℕ → M.Value
top_of d w = I.top (operands_of w d.operands)

-- the newest handler off, whatever the words are
pub record PopsHandler (d r : Depths) : Type 0 where
  pub state : (w : List ℕ) (s : St.State) → on_stacks r w s ≡ A.apply A.pop_handler (on_stacks d w s)
  pub ready : (w : List ℕ) → Ready d w → Ready r w

-- the same for n operands off
pub record Truncates (d : Depths) (n : ℕ) (r : Depths) : Type 0 where
  pub state : (w : List ℕ) (s : St.State) → on_stacks r w s ≡ A.apply (A.drop_many n) (on_stacks d w s)
  pub ready : (w : List ℕ) → Ready d w → Ready r w

abbrev pub slot_of : Depths → List ℕ → ℕ → M.Value
slot_of d w i = I.slot_in (slots_of w d.slots) i (frames_of w d.frames d.ip)

-- the depths r stand for the state that t gives, over any rest, and are within the stores
pub record Gives (t : St.State → St.State) (d : Depths) (w : List ℕ) (r : Depths) : Type 0 where
  pub state : (s : St.State) → on_stacks r w s ≡ t (on_stacks d w s)
  pub ready : Ready r w

abbrev pub Keeps : Depths → ℕ → ℕ → List ℕ → Depths → Type 0
Keeps d k p w r = Gives (A.keep_frames (frames_of w k p)) d w r

abbrev pub Cuts : Depths → ℕ → List ℕ → Depths → Type 0
Cuts d m w r = Gives (λ s. A.keep_frames (lowest m s.frames) s) d w r

-- did the newest handler save more than k frames?
abbrev pub saved_more : ℕ → List St.Handler → Bool
saved_more k [] = false
saved_more k (h ∷ hs) = ltb k h.frames

-- of n handlers, those that are left over k frames
pub record PendingOver (n k : ℕ) (w : List ℕ) (r : ℕ) : Type 0 where
  pub state : handlers_of w r ≡ A.pending_over k (handlers_of w n)
  pub within : r ≤ n

abbrev pub PopsFrame : Depths → List ℕ → Depths → Type 0
PopsFrame d w r = Gives (A.apply A.pop_frame) d w r

abbrev pub Unwinds : Depths → List ℕ → Depths → Type 0
Unwinds d w r = Gives (A.apply A.unwind) d w r

-- the values of the slots from n on, c of them
abbrev pub above : List ℕ → ℕ → ℕ → List M.Value
above w n c = row_of c (λ i. value_at w (slots_at + 3 * (n + i)))

-- Undefined in the slots from .. to, and every other word as it was
pub record Filled (w w' : List ℕ) (from to : ℕ) : Type 0 where
  pub values : (i : ℕ) → from ≤ i → i < to → value_at w' (slots_at + 3 * i) ≡ M.undefined
  pub apart : Apart w w' (slots_at + 3 * from) (slots_at + 3 * to)

-- the operands from .. in the slots to .., and every other word as it was
pub record Copies (w w' : List ℕ) (from to count : ℕ) : Type 0 where
  pub values : (i : ℕ) → i < count → value_at w' (slots_at + 3 * (to + i)) ≡ value_at w (3 * (from + i))
  pub apart : Apart w w' (slots_at + 3 * to) (slots_at + 3 * (to + count))

-- A called function's first slots: its parameters from `argc` operands, Undefined where there are fewer, and Undefined for its other locals.
abbrev pub arguments : List ℕ → ℕ → ℕ → List M.Value
arguments w from argc = row_of argc (λ i. value_at w (3 * (from + i)))

abbrev pub called : List ℕ → ℕ → ℕ → ℕ → ℕ → List M.Value
called w from argc params locals = I.exactly params (arguments w from argc) ++ replicate (locals - params) M.undefined

pub record Passes (w w' : List ℕ) (from argc n params locals : ℕ) : Type 0 where
  pub slots : above w' n (max params locals) ≡ called w from argc params locals
  pub apart : Apart w w' (slots_at + 3 * n) frames_at

pub record Puts (w w' : List ℕ) (n j : ℕ) (v : M.Value) : Type 0 where
  pub slots : slots_of w' n ≡ set (slots_of w n) j v
  pub apart : Apart w w' slots_at frames_at

-- the newest frame's place stands in its row
pub record Saves (d : Depths) (w w' : List ℕ) : Type 0 where
  pub rows : rows_of w' d.frames ≡ frames_of w d.frames d.ip
  pub apart : Apart w w' frames_at (frames_at + 5 * d.frames)

unfoldable pub set_frame : List ℕ → ℕ → Frame → List ℕ
set_frame w k f = set (set (set3 w k f.image f.template f.ip) (k + 3) f.base) (k + 4) f.count
