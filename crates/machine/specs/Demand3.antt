-- Demand 3: one claim about every list of calls from a fresh engine. Assumes nothing.
use Rattle.std.specs.Prelude.{◌≡◌, ◌↔◌, Bool, true, false, List, [], ◌∷◌, ◌++◌, map, ℕ, ◌+◌, ◌*◌, ◌≤◌, ◌<◌, min, leb, eqb, length, get_or}
use Rattle.machine.specs.Basic.{filter, lowest, sum_of}
use Rattle.machine.specs.Value.{Value, Home, in_code, in_text}
use Rattle.machine.specs.State.{State, Bytes, bytes, Frame, Handler, Store, fresh, running, bytes_of, end_of, limit, used, operand_limit, set_ip, question}
use Rattle.machine.specs.Act.{Given, Held, rest}
use Rattle.machine.specs.Program.{Event, asked, did, How, went, ended, refused}
use Rattle.machine.specs.Run.{Kind, begun, run_out, no_frame, Step, Result, after}
use Rattle.machine.specs.Host.{Call, Answer, Called, history}
use Rattle.machine.specs.Tally.{Tally, Saved, nothing, use_of, tally_code, tally_images, tally_functions, tally_frames, tally_output, add_given, count, counted, unless_refused}

abbrev pub All : {A : Type 0} → (A → Type 0) → List A → Type 0
All P [] = Unit {0}
All P (x ∷ xs) = P x × All P xs

-- 1. Slots: those of each standing frame begin where those of the frame below end, the lowest at slot 0, and no other slots stand. With it: no
-- store's use is above its limit; and no pending handler saved more frames than stand. All of every state: before each call and each step, and
-- at the end.

abbrev pub Contiguous : List Frame → Type 0
Contiguous [] = Unit {0}
Contiguous (f ∷ fs) = (f.base ≡ end_of fs) × Contiguous fs

pub record Orderly (s : State) : Type 0 where
  pub contiguous : Contiguous s.frames
  pub no_others : length s.slots ≡ end_of s.frames
  pub bounded : (q : Store) → used s q ≤ limit q
  pub operands : length s.operands ≤ operand_limit
  pub handlers : All (λ h. h.frames ≤ length s.frames) s.handlers

abbrev pub OrderlyCall : Called → Type 0
OrderlyCall d = Orderly d.before × All (λ t. Orderly t.before) d.steps × Orderly d.after

-- 2. Held texts, from the load, call or instruction that brings them until the next clear. Each has the bytes that it came with before each
-- step and after each call.

abbrev pub brought_by : List Event → List Held
brought_by [] = []
brought_by (asked a n b ∷ es) = brought_by es
brought_by (did a hs ∷ es) = hs ++ brought_by es

abbrev pub unless_undone : How → List Held → List Held
unless_undone went hs = hs
unless_undone (ended e) hs = hs
unless_undone (refused q) hs = []

abbrev pub brought_in : Step → List Held
brought_in t = unless_undone t.outcome.how (brought_by t.outcome.events)

-- A handle that a host call keeps, with the bytes that it names then.
abbrev pub handle : Bytes → Value → List Held
handle m Value.undefined = []
handle m Value.null = []
handle m (Value.boolean b) = []
handle m (Value.number n) = []
handle m (Value.text t) = record { text = t; bytes = bytes_of m t } ∷ []
handle m (Value.object o) = []
handle m (Value.function f) = []

abbrev pub handle_given : Bytes → Given → List Held
handle_given m (Given.plain v) = handle m v
handle_given m (Given.as_bytes bs) = []

abbrev pub handle_of : Bytes → Call → List Held
handle_of m (Call.load bs) = []
handle_of m (Call.register i t) = []
handle_of m (Call.set_global n g) = handle_given m g
handle_of m (Call.read_global n) = []
handle_of m (Call.run i) = []
handle_of m (Call.text g n) = []
handle_of m (Call.drain n) = []
handle_of m Call.clear = []

-- What is held once a call is accepted; of a run, before its first step.
abbrev pub held_accepted : Call → List Held → List Held → List Held
held_accepted (Call.load bs) hs new = hs ++ new
held_accepted (Call.register i t) hs new = hs ++ new
held_accepted (Call.set_global n g) hs new = hs ++ new
held_accepted (Call.read_global n) hs new = hs ++ new
held_accepted (Call.run i) hs new = hs ++ new
held_accepted (Call.text g n) hs new = hs ++ new
held_accepted (Call.drain n) hs new = hs ++ new
held_accepted Call.clear hs new = []

-- One for a refused call, the other for an accepted one.
abbrev pub unless_refusal : {A : Type 0} → Answer → A → A → A
unless_refusal (Answer.refusal n) x y = x
unless_refusal (Answer.numbered n) x y = y
unless_refusal Answer.done x y = y
unless_refusal (Answer.valued v) x y = y
unless_refusal (Answer.ran e n) x y = y
unless_refusal (Answer.wrote bs) x y = y

abbrev pub held_start : List Held → Called → List Held
held_start hs d = unless_refusal d.answer hs (held_accepted d.call hs (brought_by d.events ++ handle_of (bytes d.before) d.call))

abbrev pub held_steps : List Held → List Step → List Held
held_steps hs [] = hs
held_steps hs (t ∷ ts) = held_steps (hs ++ brought_in t) ts

abbrev pub held_call : List Held → Called → List Held
held_call hs d = held_steps (held_start hs d) d.steps

abbrev pub HasBytes : State → Held → Type 0
HasBytes s h = bytes_of (bytes s) h.text ≡ h.bytes

abbrev pub TextsSteps : List Held → List Step → Type 0
TextsSteps hs [] = Unit {0}
TextsSteps hs (t ∷ ts) = All (HasBytes t.before) hs × TextsSteps (hs ++ brought_in t) ts

abbrev pub TextsCalls : List Held → List Called → Type 0
TextsCalls hs [] = Unit {0}
TextsCalls hs (d ∷ ds) =
    TextsSteps (held_start hs d) d.steps × All (HasBytes d.after) (held_call hs d) × TextsCalls (held_call hs d) ds

-- 3. Space questions, each against the tally up to there: answered no exactly where the tally and the amount are above the limit; the amount
-- is what the act adds to that use; and after a no nothing else is asked or done. What an act adds to the text store's use are the texts that it
-- brings there: no byte that is counted is of a text that is not held.

abbrev pub bytes_in : Home → ℕ → ℕ
bytes_in in_code n = 0
bytes_in in_text n = n

-- the bytes of the texts that lie in the text store
abbrev pub stored_bytes : List Held → ℕ
stored_bytes hs = sum_of (λ h. bytes_in h.text.store h.text.size) hs

abbrev pub Right : Tally → List Event → Type 0
Right t [] = Unit {0}
Right t (asked a n b ∷ es) =
    ((b ≡ false) ↔ (limit n.of < use_of t n.of + n.amount))
    × (use_of (count a t) n.of ≡ use_of t n.of + n.amount)
    × (b ≡ false → es ≡ [])
    × Right t es
Right t (did a hs ∷ es) = ((count a t).text ≡ t.text + stored_bytes hs) × Right (count a t) es

abbrev pub tally_step : Tally → Step → Tally
tally_step t p = unless_refused p.outcome.how t (counted t p.outcome.events)

abbrev pub tally_steps : Tally → List Step → Tally
tally_steps t [] = t
tally_steps t (p ∷ ps) = tally_steps (tally_step t p) ps

abbrev pub RightSteps : Tally → List Step → Type 0
RightSteps t [] = Unit {0}
RightSteps t (p ∷ ps) = Right t p.outcome.events × RightSteps (tally_step t p) ps

-- An accepted call, by its arguments; a run, before its steps.
abbrev pub tally_accepted : Call → Tally → Tally
tally_accepted (Call.load bs) t = tally_code (t.code + length bs) (tally_images (t.images + 1) t)
tally_accepted (Call.register i k) t = tally_functions (t.functions + 1) t
tally_accepted (Call.set_global n g) t = add_given n g t
tally_accepted (Call.read_global n) t = t
tally_accepted (Call.run i) t = tally_frames (0 ∷ t.frames) t
tally_accepted (Call.text g n) t = t
tally_accepted (Call.drain n) t = tally_output 0 t
tally_accepted Call.clear t = nothing

abbrev pub tally_start : Tally → Called → Tally
tally_start t d = unless_refusal d.answer t (tally_accepted d.call t)

abbrev pub RightCalls : Tally → List Called → Type 0
RightCalls t [] = Unit {0}
RightCalls t (d ∷ ds) =
    Right t d.events × RightSteps (tally_start t d) d.steps × RightCalls (tally_steps (tally_start t d) d.steps) ds

-- The texts brought since the last clear account for the text store's use: all that is held but the handles that host calls keep, which name
-- bytes that are there already.

abbrev pub kept_start : List Held → Called → List Held
kept_start hs d = unless_refusal d.answer hs (held_accepted d.call hs (brought_by d.events))

abbrev pub kept_call : List Held → Called → List Held
kept_call hs d = held_steps (kept_start hs d) d.steps

abbrev pub StoredCalls : Tally → List Held → List Called → Type 0
StoredCalls t hs [] = Unit {0}
StoredCalls t hs (d ∷ ds) =
    let u = tally_steps (tally_start t d) d.steps in (u.text ≡ stored_bytes (kept_call hs d)) × StoredCalls u (kept_call hs d) ds

-- A call or a run gives the number of a space question exactly where that question was its last and was answered no; and every step of a run
-- but the last went on.

abbrev pub refused_last : Store → List Event → Type 0
refused_last q [] = ⊥
refused_last q (asked a n b ∷ []) = (n.of ≡ q) × (b ≡ false)
refused_last q (asked a n b ∷ (e ∷ es)) = refused_last q (e ∷ es)
refused_last q (did a hs ∷ es) = refused_last q es

abbrev pub refused_at_last : Store → List Step → Type 0
refused_at_last q [] = ⊥
refused_at_last q (t ∷ []) = refused_last q t.outcome.events
refused_at_last q (t ∷ (u ∷ ts)) = refused_at_last q (u ∷ ts)

abbrev pub WentOn : List Step → Type 0
WentOn [] = Unit {0}
WentOn (t ∷ []) = Unit {0}
WentOn (t ∷ (u ∷ ts)) = (t.outcome.how ≡ went) × WentOn (u ∷ ts)

abbrev pub IsFull : Store → Result → Type 0
IsFull q (Result.ended e) = ⊥
IsFull q (Result.full p) = p ≡ q

abbrev pub RanFull : Store → Answer → Type 0
RanFull q (Answer.refusal n) = ⊥
RanFull q (Answer.numbered n) = ⊥
RanFull q Answer.done = ⊥
RanFull q (Answer.valued v) = ⊥
RanFull q (Answer.ran e n) = IsFull q e
RanFull q (Answer.wrote bs) = ⊥

pub record Honest (d : Called) : Type 0 where
  pub calls : (q : Store) → (d.answer ≡ Answer.refusal (question q)) ↔ refused_last q d.events
  pub runs : (q : Store) → RanFull q d.answer ↔ refused_at_last q d.steps
  pub went_on : WentOn d.steps

-- 4. Steps = opcodes begun + frames run out + 1 if the run finished with no frame.

abbrev pub is_begun : Kind → ℕ
is_begun (begun b) = 1
is_begun run_out = 0
is_begun no_frame = 0

abbrev pub is_run_out : Kind → ℕ
is_run_out (begun b) = 0
is_run_out run_out = 1
is_run_out no_frame = 0

abbrev pub is_no_frame : Kind → ℕ
is_no_frame (begun b) = 0
is_no_frame run_out = 0
is_no_frame no_frame = 1

abbrev pub total : (Kind → ℕ) → List Step → ℕ
total f [] = 0
total f (t ∷ ts) = f t.kind + total f ts

-- 1 if the last step is a finish with no frame
abbrev pub finish : List Step → ℕ
finish [] = 0
finish (t ∷ []) = is_no_frame t.kind
finish (t ∷ (u ∷ ts)) = finish (u ∷ ts)

abbrev pub Summed : Called → Type 0
Summed d = (e : Result) (n : ℕ) → d.answer ≡ Answer.ran e n → n ≡ total is_begun d.steps + total is_run_out d.steps + finish d.steps

-- 5. Handlers. Those that are pending are the tally's, before each step and after each call.

-- What a handler saved, as the tally has it.
abbrev pub saved_by : Handler → Saved
saved_by h = record { catch = h.catch; operands = h.operands; frames = h.frames }

abbrev pub Pending : Tally → State → Type 0
Pending k s = map saved_by s.handlers ≡ k.handlers

abbrev pub PendingSteps : Tally → List Step → Type 0
PendingSteps k [] = Unit {0}
PendingSteps k (t ∷ ts) = Pending k t.before × PendingSteps (tally_step k t) ts

abbrev pub PendingCalls : Tally → List Called → Type 0
PendingCalls k [] = Unit {0}
PendingCalls k (d ∷ ds) =
    let u = tally_steps (tally_start k d) d.steps in PendingSteps (tally_start k d) d.steps × Pending u d.after × PendingCalls u ds

-- Return, or running off the end: one that goes on has taken the newest frame off, and with it each handler that saved more frames than are
-- left, and no other.

abbrev pub takes_frame : Kind → Bool
takes_frame (begun b) = eqb b 51
takes_frame run_out = true
takes_frame no_frame = false

-- the handlers that saved at most n frames
abbrev pub saved_within : ℕ → List Handler → List Handler
saved_within n = filter (λ h. leb h.frames n)

pub record Dropped (t : Step) : Type 0 where
  pub frames : (after t.before t.outcome).frames ≡ rest t.before.frames
  pub handlers : (after t.before t.outcome).handlers ≡ saved_within (length (after t.before t.outcome).frames) t.before.handlers

abbrev pub Drops : Step → Type 0
Drops t = takes_frame t.kind ≡ true → t.outcome.how ≡ went → Dropped t

-- Throw: one that has popped its value v, with a handler pending by the tally: h is what its EnterTry saved, as tallied there. Operands are
-- cut to what h saved, or to those that stand where they are fewer; exactly the frames that h saved are left; the value is pushed, and the frame
-- then on top goes on at h's catch place; the handlers left are the tally's others.

pub record Caught (t : Step) (v : Value) (vs : List Value) (h : Saved) (hs : List Saved) : Type 0 where
  pub no_error : t.outcome.how ≡ went
  pub operands : (after t.before t.outcome).operands ≡ v ∷ lowest (min (length vs) h.operands) vs
  pub handlers : map saved_by (after t.before t.outcome).handlers ≡ hs
  pub top : Frame
  pub below : List Frame
  pub left : lowest h.frames t.before.frames ≡ top ∷ below
  pub frames : (after t.before t.outcome).frames ≡ set_ip h.catch top ∷ below
  pub saved : length (after t.before t.outcome).frames ≡ h.frames

abbrev pub Throws : Tally → Step → Type 0
Throws k t = t.kind ≡ begun 74 → (v : Value) (vs : List Value) (h : Saved) (hs : List Saved)
    → t.before.operands ≡ v ∷ vs → k.handlers ≡ h ∷ hs → Caught t v vs h hs

abbrev pub ThrowsSteps : Tally → List Step → Type 0
ThrowsSteps k [] = Unit {0}
ThrowsSteps k (t ∷ ts) = Throws k t × ThrowsSteps (tally_step k t) ts

abbrev pub ThrowsCalls : Tally → List Called → Type 0
ThrowsCalls k [] = Unit {0}
ThrowsCalls k (d ∷ ds) = ThrowsSteps (tally_start k d) d.steps × ThrowsCalls (tally_steps (tally_start k d) d.steps) ds

-- EnterTry: one that goes on saves the catch place that its operand says, and the operands and the frames that stand there.

-- the number of two bytes of code
abbrev pub word_at : List ℕ → ℕ → ℕ → ℕ
word_at code high low = get_or code high 0 * 256 + get_or code low 0

-- the operand behind the opcode at the newest frame's place
abbrev pub operand_of : State → List Frame → ℕ
operand_of s [] = 0
operand_of s (f ∷ fs) = word_at s.code ((running s f).at + (f.ip + 1)) ((running s f).at + (f.ip + 1 + 1))

abbrev pub Enters : Step → Type 0
Enters t = t.kind ≡ begun 75 → t.outcome.how ≡ went
    → (after t.before t.outcome).handlers
    ≡ record { catch = operand_of t.before t.before.frames; operands = length t.before.operands; frames = length t.before.frames } ∷ t.before.handlers

-- The claim
pub record Demand3 (calls : List Call) : Type 0 where
  pub slots : All OrderlyCall (history fresh calls)
  pub texts : TextsCalls [] (history fresh calls)
  pub space : RightCalls nothing (history fresh calls)
  pub stored : StoredCalls nothing [] (history fresh calls)
  pub refusals : All Honest (history fresh calls)
  pub sums : All Summed (history fresh calls)
  pub pending : PendingCalls nothing (history fresh calls)
  pub drops : All (λ d. All Drops d.steps) (history fresh calls)
  pub throws : ThrowsCalls nothing (history fresh calls)
  pub tries : All (λ d. All Enters d.steps) (history fresh calls)
