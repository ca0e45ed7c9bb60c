-- The tally of use, by the rules of document 01 ("Use, from the calls since a clear"). It is fed each call with its arguments and, for a run,
-- the acts of the machine's steps. It has no state of the machine's to look at, so no count of the machine's can reach it. Assumes nothing.
use Rattle.std.specs.Prelude.{Bool, true, false, ◌&&◌, List, [], ◌∷◌, ◌++◌, ℕ, ◌+◌, ◌-◌, min, max, leb, eqb, length}
use Rattle.machine.specs.Basic.{same, filter, lowest, sum}
use Rattle.machine.specs.Value.{Value}
use Rattle.machine.specs.State.{Store, code_store, image_store, frame_store, slot_store, handler_store, function_store, object_store, property_store, global_store, text_store, output_store, console_name, any}
use Rattle.machine.specs.Act.{Act, push, drop, drop_many, jump, push_frame, pop_frame, store, push_handler, pop_handler, unwind, add_function, add_object, add_array, put_property, put_global, keep_text, print, load, empty_output, Given, given_bytes, elements, rest}
use Rattle.machine.specs.Program.{Event, asked, did, How, went, ended, refused}

pub record Pair : Type 0 where
  pub object : ℕ
  pub key : List ℕ

-- What an EnterTry saved: its catch place, and the operands and the frames that stood there, as tallied.
pub record Saved : Type 0 where
  pub catch : ℕ
  pub operands : ℕ
  pub frames : ℕ

pub record Tally : Type 0 where
  pub code : ℕ
  pub images : ℕ
  pub operands : ℕ
  -- the slots of each standing frame, the newest first
  pub frames : List ℕ
  -- what each standing handler saved, the newest first
  pub handlers : List Saved
  pub functions : ℕ
  pub objects : ℕ
  -- the distinct (object, key) pairs, and the distinct names
  pub pairs : List Pair
  pub names : List (List ℕ)
  pub text : ℕ
  pub output : ℕ

-- Fresh or cleared: globals are 1 and the rest 0.
abbrev pub nothing : Tally
nothing = record {
  code = 0;
  images = 0;
  operands = 0;
  frames = [];
  handlers = [];
  functions = 0;
  objects = 0;
  pairs = [];
  names = console_name ∷ [];
  text = 0;
  output = 0;
}

abbrev pub use_of : Tally → Store → ℕ
use_of t code_store = t.code
use_of t image_store = t.images
use_of t frame_store = length t.frames
use_of t slot_store = sum t.frames
use_of t handler_store = length t.handlers
use_of t function_store = t.functions
use_of t object_store = t.objects
use_of t property_store = length t.pairs
use_of t global_store = length t.names
use_of t text_store = t.text
use_of t output_store = t.output

-- The tally with another field

abbrev pub tally_code : ℕ → Tally → Tally
tally_code x t = record { code = x; images = t.images; operands = t.operands; frames = t.frames; handlers = t.handlers; functions = t.functions; objects = t.objects; pairs = t.pairs; names = t.names; text = t.text; output = t.output }

abbrev pub tally_images : ℕ → Tally → Tally
tally_images x t = record { code = t.code; images = x; operands = t.operands; frames = t.frames; handlers = t.handlers; functions = t.functions; objects = t.objects; pairs = t.pairs; names = t.names; text = t.text; output = t.output }

abbrev pub tally_operands : ℕ → Tally → Tally
tally_operands x t = record { code = t.code; images = t.images; operands = x; frames = t.frames; handlers = t.handlers; functions = t.functions; objects = t.objects; pairs = t.pairs; names = t.names; text = t.text; output = t.output }

abbrev pub tally_frames : List ℕ → Tally → Tally
tally_frames x t = record { code = t.code; images = t.images; operands = t.operands; frames = x; handlers = t.handlers; functions = t.functions; objects = t.objects; pairs = t.pairs; names = t.names; text = t.text; output = t.output }

abbrev pub tally_handlers : List Saved → Tally → Tally
tally_handlers x t = record { code = t.code; images = t.images; operands = t.operands; frames = t.frames; handlers = x; functions = t.functions; objects = t.objects; pairs = t.pairs; names = t.names; text = t.text; output = t.output }

abbrev pub tally_functions : ℕ → Tally → Tally
tally_functions x t = record { code = t.code; images = t.images; operands = t.operands; frames = t.frames; handlers = t.handlers; functions = x; objects = t.objects; pairs = t.pairs; names = t.names; text = t.text; output = t.output }

abbrev pub tally_objects : ℕ → Tally → Tally
tally_objects x t = record { code = t.code; images = t.images; operands = t.operands; frames = t.frames; handlers = t.handlers; functions = t.functions; objects = x; pairs = t.pairs; names = t.names; text = t.text; output = t.output }

abbrev pub tally_pairs : List Pair → Tally → Tally
tally_pairs x t = record { code = t.code; images = t.images; operands = t.operands; frames = t.frames; handlers = t.handlers; functions = t.functions; objects = t.objects; pairs = x; names = t.names; text = t.text; output = t.output }

abbrev pub tally_names : List (List ℕ) → Tally → Tally
tally_names x t = record { code = t.code; images = t.images; operands = t.operands; frames = t.frames; handlers = t.handlers; functions = t.functions; objects = t.objects; pairs = t.pairs; names = x; text = t.text; output = t.output }

abbrev pub tally_text : ℕ → Tally → Tally
tally_text x t = record { code = t.code; images = t.images; operands = t.operands; frames = t.frames; handlers = t.handlers; functions = t.functions; objects = t.objects; pairs = t.pairs; names = t.names; text = x; output = t.output }

abbrev pub tally_output : ℕ → Tally → Tally
tally_output x t = record { code = t.code; images = t.images; operands = t.operands; frames = t.frames; handlers = t.handlers; functions = t.functions; objects = t.objects; pairs = t.pairs; names = t.names; text = t.text; output = x }

-- What the rules of use add

abbrev pub is_key : ℕ → List ℕ → Pair → Bool
is_key o k p = eqb p.object o && same p.key k

-- The bytes of a text.
abbrev pub add_bytes : List ℕ → Tally → Tally
add_bytes bs t = tally_text (t.text + length bs) t

-- A new (object, key) pair or name is charged with its bytes.
abbrev pub add_pair : ℕ → List ℕ → Tally → Tally
add_pair o k t = tally_pairs (t.pairs ++ record { object = o; key = k } ∷ []) (add_bytes k t)

abbrev pub add_name : List ℕ → Tally → Tally
add_name n t = tally_names (t.names ++ n ∷ []) (add_bytes n t)

abbrev pub add_pairs : ℕ → List (List ℕ × Value) → Tally → Tally
add_pairs o [] t = t
add_pairs o (kv ∷ kvs) t = add_pairs o kvs (add_pair o kv.0 t)

abbrev pub put_pair : Bool → ℕ → List ℕ → Tally → Tally
put_pair true o k t = t
put_pair false o k t = add_pair o k t

abbrev pub put_name : Bool → List ℕ → Tally → Tally
put_name true n t = t
put_name false n t = add_name n t

-- A name, if it is new, and the bytes of a text given as bytes.
abbrev pub add_given : List ℕ → Given → Tally → Tally
add_given n g t = add_bytes (given_bytes g) (put_name (any (λ m. same m n) t.names) n t)

-- The top frame has slot i.
abbrev pub reach : ℕ → List ℕ → List ℕ
reach i [] = []
reach i (n ∷ ns) = max n (i + 1) ∷ ns

-- A frame is taken off, and with it each handler that saved more frames than are left.
abbrev pub left : List ℕ → Tally → Tally
left ns t = tally_handlers (filter (λ h. leb h.frames (length ns)) t.handlers) (tally_frames ns t)

-- A Throw takes the newest handler, and cuts operands and frames to the lowest that it saved.
abbrev pub unwound : List Saved → Tally → Tally
unwound [] t = t
unwound (h ∷ hs) t = tally_operands (min h.operands t.operands) (tally_handlers hs (tally_frames (lowest h.frames t.frames) t))

-- What an act adds or takes off.
abbrev pub count : Act → Tally → Tally
count (push v) t = tally_operands (t.operands + 1) t
count drop t = tally_operands (t.operands - 1) t
count (drop_many n) t = tally_operands (t.operands - n) t
count (jump p) t = t
count (push_frame i k vs) t = tally_frames (length vs ∷ t.frames) t
count pop_frame t = left (rest t.frames) t
count (store i v) t = tally_frames (reach i t.frames) t
count (push_handler p) t = tally_handlers (record { catch = p; operands = t.operands; frames = length t.frames } ∷ t.handlers) t
count pop_handler t = tally_handlers (rest t.handlers) t
count unwind t = unwound t.handlers t
count (add_function i k) t = tally_functions (t.functions + 1) t
count add_object t = tally_objects (t.objects + 1) t
count (add_array vs) t = add_pairs t.objects (elements 0 vs) (tally_objects (t.objects + 1) t)
count (put_property o k v) t = put_pair (any (is_key o k) t.pairs) o k t
count (put_global n g) t = add_given n g t
count (keep_text bs) t = add_bytes bs t
count (print bs) t = tally_output (t.output + (2 + length bs)) t
count (load bs) t = tally_code (t.code + length bs) (tally_images (t.images + 1) t)
count empty_output t = tally_output 0 t

-- The acts of some events, and of an instruction: one whose refusal restores the state changes nothing.
abbrev pub counted : Tally → List Event → Tally
counted t [] = t
counted t (asked a n b ∷ es) = counted t es
counted t (did a hs ∷ es) = counted (count a t) es

abbrev pub unless_refused : How → Tally → Tally → Tally
unless_refused went before t = t
unless_refused (ended e) before t = t
unless_refused (refused q) before t = before
