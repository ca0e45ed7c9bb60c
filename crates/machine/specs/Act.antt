-- What the machine can do to its state: an act. Each has the error of 000 that stops it, the space questions that it asks, in document 01's
-- order, what it leaves, and the texts that it brings. Every instruction and every host call is made of acts (Program.antt).
-- Assumes nothing.
use Rattle.std.specs.Prelude.{Bool, true, false, List, [], ◌∷◌, ◌++◌, ℕ, ◌+◌, ◌-◌, ◌/◌, ◌%◌, leb, ltb, length, take, drop as List·drop, set, replicate}
use Rattle.std.proofs.Math.Option.{Option, none, some}
use Rattle.machine.specs.Basic.{lowest, sum_of}
use Rattle.std.specs.Prelude.{if◌then◌else◌}
use Rattle.machine.specs.Value.{Text, Value, undefined, number, text}
use Rattle.machine.specs.Image.{Template, Constant, Read, image}
use Rattle.machine.specs.Number as N
use Rattle.machine.specs.State.{State, Bytes, Frame, Handler, Kind, ordinary, array, Property, kept, Global}
use Rattle.machine.specs.State.{bytes, next_text, is_pair, is_named, has_property, has_global, change_first, top_at, end_of, operand_limit}
use Rattle.machine.specs.State.{Store, code_store, image_store, frame_store, slot_store, handler_store, function_store, object_store, property_store, global_store, text_store, output_store}
use Rattle.machine.specs.Convert.{length_key}
use Rattle.machine.specs.Fields.{set_code, set_images, set_operands, set_slots, set_frames, set_handlers, set_functions, set_objects, set_properties, set_globals, set_text, set_output}
use Rattle.machine.specs.Error.{JsVmError, stack_underflow, stack_overflow, no_call_frame}

-- A value as the host gives it: a value (a text by its handle), or a text as its bytes.
pub data Given : Type 0 where
  plain : Value → Given
  as_bytes : List ℕ → Given

pub data Act : Type 0 where
  push : Value → Act
  drop : Act
  -- n operands off, or all where fewer stand
  drop_many : ℕ → Act
  -- the top frame's `ip`
  jump : ℕ → Act
  -- a frame for a template of an image, at its first byte, with these slots
  push_frame : ℕ → ℕ → List Value → Act
  -- the top frame off, with its slots and its handlers
  pop_frame : Act
  -- a value into a slot of the top frame, which grows to have it
  store : ℕ → Value → Act
  -- a handler with its catch place
  push_handler : ℕ → Act
  pop_handler : Act
  -- the newest handler off, and operands and frames cut to the counts that it saved
  unwind : Act
  -- a function: an image and a template
  add_function : ℕ → ℕ → Act
  add_object : Act
  -- an array with these elements
  add_array : List Value → Act
  -- a property of an object: its key's bytes, its value
  put_property : ℕ → List ℕ → Value → Act
  -- a global: its name's bytes, its value
  put_global : List ℕ → Given → Act
  -- a text, by its bytes
  keep_text : List ℕ → Act
  -- a line of output
  print : List ℕ → Act
  -- an image, by its bytes
  load : List ℕ → Act
  empty_output : Act

-- The parts of some acts

abbrev pub rest : {A : Type 0} → List A → List A
rest [] = []
rest (x ∷ xs) = xs

-- Only these frames stand, with their slots.
abbrev pub keep_frames : List Frame → State → State
keep_frames fs s = set_frames fs (set_slots (take (end_of fs) s.slots) s)

-- A handler is dropped when the frames standing fall below the number that it saved: the handlers that are left over n frames. No older one saved
-- more than a newer one (Demand3), so those that go are the newest.
abbrev pub pending_over : ℕ → List Handler → List Handler
pending_over n [] = []
pending_over n (h ∷ hs) = if leb h.frames n then h ∷ hs else pending_over n hs

-- Only these frames stand, with their slots and handlers.
abbrev pub leave : List Frame → State → State
leave fs s = set_handlers (pending_over (length fs) s.handlers) (keep_frames fs s)

abbrev pub unwind_to : List Handler → State → State
unwind_to [] s = s
unwind_to (h ∷ hs) s = set_operands (lowest h.operands s.operands) (set_handlers hs (keep_frames (lowest h.frames s.frames) s))

-- How many slots a frame lacks to have slot i, and the frame with n more.
abbrev pub lacking : ℕ → Frame → ℕ
lacking i f = (i + 1) - f.count

abbrev pub lacking_top : ℕ → List Frame → ℕ
lacking_top i [] = 0
lacking_top i (f ∷ fs) = lacking i f

abbrev pub grown : ℕ → Frame → Frame
grown n f = record { image = f.image; template = f.template; ip = f.ip; base = f.base; count = f.count + n }

abbrev pub store_in : ℕ → Value → List Frame → State → State
store_in i v [] s = s
store_in i v (f ∷ fs) s =
    set_frames (grown (lacking i f) f ∷ fs) (set_slots (set (s.slots ++ replicate (lacking i f) undefined) (f.base + i) v) s)

abbrev pub add_kind : Kind → State → State
add_kind k s = set_objects (s.objects ++ k ∷ []) s

abbrev pub add_text : List ℕ → State → State
add_text bs s = set_text (s.text ++ bs) s

-- A new property; its key is kept.
abbrev pub add_property : ℕ → List ℕ → Value → State → State
add_property o k v s = set_properties (s.properties ++ record { owner = o; key = next_text s (length k); value = v } ∷ []) (add_text k s)

abbrev pub with_value : Value → Property → Property
with_value v p = record { owner = p.owner; key = p.key; value = v }

-- A key that is there gets another value; a new one is kept.
abbrev pub set_property : Bool → ℕ → List ℕ → Value → State → State
set_property true o k v s = set_properties (change_first (is_pair (bytes s) o k) (with_value v) s.properties) s
set_property false o k v s = add_property o k v s

-- An array's keys and values: its elements from number i on, then its length.
abbrev pub elements : ℕ → List Value → List (List ℕ × Value)
elements i [] = (length_key, number (N.whole i)) ∷ []
elements i (v ∷ vs) = (N.decimal i, v) ∷ elements (i + 1) vs

abbrev pub add_properties : ℕ → List (List ℕ × Value) → State → State
add_properties o [] s = s
add_properties o (kv ∷ kvs) s = add_properties o kvs (add_property o kv.0 kv.1 s)

-- What is kept of a name: nothing where the global is there already.
abbrev pub new_name : Bool → List ℕ → List ℕ
new_name true n = []
new_name false n = n

abbrev pub given_bytes : Given → List ℕ
given_bytes (plain v) = []
given_bytes (as_bytes bs) = bs

-- The value in a state whose next text is the one given as bytes.
abbrev pub given_value : Given → State → Value
given_value (plain v) s = v
given_value (as_bytes bs) s = text (next_text s (length bs))

abbrev pub with_global : Value → Global → Global
with_global v g = record { name = g.name; value = v }

abbrev pub bind : Bool → Bytes → List ℕ → Text → Value → List Global → List Global
bind true m n t v gs = change_first (is_named m n) (with_global v) gs
bind false m n t v gs = gs ++ record { name = kept t; value = v } ∷ []

-- The name, if it is new, is kept before a text given as bytes.
abbrev pub set_global : Bool → List ℕ → Given → State → State
set_global there n g s =
    let named = add_text (new_name there n) s in
    set_globals (bind there (bytes s) n (next_text s (length n)) (given_value g named) s.globals) (add_text (given_bytes g) named)

-- A printed line: its length in two bytes, then its bytes.
abbrev pub line : List ℕ → List ℕ
line bs = (length bs / 256) ∷ (length bs % 256) ∷ bs

-- The templates of an image that is to stand at the end of the code store; none where it is refused.
abbrev pub templates_read : Read (List Template) → List Template
templates_read (Read.refused n) = []
templates_read (Read.got ts at rest) = ts

abbrev pub templates_in : State → List ℕ → List Template
templates_in s bs = templates_read (image (length s.code) bs)

-- What an act leaves.
abbrev pub apply : Act → State → State
apply (push v) s = set_operands (v ∷ s.operands) s
apply drop s = set_operands (rest s.operands) s
apply (drop_many n) s = set_operands (List·drop n s.operands) s
apply (jump p) s = set_frames (top_at p s.frames) s
apply (push_frame i t vs) s =
    set_frames (record { image = i; template = t; ip = 0; base = length s.slots; count = length vs } ∷ s.frames) (set_slots (s.slots ++ vs) s)
apply pop_frame s = leave (rest s.frames) s
apply (store i v) s = store_in i v s.frames s
apply (push_handler p) s = set_handlers (record { catch = p; operands = length s.operands; frames = length s.frames } ∷ s.handlers) s
apply pop_handler s = set_handlers (rest s.handlers) s
apply unwind s = unwind_to s.handlers s
apply (add_function i t) s = set_functions (s.functions ++ record { image = i; template = t } ∷ []) s
apply add_object s = add_kind ordinary s
apply (add_array vs) s = add_properties (length s.objects) (elements 0 vs) (add_kind array s)
apply (put_property o k v) s = set_property (has_property s o k) o k v s
apply (put_global n g) s = set_global (has_global s n) n g s
apply (keep_text bs) s = add_text bs s
apply (print bs) s = set_output (s.output ++ line bs) s
apply (load bs) s = set_code (s.code ++ bs) (set_images (s.images ++ templates_in s bs ∷ []) s)
apply empty_output s = set_output [] s

-- The error of 000 that stops an act before its space questions: 15, 16 and 20. A handler saves at least its own frame: EnterTry's operand has
-- asked for one already.
abbrev pub or_else : {A : Type 0} → JsVmError → List A → Option JsVmError
or_else e [] = some e
or_else e (x ∷ xs) = none

abbrev pub error : Act → State → Option JsVmError
error (push v) s = if ltb (length s.operands) operand_limit then none else some stack_overflow
error drop s = or_else stack_underflow s.operands
error (drop_many n) s = none
error (jump p) s = none
error (push_frame i t vs) s = none
error pop_frame s = none
error (store i v) s = none
error (push_handler p) s = or_else no_call_frame s.frames
error pop_handler s = none
error unwind s = none
error (add_function i t) s = none
error add_object s = none
error (add_array vs) s = none
error (put_property o k v) s = none
error (put_global n g) s = none
error (keep_text bs) s = none
error (print bs) s = none
error (load bs) s = none
error empty_output s = none

-- A space question: a store, and the amount that the act would add to its use.
pub record Need : Type 0 where
  pub of : Store
  pub amount : ℕ

abbrev pub need : Store → ℕ → Need
need q n = record { of = q; amount = n }

abbrev pub unless : Bool → ℕ → ℕ
unless true n = 0
unless false n = n

-- The space questions of an act, in document 01's order. An amount of 0 always fits.
abbrev pub needs : Act → State → List Need
needs (push v) s = []
needs drop s = []
needs (drop_many n) s = []
needs (jump p) s = []
needs (push_frame i t vs) s = need frame_store 1 ∷ need slot_store (length vs) ∷ []
needs pop_frame s = []
needs (store i v) s = need slot_store (lacking_top i s.frames) ∷ []
needs (push_handler p) s = need handler_store 1 ∷ []
needs pop_handler s = []
needs unwind s = []
needs (add_function i t) s = need function_store 1 ∷ []
needs add_object s = need object_store 1 ∷ []
needs (add_array vs) s =
    need object_store 1 ∷ need property_store (length vs + 1) ∷ need text_store (sum_of (λ kv. length kv.0) (elements 0 vs)) ∷ []
needs (put_property o k v) s =
    need property_store (unless (has_property s o k) 1) ∷ need text_store (unless (has_property s o k) (length k)) ∷ []
needs (put_global n g) s =
    need global_store (unless (has_global s n) 1) ∷ need text_store (unless (has_global s n) (length n) + length (given_bytes g)) ∷ []
needs (keep_text bs) s = need text_store (length bs) ∷ []
needs (print bs) s = need output_store (2 + length bs) ∷ []
needs (load bs) s = need code_store (length bs) ∷ need image_store 1 ∷ []
needs empty_output s = []

-- A held text: its handle and the bytes that it came with.
pub record Held : Type 0 where
  pub text : Text
  pub bytes : List ℕ

abbrev pub next_held : State → List ℕ → Held
next_held s bs = record { text = next_text s (length bs); bytes = bs }

-- of the properties that `add_properties` adds
abbrev pub held_keys : ℕ → List (List ℕ × Value) → State → List Held
held_keys o [] s = []
held_keys o (kv ∷ kvs) s = next_held s kv.0 ∷ held_keys o kvs (add_property o kv.0 kv.1 s)

abbrev pub held_new : Bool → List ℕ → State → List Held
held_new true bs s = []
held_new false bs s = next_held s bs ∷ []

abbrev pub held_given : Given → State → List Held
held_given (plain v) s = []
held_given (as_bytes bs) s = next_held s bs ∷ []

-- The texts of an image's constants, with the bytes that were loaded. The image starts at `at` in the code store.
abbrev pub held_constant : ℕ → List ℕ → Constant → List Held
held_constant at bs (Constant.number n) = []
held_constant at bs (Constant.text t) = record { text = t; bytes = take t.size (List·drop (t.at - at) bs) } ∷ []
held_constant at bs (Constant.boolean b) = []
held_constant at bs Constant.null = []
held_constant at bs Constant.undefined = []
held_constant at bs (Constant.function t) = []

abbrev pub flat_map : {A B : Type 0} → (A → List B) → List A → List B
flat_map f [] = []
flat_map f (x ∷ xs) = f x ++ flat_map f xs

abbrev pub held_image : ℕ → List ℕ → List Template → List Held
held_image at bs ts = flat_map (λ t. flat_map (held_constant at bs) t.constants) ts

-- The texts that an act brings.
abbrev pub brings : Act → State → List Held
brings (push v) s = []
brings drop s = []
brings (drop_many n) s = []
brings (jump p) s = []
brings (push_frame i t vs) s = []
brings pop_frame s = []
brings (store i v) s = []
brings (push_handler p) s = []
brings pop_handler s = []
brings unwind s = []
brings (add_function i t) s = []
brings add_object s = []
brings (add_array vs) s = held_keys (length s.objects) (elements 0 vs) (add_kind array s)
brings (put_property o k v) s = held_new (has_property s o k) k s
brings (put_global n g) s = held_new (has_global s n) n s ++ held_given g (add_text (new_name (has_global s n) n) s)
brings (keep_text bs) s = next_held s bs ∷ []
brings (print bs) s = []
brings (load bs) s = held_image (length s.code) bs (templates_in s bs)
brings empty_output s = []
