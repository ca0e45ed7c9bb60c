-- The machine's state: its stores, their limits and questions, and what is looked up in them. Assumes nothing.
-- A stack (operands, frames, handlers) has its newest element first; every other store has its oldest first.
use Rattle.std.specs.Prelude.{Bool, false, ◌&&◌, ◌||◌, List, [], ◌∷◌, ℕ, ◌+◌, ◌-◌, ◌^◌, eqb, length, take, drop, get_or}
use Rattle.machine.specs.Basic.{same}
use Rattle.std.specs.Prelude.{if◌then◌else◌}
use Rattle.machine.specs.Ascii.{ascii}
use Rattle.machine.specs.Value.{Text, Home, in_code, in_text, Value, undefined, object}
use Rattle.machine.specs.Image.{Template}

-- `CallFrame`: a frame runs a template of an image, its next instruction at `ip`. Its slots are `count` of the slot store from `base` on.
pub record Frame : Type 0 where
  pub image : ℕ
  pub template : ℕ
  pub ip : ℕ
  pub base : ℕ
  pub count : ℕ

-- `TryState`: what EnterTry saves, its catch place and the counts of operands and frames that stand there.
pub record Handler : Type 0 where
  pub catch : ℕ
  pub operands : ℕ
  pub frames : ℕ

-- A registered function: a template of an image.
pub record Function : Type 0 where
  pub image : ℕ
  pub template : ℕ

-- `ObjectType`: no instruction makes another kind.
pub data Kind : Type 0 where
  ordinary array : Kind

-- A property stands once, with its owner's id; 000 has a map in each object.
pub record Property : Type 0 where
  pub owner : ℕ
  pub key : Text
  pub value : Value

-- `console` has its name from the start; any other name is kept as a text.
pub data Name : Type 0 where
  console : Name
  kept : Text → Name

pub record Global : Type 0 where
  pub name : Name
  pub value : Value

pub record State : Type 0 where
  pub code : List ℕ
  pub images : List (List Template)
  pub operands : List Value
  pub slots : List Value
  pub frames : List Frame
  pub handlers : List Handler
  pub functions : List Function
  pub objects : List Kind
  pub properties : List Property
  pub globals : List Global
  pub text : List ℕ
  pub output : List ℕ

-- `NATIVE_CONSOLE_ID`
abbrev pub console_id : ℕ
console_id = 2 ^ 64 - 1

-- What clear gives.
abbrev pub fresh : State
fresh = record {
  code = [];
  images = [];
  operands = [];
  slots = [];
  frames = [];
  handlers = [];
  functions = [];
  objects = [];
  properties = [];
  globals = record { name = console; value = object console_id } ∷ [];
  text = [];
  output = [];
}

-- The stores that a space question is about, and the number of the question.
pub data Store : Type 0 where
  code_store image_store frame_store slot_store handler_store function_store object_store property_store global_store text_store output_store : Store

abbrev pub question : Store → ℕ
question code_store = 8
question image_store = 9
question frame_store = 11
question slot_store = 21
question handler_store = 22
question function_store = 23
question object_store = 24
question property_store = 25
question global_store = 26
question text_store = 27
question output_store = 28

-- Document 01, "Stores lent to the engine"; the handlers by change 1 of document 02.
abbrev pub limit : Store → ℕ
limit code_store = 32768
limit image_store = 16
limit frame_store = 64
limit slot_store = 2048
limit handler_store = 12
limit function_store = 1024
limit object_store = 512
limit property_store = 1024
limit global_store = 128
limit text_store = 32768
limit output_store = 8192

-- Operands are no added limit: question 16 is an error of 000.
abbrev pub operand_limit : ℕ
operand_limit = 1024

-- What a store holds.
abbrev pub used : State → Store → ℕ
used s code_store = length s.code
used s image_store = length s.images
used s frame_store = length s.frames
used s slot_store = length s.slots
used s handler_store = length s.handlers
used s function_store = length s.functions
used s object_store = length s.objects
used s property_store = length s.properties
used s global_store = length s.globals
used s text_store = length s.text
used s output_store = length s.output

-- Texts

abbrev pub of_home : Home → List ℕ → List ℕ → List ℕ
of_home in_code c x = c
of_home in_text c x = x

-- The two stores that have texts. What reads a text takes these and not the whole state: an act that leaves both alone then leaves what is
-- read alone too, by computation.
pub record Bytes : Type 0 where
  pub code : List ℕ
  pub text : List ℕ

abbrev pub bytes : State → Bytes
bytes s = record { code = s.code; text = s.text }

abbrev pub store_of : Bytes → Home → List ℕ
store_of m h = of_home h m.code m.text

abbrev pub bytes_of : Bytes → Text → List ℕ
bytes_of m t = take t.size (drop t.at (store_of m t.store))

abbrev pub console_name : List ℕ
console_name = ascii "console"

abbrev pub name_bytes : Bytes → Name → List ℕ
name_bytes m console = console_name
name_bytes m (kept t) = bytes_of m t

-- The handle of n bytes that are kept next.
abbrev pub next_text : State → ℕ → Text
next_text s n = record { store = in_text; at = length s.text; size = n }

-- Properties and globals: keys and names compare by their bytes.

abbrev pub is_pair : Bytes → ℕ → List ℕ → Property → Bool
is_pair m o k p = eqb p.owner o && same (bytes_of m p.key) k

abbrev pub is_named : Bytes → List ℕ → Global → Bool
is_named m n g = same (name_bytes m g.name) n

-- Does any element pass the test?
abbrev pub any : {A : Type 0} → (A → Bool) → List A → Bool
any f [] = false
any f (x ∷ xs) = f x || any f xs

-- What `f` gives for the first element that passes the test, or else d.
abbrev pub first : {A B : Type 0} → (A → Bool) → (A → B) → B → List A → B
first t f d [] = d
first t f d (x ∷ xs) = if t x then f x else first t f d xs

-- The list with `f` at the first element that passes the test.
abbrev pub change_first : {A : Type 0} → (A → Bool) → (A → A) → List A → List A
change_first t f [] = []
change_first t f (x ∷ xs) = if t x then f x ∷ xs else x ∷ change_first t f xs

abbrev pub has_property : State → ℕ → List ℕ → Bool
has_property s o k = any (is_pair (bytes s) o k) s.properties

abbrev pub property_in : Bytes → List Property → ℕ → List ℕ → Value
property_in m ps o k = first (is_pair m o k) (λ p. p.value) undefined ps

abbrev pub property : State → ℕ → List ℕ → Value
property s o k = property_in (bytes s) s.properties o k

abbrev pub has_global : State → List ℕ → Bool
has_global s n = any (is_named (bytes s) n) s.globals

abbrev pub global : State → List ℕ → Value
global s n = first (is_named (bytes s) n) (λ g. g.value) undefined s.globals

-- Templates and frames. What is not there is the template without code.

abbrev pub no_template : Template
no_template = record { parameters = 0; locals = 0; constants = []; at = 0; size = 0 }

abbrev pub template_of : State → ℕ → ℕ → Template
template_of s i t = get_or (get_or s.images i []) t no_template

abbrev pub running : State → Frame → Template
running s f = template_of s f.image f.template

abbrev pub set_ip : ℕ → Frame → Frame
set_ip p f = record { image = f.image; template = f.template; ip = p; base = f.base; count = f.count }

-- The frames with the top one at a place.
abbrev pub top_at : ℕ → List Frame → List Frame
top_at p [] = []
top_at p (f ∷ fs) = set_ip p f ∷ fs

-- The place after the slots of the top frame: 0 with no frame.
abbrev pub end_of : List Frame → ℕ
end_of [] = 0
end_of (f ∷ fs) = f.base + f.count
