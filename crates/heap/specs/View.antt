-- The machine's functions, objects, properties and globals in one list of words, at the places of Layout.antt.
-- Every list of words stands for a heap, whatever its words are. Assumes nothing.
use Rattle.std.specs.Prelude.{ℕ, zero, suc, ◌+◌, ◌*◌, ◌≤◌, List, [], ◌≡◌, length, get_or, Option, Some, None, Result, Ok, Err}
use Rattle.std.proofs.Math.Option.{Option as Maybe, none, some}
use Rattle.machine.specs.Value as M
use Rattle.machine.specs.State as St
use Rattle.machine.specs.Act as A
use Rattle.machine.specs.Program.{Program, make}
use Rattle.machine.specs.Out.{Out, refused, out}
use Rattle.value.specs.Arena.{set3}
use Rattle.value.specs.Errors.{space_of}
use Rattle.value.specs.Lists.{row_of}
use Rattle.value.specs.Words.{value_at, set_value}
use Rattle.value.specs.declared.Value.{Value}
use Rattle.heap.specs.Layout.{function_limit, object_limit, property_limit, global_limit, objects_at, properties_at, globals_at, heap_words}
use Rattle.heap.specs.declared.Sizes.{Sizes}
use Rattle.heap.specs.declared.ObjectType.{ObjectType}
use Rattle.heap.specs.declared.ObjectType.TheVariants.{Ordinary, Array}
use Rattle.heap.specs.declared.Registered.{Registered}
use Rattle.value.specs.declared.Space.{Space}

unfoldable pub function_at : List ℕ → ℕ → St.Function
function_at w k = record { image = get_or w k 0; template = get_or w (k + 1) 0 }

-- 0 is an ordinary object, and any other word an array
abbrev pub kind_of : ℕ → St.Kind
kind_of zero = St.ordinary
kind_of (suc n) = St.array

unfoldable pub kind_at : List ℕ → ℕ → St.Kind
kind_at w k = kind_of (get_or w k 0)

-- A property and a global have the same row: a head, the place and the size of a key or name in the text store, a value.
pub record Row : Type 0 where
  pub head : ℕ
  pub place : ℕ
  pub size : ℕ
  pub value : M.Value

unfoldable pub row_at : List ℕ → ℕ → Row
row_at w k = record { head = get_or w k 0; place = get_or w (k + 1) 0; size = get_or w (k + 2) 0; value = value_at w (k + 3) }

unfoldable pub set_row : List ℕ → ℕ → ℕ → ℕ → ℕ → Value → List ℕ
set_row w k head place size v = set_value (set3 w k head place size) (k + 3) v

abbrev pub with_value : M.Value → Row → Row
with_value v r = record { head = r.head; place = r.place; size = r.size; value = v }

-- a text of the text store
abbrev pub made : ℕ → ℕ → M.Text
made a n = record { store = M.in_text; at = a; size = n }

-- A property's head is its owner.
abbrev pub property_of : Row → St.Property
property_of r = record { owner = r.head; key = made r.place r.size; value = r.value }

-- A global's head is 0 for a name that is kept; any other stands for `console`.
abbrev pub name_of : ℕ → ℕ → ℕ → St.Name
name_of zero a n = St.kept (made a n)
name_of (suc h) a n = St.console

abbrev pub global_of : Row → St.Global
global_of r = record { name = name_of r.head r.place r.size; value = r.value }

-- the first n rows from `base` on
abbrev pub table_of : {A : Type 0} → (Row → A) → ℕ → List ℕ → ℕ → List A
table_of f base w n = row_of n (λ i. f (row_at w (base + 6 * i)))

abbrev pub functions_of : List ℕ → ℕ → List St.Function
functions_of w n = row_of n (λ i. function_at w (0 + 2 * i))

abbrev pub objects_of : List ℕ → ℕ → List St.Kind
objects_of w n = row_of n (λ i. kind_at w (objects_at + 1 * i))

abbrev pub properties_of : List ℕ → ℕ → List St.Property
properties_of w n = table_of property_of properties_at w n

abbrev pub globals_of : List ℕ → ℕ → List St.Global
globals_of w n = table_of global_of globals_at w n

-- what stands on a heap
pub record Held : Type 0 where
  pub functions : List St.Function
  pub objects : List St.Kind
  pub properties : List St.Property
  pub globals : List St.Global

abbrev pub held_in : Sizes → List ℕ → Held
held_in z w = record { functions = functions_of w z.functions; objects = objects_of w z.objects; properties = properties_of w z.properties; globals = globals_of w z.globals }

-- a state with these functions, objects, properties and globals
abbrev pub within : List St.Function → List St.Kind → List St.Property → List St.Global → St.State → St.State
within f o p g s = record {
  code = s.code;
  images = s.images;
  operands = s.operands;
  slots = s.slots;
  frames = s.frames;
  handlers = s.handlers;
  functions = f;
  objects = o;
  properties = p;
  globals = g;
  text = s.text;
  output = s.output;
}

-- the state s with what the words w hold
abbrev pub on_heap : Sizes → List ℕ → St.State → St.State
on_heap z w s = within (functions_of w z.functions) (objects_of w z.objects) (properties_of w z.properties) (globals_of w z.globals) s

pub record Sized (z : Sizes) (w : List ℕ) : Type 0 where
  pub functions : z.functions ≤ function_limit
  pub objects : z.objects ≤ object_limit
  pub properties : z.properties ≤ property_limit
  pub globals : z.globals ≤ global_limit
  pub size : length w ≡ heap_words

-- The contract of an act on the heap: whatever program p follows, and whatever the rest of the state is, the program that makes the act and goes on as p
-- comes to what the answer says. A refusal leaves the words.
abbrev pub grown_then : Result Sizes Space → Program → List ℕ → St.State → Out
grown_then (Ok y) p w s = out p (on_heap y w s)
grown_then (Err q) p w s = refused (space_of q)

abbrev pub GrownReady : Result Sizes Space → List ℕ → List ℕ → Type 0
GrownReady (Ok y) w w' = Sized y w'
GrownReady (Err q) w w' = w' ≡ w

pub record Grows (a : A.Act) (z : Sizes) (w : List ℕ) (r : Result Sizes Space) (w' : List ℕ) : Type 0 where
  pub goes : (s : St.State) (p : Program) → out (make a p) (on_heap z w s) ≡ grown_then r p w' s
  pub ready : GrownReady r w w'

-- the sizes r and the words w' stand for the state that t gives, over any rest
pub record Gives (t : St.State → St.State) (z : Sizes) (w : List ℕ) (r : Sizes) (w' : List ℕ) : Type 0 where
  pub state : (s : St.State) → on_heap r w' s ≡ t (on_heap z w s)
  pub ready : Sized r w'

-- what is read, as the machine looks it up
abbrev pub function_in : Option Registered → Maybe St.Function
function_in (Some f) = some (record { image = f.image; template = f.template })
function_in None = none

abbrev pub kind_is : ObjectType → St.Kind
kind_is Ordinary = St.ordinary
kind_is Array = St.array

abbrev pub kind_in : Option ObjectType → Maybe St.Kind
kind_in (Some k) = some (kind_is k)
kind_in None = none

-- What clear leaves of these stores.
abbrev pub fresh_heap : St.State → St.State
fresh_heap s = within [] [] [] (St.fresh).globals s

pub record Clears (r : Sizes) (w' : List ℕ) : Type 0 where
  pub state : (s : St.State) → on_heap r w' s ≡ fresh_heap s
  pub ready : Sized r w'
