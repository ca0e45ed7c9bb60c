-- Module 5 of document 01: the 49 instructions, as `run_loop` of 000 says, each under its name in 001. Assumes nothing.
use Rattle.std.specs.Prelude.{Bool, true, false, not, ◌||◌, List, [], ◌∷◌, ◌++◌, reverse, ℕ, zero, suc, ◌+◌, ◌-◌, ◌*◌, ltb, eqb, length, take, get_or, replicate}
use Rattle.std.proofs.Math.Option.{Option, none, some}
use Rattle.std.proofs.Math.ListN.{get_elem?}
use Rattle.machine.specs.Basic.{same}
use Rattle.std.specs.Prelude.{if◌then◌else◌}
use Rattle.machine.specs.Number as N
use Rattle.machine.specs.Value.{Text, Value, undefined, null, boolean, number, text, object, function}
use Rattle.machine.specs.Image.{Template, Constant}
use Rattle.machine.specs.State.{State, Bytes, bytes, Property, Frame, Handler, Function, Kind, ordinary, array, no_template, running, template_of}
use Rattle.machine.specs.State.{bytes_of, next_text, property, property_in, global}
use Rattle.machine.specs.Convert.{length_key, to_boolean, to_number, to_js_string, js_typeof, is_text, strict_eq, abstract_eq, array_key, length_floor}
use Rattle.machine.specs.Error.{unknown_opcode, ip_out_of_bounds, uncaught_exception, not_callable, invalid_function_id, no_call_frame}
use Rattle.machine.specs.Act.{push, drop, drop_many, jump, push_frame, pop_frame, store, push_handler, pop_handler, unwind, add_function, add_object, add_array, put_property, put_global, keep_text, print, plain}
use Rattle.machine.specs.Program.{Program, next, end, look, make, finished, failed}

-- The parts that instructions share

abbrev pub top : List Value → Value
top [] = undefined
top (v ∷ vs) = v

-- `pop`: question 15
abbrev pub pop : (Value → Program) → Program
pop k = look λ s. make drop (k (top s.operands))

-- `push`: question 16
abbrev pub pushed : Value → Program
pushed v = make (push v) next

-- `read_byte`: the next byte of the top frame's code; questions 20 and 14
abbrev pub fetch_from : State → List Frame → (ℕ → Program) → Program
fetch_from s [] k = end (failed no_call_frame)
fetch_from s (f ∷ fs) k =
    if ltb f.ip (running s f).size
    then make (jump (f.ip + 1)) (k (get_or s.code ((running s f).at + f.ip) 0))
    else end (failed ip_out_of_bounds)

abbrev pub fetch : (ℕ → Program) → Program
fetch k = look λ s. fetch_from s s.frames k

-- `read_u16`
abbrev pub fetch_word : (ℕ → Program) → Program
fetch_word k = fetch λ hi. fetch λ lo. k (hi * 256 + lo)

-- The template that runs, its image, and the place of its next byte.
abbrev pub current : State → List Frame → Template
current s [] = no_template
current s (f ∷ fs) = running s f

abbrev pub current_image : List Frame → ℕ
current_image [] = 0
current_image (f ∷ fs) = f.image

abbrev pub current_ip : List Frame → ℕ
current_ip [] = 0
current_ip (f ∷ fs) = f.ip

abbrev pub constant_at : State → ℕ → Option Constant
constant_at s i = get_elem? (current s s.frames).constants i

-- `get_string_constant`: a text constant's bytes, else the operand in decimal
abbrev pub get_string_constant : Bytes → ℕ → Option Constant → List ℕ
get_string_constant m i none = N.decimal i
get_string_constant m i (some (Constant.number n)) = N.decimal i
get_string_constant m i (some (Constant.text t)) = bytes_of m t
get_string_constant m i (some (Constant.boolean b)) = N.decimal i
get_string_constant m i (some Constant.null) = N.decimal i
get_string_constant m i (some Constant.undefined) = N.decimal i
get_string_constant m i (some (Constant.function t)) = N.decimal i

abbrev pub fetch_name : (List ℕ → Program) → Program
fetch_name k = fetch_word λ i. look λ s. k (get_string_constant (bytes s) i (constant_at s i))

-- A new text, and what goes on with its handle: question 27
abbrev pub keeping : List ℕ → (Text → Program) → Program
keeping bs k = look λ s. make (keep_text bs) (k (next_text s (length bs)))

abbrev pub pop_two : (Bytes → Value → Value → Program) → Program
pop_two k = pop λ b. pop λ a. look λ s. k (bytes s) a b

abbrev pub binary : (Bytes → Value → Value → Value) → Program
binary f = pop_two λ m a b. pushed (f m a b)

abbrev pub arithmetic : (ℕ → ℕ → ℕ) → Program
arithmetic f = binary λ m a b. number (f (to_number m a) (to_number m b))

abbrev pub comparison : (ℕ → ℕ → Bool) → Program
comparison f = binary λ m a b. boolean (f (to_number m a) (to_number m b))

abbrev pub unary : (Bytes → Value → Value) → Program
unary f = pop λ a. look λ s. pushed (f (bytes s) a)

-- Constants, locals, globals

-- `register_function`: question 23
abbrev pub new_function : ℕ → Program
new_function t = look λ s. make (add_function (current_image s.frames) t) (pushed (function (length s.functions)))

abbrev pub load_constant : Option Constant → Program
load_constant none = pushed undefined
load_constant (some (Constant.number n)) = pushed (number n)
load_constant (some (Constant.text t)) = pushed (text t)
load_constant (some (Constant.boolean b)) = pushed (boolean b)
load_constant (some Constant.null) = pushed null
load_constant (some Constant.undefined) = pushed undefined
load_constant (some (Constant.function t)) = new_function t

abbrev pub closure : Option Constant → Program
closure none = pushed undefined
closure (some (Constant.number n)) = pushed undefined
closure (some (Constant.text t)) = pushed undefined
closure (some (Constant.boolean b)) = pushed undefined
closure (some Constant.null) = pushed undefined
closure (some Constant.undefined) = pushed undefined
closure (some (Constant.function t)) = new_function t

abbrev pub slot_in : List Value → ℕ → List Frame → Value
slot_in vs i [] = undefined
slot_in vs i (f ∷ fs) = if ltb i f.count then get_or vs (f.base + i) undefined else undefined

-- Properties

-- `get_property`
abbrev pub get_property : Bytes → List Kind → List Property → Value → List ℕ → Value
get_property m os ps undefined k = undefined
get_property m os ps null k = undefined
get_property m os ps (boolean b) k = undefined
get_property m os ps (number n) k = undefined
get_property m os ps (text t) k = if same k length_key then number (N.whole (length (bytes_of m t))) else undefined
get_property m os ps (object o) k = if ltb o (length os) then property_in m ps o k else undefined
get_property m os ps (function f) k = undefined

-- `set_property`: a numeric key of an array at or above its length sets the length to key + 1, wrapped as in 000. A store into a non-object or
-- an unknown id does nothing and asks nothing.
abbrev pub stretch : State → ℕ → Option ℕ → Program → Program
stretch s o none p = p
stretch s o (some i) p =
    if ltb i (length_floor (property s o length_key)) then p
    else make (put_property o length_key (number (N.whole (i + 1)))) p

abbrev pub set_in : State → ℕ → Option Kind → List ℕ → Value → Program
set_in s o none k v = next
set_in s o (some ordinary) k v = make (put_property o k v) next
set_in s o (some array) k v = stretch s o (array_key k) (make (put_property o k v) next)

abbrev pub set_property : Value → List ℕ → Value → Program
set_property undefined k v = next
set_property null k v = next
set_property (boolean b) k v = next
set_property (number n) k v = next
set_property (text t) k v = next
set_property (object o) k v = look λ s. set_in s o (get_elem? s.objects o) k v
set_property (function f) k v = next

-- Calls

-- n operands, the newest last
abbrev pub pop_many : ℕ → List Value → (List Value → Program) → Program
pop_many zero vs k = k vs
pop_many (suc n) vs k = pop λ v. pop_many n (v ∷ vs) k

-- The first n values, with Undefined where there are fewer.
abbrev pub exactly : ℕ → List Value → List Value
exactly zero vs = []
exactly (suc n) [] = undefined ∷ exactly n []
exactly (suc n) (v ∷ vs) = v ∷ exactly n vs

abbrev pub locals : Template → List Value → List Value
locals t args = exactly t.parameters args ++ replicate (t.locals - t.parameters) undefined

-- `call_function`: question 19, then 11 and 21
abbrev pub call_function : State → Option Function → List Value → Program
call_function s none args = end (failed invalid_function_id)
call_function s (some f) args = make (push_frame f.image f.template (locals (template_of s f.image f.template) args)) next

-- the arguments' texts, a blank between
abbrev pub joined : Bytes → List Value → List ℕ
joined m [] = []
joined m (v ∷ []) = to_js_string m v
joined m (v ∷ (w ∷ vs)) = to_js_string m v ++ 32 ∷ joined m (w ∷ vs)

-- question 18; an object, known or not, prints its arguments: question 28
abbrev pub call : Value → List Value → Program
call undefined args = end (failed not_callable)
call null args = end (failed not_callable)
call (boolean b) args = end (failed not_callable)
call (number n) args = end (failed not_callable)
call (text t) args = end (failed not_callable)
call (object o) args = look λ s. make (print (joined (bytes s) args)) (pushed undefined)
call (function f) args = look λ s. call_function s (get_elem? s.functions f) args

-- Throw: question 17

abbrev pub throw : Value → List Handler → Program
throw v [] = end (failed (uncaught_exception v))
throw v (h ∷ hs) = make unwind (make (push v) (make (jump h.catch) next))

-- `Ok` with the newest operand, or Undefined
abbrev pub finish : List Value → Program
finish [] = end (finished undefined)
finish (v ∷ vs) = make drop (end (finished v))

-- The instructions

abbrev pub Halt : Program
Halt = look λ s. finish s.operands

abbrev pub LoadConst : Program
LoadConst = fetch_word λ i. look λ s. load_constant (constant_at s i)

abbrev pub LoadLocal : Program
LoadLocal = fetch_word λ i. look λ s. pushed (slot_in s.slots i s.frames)

abbrev pub StoreLocal : Program
StoreLocal = fetch_word λ i. pop λ v. make (store i v) next

abbrev pub LoadGlobal : Program
LoadGlobal = fetch_name λ n. look λ s. pushed (global s n)

abbrev pub StoreGlobal : Program
StoreGlobal = fetch_name λ n. pop λ v. make (put_global n (plain v)) next

abbrev pub LoadProperty : Program
LoadProperty = fetch_name λ k. pop λ o. look λ s. pushed (get_property (bytes s) s.objects s.properties o k)

abbrev pub StoreProperty : Program
StoreProperty = fetch_name λ k. pop λ v. pop λ o. set_property o k v

abbrev pub LoadIndex : Program
LoadIndex = pop λ i. pop λ o. look λ s. pushed (get_property (bytes s) s.objects s.properties o (to_js_string (bytes s) i))

abbrev pub StoreIndex : Program
StoreIndex = pop λ v. pop λ i. pop λ o. look λ s. set_property o (to_js_string (bytes s) i) v

-- Arithmetic: a text on either side of Add joins; Add does not let NaN spread.

abbrev pub Add : Program
Add = pop_two λ m a b.
    if is_text a || is_text b
    then keeping (to_js_string m a ++ to_js_string m b) (λ t. pushed (text t))
    else pushed (number (N.add (to_number m a) (to_number m b)))

abbrev pub Sub : Program
Sub = arithmetic N.sub

abbrev pub Mul : Program
Mul = arithmetic N.mul

abbrev pub Div : Program
Div = arithmetic N.div

abbrev pub Mod : Program
Mod = arithmetic N.rem

abbrev pub Neg : Program
Neg = unary λ m a. number (N.neg (to_number m a))

abbrev pub Not : Program
Not = unary λ m a. boolean (not (to_boolean m a))

-- Bits

abbrev pub BitAnd : Program
BitAnd = arithmetic N.and

abbrev pub BitOr : Program
BitOr = arithmetic N.or

abbrev pub BitXor : Program
BitXor = arithmetic N.xor

abbrev pub ShiftLeft : Program
ShiftLeft = arithmetic N.shift_left

abbrev pub ShiftRight : Program
ShiftRight = arithmetic N.shift_right

-- Comparison

abbrev pub Eq : Program
Eq = binary λ m a b. boolean (abstract_eq m a b)

abbrev pub StrictEq : Program
StrictEq = binary λ m a b. boolean (strict_eq m a b)

abbrev pub NotEq : Program
NotEq = binary λ m a b. boolean (not (abstract_eq m a b))

abbrev pub StrictNotEq : Program
StrictNotEq = binary λ m a b. boolean (not (strict_eq m a b))

abbrev pub Lt : Program
Lt = comparison λ a b. N.less a b

abbrev pub Gt : Program
Gt = comparison λ a b. N.less b a

abbrev pub LtEq : Program
LtEq = comparison λ a b. N.less_eq a b

abbrev pub GtEq : Program
GtEq = comparison λ a b. N.less_eq b a

-- Both operands are popped, whatever the first one is.

abbrev pub LogicalAnd : Program
LogicalAnd = binary λ m a b. if to_boolean m a then b else a

abbrev pub LogicalOr : Program
LogicalOr = binary λ m a b. if to_boolean m a then a else b

-- Control flow

abbrev pub Jump : Program
Jump = fetch_word λ p. make (jump p) next

abbrev pub jump_if : Bool → ℕ → Program
jump_if true p = make (jump p) next
jump_if false p = next

abbrev pub JumpIfFalse : Program
JumpIfFalse = fetch_word λ p. pop λ v. look λ s. jump_if (not (to_boolean (bytes s) v)) p

abbrev pub JumpIfTrue : Program
JumpIfTrue = fetch_word λ p. pop λ v. look λ s. jump_if (to_boolean (bytes s) v) p

-- Functions: Return drops the handlers of the frame that it takes off.

abbrev pub Call : Program
Call = fetch λ n. pop_many n [] λ args. pop λ f. call f args

abbrev pub Return : Program
Return = pop λ v. make pop_frame (pushed v)

abbrev pub CreateClosure : Program
CreateClosure = fetch_word λ i. look λ s. closure (constant_at s i)

-- Objects and arrays: the object is kept before the push.

abbrev pub CreateObject : Program
CreateObject = look λ s. make add_object (pushed (object (length s.objects)))

abbrev pub create_array : ℕ → Program
create_array n = look λ s.
    make (drop_many n)
    (make (add_array (exactly n (reverse (take n s.operands)))) (pushed (object (length s.objects))))

abbrev pub CreateArray : Program
CreateArray = fetch create_array

-- Others

abbrev pub GetThis : Program
GetThis = pushed undefined

abbrev pub Typeof : Program
Typeof = pop λ v. keeping (js_typeof v) λ t. pushed (text t)

abbrev pub Instanceof : Program
Instanceof = binary λ m a b. boolean false

abbrev pub In : Program
In = binary λ m a b. boolean false

abbrev pub Throw : Program
Throw = pop λ v. look λ s. throw v s.handlers

abbrev pub EnterTry : Program
EnterTry = fetch_word λ p. make (push_handler p) next

abbrev pub LeaveTry : Program
LeaveTry = make pop_handler next

abbrev pub Pop : Program
Pop = pop λ v. next

abbrev pub Dup : Program
Dup = look λ s. pushed (top s.operands)

-- `Opcode::from_byte` of 001
abbrev pub instructions : List (ℕ × Program)
instructions =
    (0, LoadConst) ∷ (1, LoadLocal) ∷ (2, StoreLocal) ∷ (3, LoadGlobal) ∷ (4, StoreGlobal)
    ∷ (5, LoadProperty) ∷ (6, StoreProperty) ∷ (7, LoadIndex) ∷ (8, StoreIndex)
    ∷ (10, Add) ∷ (11, Sub) ∷ (12, Mul) ∷ (13, Div) ∷ (14, Mod) ∷ (15, Neg)
    ∷ (20, Not) ∷ (21, BitAnd) ∷ (22, BitOr) ∷ (23, BitXor) ∷ (24, ShiftLeft) ∷ (25, ShiftRight)
    ∷ (30, Eq) ∷ (31, StrictEq) ∷ (32, NotEq) ∷ (33, StrictNotEq) ∷ (34, Lt) ∷ (35, Gt) ∷ (36, LtEq) ∷ (37, GtEq)
    ∷ (38, LogicalAnd) ∷ (39, LogicalOr)
    ∷ (40, Jump) ∷ (41, JumpIfFalse) ∷ (42, JumpIfTrue)
    ∷ (50, Call) ∷ (51, Return) ∷ (52, CreateClosure)
    ∷ (60, CreateObject) ∷ (61, CreateArray)
    ∷ (70, GetThis) ∷ (71, Typeof) ∷ (72, Instanceof) ∷ (73, In) ∷ (74, Throw) ∷ (75, EnterTry) ∷ (76, LeaveTry)
    ∷ (80, Pop) ∷ (81, Dup) ∷ (255, Halt)
    ∷ []

-- Question 13
abbrev pub find : ℕ → List (ℕ × Program) → Program
find b [] = end (failed (unknown_opcode b))
find b (i ∷ is) = let more = find b is in if eqb b i.0 then i.1 else more

abbrev pub instruction : ℕ → Program
instruction b = find b instructions
