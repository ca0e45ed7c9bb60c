-- What a list of host calls comes to, as one list of bytes: the answers and, after each run, everything that the engine holds. The Rust
-- of documents 000 to 002 writes the same list (tests/oracle). Assumes nothing.
use Rattle.std.specs.Prelude.{Bool, true, false, ◌&&◌, ◌||◌, List, [], ◌∷◌, ◌++◌, ℕ, zero, suc, ◌+◌, ◌/◌, ◌%◌, ltb, eqb, length, take, drop}
use Rattle.machine.specs.Basic.{same}
use Rattle.std.specs.Prelude.{if◌then◌else◌}
use Rattle.machine.specs.Value.{Value}
use Rattle.machine.specs.State.{State, Frame, Handler, Function, Kind, Property, Global, Bytes, bytes, fresh, bytes_of, name_bytes}
use Rattle.machine.specs.Error.{JsVmError, error_number}
use Rattle.machine.specs.Program.{End}
use Rattle.machine.specs.Run.{Result, end_number}
use Rattle.machine.specs.Host.{Call, Answer, perform}

-- The bytes of a number, the highest first, in front of a list; k of them.
abbrev wide_onto : ℕ → ℕ → List ℕ → List ℕ
wide_onto zero n bs = bs
wide_onto (suc k) n bs = wide_onto k (n / 256) ((n % 256) ∷ bs)

-- The 16 bytes of a number, the highest first, in front of a list. Each is taken from the literal itself: a chain of divisions would be slow.
abbrev row : ℕ → List ℕ → List ℕ
row n bs =
    n / 0x1000000000000000000000000000000
    ∷ n / 0x10000000000000000000000000000 % 256
    ∷ n / 0x100000000000000000000000000 % 256
    ∷ n / 0x1000000000000000000000000 % 256
    ∷ n / 0x10000000000000000000000 % 256
    ∷ n / 0x100000000000000000000 % 256
    ∷ n / 0x1000000000000000000 % 256
    ∷ n / 0x10000000000000000 % 256
    ∷ n / 0x100000000000000 % 256
    ∷ n / 0x1000000000000 % 256
    ∷ n / 0x10000000000 % 256
    ∷ n / 0x100000000 % 256
    ∷ n / 0x1000000 % 256
    ∷ n / 0x10000 % 256
    ∷ n / 0x100 % 256
    ∷ n % 256
    ∷ bs

abbrev rows : List ℕ → List ℕ
rows [] = []
rows (n ∷ ns) = row n (rows ns)

-- The first k bytes of numbers of 16 bytes each.
abbrev pub hex : ℕ → List ℕ → List ℕ
hex k ns = take k (rows ns)

abbrev word : ℕ → List ℕ
word n = wide_onto 2 n []

abbrev long : ℕ → List ℕ
long n = wide_onto 8 n []

-- Bytes with their count.
abbrev counted : List ℕ → List ℕ
counted bs = word (length bs) ++ bs

-- The elements of a list, each as bytes, with their count.
abbrev each : {A : Type 0} → (A → List ℕ) → List A → List ℕ
each f [] = []
each f (x ∷ xs) = f x ++ each f xs

abbrev listed : {A : Type 0} → (A → List ℕ) → List A → List ℕ
listed f xs = word (length xs) ++ each f xs

abbrev flag : Bool → ℕ
flag true = 1
flag false = 0

abbrev value_of : Bytes → Value → List ℕ
value_of m Value.undefined = 0 ∷ []
value_of m Value.null = 1 ∷ []
value_of m (Value.boolean b) = 2 ∷ flag b ∷ []
value_of m (Value.number n) = 3 ∷ long n
value_of m (Value.text t) = 4 ∷ counted (bytes_of m t)
value_of m (Value.object o) = 5 ∷ long o
value_of m (Value.function f) = 6 ∷ long f

-- A key or a name with its value.
abbrev Entry : Type 0
Entry = List ℕ × Value

-- In the order of a BTreeMap: by bytes, a text before those that it begins.
abbrev before : List ℕ → List ℕ → Bool
before [] ys = true
before (x ∷ xs) [] = false
before (x ∷ xs) (y ∷ ys) = ltb x y || (eqb x y && before xs ys)

abbrev insert : Entry → List Entry → List Entry
insert e [] = e ∷ []
insert e (f ∷ fs) = let more = insert e fs in if before e.0 f.0 then e ∷ f ∷ fs else f ∷ more

abbrev sorted : List Entry → List Entry
sorted [] = []
sorted (e ∷ es) = insert e (sorted es)

abbrev entry_of : Bytes → Entry → List ℕ
entry_of m e = counted e.0 ++ value_of m e.1

abbrev globals_of : Bytes → List Global → List Entry
globals_of m [] = []
globals_of m (g ∷ gs) = (name_bytes m g.name, g.value) ∷ globals_of m gs

-- The properties of one object.
abbrev properties_of : Bytes → ℕ → List Property → List Entry
properties_of m o [] = []
properties_of m o (p ∷ ps) =
    let more = properties_of m o ps in
    if eqb p.owner o then (bytes_of m p.key, p.value) ∷ more else more

abbrev kind_of : Kind → ℕ
kind_of Kind.ordinary = 0
kind_of Kind.array = 1

-- The objects from number o on.
abbrev objects_of : Bytes → List Property → ℕ → List Kind → List ℕ
objects_of m ps o [] = []
objects_of m ps o (k ∷ ks) = kind_of k ∷ (listed (entry_of m) (sorted (properties_of m o ps)) ++ objects_of m ps (o + 1) ks)

abbrev frame_of : Bytes → List Value → Frame → List ℕ
frame_of m vs f = f.image ∷ f.template ∷ (word f.ip ++ listed (value_of m) (take f.count (drop f.base vs)))

abbrev handler_of : Handler → List ℕ
handler_of h = word h.catch ++ word h.operands ++ word h.frames

abbrev function_of : Function → List ℕ
function_of f = f.image ∷ f.template ∷ []

-- Operands, frames and handlers have their newest first.
abbrev state_of : State → List ℕ
state_of s =
    let m = bytes s in
    listed (value_of m) s.operands
    ++ listed (frame_of m s.slots) s.frames
    ++ listed handler_of s.handlers
    ++ listed function_of s.functions
    ++ word (length s.objects) ++ objects_of m s.properties 0 s.objects
    ++ listed (entry_of m) (sorted (globals_of m s.globals))
    ++ counted s.output
    ++ word (length s.slots) ++ word (length s.text)

-- What an error carries: 13 the byte, and 17 the thrown value.
abbrev carried : Bytes → JsVmError → List ℕ
carried m JsVmError.execution_limit_exceeded = []
carried m (JsVmError.unknown_opcode b) = b ∷ []
carried m JsVmError.ip_out_of_bounds = []
carried m JsVmError.stack_underflow = []
carried m JsVmError.stack_overflow = []
carried m (JsVmError.uncaught_exception v) = value_of m v
carried m JsVmError.not_callable = []
carried m JsVmError.invalid_function_id = []
carried m JsVmError.no_call_frame = []

abbrev end_of : Bytes → Result → List ℕ
end_of m (Result.ended (End.finished v)) = 0 ∷ value_of m v
end_of m (Result.ended (End.failed e)) = error_number e ∷ carried m e
end_of m (Result.full q) = end_number (Result.full q) ∷ []

-- What a call answers; after a run, what it leaves too.
abbrev answer_of : State → Answer → List ℕ
answer_of s (Answer.refusal n) = 1 ∷ n ∷ []
answer_of s (Answer.numbered n) = 2 ∷ word n
answer_of s Answer.done = 3 ∷ []
answer_of s (Answer.valued v) = 4 ∷ value_of (bytes s) v
answer_of s (Answer.ran e n) = 5 ∷ (end_of (bytes s) e ++ wide_onto 3 n [] ++ state_of s)
answer_of s (Answer.wrote bs) = 6 ∷ counted bs

-- The calls of a list, each on the state that the last one left.
abbrev answers : State → List Call → List ℕ
answers s [] = []
answers s (c ∷ cs) = let d = perform c s in answer_of d.after d.answer ++ answers d.after cs

abbrev pub summary : List Call → List ℕ
summary cs = answers fresh cs

-- The machine's definitions and the Rust agree on these calls.
abbrev pub agrees : List Call → List ℕ → Bool
agrees cs expected = same (summary cs) expected
