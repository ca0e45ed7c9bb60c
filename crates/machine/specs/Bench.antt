-- The bench sheet of document 01: its starred rows as one theorem, its sample image, and the other rows that compute. Assumes nothing.
use Rattle.std.specs.Prelude.{◌≡◌, refl, List, [], ◌∷◌, ◌++◌, ℕ, zero, suc, ◌+◌, ◌-◌, ◌*◌, ◌^◌, length, replicate}
use Rattle.machine.specs.Ascii.{ascii}
use Rattle.machine.specs.Number as N
use Rattle.machine.specs.NumberText.{original_text}
use Rattle.machine.specs.Value.{Value}
use Rattle.machine.specs.State.{State, Store, bytes, fresh, property}
use Rattle.machine.specs.Convert.{length_key, to_js_string}
use Rattle.machine.specs.Error.{JsVmError}
use Rattle.machine.specs.Fields.{set_operands}
use Rattle.machine.specs.Act.{apply, Act}
use Rattle.machine.specs.Program.{exec, make, next, End, How, went}
use Rattle.machine.specs.Instruction.{create_array, set_property, instruction}
use Rattle.machine.specs.Run.{Result, Ran, step_limit, end_number, end_value}
use Rattle.machine.specs.Host.{Call, Answer, perform, leaves}
use Rattle.machine.specs.Opcodes.{Row, row, row_of}

-- A negative number's bits.
abbrev minus : ℕ → ℕ
minus n = 2 ^ 64 - n

-- What CreateArray 3 leaves over one operand.
abbrev array_made : State
array_made = (exec (create_array 3) (apply (Act.push (Value.number 5)) fresh)).state

-- An image of one template, without constants and with less than 256 bytes of code.
abbrev coded : List ℕ → List ℕ
coded code = 0 ∷ 1 ∷ 0 ∷ 0 ∷ 0 ∷ 0 ∷ 0 ∷ 0 ∷ 0 ∷ length code ∷ code

-- What `runimage` prints: load and run of an image on a fresh engine.
pub record Report : Type 0 where
  pub end : ℕ
  pub steps : ℕ
  pub operands : ℕ
  pub frames : ℕ
  pub handlers : ℕ
  pub value : List ℕ

abbrev reported : Answer → State → Report
reported (Answer.refusal n) s = record
    { end = n; steps = 0; operands = length s.operands; frames = length s.frames; handlers = length s.handlers; value = ascii "undefined" }
reported (Answer.ran e n) s = record {
  end = end_number e;
  steps = n;
  operands = length s.operands;
  frames = length s.frames;
  handlers = length s.handlers;
  value = to_js_string (bytes s) (end_value e);
}
reported (Answer.numbered n) s = record { end = 0; steps = 0; operands = 0; frames = 0; handlers = 0; value = [] }
reported Answer.done s = record { end = 0; steps = 0; operands = 0; frames = 0; handlers = 0; value = [] }
reported (Answer.valued v) s = record { end = 0; steps = 0; operands = 0; frames = 0; handlers = 0; value = [] }
reported (Answer.wrote bs) s = record { end = 0; steps = 0; operands = 0; frames = 0; handlers = 0; value = [] }

abbrev ran_loaded : Answer → State → Report
ran_loaded (Answer.refusal n) s = reported (Answer.refusal n) s
ran_loaded (Answer.numbered i) s = let d = perform (Call.run i) s in reported d.answer d.after
ran_loaded Answer.done s = reported Answer.done s
ran_loaded (Answer.valued v) s = reported (Answer.valued v) s
ran_loaded (Answer.ran e n) s = reported (Answer.ran e n) s
ran_loaded (Answer.wrote bs) s = reported (Answer.wrote bs) s

abbrev pub run_image : List ℕ → Report
run_image bs = let d = perform (Call.load bs) fresh in ran_loaded d.answer d.after

-- The starred rows.
pub record Starred : Type 0 where
  pub squared : N.mul 6442450944 6442450944 ≡ 9663676416
  pub mul_floor : N.mul (minus 1) 1 ≡ minus 1
  pub div_cut : N.div (minus 1) (2 * N.one) ≡ 0
  pub div_wraps : N.div (2 ^ 63) (minus N.one) ≡ 2 ^ 63
  pub neg_least : N.neg (2 ^ 63) ≡ 2 ^ 63
  pub read_least : N.parse_js_number (ascii "-2147483648") ≡ 2 ^ 63
  pub read_wraps : N.parse_js_number (ascii "4294967297") ≡ N.one
  pub read_minus : N.parse_js_number (ascii "-") ≡ 0
  pub read_plus : N.parse_js_number (ascii "+5") ≡ N.nan
  -- as change 4 amends the row
  pub write_half : N.format_js_number (minus (2 ^ 31)) ≡ ascii "-0.5"
  pub write_raw : N.format_js_number 1 ≡ ascii "0"
  pub write_minus_raw : N.format_js_number (minus 1) ≡ ascii "0"
  pub shift : N.shift_left N.one (33 * N.one) ≡ 2 * N.one
  pub array_first : property array_made 0 (ascii "0") ≡ Value.number 5
  pub array_second : property array_made 0 (ascii "1") ≡ Value.undefined
  pub array_third : property array_made 0 (ascii "2") ≡ Value.undefined
  pub array_length : property array_made 0 length_key ≡ Value.number (3 * N.one)
  pub array_left : array_made.operands ≡ Value.object 0 ∷ []
  pub empty_code : run_image (coded []) ≡ record { end = 0; steps = 2; operands = 0; frames = 0; handlers = 0; value = ascii "undefined" }

pub starred : Starred
unfolding step_limit
starred = record {
  squared = refl;
  mul_floor = refl;
  div_cut = refl;
  div_wraps = refl;
  neg_least = refl;
  read_least = refl;
  read_wraps = refl;
  read_minus = refl;
  read_plus = refl;
  write_half = refl;
  write_raw = refl;
  write_minus_raw = refl;
  shift = refl;
  array_first = refl;
  array_second = refl;
  array_third = refl;
  array_length = refl;
  array_left = refl;
  empty_code = refl;
}

-- The sample image prints `end 0 steps 4 operands 0 frames 1 handlers 0 value 7`.
abbrev sample : List ℕ
sample =
    0x00 ∷ 0x01 ∷ 0x00 ∷ 0x00 ∷ 0x00 ∷ 0x00 ∷ 0x00 ∷ 0x01 ∷ 0x00 ∷ 0x00 ∷ 0x00 ∷ 0x00 ∷ 0x07 ∷ 0x00
    ∷ 0x00 ∷ 0x00 ∷ 0x00 ∷ 0x00 ∷ 0x09 ∷ 0x4B ∷ 0x00 ∷ 0x08 ∷ 0x00 ∷ 0x00 ∷ 0x00 ∷ 0x4A ∷ 0xFF ∷ 0xFF ∷ []

pub sample_runs : run_image sample ≡ record { end = 0; steps = 4; operands = 0; frames = 1; handlers = 0; value = ascii "7" }
unfolding step_limit
sample_runs = refl

-- The other rows.

abbrev empty_array : State
empty_array = (exec (create_array 0) fresh).state

-- The length of an empty array after a store at a key.
abbrev length_after : List ℕ → Value
length_after k = property (exec (set_property (Value.object 0) k Value.null) empty_array).state 0 length_key

abbrev operands : ℕ → State
operands n = set_operands (replicate n Value.null) fresh

abbrev framed : State
framed = apply (Act.push_frame 0 0 []) fresh

pub record Unstarred : Type 0 where
  pub plus_five : length_after (ascii "+5") ≡ Value.number (6 * N.one)
  pub wraps : length_after (ascii "4294967296") ≡ Value.number N.one
  pub room : (exec (instruction 70) (operands 1023)).how ≡ went
  pub full : (exec (instruction 70) (operands 1024)).how ≡ How.ended (End.failed JsVmError.stack_overflow)
  pub keeps_object : length (exec (instruction 60) (operands 1024)).state.objects ≡ 1
  pub keeps_object_ends : (exec (instruction 60) (operands 1024)).how ≡ How.ended (End.failed JsVmError.stack_overflow)
  pub last_slot : length (exec (make (Act.store 2047 Value.null) next) framed).state.slots ≡ 2048
  pub no_slot : (exec (make (Act.store 2048 Value.null) next) framed).how ≡ How.refused Store.slot_store

pub unstarred : Unstarred
unstarred = record { plus_five = refl; wraps = refl; room = refl; full = refl; keeps_object = refl; keeps_object_ends = refl; last_slot = refl; no_slot = refl }

-- Twelve handlers stand, and the thirteenth EnterTry is refused.
abbrev tries : ℕ → List ℕ
tries zero = []
tries (suc n) = 0x4B ∷ 0x00 ∷ 0x00 ∷ tries n

pub record Twelve : Type 0 where
  pub last : (run_image (coded (tries 12))).end ≡ 0
  pub refused : run_image (coded (tries 13)) ≡ record { end = 22; steps = 13; operands = 0; frames = 1; handlers = 12; value = ascii "undefined" }
  -- a whole EnterTry is asked: a cut operand is 14 first
  pub cut : (run_image (coded (tries 12 ++ 0x4B ∷ 0x00 ∷ []))).end ≡ 14

pub twelve : Twelve
unfolding step_limit
twelve = record { last = refl; refused = refl; cut = refl }

-- An image of two templates, of which the first has one constant, the second as a function.
abbrev calling : List ℕ → List ℕ → List ℕ
calling chunk callee =
    0 ∷ 2 ∷ 0 ∷ 0 ∷ 0 ∷ 0 ∷ 0 ∷ 1 ∷ 5 ∷ 0 ∷ 1 ∷ 0 ∷ length chunk ∷ chunk
    ++ 0 ∷ 0 ∷ 0 ∷ 0 ∷ 0 ∷ 0 ∷ 0 ∷ length callee ∷ callee

-- Hex 46 4B 00 00 33: a Return out of a guarded block.
abbrev returning : List ℕ
returning = 0x46 ∷ 0x4B ∷ 0x00 ∷ 0x00 ∷ 0x33 ∷ []

-- A handler goes with its function. A Return that gives 15, and a Halt, drop none.
pub record Guarded : Type 0 where
  pub ran_off : run_image (coded (0x4B ∷ 0x00 ∷ 0x00 ∷ [])) ≡ record { end = 0; steps = 3; operands = 0; frames = 0; handlers = 0; value = ascii "undefined" }
  pub all_go : run_image (coded (tries 12)) ≡ record { end = 0; steps = 14; operands = 0; frames = 0; handlers = 0; value = ascii "undefined" }
  pub returned : run_image (coded returning) ≡ record { end = 0; steps = 4; operands = 0; frames = 0; handlers = 0; value = ascii "undefined" }
  pub not_returned : run_image (coded (0x4B ∷ 0x00 ∷ 0x00 ∷ 0x33 ∷ [])) ≡ record { end = 15; steps = 2; operands = 0; frames = 1; handlers = 1; value = ascii "undefined" }
  pub halted : run_image (coded (0x4B ∷ 0x00 ∷ 0x00 ∷ 0xFF ∷ [])) ≡ record { end = 0; steps = 2; operands = 0; frames = 1; handlers = 1; value = ascii "undefined" }
  -- a Throw after the call: caught by the caller's handler, at the Halt; by none where the caller has none
  pub caught : run_image (calling (0x4B ∷ 0x00 ∷ 0x09 ∷ 0x00 ∷ 0x00 ∷ 0x00 ∷ 0x32 ∷ 0x00 ∷ 0x4A ∷ 0xFF ∷ []) returning)
      ≡ record { end = 0; steps = 8; operands = 0; frames = 1; handlers = 0; value = ascii "undefined" }
  pub uncaught : run_image (calling (0x00 ∷ 0x00 ∷ 0x00 ∷ 0x32 ∷ 0x00 ∷ 0x4A ∷ []) returning)
      ≡ record { end = 17; steps = 6; operands = 0; frames = 1; handlers = 0; value = ascii "undefined" }

pub guarded : Guarded
unfolding step_limit
guarded = record { ran_off = refl; all_go = refl; returned = refl; not_returned = refl; halted = refl; caught = refl; uncaught = refl }

-- Six digits are cut off the magnitude, and zero is judged after the cut. So raw 1 and raw -1 name element 0, and one half names no element.
abbrev element : ℕ → State
element n = (exec (instruction 7) (set_operands (Value.number n ∷ array_made.operands) array_made)).state

pub record Fractions : Type 0 where
  pub below : N.format_js_number 4294 ≡ ascii "0"
  pub first : N.format_js_number 4295 ≡ ascii "0.000001"
  pub first_below : N.format_js_number (minus 4295) ≡ ascii "-0.000001"
  pub minus_one : N.format_js_number (minus N.one) ≡ ascii "-1"
  pub minus_one_half : N.format_js_number (minus (N.one + 2 ^ 31)) ≡ ascii "-1.5"
  pub one_and_raw : N.format_js_number (N.one + 1) ≡ ascii "1"
  pub least : N.format_js_number (2 ^ 63) ≡ ascii "-2147483648"
  pub most : N.format_js_number (2 ^ 63 - 2) ≡ ascii "2147483647.999999"
  pub not_anumber : N.format_js_number N.nan ≡ ascii "NaN"
  -- 000's texts, by the row as it stood
  pub original_half : original_text (minus (2 ^ 31)) ≡ ascii "-1.5"
  pub original_raw : original_text 1 ≡ ascii "0."
  pub raw_element : (element 1).operands ≡ Value.number 5 ∷ []
  pub minus_raw_element : (element (minus 1)).operands ≡ Value.number 5 ∷ []
  pub half_element : (element (2 ^ 31)).operands ≡ Value.undefined ∷ []
  pub raw_stretches : length_after (N.format_js_number (5 * N.one + 1)) ≡ Value.number (6 * N.one)

pub fractions : Fractions
fractions = record {
  below = refl;
  first = refl;
  first_below = refl;
  minus_one = refl;
  minus_one_half = refl;
  one_and_raw = refl;
  least = refl;
  most = refl;
  not_anumber = refl;
  original_half = refl;
  original_raw = refl;
  raw_element = refl;
  minus_raw_element = refl;
  half_element = refl;
  raw_stretches = refl;
}

-- Change 6: the rows that document 02 speaks of, and one with operand bytes.
abbrev row_of_byte : ℕ → Row
row_of_byte b = row_of (instruction b)

pub record OpcodeRows : Type 0 where
  pub load_const : row_of_byte 0 ≡ row 2 0 1
  pub create_array : row_of_byte 61 ≡ row 1 254 1
  pub call : row_of_byte 50 ≡ row 1 254 1
  pub throw : row_of_byte 74 ≡ row 0 1 0
  pub return : row_of_byte 51 ≡ row 0 1 0
  pub halt : row_of_byte 255 ≡ row 0 0 0
  pub dup : row_of_byte 81 ≡ row 0 0 1
  pub unknown : row_of_byte 9 ≡ row 255 255 255

pub opcode_rows : OpcodeRows
opcode_rows = record { load_const = refl; create_array = refl; call = refl; throw = refl; return = refl; halt = refl; dup = refl; unknown = refl }

-- A step that goes on and leaves the state as it was is made until the limit.
pub record Limited (r : Ran) (n : ℕ) : Type 0 where
  pub made : r.made ≡ n
  pub result : r.result ≡ Result.ended (End.failed JsVmError.execution_limit_exceeded)

-- Code hex 28 00 00, a jump to itself: 12 after 100,000 steps (proofs/Bench, `jumps`).
abbrev pub jumping : State
jumping = leaves fresh (Call.load (coded (0x28 ∷ 0x00 ∷ 0x00 ∷ [])) ∷ [])
