-- Change 2 of document 02: the image writer. The host lends a buffer and keeps the writer between the calls. Assumes nothing.
use Rattle.std.specs.Prelude.{Bool, true, false, ◌&&◌, List, [], ◌∷◌, ◌++◌, ℕ, ◌+◌, ◌-◌, leb, length, take, drop}
use Rattle.std.proofs.Math.Option.{Option, none, some}
use Rattle.machine.specs.Host.{ask}
use Rattle.machine.specs.Format.{Constant, Template, word, constant_bytes}

pub data Call : Type 0 where
  begin : Call
  -- parameters and locals
  template : ℕ → ℕ → Call
  constant : Constant → Call
  code : List ℕ → Call
  finish : Call

-- Before a begin; begun, with no template; a template is open for constants and code; its code has come; the image is finished.
pub data Stage : Type 0 where
  unbegun begun opened coded finished : Stage

-- What the host keeps: the bytes written, the templates, where the newest one starts, and its constants.
pub record Writer : Type 0 where
  pub stage : Stage
  pub size : ℕ
  pub templates : ℕ
  pub at : ℕ
  pub constants : ℕ

abbrev pub unused : Writer
unused = record { stage = unbegun; size = 0; templates = 0; at = 0; constants = 0 }

-- Question 34: does the call come in its order, and do its counts and lengths have two bytes?

abbrev pub underway : Stage → Bool
underway unbegun = false
underway begun = true
underway opened = true
underway coded = true
underway finished = false

abbrev pub is_open : Stage → Bool
is_open unbegun = false
is_open begun = false
is_open opened = true
is_open coded = false
is_open finished = false

abbrev pub in_order : Call → Stage → Bool
in_order begin g = true
in_order (template p l) g = underway g
in_order (constant c) g = is_open g
in_order (code bs) g = is_open g
in_order finish g = underway g

abbrev pub small : ℕ → Bool
small n = leb n 65535

abbrev pub small_constant : Constant → Bool
small_constant (Constant.number n) = true
small_constant (Constant.text bs) = small (length bs)
small_constant (Constant.boolean b) = true
small_constant Constant.null = true
small_constant Constant.undefined = true
small_constant (Constant.function t) = small t

abbrev pub counts_fit : Call → Writer → Bool
counts_fit begin w = true
counts_fit (template p l) w = small (w.templates + 1) && small p && small l
counts_fit (constant c) w = small (w.constants + 1) && small_constant c
counts_fit (code bs) w = small (length bs)
counts_fit finish w = true

-- What an accepted call leaves of the writer.
abbrev pub after : Call → Writer → Writer
after begin w = record { stage = begun; size = 2; templates = 0; at = 0; constants = 0 }
after (template p l) w = record { stage = opened; size = w.size + 8; templates = w.templates + 1; at = w.size; constants = 0 }
after (constant c) w = record {
  stage = opened;
  size = w.size + length (constant_bytes c);
  templates = w.templates;
  at = w.at;
  constants = w.constants + 1;
}
after (code bs) w = record { stage = coded; size = w.size + length bs; templates = w.templates; at = w.at; constants = w.constants }
after finish w = record { stage = finished; size = w.size; templates = w.templates; at = w.at; constants = w.constants }

-- Question 31: is the buffer, which is n bytes long, long enough? Begin needs 2 bytes, a template 8, a constant and code their own, finish none.
abbrev pub room_for : Call → Writer → ℕ → Bool
room_for begin w n = leb 2 n
room_for (template p l) w n = leb (w.size + 8) n
room_for (constant c) w n = leb (w.size + length (constant_bytes c)) n
room_for (code bs) w n = leb (w.size + length bs) n
room_for finish w n = true

-- 34 is asked before 31.
abbrev pub question : Call → Writer → ℕ → Option ℕ
question c w n = ask 34 (in_order c w.stage && counts_fit c w) (ask 31 (room_for c w n) none)

-- xs with bs from place `at` on
abbrev pub overwrite : List ℕ → ℕ → List ℕ → List ℕ
overwrite xs at bs = take at xs ++ bs ++ drop (at + length bs) xs

-- What an accepted call writes. A template has its code's count from the start; a constant goes before that count, which moves behind it, and the
-- code takes its place.
abbrev pub write : Call → Writer → List ℕ → List ℕ
write begin w b = overwrite b 0 (word 0)
write (template p l) w b = overwrite (overwrite b w.size (word p ++ word l ++ word 0 ++ word 0)) 0 (word (w.templates + 1))
write (constant c) w b = overwrite (overwrite b (w.size - 2) (constant_bytes c ++ word 0)) (w.at + 4) (word (w.constants + 1))
write (code bs) w b = overwrite b (w.size - 2) (word (length bs) ++ bs)
write finish w b = b

-- The writer and its buffer.
pub record Session : Type 0 where
  pub writer : Writer
  pub buffer : List ℕ

abbrev pub asked : Call → Session → Option ℕ
asked c d = question c d.writer (length d.buffer)

-- A refused call alters nothing.
abbrev pub performed : Option ℕ → Call → Session → Session
performed (some n) c d = d
performed none c d = record { writer = after c d.writer; buffer = write c d.writer d.buffer }

abbrev pub perform : Call → Session → Session
perform c d = performed (asked c d) c d

-- Over a writer that no call left so, a call's answer is open; it then is 34 where the open template's eight bytes are not among those written. After every
-- call they are (proofs/Writer, `always_in_place`).
abbrev pub in_place : Call → Writer → Bool
in_place begin w = true
in_place (template p l) w = true
in_place (constant c) w = leb (w.at + 8) w.size
in_place (code bs) w = leb (w.at + 8) w.size
in_place finish w = true

abbrev pub asked_on : Bool → Call → Session → Option ℕ
asked_on true c d = asked c d
asked_on false c d = some 34

abbrev pub leaves : Session → List Call → Session
leaves d [] = d
leaves d (c ∷ cs) = leaves (perform c d) cs

-- The templates that calls add: what the accepted calls since the last begin say.

abbrev pub at_last : {A : Type 0} → (A → A) → List A → List A
at_last f [] = []
at_last f (x ∷ []) = f x ∷ []
at_last f (x ∷ y ∷ ys) = x ∷ at_last f (y ∷ ys)

abbrev pub bare : ℕ → ℕ → Template
bare p l = record { parameters = p; locals = l; constants = []; code = [] }

abbrev pub with_constant : Constant → Template → Template
with_constant c t = record { parameters = t.parameters; locals = t.locals; constants = t.constants ++ c ∷ []; code = t.code }

abbrev pub with_code : List ℕ → Template → Template
with_code bs t = record { parameters = t.parameters; locals = t.locals; constants = t.constants; code = bs }

abbrev pub grow : Call → List Template → List Template
grow begin ts = []
grow (template p l) ts = ts ++ bare p l ∷ []
grow (constant c) ts = at_last (with_constant c) ts
grow (code bs) ts = at_last (with_code bs) ts
grow finish ts = ts

abbrev pub grown : Option ℕ → Call → List Template → List Template
grown (some n) c ts = ts
grown none c ts = grow c ts

abbrev pub added : Session → List Template → List Call → List Template
added d ts [] = ts
added d ts (c ∷ cs) = added (perform c d) (grown (asked c d) c ts) cs
