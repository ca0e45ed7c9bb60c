-- The methods of `JsValue` in document 000, and array keys: what a value is as a boolean, a number, a text, and when two are equal.
-- Assumes nothing.
use Rattle.std.specs.Prelude.{Bool, true, false, not, ◌&&◌, ◌||◌, List, [], ◌∷◌, ℕ, ◌+◌, ◌-◌, ◌*◌, ◌^◌, ltb, eqb, length}
use Rattle.std.proofs.Math.Option.{Option, none, some}
use Rattle.machine.specs.Basic.{same}
use Rattle.std.specs.Prelude.{if◌then◌else◌}
use Rattle.machine.specs.Ascii.{ascii}
use Rattle.machine.specs.Value.{Value, undefined, null, boolean, number, text, object, function}
use Rattle.machine.specs.State.{Bytes, bytes_of}
use Rattle.machine.specs.Number as N

abbrev pub to_boolean : Bytes → Value → Bool
to_boolean m undefined = false
to_boolean m null = false
to_boolean m (boolean b) = b
to_boolean m (number n) = not (eqb n 0) && not (eqb n N.nan)
to_boolean m (text t) = not (eqb (length (bytes_of m t)) 0)
to_boolean m (object o) = true
to_boolean m (function f) = true

abbrev pub to_number : Bytes → Value → ℕ
to_number m undefined = N.nan
to_number m null = 0
to_number m (boolean b) = if b then N.one else 0
to_number m (number n) = n
to_number m (text t) = N.parse_js_number (bytes_of m t)
to_number m (object o) = N.nan
to_number m (function f) = N.nan

abbrev pub length_key : List ℕ
length_key = ascii "length"

abbrev pub boolean_text : Bool → List ℕ
boolean_text true = ascii "true"
boolean_text false = ascii "false"

abbrev pub to_js_string : Bytes → Value → List ℕ
to_js_string m undefined = ascii "undefined"
to_js_string m null = ascii "null"
to_js_string m (boolean b) = boolean_text b
to_js_string m (number n) = N.format_js_number n
to_js_string m (text t) = bytes_of m t
to_js_string m (object o) = ascii "[object Object]"
to_js_string m (function f) = ascii "function"

abbrev pub js_typeof : Value → List ℕ
js_typeof undefined = ascii "undefined"
js_typeof null = ascii "object"
js_typeof (boolean b) = ascii "boolean"
js_typeof (number n) = ascii "number"
js_typeof (text t) = ascii "string"
js_typeof (object o) = ascii "object"
js_typeof (function f) = ascii "function"

abbrev pub is_text : Value → Bool
is_text undefined = false
is_text null = false
is_text (boolean b) = false
is_text (number n) = false
is_text (text t) = true
is_text (object o) = false
is_text (function f) = false

-- A value as its kind and its content. Two values are `strict_eq` when these are the same: the diagonal of 000's match.
pub data Seen : Type 0 where
  seen : ℕ → List ℕ → Seen

abbrev pub see : Bytes → Value → Seen
see m undefined = seen 0 []
see m null = seen 1 []
see m (boolean b) = seen 2 ((if b then 1 else 0) ∷ [])
see m (number n) = seen 3 (n ∷ [])
see m (text t) = seen 4 (bytes_of m t)
see m (object o) = seen 5 (o ∷ [])
see m (function f) = seen 6 (f ∷ [])

abbrev pub same_seen : Seen → Seen → Bool
same_seen (seen k xs) (seen l ys) = eqb k l && same xs ys

abbrev pub strict_eq : Bytes → Value → Value → Bool
strict_eq m a b = same_seen (see m a) (see m b)

-- `abstract_eq` where `strict_eq` says no: null with undefined, and a number with a text that reads as it.
abbrev pub loose_seen : Seen → Seen → Bool
loose_seen (seen k xs) (seen l ys) =
    (eqb k 0 && eqb l 1) || (eqb k 1 && eqb l 0)
    || (eqb k 3 && eqb l 4 && same xs (N.parse_js_number ys ∷ []))
    || (eqb k 4 && eqb l 3 && same (N.parse_js_number xs ∷ []) ys)

abbrev pub abstract_eq : Bytes → Value → Value → Bool
abstract_eq m a b = strict_eq m a b || loose_seen (see m a) (see m b)

-- A numeric array key (`parse::<usize>`): an optional `+` and one or more digits worth less than 2^64.
abbrev pub worth : ℕ → List ℕ → Option ℕ
worth n [] = if ltb n (2 ^ 64) then some n else none
worth n (b ∷ bs) = if N.is_digit b then worth (n * 10 + (b - 48)) bs else none

abbrev pub digits_key : List ℕ → Option ℕ
digits_key [] = none
digits_key (b ∷ bs) = worth 0 (b ∷ bs)

abbrev pub array_key : List ℕ → Option ℕ
array_key [] = none
array_key (b ∷ bs) = if eqb b 43 then digits_key bs else digits_key (b ∷ bs)

-- What `set_property` takes for an array's length: its floor as unsigned 64 bits, 0 if it is not a number.
abbrev pub length_floor : Value → ℕ
length_floor undefined = 0
length_floor null = 0
length_floor (boolean b) = 0
length_floor (number n) = N.floor_wide n
length_floor (text t) = 0
length_floor (object o) = 0
length_floor (function f) = 0
