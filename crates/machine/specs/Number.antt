-- Module 1 of document 01: numbers. A number is a signed 64-bit count of 2^-32, held as its 64 bits (two's complement): a natural number
-- below 2^64. Names in quotes are those of documents 000 and 002. Assumes nothing.
use Rattle.std.specs.Prelude.{Bool, true, false, not, ◌&&◌, ◌||◌, List, [], ◌∷◌, ◌++◌, reverse, ℕ, zero, suc, ◌+◌, ◌-◌, ◌*◌, ◌/◌, ◌%◌, ◌^◌, leb, ltb, eqb}
use Rattle.std.specs.Int.Bits.{bit_and, bit_or, bit_xor}
use Rattle.std.specs.Prelude.{if◌then◌else◌}

-- `JS_ONE`
abbrev pub one : ℕ
one = 2 ^ 32

-- `JS_NAN`: it compares as that integer.
abbrev pub nan : ℕ
nan = 2 ^ 63 - 1

-- Reduced to 64 bits.
abbrev pub wrap : ℕ → ℕ
wrap n = n % 2 ^ 64

abbrev pub is_negative : ℕ → Bool
is_negative a = leb (2 ^ 63) a

-- The absolute value; the most negative number has 2^63.
abbrev pub magnitude : ℕ → ℕ
magnitude a = if is_negative a then 2 ^ 64 - a else a

-- The number with a sign and a magnitude, reduced to 64 bits.
abbrev pub signed : Bool → ℕ → ℕ
signed minus n = if minus then wrap (2 ^ 64 - wrap n) else wrap n

abbrev pub differ : Bool → Bool → Bool
differ true b = not b
differ false b = b

-- Add, Sub, Neg wrap.
abbrev pub add : ℕ → ℕ → ℕ
add a b = wrap (a + b)

abbrev pub sub : ℕ → ℕ → ℕ
sub a b = wrap (a + (2 ^ 64 - b))

abbrev pub neg : ℕ → ℕ
neg a = sub 0 a

-- `js_mul`: floor (a × b / 2^32). Where the product is negative, its magnitude is rounded up.
abbrev pub mul : ℕ → ℕ → ℕ
mul a b =
    if eqb a nan || eqb b nan then nan else
    if differ (is_negative a) (is_negative b) then signed true ((magnitude a * magnitude b + (2 ^ 32 - 1)) / 2 ^ 32)
    else signed false (magnitude a * magnitude b / 2 ^ 32)

-- `js_div`: a × 2^32 / b, cut toward zero
abbrev pub div : ℕ → ℕ → ℕ
div a b =
    if eqb b 0 || eqb a nan || eqb b nan then nan
    else signed (differ (is_negative a) (is_negative b)) (magnitude a * 2 ^ 32 / magnitude b)

-- `Mod`: the signed remainder; NaN counts as its integer, and a zero divisor gives NaN.
abbrev pub rem : ℕ → ℕ → ℕ
rem a b = if eqb b 0 then nan else signed (is_negative a) (magnitude a % magnitude b)

-- floor (a / 2^32), as its 32 bits
abbrev pub floor : ℕ → ℕ
floor a = a / 2 ^ 32

-- floor (a / 2^32), as its 64 bits
abbrev pub floor_wide : ℕ → ℕ
floor_wide a = if is_negative a then a / 2 ^ 32 + (2 ^ 64 - 2 ^ 32) else a / 2 ^ 32

-- An integer as a number: its low 32 bits, above the point.
abbrev pub whole : ℕ → ℕ
whole n = wrap (n * 2 ^ 32)

-- Bit operations work on the floor; a shift count is taken modulo 32.
abbrev pub and : ℕ → ℕ → ℕ
and a b = whole (bit_and (floor a) (floor b))

abbrev pub or : ℕ → ℕ → ℕ
or a b = whole (bit_or (floor a) (floor b))

abbrev pub xor : ℕ → ℕ → ℕ
xor a b = whole (bit_xor (floor a) (floor b))

abbrev pub shift_left : ℕ → ℕ → ℕ
shift_left a b = whole (floor a * 2 ^ (floor b % 32))

abbrev pub shift_right : ℕ → ℕ → ℕ
shift_right a b = whole (floor_wide a / 2 ^ (floor b % 32))

-- a < b and a ≤ b as signed integers
abbrev pub less : ℕ → ℕ → Bool
less a b = ltb (wrap (a + 2 ^ 63)) (wrap (b + 2 ^ 63))

abbrev pub less_eq : ℕ → ℕ → Bool
less_eq a b = leb (wrap (a + 2 ^ 63)) (wrap (b + 2 ^ 63))

-- Text to number: `parse_js_number`

-- Bytes 9 to 13 and 32 are cut at both ends.
abbrev pub is_blank : ℕ → Bool
is_blank b = (leb 9 b && leb b 13) || eqb b 32

abbrev pub is_digit : ℕ → Bool
is_digit b = leb 48 b && leb b 57

abbrev pub cut_front : List ℕ → List ℕ
cut_front [] = []
cut_front (b ∷ bs) = if is_blank b then cut_front bs else b ∷ bs

abbrev pub trim : List ℕ → List ℕ
trim bs = reverse (cut_front (reverse (cut_front bs)))

-- The digits' worth, wrapping, as a number with that whole part; a byte that is no digit gives NaN.
abbrev pub digits : ℕ → Bool → List ℕ → ℕ
digits n minus [] = if minus then neg (whole n) else whole n
digits n minus (b ∷ bs) = if is_digit b then digits (wrap (n * 10 + (b - 48))) minus bs else nan

-- Empty is 0; one optional `-`.
abbrev pub signed_digits : List ℕ → ℕ
signed_digits [] = 0
signed_digits (b ∷ bs) = if eqb b 45 then digits 0 true bs else digits 0 false (b ∷ bs)

abbrev pub parse_js_number : List ℕ → ℕ
parse_js_number bs = signed_digits (trim bs)

-- Number to text: `format_js_number`, as change 4 of document 02 has it

-- The decimal digits of a natural number in front of a text, no more than k of them.
abbrev pub decimal_onto : ℕ → ℕ → List ℕ → List ℕ
decimal_onto zero n bs = bs
decimal_onto (suc k) n bs = if ltb n 10 then (48 + n) ∷ bs else decimal_onto k (n / 10) ((48 + n % 10) ∷ bs)

abbrev pub decimal : ℕ → List ℕ
decimal n = decimal_onto 20 n []

-- Exactly k digits, leading zeros written.
abbrev pub padded : ℕ → ℕ → List ℕ → List ℕ
padded zero n bs = bs
padded (suc k) n bs = padded k (n / 10) ((48 + n % 10) ∷ bs)

abbrev pub cut_zeros : List ℕ → List ℕ
cut_zeros [] = []
cut_zeros (b ∷ bs) = if eqb b 48 then cut_zeros bs else b ∷ bs

-- The fraction of a magnitude in millionths, cut: what the six digits behind the point are worth.
abbrev pub millionths : ℕ → ℕ
millionths m = m % 2 ^ 32 * 1000000 / 2 ^ 32

-- Six digits, trailing zeros removed.
abbrev pub fraction : ℕ → List ℕ
fraction m = reverse (cut_zeros (reverse (padded 6 (millionths m) [])))

-- The point goes where no digit follows it.
abbrev pub pointed : List ℕ → List ℕ
pointed [] = []
pointed (d ∷ ds) = 46 ∷ d ∷ ds

abbrev pub magnitude_text : ℕ → List ℕ
magnitude_text m = decimal (m / 2 ^ 32) ++ pointed (fraction m)

-- Whole part and digits are all zero.
abbrev pub all_zero : ℕ → Bool
all_zero m = eqb (m / 2 ^ 32) 0 && eqb (millionths m) 0

abbrev pub minus_sign : Bool → List ℕ
minus_sign true = 45 ∷ []
minus_sign false = []

-- `NaN`; else a minus for a negative number, but not where all is zero, and its magnitude.
abbrev pub format_js_number : ℕ → List ℕ
format_js_number a =
    if eqb a nan then 78 ∷ 97 ∷ 78 ∷ [] else
    minus_sign (is_negative a && not (all_zero (magnitude a))) ++ magnitude_text (magnitude a)
