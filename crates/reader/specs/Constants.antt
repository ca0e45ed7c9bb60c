-- What is promised of a constant: its enum's case is the machine's constant. Assumes nothing.
use Rattle.std.specs.Prelude.{List, ℕ, ◌<◌, Result, Ok, Err}
use Rattle.machine.specs.Value.{in_code}
use Rattle.machine.specs.Image as I
use Rattle.machine.specs.Image.{Reader, ◌>>=◌}
use Rattle.reader.specs.Errors.{question}
use Rattle.reader.specs.Says.{Reads, Refuses}
use Rattle.reader.specs.declared.error.ImageError.{ImageError}
use Rattle.reader.specs.declared.Constant.{Constant}
use Rattle.reader.specs.declared.Constant.TheVariants.{Number, Str, Bool, Null, Undefined, Function}

-- A text is a handle into the code store.
abbrev pub constant_of : Constant → I.Constant
constant_of (Number n) = I.Constant.number n
constant_of (Str a b) = I.Constant.text (record { store = in_code; at = a; size = b })
constant_of (Bool b) = I.Constant.boolean b
constant_of Null = I.Constant.null
constant_of Undefined = I.Constant.undefined
constant_of (Function t) = I.Constant.function t

-- The machine's reader of a number constant.
abbrev pub number_constant : Reader I.Constant
number_constant = I.wide 8 0 >>= λ n. I.return (I.Constant.number n)

abbrev pub Tells : List ℕ → ℕ → ℕ → Reader I.Constant → Result Constant ImageError → Type 0
Tells s at next r (Ok k) = Reads s at r (constant_of k) next
Tells s at next r (Err e) = Refuses s at r (question e)

-- A whole constant takes at least the byte of its kind.
abbrev pub TellsMore : List ℕ → ℕ → ℕ → Reader I.Constant → Result Constant ImageError → Type 0
TellsMore s at next r (Ok k) = Reads s at r (constant_of k) next × (at < next)
TellsMore s at next r (Err e) = Refuses s at r (question e)
