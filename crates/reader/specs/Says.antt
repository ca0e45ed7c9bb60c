-- What the reader's methods promise: the machine's reader, at a position of a list of bytes, gives what they answer. Assumes nothing.
use Rattle.std.specs.Prelude.{◌≡◌, List, ℕ, ◌+◌, ◌≤◌, length, take, drop, Result, Ok, Err}
use Rattle.std.specs.Borrow.{Bor}
use Rattle.machine.specs.Image as I
use Rattle.machine.specs.Image.{Reader, got, refused, Template, ◌>>=◌}
use Rattle.reader.specs.Errors.{question}
use Rattle.reader.specs.declared.error.ImageError.{ImageError}
use Rattle.reader.specs.declared.error.ImageError.TheVariants.{UnexpectedEnd}
use Rattle.reader.specs.declared.Head.{Head}
use Rattle.reader.specs.declared.Tail.{Tail}

-- The reader r at position `at` of s reads a, and `next` is the position after it.
pub record Reads {A : Type 0} (s : List ℕ) (at : ℕ) (r : Reader A) (a : A) (next : ℕ) : Type 0 where
  pub read : r at (drop at s) ≡ got a next (drop next s)
  pub on : at ≤ next
  pub inside : next ≤ length s

-- The question q is answered no.
abbrev pub Refuses : {A : Type 0} → List ℕ → ℕ → Reader A → ℕ → Type 0
Refuses s at r q = r at (drop at s) ≡ refused q

-- A number of w bytes, or a refusal. Only question 1 is asked of a number.
abbrev pub Says : List ℕ → ℕ → ℕ → ℕ → Reader ℕ → Result ℕ ImageError → Type 0
Says s at next w r (Ok n) = Reads s at r n next × (next ≡ at + w)
Says s at next w r (Err e) = Refuses s at r (question e) × (e ≡ UnexpectedEnd)

-- The next n bytes, which the machine's `bytes` has with their place.
abbrev pub Spans : List ℕ → ℕ → ℕ → ℕ → Result (Bor (List ℕ)) ImageError → Type 0
Spans s at next n (Ok b) = Reads s at (I.bytes n) (at, b.now) next × (next ≡ at + n)
Spans s at next n (Err e) = Refuses s at (I.bytes n) (question e) × (e ≡ UnexpectedEnd)

-- Something was read, and is not looked at here.
pub record Passed {A : Type 0} (s : List ℕ) (at : ℕ) (r : Reader A) (next : ℕ) : Type 0 where
  pub value : A
  pub reads : Reads s at r value next

abbrev pub Passes : {A : Type 0} → List ℕ → ℕ → ℕ → Reader A → Result Unit ImageError → Type 0
Passes s at next r (Ok _) = Passed s at r next
Passes s at next r (Err e) = Refuses s at r (question e)

-- The three words before a template's constants.
pub record Heads (s : List ℕ) (at a b n next : ℕ) : Type 0 where
  pub one : ℕ
  pub two : ℕ
  pub first : Reads s at I.word a one
  pub second : Reads s one I.word b two
  pub third : Reads s two I.word n next
  pub on : next ≡ at + 6

-- A first or later word is missing: the whole template is refused, whatever follows.
abbrev pub Headed : List ℕ → ℕ → ℕ → Result Head ImageError → Type 0
Headed s at next (Ok h) = Heads s at h.param_count h.local_count h.constant_count next
Headed s at next (Err e) = ((own count : ℕ) → Refuses s at (I.template own count) (question e)) × (e ≡ UnexpectedEnd)

-- The code's size, place and bytes, after a template's constants.
pub record Tails (s : List ℕ) (at size place next : ℕ) : Type 0 where
  pub first : Reads s at I.word size place
  pub second : Reads s place (I.bytes size) (place, take size (drop place s)) next
  pub on : (place ≡ at + 2) × (next ≡ at + 2 + size)

abbrev pub Tailed : List ℕ → ℕ → ℕ → Result Tail ImageError → Type 0
Tailed s at next (Ok t) = Tails s at t.size t.at next
Tailed s at next (Err e) = ((f : ℕ → ℕ × List ℕ → Reader Template) → Refuses s at (I.word >>= λ size. I.bytes size >>= f size) (question e)) × (e ≡ UnexpectedEnd)
