-- What pass 2 promises: whatever agrees with the code, and with the tables that it leaves, below the place where it ends shows what the
-- machine reads; and entries below the place where it began are as they were. Assumes nothing.
use Rattle.std.specs.Prelude.{◌≡◌, List, ℕ, ◌+◌, ◌≤◌, length, get_or, Result, Ok, Err}
use Rattle.machine.specs.Image as I
use Rattle.machine.specs.Image.{Reader, Template, ◌>>=◌}
use Rattle.reader.specs.Errors.{question}
use Rattle.reader.specs.Says.{Reads, Refuses}
use Rattle.reader.specs.declared.error.ImageError.{ImageError}
use Rattle.image.specs.View.{Same, constants_of, template_at, templates_at, image_at}
use Rattle.image.specs.declared.FunctionTemplate.{FunctionTemplate}

-- ps and rows are the tables as they were, ps' and rows' as they are.
pub record Filled (s ps ps' : List ℕ) (at n own count next : ℕ) : Type 0 where
  pub reads : (code places : List ℕ) → Same next s code → Same next ps' places
      → Reads s at (I.times n (I.constant own count)) (constants_of code places at n) next
  pub room : at + n ≤ next
  pub inside : next ≤ length s
  pub placed : Same at ps ps'

abbrev pub Fills : List ℕ → List ℕ → List ℕ → ℕ → ℕ → ℕ → ℕ → ℕ → Result Unit ImageError → Type 0
Fills s ps ps' at next n own count (Ok _) = Filled s ps ps' at n own count next
Fills s ps ps' at next n own count (Err e) = Refuses s at (I.times n (I.constant own count)) (question e)

-- A row has its six numbers, and the entries below it are as they were.
pub record Rowed (rows rows' : List ℕ) (r : ℕ) (t : FunctionTemplate) : Type 0 where
  pub at0 : get_or rows' r 0 ≡ t.param_count
  pub at1 : get_or rows' (r + 1) 0 ≡ t.local_count
  pub at2 : get_or rows' (r + 2) 0 ≡ t.constants
  pub at3 : get_or rows' (r + 3) 0 ≡ t.constant_count
  pub at4 : get_or rows' (r + 4) 0 ≡ t.at
  pub at5 : get_or rows' (r + 5) 0 ≡ t.size
  pub below : Same r rows rows'

pub record FilledOne (s ps rows ps' rows' : List ℕ) (at r own count next : ℕ) : Type 0 where
  pub reads : (code places lines : List ℕ) → Same next s code → Same next ps' places → Same (r + 8) rows' lines
      → Reads s at (I.template own count) (template_at code places lines r) next
  pub room : at + 8 ≤ next
  pub inside : next ≤ length s
  pub placed : Same at ps ps'
  pub rowed : Same r rows rows'

abbrev pub FillsOne : List ℕ → List ℕ → List ℕ → List ℕ → List ℕ → ℕ → ℕ → ℕ → ℕ → ℕ → Result Unit ImageError → Type 0
FillsOne s ps rows ps' rows' at r next own count (Ok _) = FilledOne s ps rows ps' rows' at r own count next
FillsOne s ps rows ps' rows' at r next own count (Err e) = Refuses s at (I.template own count) (question e)

pub record FilledAll (s ps rows ps' rows' : List ℕ) (at count next : ℕ) : Type 0 where
  pub reads : (code places lines : List ℕ) → Same next s code → Same next ps' places → Same next rows' lines
      → Reads s at (I.templates count 0 count) (templates_at code places lines at count) next
  pub inside : next ≤ length s
  pub on : at ≤ next
  pub placed : Same at ps ps'
  pub rowed : Same at rows rows'

abbrev pub FillsAll : List ℕ → List ℕ → List ℕ → List ℕ → List ℕ → ℕ → ℕ → ℕ → Result Unit ImageError → Type 0
FillsAll s ps rows ps' rows' at next count (Ok _) = FilledAll s ps rows ps' rows' at count next
FillsAll s ps rows ps' rows' at next count (Err e) = Refuses s at (I.templates count 0 count) (question e)

-- An image without questions 2 and 7, which pass 1 has asked.
abbrev pub unasked : Reader (List Template)
unasked = I.word >>= λ n. I.templates n 0 n

pub record FilledImage (s ps rows ps' rows' : List ℕ) (at : ℕ) : Type 0 where
  pub next : ℕ
  pub reads : (code places lines : List ℕ) → Same next s code → Same next ps' places → Same next rows' lines
      → Reads s at unasked (image_at code places lines at) next
  pub inside : next ≤ length s
  pub placed : Same at ps ps'
  pub rowed : Same at rows rows'

abbrev pub FillsImage : List ℕ → List ℕ → List ℕ → List ℕ → List ℕ → ℕ → Result Unit ImageError → Type 0
FillsImage s ps rows ps' rows' at (Ok _) = FilledImage s ps rows ps' rows' at
FillsImage s ps rows ps' rows' at (Err e) = Refuses s at unasked (question e)
