-- What load and the lookups promise. Assumes nothing.
use Rattle.std.specs.Prelude.{◌≡◌, Bool, true, false, ◌&&◌, List, [], ◌∷◌, ◌++◌, ℕ, ◌+◌, ◌≤◌, ◌<◌, eqb, leb, length, take, get_or, Option, Some, None, Result, Ok, Err}
use Rattle.std.proofs.Math.Option.{Option as Maybe, none, some}
use Rattle.machine.specs.Image as I
use Rattle.machine.specs.Image.{Template}
use Rattle.machine.specs.State.{State, limit, code_store, image_store}
use Rattle.machine.specs.Act.{templates_read}
use Rattle.machine.specs.Fields.{set_code, set_images}
use Rattle.machine.specs.Host.{refusal_read}
use Rattle.machine.specs.Host as H
use Rattle.machine.specs.Host.{Answer, refusal, numbered, perform}
use Rattle.reader.specs.Constants.{constant_of}
use Rattle.image.specs.View.{Same, constants_of, images_of}
use Rattle.image.specs.declared.ImageCounts.{ImageCounts}
use Rattle.image.specs.Errors.{asked}
use Rattle.image.specs.declared.error.LoadError.{LoadError}
use Rattle.image.specs.declared.FunctionTemplate.{FunctionTemplate}
use Rattle.reader.specs.declared.Constant.{Constant}

-- The lent stores: the code, the places of constants, the rows of templates, the images' first bytes.
pub record Stores : Type 0 where
  pub code : List ℕ
  pub places : List ℕ
  pub rows : List ℕ
  pub starts : List ℕ

-- Question 33, of the four lengths.
abbrev pub sizes_listed : ℕ → ℕ → ℕ → ℕ → Bool
sizes_listed code places rows starts =
    eqb code (limit code_store) && eqb places (limit code_store) && eqb rows (limit code_store) && eqb starts (limit image_store)

abbrev pub listed : Stores → Bool
listed x = sizes_listed (length x.code) (length x.places) (length x.rows) (length x.starts)

-- The questions in order: 33, then 1 to 7 of the image alone, then 8, then 9.
abbrev pub or_else : Maybe ℕ → Maybe ℕ → Maybe ℕ
or_else (some q) x = some q
or_else none x = x

abbrev pub unless : Bool → ℕ → Maybe ℕ
unless true q = none
unless false q = some q

-- Questions 8 and 9.
abbrev pub space_refusal : ImageCounts → ℕ → Maybe ℕ
space_refusal c n = or_else (unless (leb (c.code + n) (limit code_store)) 8) (unless (leb (c.images + 1) (limit image_store)) 9)

abbrev pub space_of : Result Unit LoadError → Maybe ℕ
space_of (Ok _) = none
space_of (Err e) = some (asked e)

abbrev pub load_refusal : Bool → ImageCounts → List ℕ → Maybe ℕ
load_refusal sized c bs =
    or_else (unless sized 33)
    (or_else (refusal_read (I.image c.code bs)) (space_refusal c (length bs)))

abbrev pub images : Stores → ℕ → List (List Template)
images x n = images_of x.code x.places x.rows x.starts n

-- The machine's state with the code and the images that the stores hold.
abbrev pub shown : Stores → ImageCounts → State → State
shown x c s = set_code (take c.code x.code) (set_images (images x c.images) s)

-- y has what x has in use.
pub record Agree (c : ImageCounts) (x y : Stores) : Type 0 where
  pub code : Same c.code x.code y.code
  pub places : Same c.code x.places y.places
  pub rows : Same c.code x.rows y.rows
  pub starts : Same c.images x.starts y.starts

-- THE INVARIANT of the stores: the images are what stands in use, whatever stands above the counts.
pub record Sound (x : Stores) (c : ImageCounts) : Type 0 where
  pub inside : c.code ≤ length x.code
  pub steady : (y : Stores) → Agree c x y → images y c.images ≡ images x c.images

-- An image's number with what is then in use, or why it is not kept.
abbrev pub Loaded : Type 0
Loaded = Result (ℕ × ImageCounts) LoadError

-- Document 01's answer for each case, and what is then in use.
abbrev pub answer_of : Loaded → Answer
answer_of (Ok p) = numbered p.0
answer_of (Err e) = refusal (asked e)

abbrev pub refusal_of : Loaded → Maybe ℕ
refusal_of (Ok p) = none
refusal_of (Err e) = some (asked e)

abbrev pub counts_of : ImageCounts → Loaded → ImageCounts
counts_of c (Ok p) = p.1
counts_of c (Err e) = c

-- x as the call found the stores, y as it left them. An accepted image is behind those that were there.
pub record Appends (x y : Stores) (c : ImageCounts) (bs : List ℕ) (d : ImageCounts) : Type 0 where
  pub counts : d ≡ record { code = c.code + length bs; images = c.images + 1 }
  pub code : take d.code y.code ≡ take c.code x.code ++ bs
  pub view : Sound x c → images y d.images ≡ images x c.images ++ (templates_read (I.image c.code bs) ∷ [])
  pub sound : Sound x c → Sound y d

-- A refusal alters nothing, not even a place above a count.
abbrev pub Leaves : Stores → Stores → ImageCounts → List ℕ → Loaded → Type 0
Leaves x y c bs (Ok p) = (p.0 ≡ c.images) × Appends x y c bs p.1
Leaves x y c bs (Err e) = y ≡ x

-- `machine`: the answer and what is left are those of the machine's call. `older`: images that were there are as they were.
pub record Loads (x y : Stores) (c : ImageCounts) (bs : List ℕ) (r : Loaded) : Type 0 where
  pub asked : refusal_of r ≡ load_refusal (listed x) c bs
  pub leaves : Leaves x y c bs r
  pub sound : Sound x c → Sound y (counts_of c r)
  pub machine : listed x ≡ true → Sound x c → (s : State)
      → ((perform (H.load bs) (shown x c s)).answer ≡ answer_of r) × ((perform (H.load bs) (shown x c s)).after ≡ shown y (counts_of c r) s)
  pub older : Sound x c → (i : ℕ) → i < c.images → get_or (images y (counts_of c r).images) i [] ≡ get_or (images x c.images) i []

-- What `append`, the inner half of load, is called on and does: it never refuses.
pub record Fitting (x : Stores) (c : ImageCounts) (bs : List ℕ) : Type 0 where
  pub sized : listed x ≡ true
  pub good : refusal_read (I.image c.code bs) ≡ none
  pub room : space_refusal c (length bs) ≡ none

abbrev pub AppendSays : Stores → Stores → ImageCounts → List ℕ → Loaded → Type 0
AppendSays x y c bs (Ok p) = (p.0 ≡ c.images) × Appends x y c bs p.1
AppendSays x y c bs (Err e) = ⊥

-- A template that was looked up, with the constants that it names.
abbrev pub template_from : List ℕ → List ℕ → FunctionTemplate → Template
template_from code places t = record {
  parameters = t.param_count;
  locals = t.local_count;
  constants = constants_of code places t.constants t.constant_count;
  at = t.at;
  size = t.size;
}

abbrev pub found_of : Option Constant → Maybe I.Constant
found_of (Some k) = some (constant_of k)
found_of None = none
