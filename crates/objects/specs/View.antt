-- What an act on the heap and the text store comes to. Assumes nothing.
use Rattle.std.specs.Prelude.{ℕ, ◌+◌, ◌*◌, ◌<◌, ◌≤◌, ◌⊎◌, Bool, List, ◌≡◌, length, Option, Some, None, Result, Ok, Err}
use Rattle.machine.specs.State as St
use Rattle.machine.specs.Act as A
use Rattle.machine.specs.Act.{unless}
use Rattle.machine.specs.Fields as Fi
use Rattle.machine.specs.Program.{Program, make}
use Rattle.machine.specs.Out.{Out, refused, out}
use Rattle.value.specs.Errors.{space_of}
use Rattle.value.specs.Lists.{bytes_of}
use Rattle.value.specs.declared.Value.{Value}
use Rattle.texts.specs.Keeps.{text_limit}
use Rattle.texts.specs.Overwrite.{overwrite}
use Rattle.heap.specs.View.{Sized, on_heap, set_row}
use Rattle.heap.specs.Layout.{property_limit}
use Rattle.heap.specs.Rows.{Finds, is_found}
use Rattle.heap.specs.declared.Sizes.{Sizes}
use Rattle.value.specs.Words.{set_value}
use Rattle.value.specs.declared.Space.{Space}
use Rattle.value.specs.declared.Space.TheVariants.{Properties, Text}

-- the state s with what the words w hold, and m bytes of t as its text
abbrev pub on_stores : Sizes → List ℕ → ℕ → List ℕ → St.State → St.State
on_stores z w m t s = Fi.set_text (bytes_of t m) (on_heap z w s)

-- The contract of an act, as in crates/stacks: a refusal leaves words and bytes.
abbrev pub placed_then : Result (Sizes × ℕ) Space → Program → List ℕ → List ℕ → St.State → Out
placed_then (Ok (y, e)) p w t s = out p (on_stores y w e t s)
placed_then (Err q) p w t s = refused (space_of q)

abbrev pub PlacedReady : Result (Sizes × ℕ) Space → List ℕ → List ℕ → List ℕ → List ℕ → Type 0
PlacedReady (Ok (y, e)) w t w' t' = Sized y w' × (e ≤ text_limit)
PlacedReady (Err q) w t w' t' = (w' ≡ w) × (t' ≡ t)

pub record Puts (a : A.Act) (z : Sizes) (w : List ℕ) (m : ℕ) (t : List ℕ) (r : Result (Sizes × ℕ) Space) (w' t' : List ℕ) : Type 0 where
  pub goes : (s : St.State) (p : Program) → out (make a p) (on_stores z w m t s) ≡ placed_then r p w' t' s
  pub ready : PlacedReady r w t w' t'

-- a row at place k, whose key or name is laid behind the text in use
pub record Lays (w : List ℕ) (k head : ℕ) (key : List ℕ) (v : Value) (m : ℕ) (t : List ℕ) (e : ℕ) (w' t' : List ℕ) : Type 0 where
  pub count : e ≡ m + length key
  pub row : w' ≡ set_row w k head m (length key) v
  pub text : t' ≡ overwrite t m key

-- Is there room? A row is new where none was found.
abbrev pub RoomsTold : ℕ → Space → ℕ → Option ℕ → ℕ → ℕ → Result (Unit {0}) Space → Type 0
RoomsTold limit full count found m size (Ok _) = (count + unless (is_found found) 1 ≤ limit) × (m + size ≤ text_limit)
RoomsTold limit full count found m size (Err q) = ((q ≡ full) × (limit < count + unless (is_found found) 1)) ⊎ ((q ≡ Text) × (count + unless (is_found found) 1 ≤ limit) × (text_limit < m + size))

pub record Rooms (limit : ℕ) (full : Space) (count : ℕ) (found : Option ℕ) (m size : ℕ) (r : Result (Unit {0}) Space) : Type 0 where
  pub told : RoomsTold limit full count found m size r

-- the row that is put, and what it asks of the text
abbrev pub place_of : Option ℕ → ℕ → ℕ
place_of (Some i) count = i
place_of None count = count

abbrev pub new_size : Option ℕ → ℕ → ℕ
new_size found size = unless (is_found found) size

-- the property that passes a test, or room for it
abbrev pub SeeksTold : (ℕ → Bool) → ℕ → ℕ → ℕ → Result (Option ℕ) Space → Type 0
SeeksTold t count m size (Ok r) = Finds t count r × Rooms property_limit Properties count r m (new_size r size) (Ok tt)
SeeksTold t count m size (Err q) = (r : Option ℕ) × Finds t count r × Rooms property_limit Properties count r m (new_size r size) (Err q)

pub record Seeks (t : ℕ → Bool) (count m size : ℕ) (r : Result (Option ℕ) Space) : Type 0 where
  pub told : SeeksTold t count m size r

-- a row put into the table from `at` on: the counts of rows and of text
abbrev pub PutsTold : ℕ → ℕ → Option ℕ → ℕ → List ℕ → Value → List ℕ → ℕ → List ℕ → ℕ × ℕ → List ℕ → List ℕ → Type 0
PutsTold at count (Some i) head key v w m t p w' t' = (p ≡ (count, m)) × (w' ≡ set_value w (at + 6 * i + 3) v) × (t' ≡ t)
PutsTold at count None head key v w m t p w' t' = (p.0 ≡ count + 1) × Lays w (at + 6 * count) head key v m t p.1 w' t'

pub record PutsRow (at count : ℕ) (found : Option ℕ) (head : ℕ) (key : List ℕ) (v : Value) (w : List ℕ) (m : ℕ) (t : List ℕ) (p : ℕ × ℕ) (w' t' : List ℕ) : Type 0 where
  pub told : PutsTold at count found head key v w m t p w' t'
