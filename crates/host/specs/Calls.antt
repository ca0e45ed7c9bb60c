-- The host calls' contracts: equations with the machine's `perform`. Assumes nothing.
use Rattle.std.specs.Prelude.{ℕ, Bool, true, false, ◌&&◌, List, ◌≡◌, eqb, leb, length, Result, Ok, Err}
use Rattle.machine.specs.State as St
use Rattle.machine.specs.State.{limit, operand_limit, code_store, image_store}
use Rattle.machine.specs.Host as H
use Rattle.machine.proofs.Unique.{Unique}
use Rattle.value.specs.Words.{value_of}
use Rattle.value.specs.Lists.{bytes_of}
use Rattle.texts.specs.Keeps.{text_limit, output_limit}
use Rattle.texts.specs.Overwrite.{overwrite}
use Rattle.stacks.specs.Layout.{slot_limit, frame_limit, handler_limit, stack_words}
use Rattle.heap.specs.Layout.{function_limit, object_limit, property_limit, global_limit, heap_words}
use Rattle.image.specs.Load.{Stores, Sound}
use Rattle.image.specs.declared.ImageCounts.{ImageCounts}
use Rattle.heapops.specs.declared.Counts.{Counts}
use Rattle.heapops.specs.Turns.{Mem}
use Rattle.finish.specs.Parts.{Tables}
use Rattle.run.specs.Runs.{state_in, result_of, Placed}
use Rattle.host.specs.declared.refusal.Refusal.{Refusal}
use Rattle.host.specs.declared.refusal.Refusal.TheVariants.{StoreSizes}
use Rattle.host.specs.Refusals.{number_of}
use Rattle.run.specs.declared.Ran.{Ran}
use Rattle.value.specs.declared.Value.{Value}

-- Question 33: the stores have their listed sizes,
abbrev pub sizes_are : ℕ → ℕ → ℕ → ℕ → ℕ → ℕ → ℕ → ℕ → Bool
sizes_are code places rows starts stacks heap text output =
    eqb code (limit code_store) && eqb places (limit code_store) && eqb rows (limit code_store) && eqb starts (limit image_store)
    && eqb stacks stack_words && eqb heap heap_words && eqb text text_limit && eqb output output_limit

abbrev pub sizes_right : Tables → Mem → Bool
sizes_right g m = sizes_are (length g.code) (length g.places) (length g.rows) (length g.starts) (length m.stacks) (length m.heap) (length m.text) (length m.output)

-- and the counts are within them. No call leaves other counts; over such ones a call ends with 33.
abbrev pub counts_right : Counts → Bool
counts_right c =
    leb c.depths.operands operand_limit && leb c.depths.slots slot_limit && leb c.depths.frames frame_limit && leb c.depths.handlers handler_limit
    && leb c.sizes.functions function_limit && leb c.sizes.objects object_limit && leb c.sizes.properties property_limit && leb c.sizes.globals global_limit
    && leb c.code (limit code_store) && leb c.images (limit image_store) && leb c.text text_limit && leb c.output output_limit

abbrev pub lent : Counts → Tables → Mem → Bool
lent c g m = sizes_right g m && counts_right c

-- what the image tables hold is what stands in use: kept by every call
abbrev pub stores_of : Tables → Stores
stores_of g = record { code = g.code; places = g.places; rows = g.rows; starts = g.starts }

abbrev pub image_counts : Counts → ImageCounts
image_counts c = record { code = c.code; images = c.images }

abbrev pub Stands : Counts → Tables → Type 0
Stands c g = Sound (stores_of g) (image_counts c)

-- What the equation of a call rests on beside the sizes: of load that the image tables stand, of run that no two rows have one key. Every call leaves both; over
-- stores that no call left so, document 01 has the answer open.
abbrev pub Rests : H.Call → Counts → Tables → Mem → Type 0
Rests (H.load bs) c g m = Stands c g
Rests (H.register i t) c g m = Unit {0}
Rests (H.set_global n v) c g m = Unit {0}
Rests (H.read_global n) c g m = Unit {0}
Rests (H.run i) c g m = Unique (state_in c g m)
Rests (H.text v n) c g m = Unit {0}
Rests (H.drain n) c g m = Unit {0}
Rests H.clear c g m = Unit {0}

-- the machine's call over what is lent, question 33 first
abbrev pub performed : H.Call → Counts → Tables → Mem → H.Called
performed call c g m = H.perform_on (lent c g m) call (state_in c g m)

-- THE CONTRACT OF A CALL: its answer and what it leaves are the machine's; a refusal alters nothing; and what the next call rests on stands again.
pub record Called (call : H.Call) (c : Counts) (g : Tables) (m : Mem) (answer : H.Answer) (c' : Counts) (g' : Tables) (m' : Mem) : Type 0 where
  pub machine : (lent c g m ≡ true → Rests call c g m) → ((performed call c g m).answer ≡ answer) × ((performed call c g m).after ≡ state_in c' g' m')
  pub refused : (n : ℕ) → answer ≡ H.refusal n → (c' ≡ c) × (g' ≡ g) × (m' ≡ m)
  pub stands : lent c g m ≡ true → Stands c g → (lent c' g' m' ≡ true) × Stands c' g'
  pub placed : Placed c.depths → Placed c'.depths

-- of the buffer: the bytes written stand at its start, and the rest is as it was
abbrev pub buffer_by : H.Answer → List ℕ → List ℕ
buffer_by (H.refusal n) b = b
buffer_by (H.numbered n) b = b
buffer_by H.done b = b
buffer_by (H.valued v) b = b
buffer_by (H.ran e n) b = b
buffer_by (H.wrote bs) b = overwrite b 0 bs

pub record Buffered (answer : H.Answer) (b b' : List ℕ) : Type 0 where
  pub bytes : b' ≡ buffer_by answer b

-- Document 01's answer for each result, and the counts that it leaves.
abbrev pub answer_of_numbered : Result (ℕ × Counts) Refusal → H.Answer
answer_of_numbered (Ok (i, c)) = H.numbered i
answer_of_numbered (Err e) = H.refusal (number_of e)

abbrev pub counts_of_numbered : Counts → Result (ℕ × Counts) Refusal → Counts
counts_of_numbered c (Ok (i, d)) = d
counts_of_numbered c (Err e) = c

abbrev pub answer_of_changed : Result Counts Refusal → H.Answer
answer_of_changed (Ok c) = H.done
answer_of_changed (Err e) = H.refusal (number_of e)

abbrev pub counts_of_changed : Counts → Result Counts Refusal → Counts
counts_of_changed c (Ok d) = d
counts_of_changed c (Err e) = c

abbrev pub answer_of_read : Result Value Refusal → H.Answer
answer_of_read (Ok v) = H.valued (value_of v)
answer_of_read (Err e) = H.refusal (number_of e)

abbrev pub answer_of_run : Result Ran Refusal → H.Answer
answer_of_run (Ok r) = H.ran (result_of r.end) r.steps
answer_of_run (Err e) = H.refusal (number_of e)

abbrev pub counts_of_run : Counts → Result Ran Refusal → Counts
counts_of_run c (Ok r) = r.counts
counts_of_run c (Err e) = c

-- the bytes that stand at the buffer's start then, exactly as many as were answered
abbrev pub answer_of_text : Result ℕ Refusal → List ℕ → H.Answer
answer_of_text (Ok n) b = H.wrote (bytes_of b n)
answer_of_text (Err e) b = H.refusal (number_of e)

abbrev pub answer_of_drain : Result (ℕ × Counts) Refusal → List ℕ → H.Answer
answer_of_drain (Ok (n, c)) b = H.wrote (bytes_of b n)
answer_of_drain (Err e) b = H.refusal (number_of e)

abbrev pub counts_of_drain : Counts → Result (ℕ × Counts) Refusal → Counts
counts_of_drain c (Ok (n, d)) = d
counts_of_drain c (Err e) = c

-- Clear gives the fresh engine over any stores of listed size.
abbrev pub ClearsTo : Tables → Mem → Result Counts Refusal → Tables → Mem → Type 0
ClearsTo g m (Ok c) g' m' = (state_in c g' m' ≡ St.fresh) × (lent c g' m' ≡ true) × Stands c g' × Placed c.depths
ClearsTo g m (Err e) g' m' = (e ≡ StoreSizes) × (g' ≡ g) × (m' ≡ m)

pub record Clears (g : Tables) (m : Mem) (r : Result Counts Refusal) (g' : Tables) (m' : Mem) : Type 0 where
  pub told : ClearsTo g m r g' m'
  pub asked : sizes_right g m ≡ false → r ≡ Err StoreSizes
  pub granted : sizes_right g m ≡ true → (e : Refusal) → r ≡ Err e → ⊥
