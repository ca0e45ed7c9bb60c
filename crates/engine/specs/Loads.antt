-- Load's call over the image's load. Assumes nothing.
use Rattle.std.specs.Prelude.{ℕ, ◌+◌, ◌≤◌, Bool, true, false, ◌&&◌, List, ◌≡◌, refl, eqb, leb, length, Ok, Err}
use Rattle.std.proofs.Math.Option.{Option, none, some}
use Rattle.std.proofs.Common.{sym, ap, ◌∙◌, leb-true}
use Rattle.machine.specs.Fields.{set_code}
use Rattle.machine.specs.Image as Im
use Rattle.machine.specs.State.{State, limit, code_store, image_store}
use Rattle.machine.specs.Host as H
use Rattle.texts.specs.Spans.{bytes_take}
use Rattle.texts.specs.Keeps.{text_limit, output_limit}
use Rattle.stacks.specs.Layout.{stack_words}
use Rattle.heap.specs.Layout.{heap_words}
use Rattle.image.specs.Load as I
use Rattle.image.specs.Load.{Stores, Loads, or_else, unless}
use Rattle.image.specs.declared.ImageCounts.{ImageCounts}
use Rattle.image.specs.Errors.{asked}
use Rattle.image.specs.declared.error.LoadError.{LoadError}
use Rattle.heapops.specs.declared.Counts.{Counts}
use Rattle.heapops.specs.Turns.{Mem}
use Rattle.finish.specs.Parts.{Tables}
use Rattle.run.specs.Runs.{state_in}
use Rattle.host.specs.Calls.{lent, stores_of, image_counts, Stands, Called}
use Rattle.host.specs.Lent.{Lent, lent_sizes, lent_lengths, lent_within, lent_by}
use Rattle.host.specs.Performs.{Comes, comes_lent}

first : (a b c d e : Bool) → (a && b && c && d && e) ≡ true → a ≡ true
first true b c d e p = refl
first false b c d e p = p

none_of : (x y : Option ℕ) → none ≡ or_else x y → (none ≡ x) × (none ≡ y)
none_of none y e = (refl, e)
none_of (some q) y e = (e, cc)

held : (b : Bool) (q : ℕ) → none ≡ unless b q → b ≡ true
held true q e = refl
held false q e = cc

-- with other counts of the code and of the images
abbrev pub with_images : ImageCounts → Counts → Counts
with_images d c = record { depths = c.depths; sizes = c.sizes; code = d.code; images = d.images; text = c.text; output = c.output }

abbrev tables_of : Stores → Tables
tables_of x = record { code = x.code; places = x.places; rows = x.rows; starts = x.starts }

-- the state, as the image's load knows it
is_shown : (c : Counts) (d : ImageCounts) (f g : Tables) (m : Mem) → d.code ≤ length g.code → state_in (with_images d c) g m ≡ I.shown (stores_of g) d (state_in c f m)
is_shown c d f g m h = ap (λ (x : List ℕ). set_code x (state_in (with_images d c) g m)) (bytes_take g.code d.code h)

lent_listed : {c : Counts} {g : Tables} {m : Mem} → Lent c g m → I.listed (stores_of g) ≡ true
lent_listed {c} {g} {m} e = first (I.listed (stores_of g)) (eqb (length m.stacks) stack_words) (eqb (length m.heap) heap_words) (eqb (length m.text) text_limit) (eqb (length m.output) output_limit) (lent_sizes e)

-- the machine's call, over the image's load
called : (c : Counts) (g g' : Tables) (m : Mem) (bs : List ℕ) (r : I.Loaded) → Loads (stores_of g) (stores_of g') (image_counts c) bs r → Lent c g m → Stands c g
    → Comes (H.load bs) (state_in c g m) (I.answer_of r) (state_in (with_images (I.counts_of (image_counts c) r) c) g' m)
called c g g' m bs r l e s =
    let a : state_in c g m ≡ I.shown (stores_of g) (image_counts c) (state_in c g m) = is_shown c (image_counts c) g g m s.inside in
    let b : state_in (with_images (I.counts_of (image_counts c) r) c) g' m ≡ I.shown (stores_of g') (I.counts_of (image_counts c) r) (state_in c g m)
    = is_shown c (I.counts_of (image_counts c) r) g g' m (l.sound s).inside in
    let k = l.machine (lent_listed e) s (state_in c g m) in
    (ap (λ (x : State). (H.perform (H.load bs) x).answer) a ∙ k.0, ap (λ (x : State). (H.perform (H.load bs) x).after) a ∙ k.1 ∙ sym b)

-- questions 8 and 9 were answered yes
room_for : (x : Bool) (y : Option ℕ) (k : ImageCounts) (n : ℕ) → none ≡ or_else (unless x 33) (or_else y (I.space_refusal k n)) → (leb (k.code + n) (limit code_store) ≡ true) × (leb (k.images + 1) (limit image_store) ≡ true)
room_for x y k n e =
    let f = (none_of (unless x 33) (or_else y (I.space_refusal k n)) e).1 in
    let h = (none_of y (I.space_refusal k n) f).1 in
    let j = none_of (unless (leb (k.code + n) (limit code_store)) 8) (unless (leb (k.images + 1) (limit image_store)) 9) h in
    (held (leb (k.code + n) (limit code_store)) 8 j.0, held (leb (k.images + 1) (limit image_store)) 9 j.1)

module _ {c : Counts} {g g' : Tables} {m : Mem} {bs : List ℕ} (e : Lent c g m) where
  -- The image is refused.
  pub load_refused : {q : LoadError} → Loads (stores_of g) (stores_of g') (image_counts c) bs (Err q) → Called (H.load bs) c g m (H.refusal (asked q)) c g' m
  load_refused {q} l =
      let same : g' ≡ g = ap tables_of l.leaves in
      record {
        machine = λ r. comes_lent (H.load bs) e (called c g g' m bs (Err q) l e (r e.right));
        refused = λ n f. (refl, same, refl);
        stands = λ t s. (ap (λ (x : Tables). lent c x m) same ∙ t, l.sound s);
        placed = λ z. z;
      }

  -- It is accepted.
  pub load_done : {i : ℕ} {d : ImageCounts} → Loads (stores_of g) (stores_of g') (image_counts c) bs (Ok (i, d)) → length g'.code ≡ length g.code → length g'.places ≡ length g.places
      → length g'.rows ≡ length g.rows → length g'.starts ≡ length g.starts → Called (H.load bs) c g m (H.numbered i) (with_images d c) g' m
  load_done {i} {d} l a b u w =
      let room : (leb (c.code + length bs) (limit code_store) ≡ true) × (leb (c.images + 1) (limit image_store) ≡ true) = room_for (I.listed (stores_of g)) (H.refusal_read (Im.image c.code bs)) (image_counts c) (length bs) l.asked in
      let code : leb d.code (limit code_store) ≡ true = ap (λ (k : ImageCounts). leb k.code (limit code_store)) l.leaves.1.counts ∙ room.0 in
      let images : leb d.images (limit image_store) ≡ true = ap (λ (k : ImageCounts). leb k.images (limit image_store)) l.leaves.1.counts ∙ room.1 in
      let x = lent_lengths e in let y = lent_within e in
      let right : lent (with_images d c) g' m ≡ true = lent_by (with_images d c) g' m
      (record { code = a ∙ x.code; places = b ∙ x.places; rows = u ∙ x.rows; starts = w ∙ x.starts; stacks = x.stacks; heap = x.heap; text = x.text; output = x.output })
      (record {
        operands = y.operands;
        slots = y.slots;
        frames = y.frames;
        handlers = y.handlers;
        functions = y.functions;
        objects = y.objects;
        properties = y.properties;
        globals = y.globals;
        code = leb-true d.code (limit code_store) code;
        images = leb-true d.images (limit image_store) images;
        text = y.text;
        output = y.output;
      }) in
      record {
        machine = λ r. comes_lent (H.load bs) e (called c g g' m bs (Ok (i, d)) l e (r e.right));
        refused = λ n f. (cc, cc, refl);
        stands = λ t s. (right, l.sound s);
        placed = λ z. z;
      }
