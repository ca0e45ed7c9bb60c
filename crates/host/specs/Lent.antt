-- What question 33 grants: stores of listed size, and counts within them. Assumes nothing.
use Rattle.std.specs.Prelude.{ℕ, zero, suc, ◌≤◌, Bool, true, false, ◌&&◌, List, [], ◌∷◌, ◌≡◌, refl, eqb, leb, length, get_or}
use Rattle.std.proofs.Common.{arith, sym, ap, ◌∙◌, eq-eqb, eqb-true, le-leb, leb-true, length-append}
use Rattle.std.proofs.lemmas.Bool.{false≢true}
use Rattle.machine.specs.State.{limit, operand_limit, code_store, image_store}
use Rattle.machine.specs.Host as H
use Rattle.value.specs.Lists.{row_length, stack_length}
use Rattle.texts.specs.Keeps.{text_limit, output_limit}
use Rattle.texts.specs.Sources.{InUse}
use Rattle.stacks.specs.Layout.{slot_limit, frame_limit, handler_limit, stack_words}
use Rattle.stacks.specs.Laws.{top_length}
use Rattle.heap.specs.Layout.{function_limit, object_limit, property_limit, global_limit, heap_words}
use Rattle.heap.specs.View.{Sized}
use Rattle.heap.specs.declared.Sizes.{Sizes}
use Rattle.image.specs.View.{list, image_at, images_of}
use Rattle.heapops.specs.declared.Counts.{Counts}
use Rattle.heapops.specs.Turns.{Mem, mem}
use Rattle.finish.specs.Parts.{Tables}
use Rattle.run.specs.Runs.{Whole, ground_of, state_in, whole_sized, whole_use}
use Rattle.host.specs.Calls.{sizes_right, counts_right, lent, Called}

-- tests that hold together
both : (x y : Bool) → (x && y) ≡ true → (x ≡ true) × (y ≡ true)
both true y e = (refl, e)
both false y e = absurd (false≢true e)

module _ (a b c d e f g h : Bool) where
  eight : (a && b && c && d && e && f && g && h) ≡ true → (a ≡ true) × (b ≡ true) × (c ≡ true) × (d ≡ true) × (e ≡ true) × (f ≡ true) × (g ≡ true) × (h ≡ true)
  eight p =
      let p7 = both (a && b && c && d && e && f && g) h p in
      let p6 = both (a && b && c && d && e && f) g p7.0 in
      let p5 = both (a && b && c && d && e) f p6.0 in
      let p4 = both (a && b && c && d) e p5.0 in
      let p3 = both (a && b && c) d p4.0 in
      let p2 = both (a && b) c p3.0 in
      let p1 = both a b p2.0 in
      (p1.0, p1.1, p2.1, p3.1, p4.1, p5.1, p6.1, p7.1)

  eight_true : a ≡ true → b ≡ true → c ≡ true → d ≡ true → e ≡ true → f ≡ true → g ≡ true → h ≡ true → (a && b && c && d && e && f && g && h) ≡ true
  eight_true pa pb pc pd pe pf pg ph = rw (pa, pb, pc, pd, pe, pf, pg, ph)

five_true : (a b c d e : Bool) → a ≡ true → b ≡ true → c ≡ true → d ≡ true → e ≡ true → (a && b && c && d && e) ≡ true
five_true a b c d e pa pb pc pd pe = rw (pa, pb, pc, pd, pe)

-- the lengths of the stores
pub record Lengths (g : Tables) (m : Mem) : Type 0 where
  pub code : length g.code ≡ limit code_store
  pub places : length g.places ≡ limit code_store
  pub rows : length g.rows ≡ limit code_store
  pub starts : length g.starts ≡ limit image_store
  pub stacks : length m.stacks ≡ stack_words
  pub heap : length m.heap ≡ heap_words
  pub text : length m.text ≡ text_limit
  pub output : length m.output ≡ output_limit

pub lengths : (g : Tables) (m : Mem) → sizes_right g m ≡ true → Lengths g m
lengths g m e =
    let x = eight (eqb (length g.code) (limit code_store)) (eqb (length g.places) (limit code_store)) (eqb (length g.rows) (limit code_store)) (eqb (length g.starts) (limit image_store))
    (eqb (length m.stacks) stack_words) (eqb (length m.heap) heap_words) (eqb (length m.text) text_limit) (eqb (length m.output) output_limit) e in
    record {
      code = eqb-true (length g.code) (limit code_store) x.0;
      places = eqb-true (length g.places) (limit code_store) x.1;
      rows = eqb-true (length g.rows) (limit code_store) x.2;
      starts = eqb-true (length g.starts) (limit image_store) x.3;
      stacks = eqb-true (length m.stacks) stack_words x.4;
      heap = eqb-true (length m.heap) heap_words x.5;
      text = eqb-true (length m.text) text_limit x.6;
      output = eqb-true (length m.output) output_limit x.7;
    }

pub lengths_right : (g : Tables) (m : Mem) → Lengths g m → sizes_right g m ≡ true
lengths_right g m x =
    eight_true (eqb (length g.code) (limit code_store)) (eqb (length g.places) (limit code_store)) (eqb (length g.rows) (limit code_store)) (eqb (length g.starts) (limit image_store))
    (eqb (length m.stacks) stack_words) (eqb (length m.heap) heap_words) (eqb (length m.text) text_limit) (eqb (length m.output) output_limit)
    (eq-eqb (length g.code) (limit code_store) x.code) (eq-eqb (length g.places) (limit code_store) x.places) (eq-eqb (length g.rows) (limit code_store) x.rows) (eq-eqb (length g.starts) (limit image_store) x.starts)
    (eq-eqb (length m.stacks) stack_words x.stacks) (eq-eqb (length m.heap) heap_words x.heap) (eq-eqb (length m.text) text_limit x.text) (eq-eqb (length m.output) output_limit x.output)

-- the counts within the stores
pub record Within (c : Counts) : Type 0 where
  pub operands : c.depths.operands ≤ operand_limit
  pub slots : c.depths.slots ≤ slot_limit
  pub frames : c.depths.frames ≤ frame_limit
  pub handlers : c.depths.handlers ≤ handler_limit
  pub functions : c.sizes.functions ≤ function_limit
  pub objects : c.sizes.objects ≤ object_limit
  pub properties : c.sizes.properties ≤ property_limit
  pub globals : c.sizes.globals ≤ global_limit
  pub code : c.code ≤ limit code_store
  pub images : c.images ≤ limit image_store
  pub text : c.text ≤ text_limit
  pub output : c.output ≤ output_limit

module _ (c : Counts) where
  abbrev first : Bool
  first = leb c.depths.operands operand_limit && leb c.depths.slots slot_limit && leb c.depths.frames frame_limit && leb c.depths.handlers handler_limit
      && leb c.sizes.functions function_limit && leb c.sizes.objects object_limit && leb c.sizes.properties property_limit && leb c.sizes.globals global_limit

  pub counts_within : counts_right c ≡ true → Within c
  counts_within e =
      let o = both (first && leb c.code (limit code_store) && leb c.images (limit image_store) && leb c.text text_limit) (leb c.output output_limit) e in
      let t = both (first && leb c.code (limit code_store) && leb c.images (limit image_store)) (leb c.text text_limit) o.0 in
      let i = both (first && leb c.code (limit code_store)) (leb c.images (limit image_store)) t.0 in
      let k = both first (leb c.code (limit code_store)) i.0 in
      let x = eight (leb c.depths.operands operand_limit) (leb c.depths.slots slot_limit) (leb c.depths.frames frame_limit) (leb c.depths.handlers handler_limit)
      (leb c.sizes.functions function_limit) (leb c.sizes.objects object_limit) (leb c.sizes.properties property_limit) (leb c.sizes.globals global_limit) k.0 in
      record {
        operands = leb-true c.depths.operands operand_limit x.0;
        slots = leb-true c.depths.slots slot_limit x.1;
        frames = leb-true c.depths.frames frame_limit x.2;
        handlers = leb-true c.depths.handlers handler_limit x.3;
        functions = leb-true c.sizes.functions function_limit x.4;
        objects = leb-true c.sizes.objects object_limit x.5;
        properties = leb-true c.sizes.properties property_limit x.6;
        globals = leb-true c.sizes.globals global_limit x.7;
        code = leb-true c.code (limit code_store) k.1;
        images = leb-true c.images (limit image_store) i.1;
        text = leb-true c.text text_limit t.1;
        output = leb-true c.output output_limit o.1;
      }

  pub within_right : Within c → counts_right c ≡ true
  within_right x =
      let f : first ≡ true = eight_true (leb c.depths.operands operand_limit) (leb c.depths.slots slot_limit) (leb c.depths.frames frame_limit) (leb c.depths.handlers handler_limit)
      (leb c.sizes.functions function_limit) (leb c.sizes.objects object_limit) (leb c.sizes.properties property_limit) (leb c.sizes.globals global_limit)
      (le-leb c.depths.operands operand_limit x.operands) (le-leb c.depths.slots slot_limit x.slots) (le-leb c.depths.frames frame_limit x.frames) (le-leb c.depths.handlers handler_limit x.handlers)
      (le-leb c.sizes.functions function_limit x.functions) (le-leb c.sizes.objects object_limit x.objects) (le-leb c.sizes.properties property_limit x.properties) (le-leb c.sizes.globals global_limit x.globals) in
      five_true first (leb c.code (limit code_store)) (leb c.images (limit image_store)) (leb c.text text_limit) (leb c.output output_limit)
      f (le-leb c.code (limit code_store) x.code) (le-leb c.images (limit image_store) x.images) (le-leb c.text text_limit x.text) (le-leb c.output output_limit x.output)

pub lent_by : (c : Counts) (g : Tables) (m : Mem) → Lengths g m → Within c → lent c g m ≡ true
lent_by c g m x y = ap (λ (b : Bool). b && counts_right c) (lengths_right g m x) ∙ within_right c y

-- as many images as are counted
list_length : {B : Type 0} (f : ℕ → B) (n : ℕ) → length (list f n) ≡ n
list_length f zero = refl
list_length f (suc n) = length-append (list f n) (f n ∷ []) ∙ (let e : length (list f n) ≡ n = list_length f n in omega (arith, e))

pub images_length : (g : Tables) (n : ℕ) → length (images_of g.code g.places g.rows g.starts n) ≡ n
unfolding images_of
images_length g n = list_length (λ i. image_at g.code g.places g.rows (get_or g.starts i 0)) n

-- What is lent is whole,
pub record Lent (c : Counts) (g : Tables) (m : Mem) : Type 0 where
  pub right : lent c g m ≡ true

module _ {c : Counts} {g : Tables} {m : Mem} (e : Lent c g m) where
  pub lent_sizes : sizes_right g m ≡ true
  lent_sizes = (both (sizes_right g m) (counts_right c) e.right).0

  pub lent_lengths : Lengths g m
  lent_lengths = lengths g m lent_sizes

  pub lent_within : Within c
  lent_within = counts_within c (both (sizes_right g m) (counts_right c) e.right).1

  pub whole_lent : Whole c g m (ground_of c g)
  whole_lent = let x = lent_lengths in let y = lent_within in record {
    bounded = record {
      code = rw row_length y.code;
      images = rw images_length y.images;
      operands = rw stack_length y.operands;
      slots = rw row_length y.slots;
      frames = rw (top_length, stack_length) y.frames;
      handlers = rw stack_length y.handlers;
      functions = rw row_length y.functions;
      objects = rw row_length y.objects;
      properties = rw row_length y.properties;
      globals = rw row_length y.globals;
      text = rw row_length y.text;
      output = rw row_length y.output;
    };
    code = refl;
    images = refl;
    codes = x.code;
    stacks = x.stacks;
    heap = x.heap;
    text = x.text;
    output = x.output;
  }

  pub lent_use : InUse g.code c.code m.text c.text
  lent_use = whole_use whole_lent

  pub lent_sized : Sized c.sizes m.heap
  lent_sized = whole_sized whole_lent

-- the heap and the text written: other sizes, and other bytes of text in use
abbrev pub with_stored : Sizes → ℕ → Counts → Counts
with_stored z k c = record { depths = c.depths; sizes = z; code = c.code; images = c.images; text = k; output = c.output }

abbrev pub mem_stored : List ℕ → List ℕ → Mem → Mem
mem_stored h t m = mem m.stacks h t m.output

pub lent_stored : {c : Counts} {g : Tables} {m : Mem} {z : Sizes} {k : ℕ} {h : List ℕ} (t : List ℕ) → Lent c g m → Sized z h → k ≤ text_limit → length t ≡ length m.text
    → lent (with_stored z k c) g (mem_stored h t m) ≡ true
lent_stored {c} {g} {m} {z} {k} {h} t e s n l =
    let x = lent_lengths e in let y = lent_within e in
    lent_by (with_stored z k c) g (mem_stored h t m)
    (record { code = x.code; places = x.places; rows = x.rows; starts = x.starts; stacks = x.stacks; heap = s.size; text = l ∙ x.text; output = x.output })
    (record {
      operands = y.operands;
      slots = y.slots;
      frames = y.frames;
      handlers = y.handlers;
      functions = s.functions;
      objects = s.objects;
      properties = s.properties;
      globals = s.globals;
      code = y.code;
      images = y.images;
      text = n;
      output = y.output;
    })

-- A call that is refused with 33
module _ {c : Counts} {g : Tables} {m : Mem} where
  pub not_lent : {call : H.Call} → lent c g m ≡ false → Called call c g m (H.refusal 33) c g m
  not_lent {call} p = record {
    machine = λ r. (
      ap (λ (b : Bool). (H.perform_on b call (state_in c g m)).answer) p,
      ap (λ (b : Bool). (H.perform_on b call (state_in c g m)).after) p,
    );
    refused = λ n f. (refl, refl, refl);
    stands = λ f s. absurd (false≢true (sym p ∙ f));
    placed = λ z. z;
  }
