-- No store ever holds more than its limit: every act keeps it so where its space questions are answered yes. Assumes nothing.
use mathlib.Core.Path.{◌≡◌, refl, ap}
use mathlib.Core.Bool.{Bool, true, false}
use mathlib.Core.Option.{none}
use mathlib.Core.List.{List, [], ◌∷◌}
use Prim.Native.Nat.{ℕ, suc, ◌+◌, ◌-◌, ◌≤◌}
use native.Mathlib.Omega.{arith}
use lib.Dec.{leb, leb→le}
use lib.ListN.{length, take, length-append, length-drop, length-take, length-set, length-replicate}
use Rattle.machine.specs.Basic.{lowest, sum_of}
use Rattle.std.specs.Prelude.{if◌then◌else◌}
use Rattle.machine.specs.Value.{Value, Text}
use Rattle.machine.specs.Image.{Template}
use Rattle.machine.specs.State.{State, Bytes, Frame, Handler, Function, Kind, array, Property, Global, fresh, end_of, change_first, is_named, has_property, has_global}
use Rattle.machine.specs.State.{Store, code_store, image_store, frame_store, slot_store, handler_store, function_store, object_store, property_store, global_store, text_store, output_store, limit, used, operand_limit}
use Rattle.machine.specs.Fields as S
use Rattle.machine.specs.Act as A
use Rattle.machine.specs.Act.{Act, apply, error, needs, add_text, add_property, add_properties}
use Rattle.machine.specs.Program.{fits}
use Rattle.machine.specs.Demand3.{All}
use Rattle.machine.proofs.Sound.{push_room, length_rest, length_top_at}

pub record Bounded (s : State) : Type 0 where
  pub code : length s.code ≤ limit code_store
  pub images : length s.images ≤ limit image_store
  pub operands : length s.operands ≤ operand_limit
  pub slots : length s.slots ≤ limit slot_store
  pub frames : length s.frames ≤ limit frame_store
  pub handlers : length s.handlers ≤ limit handler_store
  pub functions : length s.functions ≤ limit function_store
  pub objects : length s.objects ≤ limit object_store
  pub properties : length s.properties ≤ limit property_store
  pub globals : length s.globals ≤ limit global_store
  pub text : length s.text ≤ limit text_store
  pub output : length s.output ≤ limit output_store

pub bounded_used : (s : State) → Bounded s → (q : Store) → used s q ≤ limit q
bounded_used s b code_store = b.code
bounded_used s b image_store = b.images
bounded_used s b slot_store = b.slots
bounded_used s b frame_store = b.frames
bounded_used s b handler_store = b.handlers
bounded_used s b function_store = b.functions
bounded_used s b object_store = b.objects
bounded_used s b property_store = b.properties
bounded_used s b global_store = b.globals
bounded_used s b text_store = b.text
bounded_used s b output_store = b.output

pub bounded_fresh : Bounded fresh
bounded_fresh = record { code = omega arith; images = omega arith; operands = omega arith; slots = omega arith; frames = omega arith; handlers = omega arith; functions = omega arith; objects = omega arith; properties = omega arith; globals = omega arith; text = omega arith; output = omega arith }

-- Another field within its limit.
module _ (s : State) (b : Bounded s) where
  of_code : (x : List ℕ) → length x ≤ limit code_store → Bounded (S.set_code x s)
  of_code x l = record { code = l; images = b.images; operands = b.operands; slots = b.slots; frames = b.frames; handlers = b.handlers; functions = b.functions; objects = b.objects; properties = b.properties; globals = b.globals; text = b.text; output = b.output }

  of_images : (x : List (List Template)) → length x ≤ limit image_store → Bounded (S.set_images x s)
  of_images x l = record { code = b.code; images = l; operands = b.operands; slots = b.slots; frames = b.frames; handlers = b.handlers; functions = b.functions; objects = b.objects; properties = b.properties; globals = b.globals; text = b.text; output = b.output }

  of_operands : (x : List Value) → length x ≤ operand_limit → Bounded (S.set_operands x s)
  of_operands x l = record { code = b.code; images = b.images; operands = l; slots = b.slots; frames = b.frames; handlers = b.handlers; functions = b.functions; objects = b.objects; properties = b.properties; globals = b.globals; text = b.text; output = b.output }

  of_slots : (x : List Value) → length x ≤ limit slot_store → Bounded (S.set_slots x s)
  of_slots x l = record { code = b.code; images = b.images; operands = b.operands; slots = l; frames = b.frames; handlers = b.handlers; functions = b.functions; objects = b.objects; properties = b.properties; globals = b.globals; text = b.text; output = b.output }

  of_frames : (x : List Frame) → length x ≤ limit frame_store → Bounded (S.set_frames x s)
  of_frames x l = record { code = b.code; images = b.images; operands = b.operands; slots = b.slots; frames = l; handlers = b.handlers; functions = b.functions; objects = b.objects; properties = b.properties; globals = b.globals; text = b.text; output = b.output }

  of_handlers : (x : List Handler) → length x ≤ limit handler_store → Bounded (S.set_handlers x s)
  of_handlers x l = record { code = b.code; images = b.images; operands = b.operands; slots = b.slots; frames = b.frames; handlers = l; functions = b.functions; objects = b.objects; properties = b.properties; globals = b.globals; text = b.text; output = b.output }

  of_functions : (x : List Function) → length x ≤ limit function_store → Bounded (S.set_functions x s)
  of_functions x l = record { code = b.code; images = b.images; operands = b.operands; slots = b.slots; frames = b.frames; handlers = b.handlers; functions = l; objects = b.objects; properties = b.properties; globals = b.globals; text = b.text; output = b.output }

  of_objects : (x : List Kind) → length x ≤ limit object_store → Bounded (S.set_objects x s)
  of_objects x l = record { code = b.code; images = b.images; operands = b.operands; slots = b.slots; frames = b.frames; handlers = b.handlers; functions = b.functions; objects = l; properties = b.properties; globals = b.globals; text = b.text; output = b.output }

  of_properties : (x : List Property) → length x ≤ limit property_store → Bounded (S.set_properties x s)
  of_properties x l = record { code = b.code; images = b.images; operands = b.operands; slots = b.slots; frames = b.frames; handlers = b.handlers; functions = b.functions; objects = b.objects; properties = l; globals = b.globals; text = b.text; output = b.output }

  of_globals : (x : List Global) → length x ≤ limit global_store → Bounded (S.set_globals x s)
  of_globals x l = record { code = b.code; images = b.images; operands = b.operands; slots = b.slots; frames = b.frames; handlers = b.handlers; functions = b.functions; objects = b.objects; properties = b.properties; globals = l; text = b.text; output = b.output }

  of_text : (x : List ℕ) → length x ≤ limit text_store → Bounded (S.set_text x s)
  of_text x l = record { code = b.code; images = b.images; operands = b.operands; slots = b.slots; frames = b.frames; handlers = b.handlers; functions = b.functions; objects = b.objects; properties = b.properties; globals = b.globals; text = l; output = b.output }

  of_output : (x : List ℕ) → length x ≤ limit output_store → Bounded (S.set_output x s)
  of_output x l = record { code = b.code; images = b.images; operands = b.operands; slots = b.slots; frames = b.frames; handlers = b.handlers; functions = b.functions; objects = b.objects; properties = b.properties; globals = b.globals; text = b.text; output = l }

fit : (x y : ℕ) → leb x y ≡ true → x ≤ y
fit x y e = leb→le x y (rw e tt)

length_change : {A : Type 0} (t : A → Bool) (f : A → A) (xs : List A) → length (change_first t f xs) ≡ length xs
length_change t f [] = refl
length_change t f (x ∷ xs) = go (t x) (length_change t f xs)
  where
    go : (b : Bool) → length (change_first t f xs) ≡ length xs → length (if b then f x ∷ xs else x ∷ change_first t f xs) ≡ suc (length xs)
    go true e = refl
    go false e = ap suc e

keep_frames_lem : (fs : List Frame) (s : State) → Bounded s → length fs ≤ limit frame_store → Bounded (A.keep_frames fs s)
keep_frames_lem fs s b l =
    let k = length-take (end_of fs) s.slots in let m = b.slots in
    of_frames (S.set_slots (take (end_of fs) s.slots) s) (of_slots s b (take (end_of fs) s.slots) (omega arith)) fs l

length_pending : (n : ℕ) (hs : List Handler) → length (A.pending_over n hs) ≤ length hs
length_pending n [] = omega arith
length_pending n (h ∷ hs) = go (leb h.frames n) (length_pending n hs)
  where
    go : (b : Bool) → length (A.pending_over n hs) ≤ length hs → length (if b then h ∷ hs else A.pending_over n hs) ≤ suc (length hs)
    go true l = omega arith
    go false l = omega arith

b_store : (i : ℕ) (v : Value) (fs : List Frame) (s : State) → length fs ≤ limit frame_store → length s.slots + A.lacking_top i fs ≤ limit slot_store → Bounded s → Bounded (A.store_in i v fs s)
b_store i v [] s n l b = b
b_store i v (f ∷ fs) s n l b =
    of_frames _ (of_slots s b _ (simp (length-set, length-append, length-replicate) l)) _ n

b_unwind : (hs : List Handler) (s : State) → length hs ≤ limit handler_store → Bounded s → Bounded (A.unwind_to hs s)
b_unwind [] s n b = b
b_unwind (h ∷ hs) s n b =
    let k = length-drop (length s.operands - h.operands) s.operands in let m = b.operands in
    let f = length-drop (length s.frames - h.frames) s.frames in let g = b.frames in
    of_operands _ (of_handlers _ (keep_frames_lem (lowest h.frames s.frames) s b (omega arith)) hs (omega arith)) _ (omega arith)

b_text : (bs : List ℕ) (s : State) → Bounded s → length s.text + length bs ≤ limit text_store → Bounded (add_text bs s)
b_text bs s b l = of_text s b _ (simp length-append l)

b_property : (o : ℕ) (k : List ℕ) (v : Value) (s : State) → Bounded s → length s.properties + 1 ≤ limit property_store → length s.text + length k ≤ limit text_store → Bounded (add_property o k v s)
b_property o k v s b l m = of_properties _ (b_text k s b m) _ (simp length-append l)

b_properties : (o : ℕ) (kvs : List (List ℕ × Value)) (s : State) → Bounded s → length s.properties + length kvs ≤ limit property_store
    → length s.text + sum_of (λ kv. length kv.0) kvs ≤ limit text_store → Bounded (add_properties o kvs s)
b_properties o [] s b l m = b
b_properties o (kv ∷ kvs) s b l m =
    b_properties o kvs (add_property o kv.0 kv.1 s) (b_property o kv.0 kv.1 s b (omega arith) (omega arith))
    (simp length-append (omega arith)) (simp length-append (omega arith))

pub length_elements : (i : ℕ) (vs : List Value) → length (A.elements i vs) ≡ length vs + 1
length_elements i [] = refl
length_elements i (v ∷ vs) = let h = length_elements (i + 1) vs in omega arith

b_put : (h : Bool) (o : ℕ) (k : List ℕ) (v : Value) (s : State) → Bounded s → length s.properties + A.unless h 1 ≤ limit property_store
    → length s.text + A.unless h (length k) ≤ limit text_store → Bounded (A.set_property h o k v s)
b_put true o k v s b l m = let p = b.properties in of_properties s b _ (simp length_change p)
b_put false o k v s b l m = b_property o k v s b l m

length_name : (h : Bool) (n : List ℕ) → length (A.new_name h n) ≡ A.unless h (length n)
length_name true n = refl
length_name false n = refl

length_bind : (h : Bool) (m : Bytes) (n : List ℕ) (t : Text) (v : Value) (gs : List Global) → length (A.bind h m n t v gs) ≡ length gs + A.unless h 1
length_bind true m n t v gs = omega (arith, length_change (is_named m n) (A.with_global v) gs)
length_bind false m n t v gs = length-append gs _

b_define : (h : Bool) (n : List ℕ) (g : A.Given) (s : State) → Bounded s → length s.globals + A.unless h 1 ≤ limit global_store
    → length s.text + (A.unless h (length n) + length (A.given_bytes g)) ≤ limit text_store → Bounded (A.set_global h n g s)
b_define h n g s b l m =
    let e = length_name h n in let k = length-append s.text (A.new_name h n) in
    of_globals _ (b_text (A.given_bytes g) (add_text (A.new_name h n) s) (b_text (A.new_name h n) s b (omega arith)) (omega arith))
    _ (rw length_bind l)

pub bounded : (a : Act) (s : State) → error a s ≡ none → All (λ n. fits s n ≡ true) (needs a s) → Bounded s → Bounded (apply a s)
bounded (A.push v) s e f b = of_operands s b _ (push_room s.operands _ refl e)
bounded A.drop s e f b = let h = length_rest s.operands in let m = b.operands in of_operands s b _ (omega arith)
bounded (A.drop_many n) s e f b = let h = length-drop n s.operands in let m = b.operands in of_operands s b _ (omega arith)
bounded (A.jump p) s e f b = let m = b.frames in of_frames s b _ (simp length_top_at m)
bounded (A.push_frame i t vs) s e f b =
    let g : length s.frames + 1 ≤ limit frame_store = fit _ _ f.0 in let h : length s.slots + length vs ≤ limit slot_store = fit _ _ f.1.0 in
    of_frames _ (of_slots s b _ (simp length-append h)) _ (omega arith)
bounded A.pop_frame s e f b =
    let h = length_rest s.frames in let m = b.frames in let p = length_pending (length (A.rest s.frames)) s.handlers in let q = b.handlers in
    of_handlers _ (keep_frames_lem (A.rest s.frames) s b (omega arith)) _ (omega arith)
bounded (A.store i v) s e f b = b_store i v s.frames s b.frames (fit _ _ f.0) b
bounded (A.push_handler p) s e f b = let g : length s.handlers + 1 ≤ limit handler_store = fit _ _ f.0 in of_handlers s b _ (omega arith)
bounded A.pop_handler s e f b = let h = length_rest s.handlers in let m = b.handlers in of_handlers s b _ (omega arith)
bounded A.unwind s e f b = b_unwind s.handlers s b.handlers b
bounded (A.add_function i k) s e f b = of_functions s b _ (simp length-append (fit _ _ f.0))
bounded A.add_object s e f b = of_objects s b _ (simp length-append (fit _ _ f.0))
bounded (A.add_array vs) s e f b =
    b_properties (length s.objects) (A.elements 0 vs) (A.add_kind array s) (of_objects s b _ (simp length-append (fit _ _ f.0)))
    (let h = length_elements 0 vs in let g : length s.properties + (length vs + 1) ≤ limit property_store = fit _ _ f.1.0 in omega arith) (fit _ _ f.1.1.0)
bounded (A.put_property o k v) s e f b = b_put (has_property s o k) o k v s b (fit _ _ f.0) (fit _ _ f.1.0)
bounded (A.put_global n g) s e f b = b_define (has_global s n) n g s b (fit _ _ f.0) (fit _ _ f.1.0)
bounded (A.keep_text bs) s e f b = b_text bs s b (fit _ _ f.0)
bounded (A.print bs) s e f b = let g : length s.output + (2 + length bs) ≤ limit output_store = fit _ _ f.0 in of_output s b _ (simp length-append (omega arith))
bounded (A.load bs) s e f b = of_code _ (of_images s b _ (simp length-append (fit _ _ f.1.0))) _ (simp length-append (fit _ _ f.0))
bounded A.empty_output s e f b = of_output s b [] (omega arith)
