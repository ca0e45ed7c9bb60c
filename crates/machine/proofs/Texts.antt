-- The code and text stores only grow: a text inside them keeps its bytes. Assumes nothing.
use mathlib.Core.Path.{◌≡◌, refl, ap, ◌∙◌}
use mathlib.Core.Bool.{Bool, true, false}
use mathlib.Core.List.{List, [], ◌∷◌, ◌++◌}
use Prim.Native.Nat.{ℕ, ◌+◌, ◌-◌, ◌≤◌}
use native.Mathlib.Omega.{arith}
use lib.ListN.{length, take, drop, length-append, length-drop}
use lib.Seq.{drop-append-add, take-append-le, drop-append-le, drop-append_seam, take-length}
use Rattle.machine.specs.Value.{Value, Text, Home, in_code, in_text}
use Rattle.machine.specs.State.{State, Bytes, bytes, Frame, Handler, array, store_of, bytes_of, has_property, has_global}
use Rattle.machine.specs.Fields as S
use Rattle.machine.specs.Act as A
use Rattle.machine.specs.Act.{Act, apply, Held, brings, add_text, next_held, held_keys, add_properties, held_new, new_name}
use Rattle.machine.specs.Demand3.{All}
use Rattle.machine.specs.Image.{Template, Constant, Read}
use Rattle.machine.specs.Image as I
use Rattle.machine.proofs.Images.{ConstantIn, TemplateIn, Good, image}

abbrev pub Inside : Bytes → Text → Type 0
Inside m t = t.at + t.size ≤ length (store_of m t.store)

-- Every text that is inside stays inside, with its bytes.
abbrev pub Grows : Bytes → Bytes → Type 0
Grows m m' = (t : Text) → Inside m t → Inside m' t × (bytes_of m' t ≡ bytes_of m t)

pub slice_grows : (xs ys : List ℕ) (at n : ℕ) → at + n ≤ length xs
    → (at + n ≤ length (xs ++ ys)) × (take n (drop at (xs ++ ys)) ≡ take n (drop at xs))
slice_grows xs ys at n h = (
  simp length-append (omega arith),
  let a : at ≤ length xs = omega arith in
      let b : n ≤ length (drop at xs) = simp length-drop (omega arith) in
      rw drop-append-le (rw take-append-le),
)

pub slice_new : (xs bs : List ℕ) → (length xs + length bs ≤ length (xs ++ bs)) × (take (length bs) (drop (length xs) (xs ++ bs)) ≡ bs)
slice_new xs bs = (simp length-append (omega arith), rw drop-append_seam (take-length bs))

-- Text is added.
text_grows : (s : State) (bs : List ℕ) (h : Home) (at n : ℕ)
    → let t : Text = record { store = h; at = at; size = n } in Inside (bytes s) t → Inside (bytes (add_text bs s)) t × (bytes_of (bytes (add_text bs s)) t ≡ bytes_of (bytes s) t)
text_grows s bs in_code at n i = (i, refl)
text_grows s bs in_text at n i = slice_grows s.text bs at n i

pub grows_text : (bs : List ℕ) (s : State) → Grows (bytes s) (bytes (add_text bs s))
grows_text bs s t i = text_grows s bs t.store t.at t.size i

code_grows : (s : State) (bs : List ℕ) (h : Home) (at n : ℕ)
    → let t : Text = record { store = h; at = at; size = n } in Inside (bytes s) t → Inside (bytes (S.set_code (s.code ++ bs) s)) t × (bytes_of (bytes (S.set_code (s.code ++ bs) s)) t ≡ bytes_of (bytes s) t)
code_grows s bs in_code at n i = slice_grows s.code bs at n i
code_grows s bs in_text at n i = (i, refl)

pub grows_trans : (m m' m'' : Bytes) → Grows m m' → Grows m' m'' → Grows m m''
grows_trans m m' m'' f g t i = let h = f t i in let k = g t h.0 in (k.0, k.1 ∙ h.1)

grows_properties : (o : ℕ) (kvs : List (List ℕ × Value)) (s : State) → Grows (bytes s) (bytes (add_properties o kvs s))
grows_properties o [] s t i = (i, refl)
grows_properties o (kv ∷ kvs) s t i =
    let h = grows_text kv.0 s t i in
    let k = grows_properties o kvs (A.add_property o kv.0 kv.1 s) t h.0 in (k.0, k.1 ∙ h.1)

grows_put : (b : Bool) (o : ℕ) (k : List ℕ) (v : Value) (s : State) → Grows (bytes s) (bytes (A.set_property b o k v s))
grows_put true o k v s t i = (i, refl)
grows_put false o k v s t i = grows_text k s t i

grows_define : (b : Bool) (n : List ℕ) (g : A.Given) (s : State) → Grows (bytes s) (bytes (A.set_global b n g s))
grows_define b n g s =
    grows_trans (bytes s) (bytes (add_text (new_name b n) s)) _ (grows_text (new_name b n) s) (grows_text (A.given_bytes g) (add_text (new_name b n) s))

grows_store : (i : ℕ) (v : Value) (fs : List Frame) (s : State) → Grows (bytes s) (bytes (A.store_in i v fs s))
grows_store i v [] s t h = (h, refl)
grows_store i v (f ∷ fs) s t h = (h, refl)

grows_unwind : (hs : List Handler) (s : State) → Grows (bytes s) (bytes (A.unwind_to hs s))
grows_unwind [] s t i = (i, refl)
grows_unwind (h ∷ hs) s t i = (i, refl)

pub grows : (a : Act) (s : State) → Grows (bytes s) (bytes (apply a s))
grows (A.push v) s t i = (i, refl)
grows A.drop s t i = (i, refl)
grows (A.drop_many n) s t i = (i, refl)
grows (A.jump p) s t i = (i, refl)
grows (A.push_frame j k vs) s t i = (i, refl)
grows A.pop_frame s t i = (i, refl)
grows (A.store j v) s t i = grows_store j v s.frames s t i
grows (A.push_handler p) s t i = (i, refl)
grows A.pop_handler s t i = (i, refl)
grows A.unwind s t i = grows_unwind s.handlers s t i
grows (A.add_function j k) s t i = (i, refl)
grows A.add_object s t i = (i, refl)
grows (A.add_array vs) s t i = grows_properties (length s.objects) (A.elements 0 vs) (A.add_kind array s) t i
grows (A.put_property o k v) s t i = grows_put (has_property s o k) o k v s t i
grows (A.put_global n g) s t i = grows_define (has_global s n) n g s t i
grows (A.keep_text bs) s t i = grows_text bs s t i
grows (A.print bs) s t i = (i, refl)
grows (A.load bs) s t i = code_grows s bs t.store t.at t.size i
grows A.empty_output s t i = (i, refl)

-- Held texts

pub record Holds (m : Bytes) (h : Held) : Type 0 where
  pub inside : Inside m h.text
  pub same : bytes_of m h.text ≡ h.bytes

pub all_append : {A : Type 0} (P : A → Type 0) (xs ys : List A) → All P xs → All P ys → All P (xs ++ ys)
all_append P [] ys p q = q
all_append P (x ∷ xs) ys p q = (p.0, all_append P xs ys p.1 q)

pub all_map : {A : Type 0} (P Q : A → Type 0) → ((a : A) → P a → Q a) → (xs : List A) → All P xs → All Q xs
all_map P Q f [] p = tt
all_map P Q f (x ∷ xs) p = (f x p.0, all_map P Q f xs p.1)

pub holds_grows : (m m' : Bytes) → Grows m m' → (h : Held) → Holds m h → Holds m' h
holds_grows m m' g h k = let n = g h.text k.inside in record { inside = n.0; same = n.1 ∙ k.same }

pub held_grows : (m m' : Bytes) → Grows m m' → (hs : List Held) → All (Holds m) hs → All (Holds m') hs
held_grows m m' g hs = all_map (Holds m) (Holds m') (holds_grows m m' g) hs

-- The bytes that are kept next.
next_holds : (s : State) (bs : List ℕ) → Holds (bytes (add_text bs s)) (next_held s bs)
next_holds s bs = let n = slice_new s.text bs in record { inside = n.0; same = n.1 }

keys_hold : (o : ℕ) (kvs : List (List ℕ × Value)) (s : State) → All (Holds (bytes (add_properties o kvs s))) (held_keys o kvs s)
keys_hold o [] s = tt
keys_hold o (kv ∷ kvs) s = (
  holds_grows (bytes (add_text kv.0 s)) (bytes (add_properties o (kv ∷ kvs) s)) (grows_properties o kvs (A.add_property o kv.0 kv.1 s)) (next_held s kv.0) (next_holds s kv.0),
  keys_hold o kvs (A.add_property o kv.0 kv.1 s),
)

put_holds : (b : Bool) (o : ℕ) (k : List ℕ) (v : Value) (s : State) → All (Holds (bytes (A.set_property b o k v s))) (held_new b k s)
put_holds true o k v s = tt
put_holds false o k v s = (next_holds s k, tt)

name_holds : (b : Bool) (n : List ℕ) (s : State) → All (Holds (bytes (add_text (new_name b n) s))) (held_new b n s)
name_holds true n s = tt
name_holds false n s = (next_holds s n, tt)

given_holds : (g : A.Given) (s : State) → All (Holds (bytes (add_text (A.given_bytes g) s))) (A.held_given g s)
given_holds (A.plain v) s = tt
given_holds (A.as_bytes bs) s = (next_holds s bs, tt)

-- A text constant of an image at the end of the code store has the bytes that were loaded.
slice_loaded : (c bs : List ℕ) (at n : ℕ) → length c ≤ at → at + n ≤ length c + length bs
    → (at + n ≤ length (c ++ bs)) × (take n (drop at (c ++ bs)) ≡ take n (drop (at - length c) bs))
slice_loaded c bs at n l h =
    let e : at ≡ length c + (at - length c) = omega arith in
    (simp length-append (omega arith), ap (λ x. take n (drop x (c ++ bs))) e ∙ ap (take n) (drop-append-add c bs (at - length c)))

constant_holds : (s : State) (bs : List ℕ) (c : Constant) → ConstantIn (length s.code) (length s.code + length bs) c
    → All (Holds (bytes (apply (A.load bs) s))) (A.held_constant (length s.code) bs c)
constant_holds s bs (Constant.number n) w = tt
constant_holds s bs (Constant.text t) w =
    let k = slice_loaded s.code bs t.at t.size w.1 w.2 in
    (record { inside = rw w.0 k.0; same = rw w.0 k.1 }, tt)
constant_holds s bs (Constant.boolean b) w = tt
constant_holds s bs Constant.null w = tt
constant_holds s bs Constant.undefined w = tt
constant_holds s bs (Constant.function t) w = tt

pub all_flat : {X Y : Type 0} (P : X → Type 0) (Q : Y → Type 0) (f : X → List Y) → ((a : X) → P a → All Q (f a)) → (xs : List X) → All P xs → All Q (A.flat_map f xs)
all_flat P Q f g [] p = tt
all_flat P Q f g (x ∷ xs) p = all_append Q (f x) (A.flat_map f xs) (g x p.0) (all_flat P Q f g xs p.1)

image_holds : (s : State) (bs : List ℕ) (r : Read (List Template))
    → Good (length s.code) (length s.code + length bs) (All (TemplateIn (length s.code) (length s.code + length bs))) r
    → All (Holds (bytes (apply (A.load bs) s))) (A.held_image (length s.code) bs (A.templates_read r))
image_holds s bs (Read.refused n) g = tt
image_holds s bs (Read.got ts at rest) g =
    let lo = length s.code in let hi = length s.code + length bs in let Q = Holds (bytes (apply (A.load bs) s)) in
    all_flat (TemplateIn lo hi) Q (λ t. A.flat_map (A.held_constant lo bs) t.constants)
    (λ t p. all_flat (ConstantIn lo hi) Q (A.held_constant lo bs) (constant_holds s bs) t.constants p) ts g.2

-- The texts that an act brings have their bytes.
pub brought : (a : Act) (s : State) → All (Holds (bytes (apply a s))) (brings a s)
brought (A.push v) s = tt
brought A.drop s = tt
brought (A.drop_many n) s = tt
brought (A.jump p) s = tt
brought (A.push_frame j k vs) s = tt
brought A.pop_frame s = tt
brought (A.store j v) s = tt
brought (A.push_handler p) s = tt
brought A.pop_handler s = tt
brought A.unwind s = tt
brought (A.add_function j k) s = tt
brought A.add_object s = tt
brought (A.add_array vs) s = keys_hold (length s.objects) (A.elements 0 vs) (A.add_kind array s)
brought (A.put_property o k v) s = put_holds (has_property s o k) o k v s
brought (A.put_global n g) s =
    let named = add_text (new_name (has_global s n) n) s in
    let all = add_text (A.given_bytes g) named in
    all_append (Holds (bytes all)) (held_new (has_global s n) n s) (A.held_given g named)
    (held_grows (bytes named) (bytes all) (grows_text (A.given_bytes g) named) (held_new (has_global s n) n s) (name_holds (has_global s n) n s))
    (given_holds g named)
brought (A.keep_text bs) s = (next_holds s bs, tt)
brought (A.print bs) s = tt
brought (A.load bs) s = image_holds s bs (I.image (length s.code) bs) (image (length s.code) (length s.code + length bs) (length s.code) bs (omega arith) refl)
brought A.empty_output s = tt
