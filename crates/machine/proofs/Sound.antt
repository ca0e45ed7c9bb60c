-- The machine's counts and the tally agree, and every act keeps it so. Assumes nothing.
use mathlib.Core.Path.{◌≡◌, refl, sym, ap, ap₂, ◌∙◌, subst}
use mathlib.Core.Bool.{Bool, true, false, ◌||◌}
use mathlib.Core.Option.{Option, none, some}
use mathlib.Core.List.{List, [], ◌∷◌, ◌++◌, map}
use Prim.Native.Nat.{ℕ, ◌+◌, ◌-◌, ◌≤◌, ◌<◌, min}
use native.Mathlib.Omega.{arith}
use lib.Dec.{leb, ltb, ltb→lt}
use lib.ListN.{length, take, drop, length-append, length-drop, length-map}
use borrow.Author.Tests.{leb-true, le-leb}
use Rattle.machine.specs.Basic.{same, filter, lowest}
use Rattle.std.specs.Prelude.{if◌then◌else◌}
use Rattle.machine.specs.Value.{Value}
use Rattle.machine.specs.State.{State, Bytes, bytes, Frame, Handler, Property, Name, console, kept, Global, array, Kind, bytes_of, name_bytes, is_pair, is_named, any, change_first, has_property, has_global, next_text, fresh, top_at, end_of}
use Rattle.machine.specs.State.{Store, code_store, image_store, frame_store, slot_store, handler_store, function_store, object_store, property_store, global_store, text_store, output_store, used, operand_limit}
use Rattle.machine.specs.Error.{JsVmError, stack_overflow, no_call_frame}
use Rattle.machine.specs.Fields as S
use Rattle.machine.specs.Act as A
use Rattle.machine.specs.Act.{Act, apply, error, add_text, add_property, add_properties}
use Rattle.machine.specs.Tally as T
use Rattle.machine.specs.Tally.{Tally, Pair, count, use_of, nothing}
use Rattle.machine.specs.Demand3.{All, saved_by, saved_within}
use Rattle.machine.proofs.Texts.{Inside, Grows, grows, grows_text, slice_new, all_append, all_map}
use Rattle.machine.proofs.Frames as F
use Rattle.machine.proofs.Frames.{Frames}

-- Properties and names

abbrev pub pair_of : Bytes → Property → Pair
pair_of m p = record { object = p.owner; key = bytes_of m p.key }

abbrev pub NameInside : Bytes → Name → Type 0
NameInside m console = Unit {0}
NameInside m (kept t) = Inside m t

abbrev pub name_of : Bytes → Global → List ℕ
name_of m g = name_bytes m g.name

pub record Keys (m : Bytes) (ps : List Property) (pairs : List Pair) : Type 0 where
  pub inside : All (λ p. Inside m p.key) ps
  pub agree : map (pair_of m) ps ≡ pairs

pub record Names (m : Bytes) (gs : List Global) (names : List (List ℕ)) : Type 0 where
  pub inside : All (λ g. NameInside m g.name) gs
  pub agree : map (name_of m) gs ≡ names

module _ (m m' : Bytes) (g : Grows m m') where
  keys_same : (ps : List Property) → All (λ p. Inside m p.key) ps → map (pair_of m') ps ≡ map (pair_of m) ps
  keys_same [] i = refl
  keys_same (p ∷ ps) i = ap₂ (λ (b : List ℕ) (r : List Pair). record { object = p.owner; key = b } ∷ r) (g p.key i.0).1 (keys_same ps i.1)

  keys_grow : (ps : List Property) (pairs : List Pair) → Keys m ps pairs → Keys m' ps pairs
  keys_grow ps pairs k = record {
    inside = all_map (λ p. Inside m p.key) (λ p. Inside m' p.key) (λ p i. (g p.key i).0) ps k.inside;
    agree = keys_same ps k.inside ∙ k.agree;
  }

  name_grow : (n : Name) → NameInside m n → NameInside m' n × (name_bytes m' n ≡ name_bytes m n)
  name_grow console i = (tt, refl)
  name_grow (kept t) i = g t i

  names_same : (gs : List Global) → All (λ x. NameInside m x.name) gs → map (name_of m') gs ≡ map (name_of m) gs
  names_same [] i = refl
  names_same (x ∷ gs) i = ap₂ (λ (b : List ℕ) (r : List (List ℕ)). b ∷ r) (name_grow x.name i.0).1 (names_same gs i.1)

  names_grow : (gs : List Global) (names : List (List ℕ)) → Names m gs names → Names m' gs names
  names_grow gs names k = record {
    inside = all_map (λ x. NameInside m x.name) (λ x. NameInside m' x.name) (λ x i. (name_grow x.name i).0) gs k.inside;
    agree = names_same gs k.inside ∙ k.agree;
  }

-- A newer handler saved at least the frames of an older one, the newest at most those that stand, and each at least its own.
abbrev pub Nested : ℕ → List Handler → Type 0
Nested n [] = Unit {0}
Nested n (h ∷ hs) = (1 ≤ h.frames) × (h.frames ≤ n) × Nested h.frames hs

nested_more : (m n : ℕ) (hs : List Handler) → m ≤ n → Nested m hs → Nested n hs
nested_more m n [] l a = tt
nested_more m n (h ∷ hs) l a = let b = a.1 in (a.0, omega arith, a.2)

pub nested_all : (m n : ℕ) (hs : List Handler) → m ≤ n → Nested m hs → All (λ h. h.frames ≤ n) hs
nested_all m n [] l a = tt
nested_all m n (h ∷ hs) l a = let b = a.1 in (omega arith, nested_all h.frames n hs (omega arith) a.2)

-- Over n frames, no older handler than one that saved at most n saved more: so letting the newest go while they saved more is asking each one.
older_within : (m n : ℕ) (hs : List Handler) → m ≤ n → Nested m hs → saved_within n hs ≡ hs
older_within m n [] l a = refl
older_within m n (h ∷ hs) l a =
    let b = a.1 in rw (le-leb h.frames n (omega arith)) (ap (λ (x : List Handler). h ∷ x) (older_within h.frames n hs (omega arith) a.2))

pub record Left (n : ℕ) (hs hs' : List Handler) : Type 0 where
  pub nested : Nested n hs'
  pub each : hs' ≡ saved_within n hs

pub pending_over_lem : (m n : ℕ) (hs : List Handler) → Nested m hs → Left n hs (A.pending_over n hs)
pending_over_lem m n [] a = record { nested = tt; each = refl }
pending_over_lem m n (h ∷ hs) a = go (leb h.frames n) refl (pending_over_lem h.frames n hs a.2)
  where
    go : (b : Bool) → leb h.frames n ≡ b → Left n hs (A.pending_over n hs) → Left n (h ∷ hs) (if b then h ∷ hs else A.pending_over n hs)
    go true e p = record {
      nested = (a.0, leb-true h.frames n e, a.2);
      each = rw e (ap (λ (x : List Handler). h ∷ x) (sym (older_within h.frames n hs (leb-true h.frames n e) a.2)));
    }
    go false e p = record { nested = p.nested; each = rw e p.each }

-- The tally asks each one likewise.
map_filter : {A B : Type 0} (f : A → B) (p : B → Bool) (xs : List A) → map f (filter (λ x. p (f x)) xs) ≡ filter p (map f xs)
map_filter f p [] = refl
map_filter f p (x ∷ xs) = go (p (f x)) (map_filter f p xs)
  where
    go : (b : Bool) → map f (filter (λ y. p (f y)) xs) ≡ filter p (map f xs)
        → map f (if b then x ∷ filter (λ y. p (f y)) xs else filter (λ y. p (f y)) xs) ≡ (if b then f x ∷ filter p (map f xs) else filter p (map f xs))
    go true e = ap (λ ys. f x ∷ ys) e
    go false e = e

-- Of the whole state

pub record Sound (s : State) (t : Tally) : Type 0 where
  pub code : length s.code ≡ t.code
  pub images : length s.images ≡ t.images
  pub operands : length s.operands ≡ t.operands
  pub few : length s.operands ≤ operand_limit
  pub frames : Frames s.frames s.slots t.frames
  pub handlers : map saved_by s.handlers ≡ t.handlers
  pub saved : Nested (length s.frames) s.handlers
  pub functions : length s.functions ≡ t.functions
  pub objects : length s.objects ≡ t.objects
  pub keys : Keys (bytes s) s.properties t.pairs
  pub names : Names (bytes s) s.globals t.names
  pub text : length s.text ≡ t.text
  pub output : length s.output ≡ t.output

pub sound_fresh : Sound fresh nothing
sound_fresh = record {
  code = refl;
  images = refl;
  operands = refl;
  few = omega arith;
  frames = record { contiguous = tt; full = refl; counts = refl };
  handlers = refl;
  saved = tt;
  functions = refl;
  objects = refl;
  keys = record { inside = tt; agree = refl };
  names = record { inside = (tt, tt); agree = refl };
  text = refl;
  output = refl;
}

-- What a store holds is the use tallied.
pub used_is : (q : Store) (s : State) (t : Tally) → Sound s t → used s q ≡ use_of t q
used_is code_store s t r = r.code
used_is image_store s t r = r.images
used_is frame_store s t r = F.frames_used s.frames s.slots t.frames r.frames
used_is slot_store s t r = F.slots_used s.frames s.slots t.frames r.frames
used_is handler_store s t r = sym (length-map s.handlers saved_by) ∙ ap length r.handlers
used_is function_store s t r = r.functions
used_is object_store s t r = r.objects
used_is property_store s t r = sym (length-map s.properties (pair_of (bytes s))) ∙ ap length r.keys.agree
used_is global_store s t r = sym (length-map s.globals (name_of (bytes s))) ∙ ap length r.names.agree
used_is text_store s t r = r.text
used_is output_store s t r = r.output

-- A part of the state changes, and the tally with it.
module _ (s : State) (t : Tally) (r : Sound s t) where
  with_operands_lem : (vs : List Value) (n : ℕ) → length vs ≡ n → length vs ≤ operand_limit → Sound (S.set_operands vs s) (T.tally_operands n t)
  with_operands_lem vs n e l = record {
    code = r.code;
    images = r.images;
    operands = e;
    few = l;
    frames = r.frames;
    handlers = r.handlers;
    saved = r.saved;
    functions = r.functions;
    objects = r.objects;
    text = r.text;
    output = r.output;
    keys = r.keys;
    names = r.names;
  }

  with_stacks_lem : (fs : List Frame) (slots : List Value) (ns : List ℕ) (hs : List Handler) (n : List T.Saved) → Frames fs slots ns → map saved_by hs ≡ n
      → Nested (length fs) hs → Sound (S.set_handlers hs (S.set_frames fs (S.set_slots slots s))) (T.tally_handlers n (T.tally_frames ns t))
  with_stacks_lem fs slots ns hs n f e a = record {
    code = r.code;
    images = r.images;
    operands = r.operands;
    few = r.few;
    frames = f;
    handlers = e;
    saved = a;
    functions = r.functions;
    objects = r.objects;
    text = r.text;
    output = r.output;
    keys = r.keys;
    names = r.names;
  }

  -- No fewer frames stand.
  with_frames : (fs : List Frame) (slots : List Value) (ns : List ℕ) → Frames fs slots ns → length s.frames ≤ length fs
      → Sound (S.set_frames fs (S.set_slots slots s)) (T.tally_frames ns t)
  with_frames fs slots ns f l =
      with_stacks_lem fs slots ns s.handlers t.handlers f r.handlers (nested_more (length s.frames) (length fs) s.handlers l r.saved)

  with_handlers_lem : (hs : List Handler) (n : List T.Saved) → map saved_by hs ≡ n → Nested (length s.frames) hs → Sound (S.set_handlers hs s) (T.tally_handlers n t)
  with_handlers_lem hs n e a = with_stacks_lem s.frames s.slots t.frames hs n r.frames e a

  with_functions_lem : (i k : ℕ) → Sound (apply (A.add_function i k) s) (count (A.add_function i k) t)
  with_functions_lem i k = record {
    code = r.code;
    images = r.images;
    operands = r.operands;
    few = r.few;
    frames = r.frames;
    handlers = r.handlers;
    saved = r.saved;
    functions = length-append s.functions _ ∙ ap (λ (n : ℕ). n + 1) r.functions;
    objects = r.objects;
    text = r.text;
    output = r.output;
    keys = r.keys;
    names = r.names;
  }

  with_kind : (k : Kind) → Sound (A.add_kind k s) (T.tally_objects (t.objects + 1) t)
  with_kind k = record {
    code = r.code;
    images = r.images;
    operands = r.operands;
    few = r.few;
    frames = r.frames;
    handlers = r.handlers;
    saved = r.saved;
    functions = r.functions;
    objects = length-append s.objects _ ∙ ap (λ (n : ℕ). n + 1) r.objects;
    text = r.text;
    output = r.output;
    keys = r.keys;
    names = r.names;
  }

  with_output_lem : (o : List ℕ) (n : ℕ) → length o ≡ n → Sound (S.set_output o s) (T.tally_output n t)
  with_output_lem o n e = record {
    code = r.code;
    images = r.images;
    operands = r.operands;
    few = r.few;
    frames = r.frames;
    handlers = r.handlers;
    saved = r.saved;
    functions = r.functions;
    objects = r.objects;
    text = r.text;
    output = e;
    keys = r.keys;
    names = r.names;
  }

  with_text_lem : (bs : List ℕ) → Sound (add_text bs s) (T.tally_text (t.text + length bs) t)
  with_text_lem bs = record {
    code = r.code;
    images = r.images;
    operands = r.operands;
    few = r.few;
    frames = r.frames;
    handlers = r.handlers;
    saved = r.saved;
    functions = r.functions;
    objects = r.objects;
    text = length-append s.text bs ∙ ap (λ (n : ℕ). n + length bs) r.text;
    output = r.output;
    keys = keys_grow (bytes s) (bytes (add_text bs s)) (grows_text bs s) s.properties t.pairs r.keys;
    names = names_grow (bytes s) (bytes (add_text bs s)) (grows_text bs s) s.globals t.names r.names;
  }

  with_code : (bs : List ℕ) → Sound (apply (A.load bs) s) (count (A.load bs) t)
  with_code bs = record {
    code = length-append s.code bs ∙ ap (λ (n : ℕ). n + length bs) r.code;
    images = length-append s.images _ ∙ ap (λ (n : ℕ). n + 1) r.images;
    operands = r.operands;
    few = r.few;
    frames = r.frames;
    handlers = r.handlers;
    saved = r.saved;
    functions = r.functions;
    objects = r.objects;
    text = r.text;
    output = r.output;
    keys = keys_grow (bytes s) (bytes (apply (A.load bs) s)) (grows (A.load bs) s) s.properties t.pairs r.keys;
    names = names_grow (bytes s) (bytes (apply (A.load bs) s)) (grows (A.load bs) s) s.globals t.names r.names;
  }

  with_keys : (ps : List Property) (pairs : List Pair) → Keys (bytes s) ps pairs → Sound (S.set_properties ps s) (T.tally_pairs pairs t)
  with_keys ps pairs k = record {
    code = r.code;
    images = r.images;
    operands = r.operands;
    few = r.few;
    frames = r.frames;
    handlers = r.handlers;
    saved = r.saved;
    functions = r.functions;
    objects = r.objects;
    text = r.text;
    output = r.output;
    keys = k;
    names = r.names;
  }

  with_names : (gs : List Global) (names : List (List ℕ)) → Names (bytes s) gs names → Sound (S.set_globals gs s) (T.tally_names names t)
  with_names gs names k = record {
    code = r.code;
    images = r.images;
    operands = r.operands;
    few = r.few;
    frames = r.frames;
    handlers = r.handlers;
    saved = r.saved;
    functions = r.functions;
    objects = r.objects;
    text = r.text;
    output = r.output;
    keys = r.keys;
    names = k;
  }

-- A property or a global more, or another value for one.

map_append : {A B : Type 0} (f : A → B) (xs ys : List A) → map f (xs ++ ys) ≡ map f xs ++ map f ys
map_append f [] ys = refl
map_append f (x ∷ xs) ys = ap (λ r. f x ∷ r) (map_append f xs ys)

-- A change of the first element that passes a test, where the change keeps g or P.
map_change : {A B : Type 0} (g : A → B) (t : A → Bool) (f : A → A) → ((a : A) → g (f a) ≡ g a) → (xs : List A) → map g (change_first t f xs) ≡ map g xs
map_change g t f h [] = refl
map_change g t f h (x ∷ xs) = go (t x) (map_change g t f h xs)
  where
    go : (b : Bool) → map g (change_first t f xs) ≡ map g xs → map g (if b then f x ∷ xs else x ∷ change_first t f xs) ≡ g x ∷ map g xs
    go true e = ap (λ a. a ∷ map g xs) (h x)
    go false e = ap (λ r. g x ∷ r) e

all_change : {A : Type 0} (P : A → Type 0) (t : A → Bool) (f : A → A) → ((a : A) → P a → P (f a)) → (xs : List A) → All P xs → All P (change_first t f xs)
all_change P t f h [] p = tt
all_change P t f h (x ∷ xs) p = go (t x) (all_change P t f h xs p.1)
  where
    go : (b : Bool) → All P (change_first t f xs) → All P (if b then f x ∷ xs else x ∷ change_first t f xs)
    go true c = (h x p.0, p.1)
    go false c = (p.0, c)

add_key : (o : ℕ) (k : List ℕ) (v : Value) (s : State) (t : Tally) → Sound s t → Sound (add_property o k v s) (T.add_pair o k t)
add_key o k v s t r =
    let s' = add_text k s in
    let r' = with_text_lem s t r k in
    let new : Property = record { owner = o; key = next_text s (length k); value = v } in
    let n = slice_new s.text k in
    with_keys s' (T.tally_text (t.text + length k) t) r' (s.properties ++ new ∷ []) _ (record {
      inside = all_append (λ p. Inside (bytes s') p.key) s.properties (new ∷ []) r'.keys.inside (n.0, tt);
      agree = map_append (pair_of (bytes s')) s.properties (new ∷ [])
          ∙ ap₂ (λ (x : List Pair) (b : List ℕ). x ++ record { object = o; key = b } ∷ []) r'.keys.agree n.1;
    })

add_keys : (o : ℕ) (kvs : List (List ℕ × Value)) (s : State) (t : Tally) → Sound s t → Sound (add_properties o kvs s) (T.add_pairs o kvs t)
add_keys o [] s t r = r
add_keys o (kv ∷ kvs) s t r = add_keys o kvs (add_property o kv.0 kv.1 s) (T.add_pair o kv.0 t) (add_key o kv.0 kv.1 s t r)

put_key : (b : Bool) (o : ℕ) (k : List ℕ) (v : Value) (s : State) (t : Tally) → Sound s t → Sound (A.set_property b o k v s) (T.put_pair b o k t)
put_key true o k v s t r = with_keys s t r (change_first (is_pair (bytes s) o k) (A.with_value v) s.properties) t.pairs (record {
  inside = all_change (λ p. Inside (bytes s) p.key) (is_pair (bytes s) o k) (A.with_value v) (λ p i. i) s.properties r.keys.inside;
  agree = map_change (pair_of (bytes s)) (is_pair (bytes s) o k) (A.with_value v) (λ p. refl) s.properties ∙ r.keys.agree;
})
put_key false o k v s t r = add_key o k v s t r

-- A global: its name, if it is new, then a text given as bytes.
put_name_lem : (b : Bool) (n : List ℕ) (g : A.Given) (s : State) (t : Tally) → Sound s t
    → Sound (A.set_global b n g s) (T.add_bytes (A.given_bytes g) (T.put_name b n t))
put_name_lem true n g s t r =
    let named = add_text [] s in
    let all = add_text (A.given_bytes g) named in
    let e : t.text + 0 ≡ t.text = omega arith in
    let r₁ : Sound named t = subst (λ (x : ℕ). Sound named (T.tally_text x t)) e (with_text_lem s t r []) in
    let r₂ = with_text_lem named t r₁ (A.given_bytes g) in
    with_names all _ r₂ (change_first (is_named (bytes s) n) (A.with_global (A.given_value g named)) s.globals) t.names (record {
      inside = all_change (λ x. NameInside (bytes all) x.name) (is_named (bytes s) n) (A.with_global (A.given_value g named)) (λ x i. i) s.globals r₂.names.inside;
      agree = map_change (name_of (bytes all)) (is_named (bytes s) n) (A.with_global (A.given_value g named)) (λ x. refl) s.globals ∙ r₂.names.agree;
    })
put_name_lem false n g s t r =
    let named = add_text n s in
    let all = add_text (A.given_bytes g) named in
    let r₂ = with_text_lem named _ (with_text_lem s t r n) (A.given_bytes g) in
    let new : Global = record { name = kept (next_text s (length n)); value = A.given_value g named } in
    let h = slice_new s.text n in
    let k = grows_text (A.given_bytes g) named (next_text s (length n)) h.0 in
    with_names all _ r₂ (s.globals ++ new ∷ []) _ (record {
      inside = all_append (λ x. NameInside (bytes all) x.name) s.globals (new ∷ []) r₂.names.inside (k.0, tt);
      agree = map_append (name_of (bytes all)) s.globals (new ∷ [])
          ∙ ap₂ (λ (x : List (List ℕ)) (b : List ℕ). x ++ b ∷ []) r₂.names.agree (k.1 ∙ h.1);
    })

-- The machine finds a key or a name exactly where the tally has it.
any_map : {A B : Type 0} (f : B → Bool) (g : A → B) (xs : List A) → any (λ a. f (g a)) xs ≡ any f (map g xs)
any_map f g [] = refl
any_map f g (x ∷ xs) = ap (λ b. f (g x) || b) (any_map f g xs)

pub has_key : (o : ℕ) (k : List ℕ) (s : State) (t : Tally) → Sound s t → has_property s o k ≡ any (T.is_key o k) t.pairs
has_key o k s t r = any_map (T.is_key o k) (pair_of (bytes s)) s.properties ∙ ap (any (T.is_key o k)) r.keys.agree

pub has_name : (n : List ℕ) (s : State) (t : Tally) → Sound s t → has_global s n ≡ any (λ m. same m n) t.names
has_name n s t r = any_map (λ m. same m n) (name_of (bytes s)) s.globals ∙ ap (any (λ m. same m n)) r.names.agree

-- Stacks
pub length_top_at : (p : ℕ) (fs : List Frame) → length (top_at p fs) ≡ length fs
length_top_at p [] = refl
length_top_at p (f ∷ fs) = refl

pub length_rest : {X : Type 0} (xs : List X) → length (A.rest xs) ≡ length xs - 1
length_rest [] = refl
length_rest (x ∷ xs) = omega arith

nested_rest : (n : ℕ) (hs : List Handler) → Nested n hs → Nested n (A.rest hs)
nested_rest n [] a = tt
nested_rest n (h ∷ hs) a = nested_more h.frames n hs a.1 a.2

pub push_room : (vs : List Value) (b : Bool) → ltb (length vs) operand_limit ≡ b → ◌≡◌ {A = Option JsVmError} (if b then none else some stack_overflow) none → length vs < operand_limit
push_room vs true q e = ltb→lt (length vs) operand_limit (rw q tt)
push_room vs false q e = let z : ◌≡◌ {A = ℕ} 0 1 = cc in omega arith

handler_room : (fs : List Frame) → A.or_else no_call_frame fs ≡ none → 1 ≤ length fs
handler_room [] e = let z : ◌≡◌ {A = ℕ} 0 1 = cc in omega arith
handler_room (f ∷ fs) e = omega arith

sound_store : (i : ℕ) (v : Value) (fs : List Frame) (s : State) (t : Tally) → s.frames ≡ fs → Sound s t
    → Sound (A.store_in i v fs s) (T.tally_frames (T.reach i t.frames) t)
sound_store i v [] s t e r =
    let z : t.frames ≡ [] = sym r.frames.counts ∙ ap (map F.slot_count) e in
    with_frames s t r s.frames s.slots (T.reach i t.frames) (rw (ap (T.reach i) z ∙ sym z) r.frames) (omega arith)
sound_store i v (f ∷ fs) s t e r = with_frames s t r _ _ _ (F.store i v f fs s.slots t.frames (rw e at r.frames)) (let q = ap length e in omega arith)

map_rest : (hs : List Handler) → map saved_by (A.rest hs) ≡ A.rest (map saved_by hs)
map_rest [] = refl
map_rest (h ∷ hs) = refl

sound_unwind : (hs : List Handler) (s : State) (t : Tally) → Nested (length s.frames) hs → Sound s t → Sound (A.unwind_to hs s) (T.unwound (map saved_by hs) t)
sound_unwind [] s t a r = r
sound_unwind (h ∷ hs) s t a r =
    let m = length-drop (length s.frames - h.frames) s.frames in let b = a.1 in
    let r₁ = with_stacks_lem s t r _ _ _ hs (map saved_by hs) (F.keep_lowest h.frames s.frames s.slots t.frames r.frames) refl
    (nested_more h.frames (length (lowest h.frames s.frames)) hs (omega arith) a.2) in
    let k = length-drop (length s.operands - h.operands) s.operands in let q = r.operands in let l = r.few in
    with_operands_lem _ _ r₁ (lowest h.operands s.operands) (min h.operands t.operands) (omega arith) (omega arith)

sound_leave : (fs : List Frame) (s : State) (t : Tally) (ns : List ℕ) → Frames fs (take (end_of fs) s.slots) ns → Sound s t → Sound (A.leave fs s) (T.left ns t)
sound_leave fs s t ns f r =
    let p = pending_over_lem (length s.frames) (length fs) s.handlers r.saved in
    let e = F.frames_used fs (take (end_of fs) s.slots) ns f in
    with_stacks_lem s t r _ _ _ _ _ f (ap (map saved_by) p.each ∙ map_filter saved_by (λ h. leb h.frames (length fs)) s.handlers ∙ ap₂ (λ (n : ℕ). filter (λ (h : T.Saved). leb h.frames n)) e r.handlers) p.nested

pub sound : (a : Act) (s : State) (t : Tally) → error a s ≡ none → Sound s t → Sound (apply a s) (count a t)
sound (A.push v) s t e r =
    let h = push_room s.operands (ltb (length s.operands) operand_limit) refl e in let q = r.operands in
    with_operands_lem s t r (v ∷ s.operands) (t.operands + 1) (omega arith) (omega arith)
sound A.drop s t e r =
    let h = length_rest s.operands in let q = r.operands in let l = r.few in
    with_operands_lem s t r (A.rest s.operands) (t.operands - 1) (omega arith) (omega arith)
sound (A.drop_many n) s t e r =
    let h = length-drop n s.operands in let q = r.operands in let l = r.few in
    with_operands_lem s t r (drop n s.operands) (t.operands - n) (omega arith) (omega arith)
sound (A.jump p) s t e r = with_frames s t r _ _ _ (F.jump p s.frames s.slots t.frames r.frames) (let k = length_top_at p s.frames in omega arith)
sound (A.push_frame i k vs) s t e r = with_frames s t r _ _ _ (F.push_frame i k vs s.frames s.slots t.frames r.frames) (omega arith)
sound A.pop_frame s t e r = sound_leave (A.rest s.frames) s t (A.rest t.frames) (F.pop_frame s.frames s.slots t.frames r.frames) r
sound (A.store i v) s t e r = sound_store i v s.frames s t refl r
sound (A.push_handler p) s t e r =
    with_handlers_lem s t r _ _
    (ap₂ (λ (o f : ℕ). record { catch = p; operands = o; frames = f } ∷ map saved_by s.handlers) r.operands (F.frames_used s.frames s.slots t.frames r.frames)
    ∙ ap (λ (x : List T.Saved). record { catch = p; operands = t.operands; frames = length t.frames } ∷ x) r.handlers)
    (handler_room s.frames e, omega arith, r.saved)
sound A.pop_handler s t e r =
    with_handlers_lem s t r (A.rest s.handlers) _ (map_rest s.handlers ∙ ap A.rest r.handlers) (nested_rest (length s.frames) s.handlers r.saved)
sound A.unwind s t e r =
    subst (λ (x : List T.Saved). Sound (A.unwind_to s.handlers s) (T.unwound x t)) r.handlers (sound_unwind s.handlers s t r.saved r)
sound (A.add_function i k) s t e r = with_functions_lem s t r i k
sound A.add_object s t e r = with_kind s t r _
sound (A.add_array vs) s t e r = rw r.objects (add_keys t.objects (A.elements 0 vs) (A.add_kind array s) _ (with_kind s t r array))
sound (A.put_property o k v) s t e r = rw (← (has_key o k s t r)) (put_key (has_property s o k) o k v s t r)
sound (A.put_global n g) s t e r = rw (← (has_name n s t r)) (put_name_lem (has_global s n) n g s t r)
sound (A.keep_text bs) s t e r = with_text_lem s t r bs
sound (A.print bs) s t e r = with_output_lem s t r _ _ (length-append s.output (A.line bs) ∙ ap₂ (λ (a b : ℕ). a + b) r.output (omega arith))
sound (A.load bs) s t e r = with_code s t r bs
sound A.empty_output s t e r = with_output_lem s t r [] 0 refl
