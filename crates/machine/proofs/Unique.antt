-- No two properties have the same owner and key, and no two globals the same name, in every state that calls leave. The tally lists pairs and
-- names, and the stores agree with it, so it is enough that the tally lists each once. An array's keys are added without a test for them: they
-- are new because every other property has an object that is there, and instructions put properties only into such objects. Assumes nothing.
use mathlib.Core.Path.{◌≡◌, refl, sym, ap, ap₂, ◌∙◌, subst}
use mathlib.Core.Bool.{Bool, true, false, ◌&&◌, ◌||◌, true≢false}
use mathlib.Core.Option.{Option, none, some}
use mathlib.Core.List.{List, [], ◌∷◌, ◌++◌, map}
use Prim.Native.Nat.{ℕ, zero, suc, ◌+◌, ◌-◌, ◌*◌, ◌/◌, ◌%◌, ◌^◌, ◌≤◌, ◌<◌}
use native.Mathlib.Omega.{arith}
use lib.Dec.{leb, ltb, eqb}
use lib.ListN.{length, take, drop, get_or, get_elem?}
use borrow.Author.Tests.{ltb-true, leb-true, eqb-true, lt-ltb, le-leb, eq-eqb}
use Rattle.machine.specs.Basic.{same}
use Rattle.std.specs.Prelude.{if◌then◌else◌}
use Rattle.machine.specs.Number as N
use Rattle.machine.specs.Convert.{worth, array_key, length_key, length_floor}
use Rattle.machine.specs.Value as M
use Rattle.machine.specs.Value.{Value}
use Rattle.machine.specs.Image.{Constant}
use Rattle.machine.specs.State.{State, bytes, Frame, Handler, Function, Kind, ordinary, array, Property, Global, fresh, property, is_pair, is_named, any, has_property, running, limit, property_store}
use Rattle.machine.specs.Act as A
use Rattle.machine.specs.Act.{Act, apply, needs}
use Rattle.machine.specs.Program.{Program, next, end, look, make, End, How, fits, exec}
use Rattle.machine.specs.Instruction as I
use Rattle.machine.specs.Run.{Ran, begun, run_out, no_frame, kind_of, body, step, settled, after, go_on, steps, step_limit}
use Rattle.machine.specs.Run as R
use Rattle.machine.specs.Out.{Out, out_of, went, ended, refused, out}
use Rattle.machine.specs.Host.{Call, perform, performed, settled_call, accepted, questions, makes, leaves}
use Rattle.machine.specs.Tally as T
use Rattle.machine.specs.Tally.{Tally, Pair, is_key, count, nothing}
use Rattle.machine.specs.Demand3.{All}
use Rattle.machine.proofs.Acts.{after_act}
use Rattle.machine.proofs.Texts.{all_append, all_map}
use Rattle.machine.proofs.Sound.{Sound, sound, sound_fresh, pair_of, name_of}

-- Lists in which nothing stands twice

abbrev New : {A : Type 0} → A → List A → Type 0
New y xs = All (λ x. x ≡ y → ⊥) xs

abbrev Distinct : {A : Type 0} → List A → Type 0
Distinct [] = Unit {0}
Distinct (x ∷ xs) = New x xs × Distinct xs

module _ {A : Type 0} where
  distinct_add : (xs : List A) (y : A) → New y xs → Distinct xs → Distinct (xs ++ y ∷ [])
  distinct_add [] y n u = (tt, tt)
  distinct_add (x ∷ xs) y n u = (all_append (λ z. z ≡ x → ⊥) xs (y ∷ []) u.0 ((λ e. n.0 (sym e)), tt), distinct_add xs y n.1 u.1)

  all_at : {B : Type 0} (f : B → A) (P : A → Type 0) (xs : List B) → All P (map f xs) → (i : ℕ) (d : B) → i < length xs → P (f (get_or xs i d))
  all_at f P [] p i d l = absurd (omega arith)
  all_at f P (x ∷ xs) p zero d l = p.0
  all_at f P (x ∷ xs) p (suc i) d l = all_at f P xs p.1 i d (omega arith)

  -- Two rows with the same image under f are one, where the images are distinct.
  row : {B : Type 0} (f : B → A) (xs : List B) → Distinct (map f xs) → (i j : ℕ) (d : B) → i < length xs → j < length xs → f (get_or xs i d) ≡ f (get_or xs j d) → i ≡ j
  row f [] u i j d l m e = absurd (omega arith)
  row f (x ∷ xs) u zero zero d l m e = refl
  row f (x ∷ xs) u zero (suc j) d l m e = absurd (all_at f (λ y. y ≡ f x → ⊥) xs u.0 j d (omega arith) (sym e))
  row f (x ∷ xs) u (suc i) zero d l m e = absurd (all_at f (λ y. y ≡ f x → ⊥) xs u.0 i d (omega arith) e)
  row f (x ∷ xs) u (suc i) (suc j) d l m e = ap suc (row f xs u.1 i j d (omega arith) (omega arith) e)

  -- What a search does not find is new.
  new : (f : A → Bool) (y : A) → f y ≡ true → (xs : List A) → any f xs ≡ false → New y xs
  new f y h [] e = tt
  new f y h (x ∷ xs) e = go (f x) refl e (new f y h xs)
    where
      go : (b : Bool) → f x ≡ b → b || any f xs ≡ false → (any f xs ≡ false → New y xs) → New y (x ∷ xs)
      go true q e r = absurd (true≢false e)
      go false q e r = ((λ p. true≢false (sym h ∙ ap f (sym p) ∙ q)), r e)

-- Keys

both : (a b : Bool) → a && b ≡ true → (a ≡ true) × (b ≡ true)
both true b e = (refl, e)
both false b e = absurd (true≢false (sym e))

same_refl : (k : List ℕ) → same k k ≡ true
same_refl [] = refl
same_refl (x ∷ xs) = rw (eq-eqb x x refl) (same_refl xs)

same_eq : (k l : List ℕ) → same k l ≡ true → k ≡ l
same_eq [] [] e = refl
same_eq [] (y ∷ ys) e = absurd (true≢false (sym e))
same_eq (x ∷ xs) [] e = absurd (true≢false (sym e))
same_eq (x ∷ xs) (y ∷ ys) e = let h = both (eqb x y) (same xs ys) e in let p = eqb-true x y h.0 in let q = same_eq xs ys h.1 in cc

abbrev pair : ℕ → List ℕ → Pair
pair o k = record { object = o; key = k }

key_refl : (o : ℕ) (k : List ℕ) → is_key o k (pair o k) ≡ true
key_refl o k = rw (eq-eqb o o refl) (same_refl k)

key_eq : (o : ℕ) (k : List ℕ) (p : Pair) → is_key o k p ≡ true → p ≡ pair o k
key_eq o k p e = let h = both (eqb p.object o) (same p.key k) e in ap₂ pair (eqb-true p.object o h.0) (same_eq p.key k h.1)

-- A number's digits read back as the number.
digit : (n d : ℕ) (bs : List ℕ) → d < 10 → worth n ((48 + d) ∷ bs) ≡ worth (n * 10 + d) bs
digit n d bs h =
    let a : leb 48 (48 + d) ≡ true = le-leb 48 (48 + d) (omega arith) in
    let b : leb (48 + d) 57 ≡ true = le-leb (48 + d) 57 (omega arith) in
    let c : 48 + d - 48 ≡ d = omega arith in
    rw (a, b, c)

worth_onto : (k n : ℕ) (bs : List ℕ) → n < 10 ^ k → worth 0 (N.decimal_onto k n bs) ≡ worth n bs
worth_onto zero n bs h = let z : n ≡ 0 = omega arith in rw z
worth_onto (suc k) n bs h = go (ltb n 10) refl (worth_onto k (n / 10) ((48 + n % 10) ∷ bs))
  where
    go : (b : Bool) → ltb n 10 ≡ b → (n / 10 < 10 ^ k → worth 0 (N.decimal_onto k (n / 10) ((48 + n % 10) ∷ bs)) ≡ worth (n / 10) ((48 + n % 10) ∷ bs))
        → worth 0 (if b then (48 + n) ∷ bs else N.decimal_onto k (n / 10) ((48 + n % 10) ∷ bs)) ≡ worth n bs
    go true e f = digit 0 n bs (ltb-true n 10 e) ∙ (let z : 0 * 10 + n ≡ n = omega arith in rw z)
    go false e f =
        let z : n / 10 * 10 + n % 10 ≡ n = omega arith in
        f (omega arith) ∙ digit (n / 10) (n % 10) bs (omega arith) ∙ rw z

worth_decimal : (i : ℕ) → i < limit property_store → worth 0 (N.decimal i) ≡ some i
worth_decimal i h = worth_onto 20 i [] (omega arith) ∙ rw (lt-ltb i (2 ^ 64) (omega arith))

-- The tally

-- Each pair and each name is listed once, and each pair has an object that is there. It is over these parts of the tally alone: an act that
-- leaves them alone keeps it by computation.
record Once (n : ℕ) (ps : List Pair) (ns : List (List ℕ)) : Type 0 where
  pairs : Distinct ps
  names : Distinct ns
  owners : All (λ p. p.object < n) ps

abbrev Single : Tally → Type 0
Single t = Once t.objects t.pairs t.names

module _ (t : Tally) (u : Single t) where
  single_pair : (o : ℕ) (k : List ℕ) → o < t.objects → New (pair o k) t.pairs → Single (T.add_pair o k t)
  single_pair o k l n = record {
    pairs = distinct_add t.pairs (pair o k) n u.pairs;
    names = u.names;
    owners = all_append (λ p. p.object < t.objects) t.pairs (pair o k ∷ []) u.owners (l, tt);
  }

  single_object : Single (T.tally_objects (t.objects + 1) t)
  single_object = record {
    pairs = u.pairs;
    names = u.names;
    owners = all_map (λ p. p.object < t.objects) (λ p. p.object < t.objects + 1) (λ p l. omega arith) t.pairs u.owners;
  }

  single_put : (o : ℕ) (k : List ℕ) → o < t.objects → (b : Bool) → any (is_key o k) t.pairs ≡ b → Single (T.put_pair b o k t)
  single_put o k l true e = u
  single_put o k l false e = single_pair o k l (new (is_key o k) (pair o k) (key_refl o k) t.pairs e)

  single_name : (n : List ℕ) (b : Bool) → any (λ m. same m n) t.names ≡ b → Single (T.put_name b n t)
  single_name n true e = u
  single_name n false e = record { pairs = u.pairs; names = distinct_add t.names n (new (λ m. same m n) n (same_refl n) t.names e) u.names; owners = u.owners }

-- Of the array o, only numbers below i are keys so far.
abbrev Less : ℕ → Option ℕ → Type 0
Less i none = ⊥
Less i (some n) = n < i

less_more : (i : ℕ) (x : Option ℕ) → Less i x → Less (i + 1) x
less_more i none l = l
less_more i (some n) l = omega arith

abbrev Below : ℕ → ℕ → Pair → Type 0
Below o i p = p.object ≡ o → Less i (worth 0 p.key)

below_new : (o i : ℕ) (k : List ℕ) → (Less i (worth 0 k) → ⊥) → (ps : List Pair) → All (Below o i) ps → New (pair o k) ps
below_new o i k f = all_map (Below o i) (λ p. p ≡ pair o k → ⊥) (λ p b e. f (subst (Below o i) e b refl))

single_elements : (o i : ℕ) (vs : List Value) (t : Tally) → o < t.objects → i + length vs ≤ limit property_store → All (Below o i) t.pairs → Single t
    → Single (T.add_pairs o (A.elements i vs) t)
single_elements o i [] t l m b u = single_pair t u o length_key l (below_new o i length_key (λ z. z) t.pairs b)
single_elements o i (v ∷ vs) t l m b u =
    let k = N.decimal i in
    let w = worth_decimal i (omega arith) in
    single_elements o (i + 1) vs (T.add_pair o k t) l (omega arith)
    (all_append (Below o (i + 1)) t.pairs (pair o k ∷ [])
    (all_map (Below o i) (Below o (i + 1)) (λ p c e. less_more i (worth 0 p.key) (c e)) t.pairs b) ((λ e. rw w (omega arith)), tt))
    (single_pair t u o k l (below_new o i k (λ h. let z : i < i = subst (Less i) w h in omega arith) t.pairs b))

-- States

-- Its fields are private: code knows it by the laws below, and no search of a code proof goes through them.
pub record Unique (s : State) : Type 0 where
  tally : Tally
  agrees : Sound s tally
  once : Single tally

pub unique_fresh : Unique fresh
unique_fresh = record { tally = nothing; agrees = sound_fresh; once = record { pairs = tt; names = (tt, tt); owners = tt } }

module _ (s : State) (u : Unique s) where
  -- Two rows that a search for a pair or a name would find are one.
  pub unique_pair : (o : ℕ) (k : List ℕ) (i j : ℕ) (d : Property) → i < length s.properties → j < length s.properties
      → is_pair (bytes s) o k (get_or s.properties i d) ≡ true → is_pair (bytes s) o k (get_or s.properties j d) ≡ true → i ≡ j
  unique_pair o k i j d l m p q =
      row (pair_of (bytes s)) s.properties (rw u.agrees.keys.agree u.once.pairs) i j d l m (key_eq o k _ p ∙ sym (key_eq o k _ q))

  pub unique_name : (n : List ℕ) (i j : ℕ) (d : Global) → i < length s.globals → j < length s.globals
      → is_named (bytes s) n (get_or s.globals i d) ≡ true → is_named (bytes s) n (get_or s.globals j d) ≡ true → i ≡ j
  unique_name n i j d l m p q =
      row (name_of (bytes s)) s.globals (rw u.agrees.names.agree u.once.names) i j d l m (same_eq _ n p ∙ sym (same_eq _ n q))

-- Programs

-- An act that keeps the tally so. Not every act does: what is put into an object that is not there yet may be in the way of a later array.
abbrev Keeps : Act → State → Type 0
Keeps a s = (t : Tally) → All (λ n. fits s n ≡ true) (needs a s) → Sound s t → Single t → Single (count a t)

-- Every act that the program makes is such.
data Lawful : Program → State → Type 0 where
  goes : {s : State} → Lawful next s
  ends : {e : End} {s : State} → Lawful (end e) s
  looks : {f : State → Program} {s : State} → Lawful (f s) s → Lawful (look f) s
  acts : {a : Act} {p : Program} {s : State} → Keeps a s → Lawful p (apply a s) → Lawful (make a p) s

unique_exec : (p : Program) (s : State) → Lawful p s → Unique s → Unique (exec p s).state
unique_exec next s goes u = u
unique_exec (end e) s ends u = u
unique_exec (look f) s (looks l) u = unique_exec (f s) s l u
unique_exec (make a p) s (acts k l) u =
    after_act Unique a s u _ λ e f.
    unique_exec p (apply a s) l (record {
      tally = count a u.tally;
      agrees = sound a s u.tally e u.agrees;
      once = k u.tally f u.agrees u.once;
    })

-- The acts that add a pair, a name or an object, and `unwind`, which has to look at the handlers. Any other keeps the tally so by computation.

keep_object : (s : State) → Keeps A.add_object s
keep_object s t f r u = single_object t u

keep_array : (vs : List Value) (s : State) → Keeps (A.add_array vs) s
keep_array vs s t f r u =
    let l : length s.properties + (length vs + 1) ≤ limit property_store = leb-true _ _ f.1.0 in
    single_elements t.objects 0 vs (T.tally_objects (t.objects + 1) t) (omega arith) (omega arith)
    (all_map (λ p. p.object < t.objects) (Below t.objects 0) (λ p h e. absurd (omega arith)) t.pairs u.owners) (single_object t u)

keep_property : (o : ℕ) (k : List ℕ) (v : Value) (s : State) → o < length s.objects → Keeps (A.put_property o k v) s
keep_property o k v s l t f r u = let e = r.objects in single_put t u o k (omega arith) (any (is_key o k) t.pairs) refl

keep_global : (n : List ℕ) (g : A.Given) (s : State) → Keeps (A.put_global n g) s
keep_global n g s t f r u = single_name t u n (any (λ m. same m n) t.names) refl

keep_unwind : (s : State) → Keeps A.unwind s
keep_unwind s t f r u = go t.handlers
  where
    go : (hs : List T.Saved) → Single (T.unwound hs t)
    go [] = u
    go (h ∷ hs) = u

-- Instructions

abbrev Always : Program → Type 0
Always p = (s : State) → Lawful p s

ruleset lawful = (goes, ends, looks, acts, keep_object, keep_array, keep_global, keep_unwind)

choice : (b : Bool) (p q : Program) (s : State) → Lawful p s → Lawful q s → Lawful (if b then p else q) s
choice true p q s l m = l
choice false p q s l m = m

fetching : (k : ℕ → Program) → ((b : ℕ) → Always (k b)) → Always (I.fetch k)
fetching k f s = looks (go s.frames)
  where
    go : (fs : List Frame) → Lawful (I.fetch_from s fs k) s
    go [] = ends
    go (x ∷ fs) = choice (ltb x.ip (running s x).size) _ _ s (acts (λ t m r u. u) (f _ _)) ends

constant : (c : Option Constant) → Always (I.load_constant c)
constant none = search lawful
constant (some (Constant.number n)) = search lawful
constant (some (Constant.text t)) = search lawful
constant (some (Constant.boolean b)) = search lawful
constant (some Constant.null) = search lawful
constant (some Constant.undefined) = search lawful
constant (some (Constant.function t)) = search lawful

closure : (c : Option Constant) → Always (I.closure c)
closure none = search lawful
closure (some (Constant.number n)) = search lawful
closure (some (Constant.text t)) = search lawful
closure (some (Constant.boolean b)) = search lawful
closure (some Constant.null) = search lawful
closure (some Constant.undefined) = search lawful
closure (some (Constant.function t)) = search lawful

there : {X : Type 0} (xs : List X) (i : ℕ) (x : X) → get_elem? xs i ≡ some x → i < length xs
there [] i x e = let z : ◌≡◌ {A = ℕ} 0 1 = cc in absurd (omega arith)
there (y ∷ ys) zero x e = omega arith
there (y ∷ ys) (suc i) x e = let h = there ys i x e in omega arith

-- An object that is there stays when it gets a property.
stays : (b : Bool) (o : ℕ) (k : List ℕ) (v : Value) (s : State) → o < length s.objects → o < length (A.set_property b o k v s).objects
stays true o k v s l = l
stays false o k v s l = l

module _ (s : State) (o : ℕ) (k : List ℕ) (v : Value) where
  stretch : o < length s.objects → (x : Option ℕ) → Lawful (I.stretch s o x (make (A.put_property o k v) next)) s
  stretch l none = acts (keep_property o k v s l) goes
  stretch l (some i) =
      let w = M.number (N.whole (i + 1)) in
      choice (ltb i (length_floor (property s o length_key))) _ _ s (acts (keep_property o k v s l) goes)
      (acts (keep_property o length_key w s l) (acts (keep_property o k v _ (stays (has_property s o length_key) o length_key w s l)) goes))

  set_in_lem : (x : Option Kind) → get_elem? s.objects o ≡ x → Lawful (I.set_in s o x k v) s
  set_in_lem none e = goes
  set_in_lem (some ordinary) e = acts (keep_property o k v s (there s.objects o _ e)) goes
  set_in_lem (some array) e = stretch (there s.objects o _ e) (array_key k)

set_property_lem : (o : Value) (k : List ℕ) (v : Value) → Always (I.set_property o k v)
set_property_lem M.undefined k v s = goes
set_property_lem M.null k v s = goes
set_property_lem (M.boolean b) k v s = goes
set_property_lem (M.number n) k v s = goes
set_property_lem (M.text t) k v s = goes
set_property_lem (M.object o) k v s = looks (set_in_lem s o k v (get_elem? s.objects o) refl)
set_property_lem (M.function f) k v s = goes

pop_many_lem : (n : ℕ) (vs : List Value) (k : List Value → Program) → ((ws : List Value) → Always (k ws)) → Always (I.pop_many n vs k)
pop_many_lem zero vs k f s = f vs s
pop_many_lem (suc n) vs k f s = looks (acts (λ t m r u. u) (pop_many_lem n _ k f _))

call_function_lem : (t : State) (f : Option Function) (vs : List Value) → Always (I.call_function t f vs)
call_function_lem t none vs = search lawful
call_function_lem t (some f) vs = search lawful

call : (f : Value) (vs : List Value) → Always (I.call f vs)
call M.undefined vs s = ends
call M.null vs s = ends
call (M.boolean b) vs s = ends
call (M.number n) vs s = ends
call (M.text t) vs s = ends
call (M.object o) vs s = search lawful
call (M.function f) vs s = looks (call_function_lem s (get_elem? s.functions f) vs s)

throw : (v : Value) (hs : List Handler) → Always (I.throw v hs)
throw v [] = search lawful
throw v (h ∷ hs) = search lawful

finish : (vs : List Value) → Always (I.finish vs)
finish [] = search lawful
finish (v ∷ vs) = search lawful

jump_if_lem : (b : Bool) (p : ℕ) → Always (I.jump_if b p)
jump_if_lem true p = search lawful
jump_if_lem false p = search lawful

data Table : List (ℕ × Program) → Type 0 where
  last : Table []
  also : {b : ℕ} {p : Program} {is : List (ℕ × Program)} → Always p → Table is → Table ((b, p) ∷ is)

join : (xs ys : List (ℕ × Program)) → Table xs → Table ys → Table (xs ++ ys)
join [] ys last t = t
join (x ∷ xs) ys (also f r) t = also f (join xs ys r t)

ruleset rows = (last, also, lawful, fetching, constant, closure, set_property_lem, pop_many_lem, call, throw, finish, jump_if_lem, choice)

-- In three parts: the work of one search is limited.
table : Table I.instructions
table =
    let from : ℕ → List (ℕ × Program) = λ n. drop n I.instructions in
    join (take 16 (from 0)) (from 16) (search rows depth 30 fits 5000)
    (join (take 16 (from 16)) (from 32) (search rows depth 30 fits 5000) (search rows depth 30 fits 5000))

found : (b : ℕ) (is : List (ℕ × Program)) → Table is → Always (I.find b is)
found b [] last = search lawful
found b (i ∷ is) (also f r) = λ s. choice (eqb b i.0) i.1 (I.find b is) s (f s) (found b is r s)

every_body : (k : R.Kind) → Always (body k)
every_body (begun b) = fetching I.instruction (λ c. found c I.instructions table)
every_body run_out = search lawful
every_body no_frame = search (lawful, finish)

-- Steps

unique_step : (s : State) → Unique s → Unique (exec (body (kind_of s)) s).state
unique_step s = unique_exec (body (kind_of s)) s (every_body (kind_of s) s)

abbrev UniqueOut : Out → Type 0
UniqueOut (went s) = Unique s
UniqueOut (ended e s) = Unique s
UniqueOut (refused q) = Unit {0}

unique_out : (h : How) (s : State) → Unique s → UniqueOut (out_of h s)
unique_out How.went s u = u
unique_out (How.ended e) s u = u
unique_out (How.refused q) s u = tt

unique_seen : (s : State) → Unique s → UniqueOut (out (body (kind_of s)) s)
unfolding out
unique_seen s u = unique_out (step s).outcome.how (step s).outcome.state (unique_step s u)

pub went_unique : (s t : State) → out (body (kind_of s)) s ≡ went t → Unique s → Unique t
went_unique s t e u = subst UniqueOut e (unique_seen s u)

-- t is what a step from s left before it was settled, and r the run that goes on from there.
unique_on : (h : How) (n : ℕ) (s t : State) (r : Ran) → Unique s → Unique t → (Unique (settled s h t) → Unique r.state) → Unique (go_on h n (settled s h t) r).state
unique_on How.went n s t r u v f = f v
unique_on (How.ended e) n s t r u v f = v
unique_on (How.refused q) n s t r u v f = u

unique_steps : (k n : ℕ) (s : State) → Unique s → Unique (steps k n s).state
unique_steps zero n s u = u
unique_steps (suc k) n s u =
    let o = (step s).outcome in
    unique_on o.how (n + 1) s o.state (steps k (n + 1) (after s o)) u (unique_step s u) (unique_steps k (n + 1) (after s o))

-- Calls

module _ (s : State) (u : Unique s) where
  unique_accepted : (c : Call) → Unique (accepted c s (exec (makes c) s)).after
  unique_accepted (Call.load bs) = unique_exec (makes (Call.load bs)) s (search lawful) u
  unique_accepted (Call.register i t) = unique_exec (makes (Call.register i t)) s (search lawful) u
  unique_accepted (Call.set_global n g) = unique_exec (makes (Call.set_global n g)) s (search lawful) u
  unique_accepted (Call.read_global n) = u
  unique_accepted (Call.run i) = unique_steps step_limit 0 _ (unique_exec (makes (Call.run i)) s (search lawful) u)
  unique_accepted (Call.text g n) = u
  unique_accepted (Call.drain n) = unique_exec (makes (Call.drain n)) s (search lawful) u
  unique_accepted Call.clear = unique_fresh

  unique_settled : (h : How) (c : Call) → Unique (settled_call h c s (exec (makes c) s)).after
  unique_settled How.went c = unique_accepted c
  unique_settled (How.ended e) c = u
  unique_settled (How.refused q) c = u

  unique_performed : (x : Option ℕ) (c : Call) → Unique (performed x c s).after
  unique_performed (some n) c = u
  unique_performed none c = unique_settled (exec (makes c) s).how c

-- the frame that a run begins with
begun_seen : (i : ℕ) (s : State) → Unique s → UniqueOut (out (makes (Call.run i)) s)
unfolding out
begun_seen i s u = unique_out (exec (makes (Call.run i)) s).how (exec (makes (Call.run i)) s).state (unique_exec (makes (Call.run i)) s (search lawful) u)

pub unique_begun : (i : ℕ) (s t : State) → out (makes (Call.run i)) s ≡ went t → Unique s → Unique t
unique_begun i s t e u = subst UniqueOut e (begun_seen i s u)

pub unique_perform : (c : Call) (s : State) → Unique s → Unique (perform c s).after
unique_perform c s u = unique_performed s u (questions c s) c

unique_calls : (cs : List Call) (s : State) → Unique s → Unique (leaves s cs)
unique_calls [] s u = u
unique_calls (c ∷ cs) s u = unique_calls cs (perform c s).after (unique_perform c s u)

pub unique_leaves : (cs : List Call) → Unique (leaves fresh cs)
unique_leaves cs = unique_calls cs fresh unique_fresh
