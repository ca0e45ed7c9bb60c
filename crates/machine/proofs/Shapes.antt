-- The shape of each instruction's program: what it reads, takes and pushes, in this order; and what a program of a shape does from every state. One search over the
-- instructions finds that they have the shapes listed here. Assumes nothing.
use mathlib.Core.Path.{◌≡◌, refl, sym, ap, ◌∙◌, subst}
use mathlib.Core.Bool.{Bool, true, false, true≢false}
use mathlib.Core.Option.{Option, none, some}
use mathlib.Core.List.{List, [], ◌∷◌, ◌++◌}
use Prim.Native.Nat.{ℕ, zero, suc, ◌+◌, ◌-◌, ◌≤◌, ◌<◌}
use native.Mathlib.Omega.{arith}
use lib.Dec.{ltb, eqb}
use lib.ListN.{length, take, drop, get_or, get_elem?}
use borrow.Author.Tests.{ltb-true, ltb-false, eqb-false}
use Rattle.std.specs.Prelude.{if◌then◌else◌}
use Rattle.machine.specs.Number as N
use Rattle.machine.specs.Convert.{array_key, length_key, length_floor}
use Rattle.machine.specs.Value as M
use Rattle.machine.specs.Value.{Value}
use Rattle.machine.specs.Image.{Constant}
use Rattle.machine.specs.Error.{JsVmError, ip_out_of_bounds, stack_underflow, stack_overflow, no_call_frame}
use Rattle.machine.specs.State.{State, Frame, Handler, Function, Kind, ordinary, array, running, top_at, property, has_property, Store, question}
use Rattle.machine.specs.State.{code_store, image_store, frame_store, slot_store, handler_store, function_store, object_store, property_store, global_store, text_store, output_store}
use Rattle.machine.specs.Fields as S
use Rattle.machine.specs.Act as A
use Rattle.machine.specs.Act.{Act, apply, error, Need, needs, brings}
use Rattle.machine.specs.Program.{Program, next, end, look, make, End, finished, failed, How, ended, refused, Outcome, noting, did, fits, answered, asking, unless_error, exec}
use Rattle.machine.specs.Instruction as I
use Rattle.machine.specs.Instruction.{current, current_ip}
use Rattle.machine.specs.Opcodes.{number}

pub data Shape : Type 0 where
  -- it pushes so many, and goes on
  pushes : ℕ → Shape
  -- Throw, Return, Halt
  leaves : Shape
  -- CreateArray and Call, after their byte
  counts : Shape
  takes : Shape → Shape
  reads : Shape → Shape

abbrev pub bytes_in : Shape → ℕ
bytes_in (pushes p) = 0
bytes_in leaves = 0
bytes_in counts = 0
bytes_in (takes x) = 0
bytes_in (reads x) = suc (bytes_in x)

abbrev pub taken_in : Shape → ℕ
taken_in (pushes p) = 0
taken_in leaves = 0
taken_in counts = 0
taken_in (takes x) = suc (taken_in x)
taken_in (reads x) = taken_in x

abbrev pub pushed_in : Shape → ℕ
pushed_in (pushes p) = p
pushed_in leaves = 0
pushed_in counts = 1
pushed_in (takes x) = pushed_in x
pushed_in (reads x) = pushed_in x

-- How many it takes does not hang on its byte; and what it pushes stays in its frame.
abbrev pub fixed : Shape → Bool
fixed (pushes p) = true
fixed leaves = true
fixed counts = false
fixed (takes x) = fixed x
fixed (reads x) = fixed x

abbrev pub stays : Shape → Bool
stays (pushes p) = true
stays leaves = false
stays counts = false
stays (takes x) = stays x
stays (reads x) = stays x

-- The bytes of code that are left.
abbrev pub left : State → ℕ
left s = (current s s.frames).size - current_ip s.frames

-- A frame stands: where none does a byte that is read gives 20.
abbrev pub Standing : List Frame → Type 0
Standing [] = ⊥
Standing (f ∷ fs) = Unit {0}

standing_jump : (p : ℕ) (fs : List Frame) → Standing fs → Standing (top_at p fs)
standing_jump p [] d = d
standing_jump p (f ∷ fs) d = tt

-- A program that does from s as its shape says.
pub record Obeys (x : Shape) (q : Program) (s : State) : Type 0 where
  pub cut : Standing s.frames → left s < bytes_in x → number (exec q s).how ≡ 14
  pub uncut : bytes_in x ≤ left s → number (exec q s).how ≡ 14 → ⊥
  pub known : number (exec q s).how ≡ 13 → ⊥
  pub short : fixed x ≡ true → bytes_in x ≤ left s → length s.operands < taken_in x → number (exec q s).how ≡ 15
  pub enough : fixed x ≡ true → bytes_in x ≤ left s → taken_in x ≤ length s.operands → number (exec q s).how ≡ 15 → ⊥
  pub moves : stays x ≡ true → bytes_in x ≤ left s → taken_in x ≤ length s.operands → number (exec q s).how ≡ 0
      → length (exec q s).state.operands + taken_in x ≡ length s.operands + pushed_in x

abbrev pub Always : Shape → Program → Type 0
Always x q = (s : State) → Obeys x q s

-- How a program can end at once

-- It gives a number, and none of 13, 14 and 15.
pub record Plain (n : ℕ) : Type 0 where
  pub not0 : n ≡ 0 → ⊥
  not13 : n ≡ 13 → ⊥
  not14 : n ≡ 14 → ⊥
  not15 : n ≡ 15 → ⊥

plain : {n : ℕ} → eqb n 0 ≡ false → eqb n 13 ≡ false → eqb n 14 ≡ false → eqb n 15 ≡ false → Plain n
plain {n} z a b c = record { not0 = eqb-false n 0 z; not13 = eqb-false n 13 a; not14 = eqb-false n 14 b; not15 = eqb-false n 15 c }

pub plain_question : (q : Store) → Plain (question q)
plain_question code_store = plain refl refl refl refl
plain_question image_store = plain refl refl refl refl
plain_question frame_store = plain refl refl refl refl
plain_question slot_store = plain refl refl refl refl
plain_question handler_store = plain refl refl refl refl
plain_question function_store = plain refl refl refl refl
plain_question object_store = plain refl refl refl refl
plain_question property_store = plain refl refl refl refl
plain_question global_store = plain refl refl refl refl
plain_question text_store = plain refl refl refl refl
plain_question output_store = plain refl refl refl refl

-- What a shape that reads and takes nothing more says of an outcome: n operands stood, and m are left.
record Tail (x : Shape) (n : ℕ) (h : How) (m : ℕ) : Type 0 where
  unread : number h ≡ 14 → ⊥
  known : number h ≡ 13 → ⊥
  untaken : fixed x ≡ true → number h ≡ 15 → ⊥
  moves : stays x ≡ true → number h ≡ 0 → m ≡ n + pushed_in x

-- It reads and takes nothing.
abbrev is_tail : Shape → Bool
is_tail (pushes p) = true
is_tail leaves = true
is_tail counts = true
is_tail (takes x) = false
is_tail (reads x) = false

tail_none : (x : Shape) → is_tail x ≡ true → (bytes_in x ≡ 0) × (taken_in x ≡ 0)
tail_none (pushes p) e = (refl, refl)
tail_none leaves e = (refl, refl)
tail_none counts e = (refl, refl)
tail_none (takes x) e = absurd (true≢false (sym e))
tail_none (reads x) e = absurd (true≢false (sym e))

of_tail : (x : Shape) (q : Program) (s : State) → is_tail x ≡ true → Tail x (length s.operands) (exec q s).how (length (exec q s).state.operands) → Obeys x q s
of_tail x q s e t =
    let b : bytes_in x ≡ 0 = (tail_none x e).0 in let n : taken_in x ≡ 0 = (tail_none x e).1 in
    record {
      cut = λ d l. absurd (omega arith);
      uncut = λ l. t.unread;
      known = t.known;
      short = λ f l k. absurd (omega arith);
      enough = λ f l k. t.untaken f;
      moves = λ f l k w. let z = t.moves f w in omega arith;
    }

to_tail : (x : Shape) (q : Program) (s : State) → is_tail x ≡ true → Obeys x q s → Tail x (length s.operands) (exec q s).how (length (exec q s).state.operands)
to_tail x q s e o =
    let b : bytes_in x ≡ 0 = (tail_none x e).0 in let n : taken_in x ≡ 0 = (tail_none x e).1 in
    record {
      unread = o.uncut (omega arith);
      known = o.known;
      untaken = λ f. o.enough f (omega arith) (omega arith);
      moves = λ f w. let z = o.moves f (omega arith) (omega arith) w in omega arith;
    }

tail_plain : (x : Shape) (n m : ℕ) (h : How) → Plain (number h) → Tail x n h m
tail_plain x n m h p = record { unread = p.not14; known = p.not13; untaken = λ f. p.not15; moves = λ f e. absurd (p.not0 e) }

tail_refused : (x : Shape) (n m : ℕ) (q : Store) → Tail x n (refused q) m
tail_refused x n m q = tail_plain x n m (refused q) (plain_question q)

-- The parts of programs

goes : (s : State) → Obeys (pushes 0) next s
goes s = of_tail (pushes 0) next s refl (record { unread = λ e. omega arith; known = λ e. omega arith; untaken = λ f e. omega arith; moves = λ f w. omega arith })

-- an error with another number
ends : {x : Shape} {e : End} {s : State} → is_tail x ≡ true → Plain (number (ended e)) → Obeys x (end e) s
ends {x} {e} {s} t p = of_tail x (end e) s t (tail_plain x _ _ (ended e) p)

-- a run's end without an error
finishes : {x : Shape} {v : Value} {s : State} → is_tail x ≡ true → stays x ≡ false → Obeys x (end (finished v)) s
finishes {x} {v} {s} t f =
    of_tail x (end (finished v)) s t
    (record { unread = λ e. omega arith; known = λ e. omega arith; untaken = λ g e. omega arith; moves = λ g. absurd (true≢false (sym g ∙ f)) })

looks : {x : Shape} {f : State → Program} {s : State} → Obeys x (f s) s → Obeys x (look f) s
looks o = record { cut = o.cut; uncut = o.uncut; known = o.known; short = o.short; enough = o.enough; moves = o.moves }

tail_asking : (x : Shape) (n : ℕ) (a : Act) (ns : List Need) (s : State) (o : Outcome) → Tail x n o.how (length o.state.operands)
    → Tail x n (asking a s ns o).how (length (asking a s ns o).state.operands)
tail_asking x n a [] s o t = t
tail_asking x n a (d ∷ ns) s o t = go (fits s d) (tail_asking x n a ns s o t)
  where
    go : (b : Bool) → Tail x n (asking a s ns o).how (length (asking a s ns o).state.operands)
        → Tail x n (answered b a s d (asking a s ns o)).how (length (answered b a s d (asking a s ns o)).state.operands)
    go true k = k
    go false k = tail_refused x n _ d.of

-- An act without an error, which leaves as many operands where these are counted.
abbrev Calm : Shape → Act → State → Type 0
Calm (pushes p) a s = length (apply a s).operands ≡ length s.operands
Calm leaves a s = Unit {0}
Calm counts a s = Unit {0}
Calm (takes x) a s = ⊥
Calm (reads x) a s = ⊥

tail_calm : (x : Shape) (a : Act) (s : State) (h : How) (m : ℕ) → is_tail x ≡ true → Calm x a s → Tail x (length (apply a s).operands) h m → Tail x (length s.operands) h m
tail_calm (pushes p) a s h m e c t = record { unread = t.unread; known = t.known; untaken = t.untaken; moves = λ f w. let z = t.moves f w in omega arith }
tail_calm leaves a s h m e c t = record { unread = t.unread; known = t.known; untaken = t.untaken; moves = λ f w. absurd (true≢false (sym f)) }
tail_calm counts a s h m e c t = record { unread = t.unread; known = t.known; untaken = t.untaken; moves = λ f w. absurd (true≢false (sym f)) }
tail_calm (takes x) a s h m e c t = absurd c
tail_calm (reads x) a s h m e c t = absurd c

acts : {x : Shape} {a : Act} {q : Program} {s : State} → is_tail x ≡ true → error a s ≡ none → Calm x a s → Obeys x q (apply a s) → Obeys x (make a q) s
acts {x} {a} {q} {s} t e c o =
    let n = length s.operands in
    let made = noting (did a (brings a s)) (exec q (apply a s)) in
    of_tail x (make a q) s t
    (subst (λ (y : Option JsVmError). Tail x n (unless_error y s (asking a s (needs a s) made)).how (length (unless_error y s (asking a s (needs a s) made)).state.operands)) (sym e)
    (tail_asking x n a (needs a s) s made (tail_calm x a s _ _ t c (to_tail x q (apply a s) t o))))

tail_pushing : (b : Bool) (v : Value) (s : State) (q : Program) → (x : Shape) (n : ℕ)
    → Tail x n (exec q (apply (A.push v) s)).how (length (exec q (apply (A.push v) s)).state.operands)
    → (let o = unless_error (if b then none else some stack_overflow) s (noting (did (A.push v) []) (exec q (apply (A.push v) s))) in Tail x n o.how (length o.state.operands))
tail_pushing true v s q x n t = t
tail_pushing false v s q x n t = tail_plain x n _ (ended (failed stack_overflow)) (plain refl refl refl refl)

gives : {v : Value} {s : State} → Obeys (pushes 1) (I.pushed v) s
gives {v} {s} =
    of_tail (pushes 1) (I.pushed v) s refl
    (tail_pushing (ltb (length s.operands) 1024) v s next (pushes 1) (length s.operands)
    (record { unread = λ e. omega arith; known = λ e. omega arith; untaken = λ f e. omega arith; moves = λ f w. omega arith }))

-- The same where the count is not claimed.
gives_off : (x : Shape) (v : Value) (q : Program) (s : State) → is_tail x ≡ true → stays x ≡ false → Obeys x q (apply (A.push v) s) → Obeys x (make (A.push v) q) s
gives_off x v q s t f o =
    let k = to_tail x q (apply (A.push v) s) t o in
    of_tail x (make (A.push v) q) s t (tail_pushing (ltb (length s.operands) 1024) v s q x (length s.operands)
    (record { unread = k.unread; known = k.known; untaken = k.untaken; moves = λ g. absurd (true≢false (sym g ∙ f)) }))

choice : (x : Shape) (b : Bool) (p q : Program) (s : State) → Obeys x p s → Obeys x q s → Obeys x (if b then p else q) s
choice x true p q s l m = l
choice x false p q s l m = m

-- An operand byte

left_jump : (s : State) (gs fs : List Frame) → ltb (current_ip fs) (current s fs).size ≡ true
    → ((current (S.set_frames gs s) (top_at (current_ip fs + 1) fs)).size - current_ip (top_at (current_ip fs + 1) fs)) + 1 ≡ (current s fs).size - current_ip fs
left_jump s gs [] e = absurd (true≢false (sym e))
left_jump s gs (f ∷ fs) e = let l = ltb-true f.ip (running s f).size e in omega arith

-- the byte c at the place p
fetched : (x : Shape) (k : ℕ → Program) → ((b : ℕ) → Always x (k b)) → (s : State) (b : Bool) (c : ℕ) → ltb (current_ip s.frames) (current s s.frames).size ≡ b
    → Obeys (reads x) (if b then make (A.jump (current_ip s.frames + 1)) (k c) else end (failed ip_out_of_bounds)) s
fetched x k f s true c e =
    let s₁ = apply (A.jump (current_ip s.frames + 1)) s in
    let o = f c s₁ in
    let j : left s₁ + 1 ≡ left s = left_jump s (top_at (current_ip s.frames + 1) s.frames) s.frames e in
    record {
      cut = λ d l. o.cut (standing_jump (current_ip s.frames + 1) s.frames d) (omega arith);
      uncut = λ l. o.uncut (omega arith);
      known = o.known;
      short = λ g l. o.short g (omega arith);
      enough = λ g l. o.enough g (omega arith);
      moves = λ g l. o.moves g (omega arith);
    }
fetched x k f s false c e =
    let z : left s ≡ 0 = let h = ltb-false (current_ip s.frames) (current s s.frames).size e in omega arith in
    record {
      cut = λ d l. refl;
      uncut = λ d l. absurd (omega arith);
      known = λ q. omega arith;
      short = λ g l. absurd (omega arith);
      enough = λ g l. absurd (omega arith);
      moves = λ g l. absurd (omega arith);
    }

fetching : {x : Shape} (k : ℕ → Program) → ((b : ℕ) → Always x (k b)) → Always (reads x) (I.fetch k)
fetching {x} k f s = go s.frames refl
  where
    go : (fs : List Frame) → s.frames ≡ fs → Obeys (reads x) (I.fetch k) s
    go [] e =
        let σ : s ≡ S.set_frames [] s = λ i. S.set_frames (e i) s in
        subst (Obeys (reads x) (I.fetch k)) (sym σ) (record {
          cut = λ d. absurd d;
          uncut = λ l. absurd (omega arith);
          known = λ q. omega arith;
          short = λ g l. absurd (omega arith);
          enough = λ g l. absurd (omega arith);
          moves = λ g l. absurd (omega arith);
        })
    go (h ∷ fs) e =
        let σ : s ≡ S.set_frames (h ∷ fs) s = λ i. S.set_frames (e i) s in
        let s₁ = S.set_frames (h ∷ fs) s in
        subst (Obeys (reads x) (I.fetch k)) (sym σ)
        (looks (fetched x k f s₁ (ltb h.ip (current s₁ s₁.frames).size) (get_or s₁.code ((current s₁ s₁.frames).at + h.ip) 0) refl))

-- An operand

pop_none : (x : Shape) (k : Value → Program) (s : State) → Obeys (takes x) (I.pop k) (S.set_operands [] s)
pop_none x k s = record {
  cut = λ d l. absurd (omega arith);
  uncut = λ l e. omega arith;
  known = λ e. omega arith;
  short = λ g l m. refl;
  enough = λ g l m. absurd (omega arith);
  moves = λ g l m w. absurd (omega arith);
}

pop_some : (x : Shape) (k : Value → Program) (v : Value) (vs : List Value) (s : State) → bytes_in x ≡ 0 → Obeys x (k v) (S.set_operands vs s)
    → Obeys (takes x) (I.pop k) (S.set_operands (v ∷ vs) s)
pop_some x k v vs s b o = record {
  cut = λ d l. absurd (omega arith);
  uncut = λ l. o.uncut (omega arith);
  known = o.known;
  short = λ g l m. o.short g (omega arith) (omega arith);
  enough = λ g l m. o.enough g (omega arith) (omega arith);
  moves = λ g l m w. let z = o.moves g (omega arith) (omega arith) w in omega arith;
}

popping : {x : Shape} (k : Value → Program) → bytes_in x ≡ 0 → ((v : Value) → Always x (k v)) → Always (takes x) (I.pop k)
popping {x} k b f s = go s.operands refl
  where
    go : (vs : List Value) → s.operands ≡ vs → Obeys (takes x) (I.pop k) s
    go [] e =
        let σ : s ≡ S.set_operands [] s = λ i. S.set_operands (e i) s in
        subst (Obeys (takes x) (I.pop k)) (sym σ) (pop_none x k s)
    go (v ∷ vs) e =
        let σ : s ≡ S.set_operands (v ∷ vs) s = λ i. S.set_operands (e i) s in
        subst (Obeys (takes x) (I.pop k)) (sym σ) (pop_some x k v vs s b (f v _))

-- as one of a number that the byte gives
pop_counted : (k : Value → Program) → ((v : Value) → Always counts (k v)) → Always counts (I.pop k)
pop_counted k f s = go s.operands refl
  where
    go : (vs : List Value) → s.operands ≡ vs → Obeys counts (I.pop k) s
    go [] e =
        let σ : s ≡ S.set_operands [] s = λ i. S.set_operands (e i) s in
        subst (Obeys counts (I.pop k)) (sym σ) (record {
          cut = λ d l. absurd (omega arith);
          uncut = λ l e. omega arith;
          known = λ e. omega arith;
          short = λ g. absurd (true≢false (sym g));
          enough = λ g. absurd (true≢false (sym g));
          moves = λ g. absurd (true≢false (sym g));
        })
    go (v ∷ vs) e =
        let σ : s ≡ S.set_operands (v ∷ vs) s = λ i. S.set_operands (e i) s in
        let o = f v (S.set_operands vs s) in
        subst (Obeys counts (I.pop k)) (sym σ) (record {
          cut = λ d l. absurd (omega arith);
          uncut = λ l. o.uncut (omega arith);
          known = o.known;
          short = λ g. absurd (true≢false (sym g));
          enough = λ g. absurd (true≢false (sym g));
          moves = λ g. absurd (true≢false (sym g));
        })

-- Instructions

said : Unit {0}
said = tt

goes_off : {x : Shape} {s : State} → is_tail x ≡ true → stays x ≡ false → Obeys x next s
goes_off {x} {s} t f =
    of_tail x next s t (record { unread = λ e. omega arith; known = λ e. omega arith; untaken = λ g e. omega arith; moves = λ g. absurd (true≢false (sym g ∙ f)) })

pushes_off : {x : Shape} {v : Value} {q : Program} {s : State} → is_tail x ≡ true → stays x ≡ false → Obeys x q (apply (A.push v) s) → Obeys x (make (A.push v) q) s
pushes_off {x} {v} {q} {s} t f o = gives_off x v q s t f o

calm_put : (b : Bool) (o : ℕ) (k : List ℕ) (v : Value) (s : State) → length (A.set_property b o k v s).operands ≡ length s.operands
calm_put true o k v s = refl
calm_put false o k v s = refl

put : (o : ℕ) (k : List ℕ) (v : Value) (q : Program) (s : State) → Always (pushes 0) q → Obeys (pushes 0) (make (A.put_property o k v) q) s
put o k v q s f = acts refl refl (calm_put (has_property s o k) o k v s) (f _)

storing : {i : ℕ} {v : Value} {s : State} → Obeys (pushes 0) (make (A.store i v) next) s
storing {i} {v} {s} = acts refl refl (go s.frames) (goes _)
  where
    go : (fs : List Frame) → length (A.store_in i v fs s).operands ≡ length s.operands
    go [] = refl
    go (f ∷ fs) = refl

entering : {c : ℕ} {s : State} → Obeys (pushes 0) (make (A.push_handler c) next) s
entering {c} {s} = go s.frames refl
  where
    go : (fs : List Frame) → s.frames ≡ fs → Obeys (pushes 0) (make (A.push_handler c) next) s
    go [] e =
        let σ : s ≡ S.set_frames [] s = λ i. S.set_frames (e i) s in
        subst (Obeys (pushes 0) (make (A.push_handler c) next)) (sym σ)
        (of_tail (pushes 0) (make (A.push_handler c) next) (S.set_frames [] s) refl
        (tail_plain (pushes 0) _ _ (ended (failed no_call_frame)) (plain refl refl refl refl)))
    go (f ∷ fs) e = acts refl (ap (A.or_else no_call_frame) e) refl (goes _)

ruleset obeying = (goes, ends, finishes, looks, gives, acts, said, plain, pushes_off, goes_off)

constant : (c : Option Constant) → Always (pushes 1) (I.load_constant c)
constant none = search obeying
constant (some (Constant.number n)) = search obeying
constant (some (Constant.text t)) = search obeying
constant (some (Constant.boolean b)) = search obeying
constant (some Constant.null) = search obeying
constant (some Constant.undefined) = search obeying
constant (some (Constant.function t)) = search obeying

closure : (c : Option Constant) → Always (pushes 1) (I.closure c)
closure none = search obeying
closure (some (Constant.number n)) = search obeying
closure (some (Constant.text t)) = search obeying
closure (some (Constant.boolean b)) = search obeying
closure (some Constant.null) = search obeying
closure (some Constant.undefined) = search obeying
closure (some (Constant.function t)) = search obeying

stretch : (s : State) (o : ℕ) (i : Option ℕ) (q : Program) → Always (pushes 0) q → Always (pushes 0) (I.stretch s o i q)
stretch s o none q f t = f t
stretch s o (some i) q f t =
    let w = M.number (N.whole (i + 1)) in
    choice (pushes 0) (ltb i (length_floor (property s o length_key))) q (make (A.put_property o length_key w) q) t (f t) (put o length_key w q t f)

set_in_lem : (s : State) (o : ℕ) (i : Option Kind) (k : List ℕ) (v : Value) → Always (pushes 0) (I.set_in s o i k v)
set_in_lem s o none k v t = goes t
set_in_lem s o (some ordinary) k v t = put o k v next t goes
set_in_lem s o (some array) k v t = stretch s o (array_key k) (make (A.put_property o k v) next) (λ u. put o k v next u goes) t

set_property_lem : (o : Value) (k : List ℕ) (v : Value) → Always (pushes 0) (I.set_property o k v)
set_property_lem M.undefined k v s = goes s
set_property_lem M.null k v s = goes s
set_property_lem (M.boolean b) k v s = goes s
set_property_lem (M.number n) k v s = goes s
set_property_lem (M.text t) k v s = goes s
set_property_lem (M.object o) k v s = looks (set_in_lem s o (get_elem? s.objects o) k v s)
set_property_lem (M.function f) k v s = goes s

pop_many_lem : (n : ℕ) (vs : List Value) (k : List Value → Program) → ((ws : List Value) → Always counts (k ws)) → Always counts (I.pop_many n vs k)
pop_many_lem zero vs k f = f vs
pop_many_lem (suc n) vs k f = pop_counted (λ v. I.pop_many n (v ∷ vs) k) (λ v. pop_many_lem n (v ∷ vs) k f)

call_function_lem : (t : State) (f : Option Function) (vs : List Value) → Always counts (I.call_function t f vs)
call_function_lem t none vs = search obeying
call_function_lem t (some f) vs = search obeying

call : (f : Value) (vs : List Value) → Always counts (I.call f vs)
call M.undefined vs = search obeying
call M.null vs = search obeying
call (M.boolean b) vs = search obeying
call (M.number n) vs = search obeying
call (M.text t) vs = search obeying
call (M.object o) vs = search obeying
call (M.function f) vs = λ s. looks (call_function_lem s (get_elem? s.functions f) vs s)

throw : (v : Value) (hs : List Handler) → Always leaves (I.throw v hs)
throw v [] = search obeying
throw v (h ∷ hs) = search obeying

halt : Always leaves I.Halt
halt s = looks (go s.operands refl)
  where
    go : (vs : List Value) → s.operands ≡ vs → Obeys leaves (I.finish vs) s
    go [] e = search obeying
    go (v ∷ vs) e = acts refl (ap (A.or_else stack_underflow) e) tt (search obeying)

jump_if_lem : (b : Bool) (p : ℕ) → Always (pushes 0) (I.jump_if b p)
jump_if_lem true p = search obeying
jump_if_lem false p = search obeying

-- The shapes of the instructions, in their order.

abbrev word : Shape → Shape
word x = reads (reads x)

abbrev two : Shape
two = takes (takes (pushes 1))

abbrev pub shapes : List Shape
shapes =
    word (pushes 1) ∷ word (pushes 1) ∷ word (takes (pushes 0)) ∷ word (pushes 1) ∷ word (takes (pushes 0))
    ∷ word (takes (pushes 1)) ∷ word (takes (takes (pushes 0))) ∷ two ∷ takes (takes (takes (pushes 0)))
    ∷ two ∷ two ∷ two ∷ two ∷ two ∷ takes (pushes 1)
    ∷ takes (pushes 1) ∷ two ∷ two ∷ two ∷ two ∷ two
    ∷ two ∷ two ∷ two ∷ two ∷ two ∷ two ∷ two ∷ two
    ∷ two ∷ two
    ∷ word (pushes 0) ∷ word (takes (pushes 0)) ∷ word (takes (pushes 0))
    ∷ reads counts ∷ takes leaves ∷ word (pushes 1)
    ∷ pushes 1 ∷ reads counts
    ∷ pushes 1 ∷ takes (pushes 1) ∷ two ∷ two ∷ takes leaves ∷ word (pushes 0) ∷ pushes 0
    ∷ takes (pushes 0) ∷ pushes 1 ∷ leaves
    ∷ []

pub data Ruled : List (ℕ × Program) → List Shape → Type 0 where
  last : Ruled [] []
  also : {b : ℕ} {p : Program} {x : Shape} {is : List (ℕ × Program)} {xs : List Shape} → Always x p → Ruled is xs → Ruled ((b, p) ∷ is) (x ∷ xs)

join : (is js : List (ℕ × Program)) (xs ys : List Shape) → Ruled is xs → Ruled js ys → Ruled (is ++ js) (xs ++ ys)
join [] js [] ys last t = t
join [] js (x ∷ xs) ys r t = elim r [ ]
join (i ∷ is) js [] ys r t = elim r [ ]
join (i ∷ is) js (x ∷ xs) ys (also f r) t = also f (join is js xs ys r t)

ruleset rows = (last, also, obeying, fetching, popping, constant, closure, set_property_lem, pop_many_lem, pop_counted, call, throw, halt, jump_if_lem, choice, storing, entering)

pub ruled : Ruled I.instructions shapes
ruled =
    let from : ℕ → List (ℕ × Program) = λ n. drop n I.instructions in
    let of : ℕ → List Shape = λ n. drop n shapes in
    join (take 16 (from 0)) (from 16) (take 16 (of 0)) (of 16) (search rows depth 30 fits 5000)
    (join (take 16 (from 16)) (from 32) (take 16 (of 16)) (of 32) (search rows depth 30 fits 5000) (search rows depth 30 fits 5000))
