-- Calls and lists of calls: demand 3. Assumes nothing.
use mathlib.Core.Path.{◌≡◌, refl, sym, ap, ◌∙◌, subst}
use mathlib.Core.Bool.{Bool, true, false, ◌&&◌}
use mathlib.Core.Option.{Option, none, some}
use mathlib.Core.List.{List, [], ◌∷◌, ◌++◌}
use mathlib.Core.Logic.{◌↔◌}
use Prim.Native.Nat.{ℕ, ◌+◌, ◌≤◌}
use native.Mathlib.Omega.{arith}
use lib.Dec.{leb, ltb, leb→le}
use lib.ListN.{length, get_or}
use Rattle.machine.specs.Basic.{is_ascii}
use Rattle.machine.specs.Value.{Value}
use Rattle.machine.specs.Image.{Template, Read, image}
use Rattle.machine.specs.Error.{JsVmError}
use Rattle.machine.specs.State.{State, Bytes, bytes, store_of, bytes_of, question, fresh}
use Rattle.machine.specs.State.{Store, code_store, image_store, frame_store, slot_store, handler_store, function_store, object_store, property_store, global_store, text_store, output_store}
use Rattle.machine.specs.Act.{Act, Given, Held, Need, needs, apply, error, brings}
use Rattle.machine.specs.Program.{next, make, End, Event, How, went, ended, refused, Outcome, over, noting, did, fits, answered, asking, unless_error, exec}
use Rattle.machine.specs.Run.{steps, step_limit}
use Rattle.machine.specs.Host as H
use Rattle.machine.specs.Host.{Call, Answer, Called, perform, performed, settled_call, refused_call, accepted, simply, questions, makes, ask, refusal_read, history, leaves}
use Rattle.machine.specs.Tally.{Tally, count, counted, nothing}
use Rattle.machine.specs.Demand3 as D
use Rattle.machine.specs.Demand3.{All, Enters, Right, RightSteps, RightCalls, Orderly, OrderlyCall, tally_steps, tally_accepted, tally_start, brought_by, handle_of, handle, held_start, held_call, held_accepted, unless_refusal, TextsSteps, TextsCalls, refused_last, refused_at_last, RanFull, Honest, Summed, stored_bytes, kept_call, StoredCalls, PendingSteps, PendingCalls, Drops, ThrowsSteps, ThrowsCalls, Demand3}
use Rattle.machine.proofs.Images as Im
use Rattle.machine.proofs.Texts.{Holds, all_append, held_grows}
use Rattle.machine.proofs.Sound.{sound_fresh}
use Rattle.machine.proofs.Bounded.{bounded_fresh}
use Rattle.machine.proofs.Programs.{Fine, Kept, kept, went_not}
use Rattle.machine.proofs.Begun.{ended_went}
use Rattle.machine.proofs.Charged.{right_stored, steps_stored, stored_append}
use Rattle.machine.proofs.Steps.{kept_steps, orderly, have_bytes}
use Rattle.machine.proofs.Enter.{enters, calls_each}

pub fine_fresh : Fine fresh nothing
fine_fresh = record { agrees = sound_fresh; bounded = bounded_fresh }

-- The number of a space question tells its store, and no other question has it.

abbrev store_numbered : ℕ → Store
store_numbered n = get_or (
    code_store ∷ code_store ∷ code_store ∷ code_store ∷ code_store ∷ code_store ∷ code_store ∷ code_store ∷ code_store
    ∷ image_store ∷ code_store ∷ frame_store
    ∷ code_store ∷ code_store ∷ code_store ∷ code_store ∷ code_store ∷ code_store ∷ code_store ∷ code_store ∷ code_store
    ∷ slot_store ∷ handler_store ∷ function_store ∷ object_store ∷ property_store ∷ global_store ∷ text_store ∷ output_store ∷ []
    ) n code_store

numbered_back : (q : Store) → store_numbered (question q) ≡ q
numbered_back code_store = refl
numbered_back image_store = refl
numbered_back frame_store = refl
numbered_back slot_store = refl
numbered_back handler_store = refl
numbered_back function_store = refl
numbered_back object_store = refl
numbered_back property_store = refl
numbered_back global_store = refl
numbered_back text_store = refl
numbered_back output_store = refl

question_tells : (p q : Store) → question p ≡ question q → p ≡ q
question_tells p q e = sym (numbered_back p) ∙ ap store_numbered e ∙ numbered_back q

Apart : ℕ → Type 0
Apart n = (q : Store) → n ≡ question q → ⊥

-- A number whose store has another number is apart.
apart : (n : ℕ) → (n ≡ question (store_numbered n) → ⊥) → Apart n
unfolding Apart
apart n f q e = f (e ∙ ap question (sym (numbered_back q) ∙ ap store_numbered (sym e)))

apart_small : (n : ℕ) → n ≤ 7 → Apart n
unfolding Apart
apart_small n l code_store e = omega arith
apart_small n l image_store e = omega arith
apart_small n l frame_store e = omega arith
apart_small n l slot_store e = omega arith
apart_small n l handler_store e = omega arith
apart_small n l function_store e = omega arith
apart_small n l object_store e = omega arith
apart_small n l property_store e = omega arith
apart_small n l global_store e = omega arith
apart_small n l text_store e = omega arith
apart_small n l output_store e = omega arith

-- The questions that a call asks before its space questions have other numbers.

abbrev OtherNumber : Option ℕ → Type 0
OtherNumber none = Unit {0}
OtherNumber (some n) = Apart n

other_ask : (n : ℕ) → Apart n → (b : Bool) (more : Option ℕ) → OtherNumber more → OtherNumber (ask n b more)
other_ask n a true more o = o
other_ask n a false more o = a

other_read : (lo hi : ℕ) (r : Read (List Template)) → Im.Good lo hi (All (Im.TemplateIn lo hi)) r → OtherNumber (refusal_read r)
other_read lo hi (Read.refused n) g = apart_small n g
other_read lo hi (Read.got ts at rest) g = tt

-- a question of another number, at each of its numerals
other : (n : ℕ) → (n ≡ question (store_numbered n) → ⊥) → (b : Bool) (more : Option ℕ) → OtherNumber more → OtherNumber (ask n b more)
other n f = other_ask n (apart n f)

other_numbers : (c : Call) (s : State) → OtherNumber (questions c s)
other_numbers (Call.load bs) s =
    let lo = length s.code in let hi = length s.code + length bs in
    other_read lo hi (image lo bs) (Im.image lo hi lo bs (omega arith) refl)
other_numbers (Call.register i t) s =
    let b = leb 1 t && ltb t (length (get_or s.images i [])) in
    other 10 (λ e. omega arith) (ltb i (length s.images)) (ask 32 b none) (other 32 (λ e. omega arith) b none tt)
other_numbers (Call.set_global n g) s =
    let b = H.given_fine (bytes s) g in
    other 29 (λ e. omega arith) (is_ascii n && H.bytes_fine g) (ask 30 b none) (other 30 (λ e. omega arith) b none tt)
other_numbers (Call.read_global n) s = other 29 (λ e. omega arith) (is_ascii n) none tt
other_numbers (Call.run i) s = other 10 (λ e. omega arith) (ltb i (length s.images)) none tt
other_numbers (Call.text g n) s =
    let b = H.given_fine (bytes s) g in let c = leb (length (H.given_text (bytes s) g)) n in
    other 29 (λ e. omega arith) (H.bytes_fine g) (ask 30 b (ask 31 c none)) (other 30 (λ e. omega arith) b (ask 31 c none) (other 31 (λ e. omega arith) c none tt))
other_numbers (Call.drain n) s = other 31 (λ e. omega arith) (leb (length s.output) n) none tt
other_numbers Call.clear s = tt

-- An accepted call tallies its act.

module _ (t : Tally) where
  -- what a program tallies where it goes on
  Tallies : Tally → Outcome → Type 0
  Tallies u o = o.how ≡ went → counted t o.events ≡ u

  tallies_answered : (b : Bool) (a : Act) (n : Need) (s : State) (u : Tally) (o : Outcome) → Tallies u o → Tallies u (answered b a s n o)
  unfolding Tallies
  tallies_answered true a n s u o k q = k q
  tallies_answered false a n s u o k q = absurd (went_not n.of (sym q))

  tallies_asking : (a : Act) (ns : List Need) (s : State) (u : Tally) (o : Outcome) → Tallies u o → Tallies u (asking a s ns o)
  unfolding Tallies
  tallies_asking a [] s u o k = k
  tallies_asking a (n ∷ ns) s u o k = tallies_answered (fits s n) a n s u (asking a s ns o) (tallies_asking a ns s u o k)

  tallies_unless : (e : Option JsVmError) (s : State) (u : Tally) (o : Outcome) → Tallies u o → Tallies u (unless_error e s o)
  unfolding Tallies
  tallies_unless (some n) s u o k q = absurd (ended_went q)
  tallies_unless none s u o k q = k q

  tallies : (a : Act) (s : State) → (exec (make a next) s).how ≡ went → counted t (exec (make a next) s).events ≡ count a t
  unfolding Tallies
  tallies a s =
      tallies_unless (error a s) s (count a t) (asking a s (needs a s) (noting (did a (brings a s)) (over went (apply a s))))
      (tallies_asking a (needs a s) s (count a t) (noting (did a (brings a s)) (over went (apply a s))) (λ q. refl))

-- No act of a host call has an error of 000.

Unended : How → Type 0
Unended h = (e : End) → h ≡ ended e → ⊥

unended_went : Unended went
unfolding Unended
unended_went e q = let z : ◌≡◌ {A = ℕ} 0 1 = cc in omega arith

refused_same : (p q : Store) → refused p ≡ refused q → p ≡ q
refused_same p q e = cc

unended_asking : (a : Act) (ns : List Need) (s : State) (o : Outcome) → Unended o.how → Unended (asking a s ns o).how
unfolding Unended
unended_asking a [] s o u = u
unended_asking a (n ∷ ns) s o u = go (fits s n) (unended_asking a ns s o u)
  where
    go : (b : Bool) → Unended (asking a s ns o).how → Unended (answered b a s n (asking a s ns o)).how
    go true v e q = v e q
    go false v e q = let z : ◌≡◌ {A = ℕ} 0 1 = cc in omega arith

unended : (a : Act) (s : State) → error a s ≡ none → Unended (exec (make a next) s).how
unended a s e =
    let o = noting (did a (brings a s)) (over went (apply a s)) in
    subst (λ (x : Option JsVmError). Unended (unless_error x s (asking a s (needs a s) o)).how) (sym e) (unended_asking a (needs a s) s o unended_went)

no_error_lem : (c : Call) (s : State) → Unended (exec (makes c) s).how
no_error_lem (Call.load bs) s = unended (Act.load bs) s refl
no_error_lem (Call.register i t) s = unended (Act.add_function i t) s refl
no_error_lem (Call.set_global n g) s = unended (Act.put_global n g) s refl
no_error_lem (Call.read_global n) s = unended_went
no_error_lem (Call.run i) s = unended (Act.push_frame i 0 []) s refl
no_error_lem (Call.text g n) s = unended_went
no_error_lem (Call.drain n) s = unended Act.empty_output s refl
no_error_lem Call.clear s = unended_went

-- A handle that a call keeps is inside: questions 29 and 30.

asked_yes : (n : ℕ) (b : Bool) (more : Option ℕ) → ask n b more ≡ none → (b ≡ true) × (more ≡ none)
asked_yes n true more q = (refl, q)
asked_yes n false more q = let z : ◌≡◌ {A = ℕ} 0 1 = cc in absurd (omega arith)

both_left : (a b : Bool) → (a && b) ≡ true → a ≡ true
both_left true b q = refl
both_left false b q = q

handle_held : (m : Bytes) (v : Value) → H.handle_fine m v ≡ true → All (Holds m) (handle m v)
handle_held m Value.undefined q = tt
handle_held m Value.null q = tt
handle_held m (Value.boolean b) q = tt
handle_held m (Value.number n) q = tt
handle_held m (Value.text x) q =
    let i = leb→le (x.at + x.size) (length (store_of m x.store)) (rw (both_left (leb (x.at + x.size) (length (store_of m x.store))) (is_ascii (bytes_of m x)) q) tt) in
    (record { inside = i; same = refl }, tt)
handle_held m (Value.object o) q = tt
handle_held m (Value.function f) q = tt

given_held : (m : Bytes) (g : Given) → H.given_fine m g ≡ true → All (Holds m) (D.handle_given m g)
given_held m (Given.plain v) q = handle_held m v q
given_held m (Given.as_bytes bs) q = tt

handles : (c : Call) (s : State) → questions c s ≡ none → All (Holds (bytes s)) (handle_of (bytes s) c)
handles (Call.load bs) s q = tt
handles (Call.register i t) s q = tt
handles (Call.set_global n g) s q =
    let yes = asked_yes 29 (is_ascii n && H.bytes_fine g) (ask 30 (H.given_fine (bytes s) g) none) q in
    given_held (bytes s) g (asked_yes 30 (H.given_fine (bytes s) g) none yes.1).0
handles (Call.read_global n) s q = tt
handles (Call.run i) s q = tt
handles (Call.text g n) s q = tt
handles (Call.drain n) s q = tt
handles Call.clear s q = tt

-- What a call keeps.
pub record KeptCall (t : Tally) (hs : List Held) (d : Called) : Type 0 where
  pub right : Right t d.events
  pub stored : (ks : List Held) → t.text ≡ stored_bytes ks → (tally_steps (tally_start t d) d.steps).text ≡ stored_bytes (kept_call ks d)
  pub right_steps : RightSteps (tally_start t d) d.steps
  pub fine : Fine d.after (tally_steps (tally_start t d) d.steps)
  pub orderly : OrderlyCall d
  pub texts : TextsSteps (held_start hs d) d.steps
  pub held : All (Holds (bytes d.after)) (held_call hs d)
  pub honest : Honest d
  pub summed : Summed d
  pub pending : PendingSteps (tally_start t d) d.steps
  pub dropped : All Drops d.steps
  pub threw : ThrowsSteps (tally_start t d) d.steps

-- An answer that is no refusal, and not a run's.
abbrev Plain : Answer → Type 0
Plain (Answer.refusal n) = ⊥
Plain (Answer.numbered n) = Unit {0}
Plain Answer.done = Unit {0}
Plain (Answer.valued v) = Unit {0}
Plain (Answer.ran e n) = ⊥
Plain (Answer.wrote bs) = Unit {0}

plain_unless : {A : Type 0} (a : Answer) → Plain a → (x y : A) → unless_refusal a x y ≡ y
plain_unless (Answer.numbered n) p x y = refl
plain_unless Answer.done p x y = refl
plain_unless (Answer.valued v) p x y = refl
plain_unless (Answer.wrote bs) p x y = refl
plain_unless (Answer.refusal n) p x y = absurd p
plain_unless (Answer.ran e n) p x y = absurd p

plain_full : (a : Answer) → Plain a → (q : Store) → RanFull q a → ⊥
plain_full (Answer.numbered n) p q z = z
plain_full Answer.done p q z = z
plain_full (Answer.valued v) p q z = z
plain_full (Answer.wrote bs) p q z = z
plain_full (Answer.refusal n) p q z = z
plain_full (Answer.ran e n) p q z = p

module _ (s : State) (t : Tally) (hs : List Held) (f : Fine s t) (hh : All (Holds (bytes s)) hs) where
  -- A refused call changes nothing.
  kept_refused : (c : Call) (es : List Event) (n : ℕ) → Right t es → ((q : Store) → (n ≡ question q) ↔ refused_last q es) → KeptCall t hs (refused_call c s es n)
  kept_refused c es n r h = record {
    right = r;
    stored = λ ks e. e;
    right_steps = tt;
    fine = f;
    orderly = (orderly s t f, tt, orderly s t f);
    texts = tt;
    held = hh;
    honest = record {
      calls = λ q. ((λ e. (h q).0 (cc)), (λ z. ap Answer.refusal ((h q).1 z)));
      runs = λ q. ((λ z. absurd z), (λ z. absurd z));
      went_on = tt;
    };
    summed = λ e m q. let z : ◌≡◌ {A = ℕ} 0 1 = cc in absurd (omega arith);
    pending = tt;
    dropped = tt;
    threw = tt;
  }

  -- What was held, what the call brings, and a handle that it keeps.
  all_held : (o : Outcome) (kept : List Held) → Kept s t o → All (Holds (bytes s)) kept → All (Holds (bytes o.state)) (hs ++ (brought_by o.events ++ kept))
  all_held o more k h =
      all_append (Holds (bytes o.state)) hs _ (held_grows (bytes s) (bytes o.state) k.grew hs hh)
      (all_append (Holds (bytes o.state)) (brought_by o.events) more k.held (held_grows (bytes s) (bytes o.state) k.grew more h))

  -- An accepted call asked nothing that was answered no.
  not_refused : (o : Outcome) → Kept s t o → o.how ≡ went → (q : Store) → refused_last q o.events → ⊥
  not_refused o k w q z = went_not q (sym w ∙ (k.refuses q).1 z)

  -- What it brought to the text store is what it added to its use.
  started_stored : (o : Outcome) (u : Tally) → Kept s t o → counted t o.events ≡ u → (ks : List Held) → t.text ≡ stored_bytes ks
      → u.text ≡ stored_bytes (ks ++ brought_by o.events)
  started_stored o u k et ks x =
      let h = right_stored o.events t k.right in let a = stored_append ks (brought_by o.events) in let b = ap (λ (y : Tally). y.text) et in omega arith

  -- An accepted call that is no run and no clear.
  kept_simply : (c : Call) (o : Outcome) (a : Answer) → Kept s t o → o.how ≡ went
      → Plain a
      → counted t o.events ≡ tally_accepted c t
      → ((ks new : List Held) → held_accepted c ks new ≡ ks ++ new)
      → All (Holds (bytes s)) (handle_of (bytes s) c)
      → KeptCall t hs (simply c s o.events a o.state)
  kept_simply c o a k w p et eh h =
      let g : Fine o.state (unless_refusal a t (tally_accepted c t)) = rw (plain_unless a p t (tally_accepted c t)) (rw et at k.fine) in
      record {
        right = k.right;
        stored = λ ks x. rw (plain_unless a p t (tally_accepted c t), plain_unless a p ks (held_accepted c ks (brought_by o.events)), eh ks _) (started_stored o (tally_accepted c t) k et ks x);
        right_steps = tt;
        fine = g;
        orderly = (orderly s t f, tt, orderly o.state _ g);
        texts = tt;
        held = rw (plain_unless a p hs (held_accepted c hs (brought_by o.events ++ handle_of (bytes s) c)), eh hs _) (all_held o (handle_of (bytes s) c) k h);
        honest = record {
          calls = λ q. ((λ e. absurd (subst Plain e p)), (λ z. absurd (not_refused o k w q z)));
          runs = λ q. ((λ z. absurd (plain_full a p q z)), (λ z. absurd z));
          went_on = tt;
        };
        summed = λ e n z. absurd (subst Plain z p);
        pending = tt;
        dropped = tt;
        threw = tt;
      }

  kept_run : (i : ℕ) (o : Outcome) → Kept s t o → o.how ≡ went → counted t o.events ≡ tally_accepted (Call.run i) t
      → KeptCall t hs (accepted (Call.run i) s o)
  kept_run i o k w et =
      let g : Fine o.state (tally_accepted (Call.run i) t) = rw et at k.fine in
      let l = kept_steps step_limit 0 o.state (tally_accepted (Call.run i) t) (hs ++ (brought_by o.events ++ [])) g (all_held o [] k tt) in
      let r = steps step_limit 0 o.state in
      record {
        right = k.right;
        stored = λ ks x. steps_stored r.steps (tally_accepted (Call.run i) t) (ks ++ brought_by o.events) l.right (started_stored o (tally_accepted (Call.run i) t) k et ks x);
        right_steps = l.right;
        fine = l.fine;
        orderly = (orderly s t f, l.orderly, orderly r.state _ l.fine);
        texts = l.texts;
        held = l.held;
        honest = record {
          calls = λ q. ((λ e. let z : ◌≡◌ {A = ℕ} 0 1 = cc in absurd (omega arith)), (λ z. absurd (not_refused o k w q z)));
          runs = l.full;
          went_on = l.went_on;
        };
        summed = λ e n z. let y = l.summed in let x : r.made ≡ n = cc in omega arith;
        pending = l.pending;
        dropped = l.dropped;
        threw = l.threw;
      }

  kept_accepted : (c : Call) → questions c s ≡ none → Kept s t (exec (makes c) s) → (exec (makes c) s).how ≡ went → KeptCall t hs (accepted c s (exec (makes c) s))
  kept_accepted (Call.load bs) e k w = kept_simply (Call.load bs) _ _ k w tt (tallies t (Act.load bs) s w) (λ ks new. refl) tt
  kept_accepted (Call.register i j) e k w = kept_simply (Call.register i j) _ _ k w tt (tallies t (Act.add_function i j) s w) (λ ks new. refl) tt
  kept_accepted (Call.set_global n g) e k w =
      kept_simply (Call.set_global n g) _ _ k w tt (tallies t (Act.put_global n g) s w) (λ ks new. refl) (handles (Call.set_global n g) s e)
  kept_accepted (Call.read_global n) e k w = kept_simply (Call.read_global n) _ _ k w tt refl (λ ks new. refl) tt
  kept_accepted (Call.run i) e k w = kept_run i _ k w (tallies t (Act.push_frame i 0 []) s w)
  kept_accepted (Call.text g n) e k w = kept_simply (Call.text g n) _ _ k w tt refl (λ ks new. refl) tt
  kept_accepted (Call.drain n) e k w = kept_simply (Call.drain n) _ _ k w tt (tallies t Act.empty_output s w) (λ ks new. refl) tt
  kept_accepted Call.clear e k w = record {
    right = tt;
    stored = λ ks e. refl;
    right_steps = tt;
    fine = fine_fresh;
    orderly = (orderly s t f, tt, orderly fresh nothing fine_fresh);
    texts = tt;
    held = tt;
    honest = record {
      calls = λ q. ((λ e. let z : ◌≡◌ {A = ℕ} 0 1 = cc in absurd (omega arith)), (λ z. absurd z));
      runs = λ q. ((λ z. absurd z), (λ z. absurd z));
      went_on = tt;
    };
    summed = λ e m z. let y : ◌≡◌ {A = ℕ} 0 1 = cc in absurd (omega arith);
    pending = tt;
    dropped = tt;
    threw = tt;
  }

  kept_settled : (c : Call) → questions c s ≡ none → (h : How) → (exec (makes c) s).how ≡ h → KeptCall t hs (settled_call h c s (exec (makes c) s))
  unfolding Unended
  kept_settled c e went w = kept_accepted c e (kept (makes c) s t f) w
  kept_settled c e (ended x) w = absurd (no_error_lem c s x w)
  kept_settled c e (refused p) w =
      let k = kept (makes c) s t f in
      kept_refused c _ (question p) k.right (λ q. ((λ z. (k.refuses q).0 (w ∙ ap refused (question_tells p q z))), (λ z. ap question (refused_same p q (sym w ∙ (k.refuses q).1 z)))))

  kept_performed : (c : Call) (o : Option ℕ) → questions c s ≡ o → OtherNumber o → KeptCall t hs (performed o c s)
  unfolding Apart
  kept_performed c none e a = kept_settled c e (exec (makes c) s).how refl
  kept_performed c (some n) e a = kept_refused c [] n tt (λ q. ((λ z. absurd (a q z)), (λ z. absurd z)))

  pub kept_call_lem : (c : Call) → KeptCall t hs (perform c s)
  kept_call_lem c = kept_performed c (questions c s) refl (other_numbers c s)

-- A list of calls.
pub record KeptCalls (s : State) (t : Tally) (hs : List Held) (calls : List Call) : Type 0 where
  pub slots : All OrderlyCall (history s calls)
  pub texts : TextsCalls hs (history s calls)
  pub space : RightCalls t (history s calls)
  pub stored : (ks : List Held) → t.text ≡ stored_bytes ks → StoredCalls t ks (history s calls)
  pub refusals : All Honest (history s calls)
  pub sums : All Summed (history s calls)
  pub pending : PendingCalls t (history s calls)
  pub drops : All (λ d. All Drops d.steps) (history s calls)
  pub throws : ThrowsCalls t (history s calls)

kept_calls : (calls : List Call) (s : State) (t : Tally) (hs : List Held) → Fine s t → All (Holds (bytes s)) hs → KeptCalls s t hs calls
kept_calls [] s t hs f h = record { slots = tt; texts = tt; space = tt; stored = λ ks e. tt; refusals = tt; sums = tt; pending = tt; drops = tt; throws = tt }
kept_calls (c ∷ cs) s t hs f h =
    let k = kept_call_lem s t hs f h c in
    let d = perform c s in
    let l = kept_calls cs d.after (tally_steps (tally_start t d) d.steps) (held_call hs d) k.fine k.held in
    record {
      slots = (k.orderly, l.slots);
      texts = (k.texts, have_bytes d.after (held_call hs d) k.held, l.texts);
      space = (k.right, k.right_steps, l.space);
      stored = λ ks e. (k.stored ks e, l.stored (kept_call ks d) (k.stored ks e));
      refusals = (k.honest, l.refusals);
      sums = (k.summed, l.sums);
      pending = (k.pending, k.fine.agrees.handlers, l.pending);
      drops = (k.dropped, l.drops);
      throws = (k.threw, l.throws);
    }

-- Demand 3.
pub demand3 : (calls : List Call) → Demand3 calls
demand3 calls =
    let k = kept_calls calls fresh nothing [] fine_fresh tt in
    record {
      slots = k.slots;
      texts = k.texts;
      space = k.space;
      stored = k.stored [] refl;
      refusals = k.refusals;
      sums = k.sums;
      pending = k.pending;
      drops = k.drops;
      throws = k.throws;
      tries = calls_each Enters enters calls fresh;
    }

-- What holds before each call and after it holds of what the calls leave.
leaves_orderly : (calls : List Call) (s : State) → Orderly s → All OrderlyCall (history s calls) → Orderly (leaves s calls)
leaves_orderly [] s o a = o
leaves_orderly (c ∷ cs) s o a = leaves_orderly cs (perform c s).after a.0.2 a.1

pub orderly_leaves : (calls : List Call) → Orderly (leaves fresh calls)
orderly_leaves calls = leaves_orderly calls fresh (orderly fresh nothing fine_fresh) (demand3 calls).slots
