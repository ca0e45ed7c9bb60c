-- A property or a global put: changed where it is there, added where it is not. Assumes nothing.
use Rattle.std.specs.Prelude.{ℕ, ◌+◌, ◌*◌, ◌≤◌, ◌<◌, Bool, true, List, [], ◌∷◌, ◌++◌, ◌≡◌, refl, Option, Some, None, Result, Ok, Err}
use Rattle.std.proofs.Common.{arith, inl, inr, sym, ap, ◌∙◌, le-leb}
use Rattle.std.proofs.Math.Option.{Option as Maybe, none, some}
use lib.ListN.{length}
use Rattle.std.proofs.lemmas.Bool.{lt-leb}
use Rattle.machine.specs.Value as M
use Rattle.machine.specs.State as St
use Rattle.machine.specs.Act as A
use Rattle.machine.specs.Fields as Fi
use Rattle.machine.specs.Program.{fits}
use Rattle.machine.specs.Out.{out, out_make, out_refused, Asked}
use Rattle.value.specs.Arena.{Apart}
use Rattle.value.specs.Errors.{space_of}
use Rattle.value.specs.Lists.{bytes_of, row_length}
use Rattle.value.specs.Words.{value_of, set_value, value_apart, length_set_value}
use Rattle.value.specs.declared.Value.{Value}
use Rattle.value.specs.declared.Space.{Space}
use Rattle.value.specs.declared.Space.TheVariants.{Properties}
use Rattle.texts.specs.Keeps.{text_limit}
use Rattle.texts.specs.Overwrite.{overwrite, overwrite_bytes}
use Rattle.heap.specs.Layout.{property_limit, properties_at, globals_at}
use Rattle.heap.specs.View.{Sized, row_at, set_row, property_of, properties_of, on_heap}
use Rattle.heap.specs.Rows.{Finds, finds_ext, is_found, found_is}
use Rattle.heap.specs.Tables.{table_changed, table_more, set_row_apart, length_set_row}
use Rattle.heap.specs.Laws.{in_properties, apart_wider, with_properties}
use Rattle.heap.specs.Finds.{stores, pair_at, name_at}
use Rattle.heap.specs.declared.Sizes.{Sizes}
use Rattle.objects.specs.View.{on_stores, Puts, Lays, RoomsTold, Rooms, SeeksTold, Seeks, PutsTold, PutsRow, new_size}

-- THE LAW OF ASKING: an act that asks for a row of a store, if it is new, and then for some bytes of text.
module _ (a : A.Act) (z : Sizes) (w : List ℕ) (m : ℕ) (t : List ℕ) (q : Space) (rows size : ℕ) (r : Option ℕ)
    (calm : (s : St.State) → A.error a (on_stores z w m t s) ≡ none)
    (asks : (s : St.State) → A.needs a (on_stores z w m t s) ≡ A.need (space_of q) (A.unless (is_found r) 1) ∷ A.need St.text_store size ∷ [])
    (holds : (s : St.State) → St.used (on_stores z w m t s) (space_of q) ≡ rows) where
  used_text : (s : St.State) → St.used (on_stores z w m t s) St.text_store ≡ m
  used_text s = row_length m (λ i. lib.ListN.get_or t i 0)

  abbrev new : ℕ
  new = A.unless (is_found r) 1

  abbrev row : A.Need
  row = A.need (space_of q) new

  abbrev bytes : A.Need
  bytes = A.need St.text_store size

  module _ (s : St.State) where
    row_fits : rows + new ≤ St.limit (space_of q) → fits (on_stores z w m t s) row ≡ true
    row_fits h = rw (holds s) (le-leb (rows + new) (St.limit (space_of q)) h)

    asked_as : (o : Maybe St.Store) → Asked (on_stores z w m t s) (row ∷ bytes ∷ []) o → Asked (on_stores z w m t s) (A.needs a (on_stores z w m t s)) o
    asked_as o k = rw (asks s) k

  pub asked_went : Rooms (St.limit (space_of q)) q rows r m size (Ok tt) → (y : Sizes) (e : ℕ) (w' t' : List ℕ) → Sized y w' → e ≤ text_limit
      → ((s : St.State) → on_stores y w' e t' s ≡ A.apply a (on_stores z w m t s)) → Puts a z w m t (Ok (y, e)) w' t'
  asked_went g y e w' t' good i f = record {
    goes = λ s p. out_make (on_stores z w m t s) a p (calm s)
        (asked_as s none (Asked.yes (row_fits s g.told.0) (Asked.yes (rw (used_text s) (le-leb (m + size) text_limit g.told.1)) Asked.all)))
        ∙ sym (ap (out p) (f s));
    ready = (good, i);
  }

  pub asked_refused : (e : Space) → Rooms (St.limit (space_of q)) q rows r m size (Err e) → Puts a z w m t (Err e) w t
  asked_refused e g = go g.told
    where
      go : RoomsTold (St.limit (space_of q)) q rows r m size (Err e) → Puts a z w m t (Err e) w t
      go (inl (x, l)) = rw x (record {
        goes = λ s p. out_refused (on_stores z w m t s) a p (space_of q) (calm s) (asked_as s (some (space_of q)) (Asked.no (rw (holds s) (lt-leb (rows + new) (St.limit (space_of q)) l))));
        ready = (refl, refl);
      })
      go (inr (x, h, l)) = rw x (record {
        goes = λ s p. out_refused (on_stores z w m t s) a p St.text_store (calm s)
            (asked_as s (some St.text_store) (Asked.yes (row_fits s h) (Asked.no (rw (used_text s) (lt-leb (m + size) text_limit l)))));
        ready = (refl, refl);
      })

pub rooms_as : {limit : ℕ} {full : Space} {count : ℕ} {found : Option ℕ} {m size size' : ℕ} {r : Result (Unit {0}) Space} → size ≡ size' → Rooms limit full count found m size r → Rooms limit full count found m size' r
rooms_as e g = rw e at g

pub seeks_ext : {t t' : ℕ → Bool} {count m size : ℕ} {x : Result (Option ℕ) Space} → ((i : ℕ) → t i ≡ t' i) → Seeks t count m size x → Seeks t' count m size x
seeks_ext {t} {t'} {count} {m} {size} {x} e g = record { told = go x g.told }
  where
    go : (x : Result (Option ℕ) Space) → SeeksTold t count m size x → SeeksTold t' count m size x
    go (Ok r) y = (finds_ext e y.0, y.1)
    go (Err q) y = (y.0, finds_ext e y.1, y.2)

-- there is room where the row is there, and no text is asked for
pub room_there : (limit : ℕ) (full : Space) (count : ℕ) (found : Option ℕ) (m size i : ℕ) → found ≡ Some i → count ≤ limit → m + size ≤ text_limit → Rooms limit full count found m size (Ok tt)
room_there limit full count found m size i e h l = record { told = (rw e (omega arith), l) }

-- Properties

module _ (z : Sizes) (w : List ℕ) (m : ℕ) (t : List ℕ) (good : Sized z w) (h : m ≤ text_limit) (long : length t ≡ text_limit) (o : ℕ) (k : List ℕ) where
  abbrev n : ℕ
  n = z.properties

  -- a property more, without a question
  pub property_laid : (v : Value) (e : ℕ) (w' t' : List ℕ) → n < property_limit → m + length k ≤ text_limit → Lays w (properties_at + 6 * n) o k v m t e w' t'
      → (s : St.State) → on_stores (with_properties (n + 1) z) w' e t' s ≡ A.add_property o k (value_of v) (on_stores z w m t s)
  property_laid v e w' t' l f lay s =
      let x = set_row w (properties_at + 6 * n) o m (length k) v in
      let a = apart_wider properties_at globals_at (set_row_apart w (properties_at + 6 * n) o m (length k) v) (omega arith) (omega arith) in
      let p : List St.Property = properties_of w n ++ record { owner = o; key = record { store = M.in_text; at = m; size = length k }; value = value_of v } ∷ [] in
      let more : properties_of x (n + 1) ≡ p = table_more property_of properties_at w n o m (length k) v (omega (arith, good.size)) in
      let texts : bytes_of t' e ≡ bytes_of t m ++ k = rw (lay.text, lay.count) (overwrite_bytes t m k (omega arith)) in
      let heap : on_heap (with_properties (n + 1) z) w' s ≡ Fi.set_properties p (on_heap z w s) =
      ap (λ (u : List ℕ). on_heap (with_properties (n + 1) z) u s) lay.row ∙ in_properties z w x good s (n + 1) a ∙ ap (λ (u : List St.Property). Fi.set_properties u (on_heap z w s)) more in
      ap (λ (u : St.State). Fi.set_text (bytes_of t' e) u) heap
      ∙ ap (λ (u : List ℕ). Fi.set_text u (Fi.set_properties p (on_heap z w s))) texts
      ∙ ap (λ (u : ℕ). Fi.set_text (bytes_of t m ++ k) (Fi.set_properties (properties_of w n ++ record { owner = o; key = record { store = M.in_text; at = u; size = length k }; value = value_of v } ∷ []) (on_heap z w s)))
      (sym (row_length m (λ i. lib.ListN.get_or t i 0)))

  pub property_sized : (v : Value) (w' : List ℕ) (head place size : ℕ) → n < property_limit → w' ≡ set_row w (properties_at + 6 * n) head place size v → Sized (with_properties (n + 1) z) w'
  property_sized v w' head place size l e = record {
    functions = good.functions;
    objects = good.objects;
    properties = omega arith;
    globals = good.globals;
    size = ap length e ∙ length_set_row w (properties_at + 6 * n) head place size v ∙ good.size;
  }

  module _ (r : Option ℕ) (f : Finds (pair_at (bytes_of t m) w o k) n r) (v : Value) where
    abbrev act : A.Act
    act = A.put_property o k (value_of v)

    has : (s : St.State) → St.has_property (on_stores z w m t s) o k ≡ is_found r
    has s = found_is (St.is_pair (stores s.code (bytes_of t m)) o k) n (λ i. property_of (row_at w (properties_at + 6 * i))) r f

    holds : (s : St.State) → St.used (on_stores z w m t s) St.property_store ≡ n
    holds s = row_length n (λ i. property_of (row_at w (properties_at + 6 * i)))

    asks : (s : St.State) → A.needs act (on_stores z w m t s) ≡ A.need St.property_store (A.unless (is_found r) 1) ∷ A.need St.text_store (new_size r (length k)) ∷ []
    asks s = ap (λ (x : Bool). A.need St.property_store (A.unless x 1) ∷ A.need St.text_store (A.unless x (length k)) ∷ []) (has s)

    pub property_refused : (e : Space) → Rooms property_limit Properties n r m (new_size r (length k)) (Err e) → Puts act z w m t (Err e) w t
    property_refused e g = asked_refused act z w m t Properties n (new_size r (length k)) r (λ s. refl) asks holds e g

    pub property_there : (i : ℕ) (w' : List ℕ) → r ≡ Some i → w' ≡ set_value w (properties_at + 6 * i + 3) v → Puts act z w m t (Ok (z, m)) w' t
    property_there i w' e q =
        let found : Finds (pair_at (bytes_of t m) w o k) n (Some i) = rw e at f in
        let x = set_value w (properties_at + 6 * i + 3) v in
        let a : Apart w x properties_at globals_at = apart_wider properties_at globals_at (value_apart w (properties_at + 6 * i + 3) v) (omega arith) (omega (arith, found.told.0, good.properties)) in
        asked_went act z w m t Properties n (new_size r (length k)) r (λ s. refl) asks holds
        (room_there property_limit Properties n r m (new_size r (length k)) i e good.properties (rw e (omega arith))) z m w' t
        (record { functions = good.functions; objects = good.objects; properties = good.properties; globals = good.globals; size = ap length q ∙ length_set_value w (properties_at + 6 * i + 3) v ∙ good.size })
        h
        (λ s.
        let changed : properties_of x n ≡ St.change_first (St.is_pair (stores s.code (bytes_of t m)) o k) (A.with_value (value_of v)) (properties_of w n) =
        table_changed property_of properties_at w n (St.is_pair (stores s.code (bytes_of t m)) o k) (A.with_value (value_of v)) i v found (omega (arith, good.properties, good.size)) (λ r. refl) in
        ap (λ (u : List ℕ). on_stores z u m t s) q
        ∙ ap (λ (u : St.State). Fi.set_text (bytes_of t m) u) (in_properties z w x good s n a ∙ ap (λ (u : List St.Property). Fi.set_properties u (on_heap z w s)) changed)
        ∙ sym (ap (λ (b : Bool). A.set_property b o k (value_of v) (on_stores z w m t s)) (has s ∙ ap is_found e)))

    pub property_new : (i : ℕ) (w' t' : List ℕ) → r ≡ None → Rooms property_limit Properties n r m (new_size r (length k)) (Ok tt) → Lays w (properties_at + 6 * n) o k v m t i w' t'
        → Puts act z w m t (Ok ((with_properties (n + 1) z), i)) w' t'
    property_new i w' t' e g lay =
        let room : Rooms property_limit Properties n None m (length k) (Ok tt) = rw e at g in
        asked_went act z w m t Properties n (new_size r (length k)) r (λ s. refl) asks holds g (with_properties (n + 1) z) i w' t'
        (property_sized v w' o m (length k) (omega (arith, room.told)) lay.row)
        (omega (arith, lay.count, room.told))
        (λ s. property_laid v i w' t' (omega (arith, room.told)) (omega (arith, room.told)) lay s ∙ sym (ap (λ (b : Bool). A.set_property b o k (value_of v) (on_stores z w m t s)) (has s ∙ ap is_found e)))

    pub property_put : Rooms property_limit Properties n r m (new_size r (length k)) (Ok tt) → (p : ℕ × ℕ) (w' t' : List ℕ) → PutsRow properties_at n r o k v w m t p w' t'
        → Puts act z w m t (Ok (with_properties p.0 z, p.1)) w' t'
    property_put g p w' t' x = go r refl x.told
      where
        go : (u : Option ℕ) → r ≡ u → PutsTold properties_at n u o k v w m t p w' t' → Puts act z w m t (Ok (with_properties p.0 z, p.1)) w' t'
        go (Some i) e (a, b, c) = rw (a, c) (property_there i w' e b)
        go None e (a, lay) = rw a (property_new p.1 w' t' e g lay)

  -- as it was sought
  module _ (v : Value) {x : Result (Option ℕ) Space} (g : Seeks (pair_at (bytes_of t m) w o k) n m (length k) x) where
    pub sought_refused : (q : Space) → x ≡ Err q → Puts (A.put_property o k (value_of v)) z w m t (Err q) w t
    sought_refused q e =
        let y : SeeksTold (pair_at (bytes_of t m) w o k) n m (length k) (Err q) = rw e at g.told in
        property_refused y.0 y.1 v q y.2

    pub sought_put : (r : Option ℕ) → x ≡ Ok r → (p : ℕ × ℕ) (w' t' : List ℕ) → PutsRow properties_at n r o k v w m t p w' t' → Puts (A.put_property o k (value_of v)) z w m t (Ok (with_properties p.0 z, p.1)) w' t'
    sought_put r e p w' t' y =
        let h : SeeksTold (pair_at (bytes_of t m) w o k) n m (length k) (Ok r) = rw e at g.told in
        property_put r h.0 v h.1 p w' t' y

-- Laying a row
pub laid : (w : List ℕ) (k head : ℕ) (key : List ℕ) (v : Value) (m : ℕ) (t : List ℕ) (size : ℕ) (w' t' : List ℕ)
    → size ≡ length key → w' ≡ set_row w k head m size v → t' ≡ overwrite t m key → Lays w k head key v m t (m + size) w' t'
laid w k head key v m t size w' t' e p q = record { count = ap (λ (x : ℕ). m + x) e; row = p ∙ ap (λ (x : ℕ). set_row w k head m x v) e; text = q }

-- looked up by the bytes that a source has
module _ (w : List ℕ) (n : ℕ) (r : Option ℕ) {t t' k k' : List ℕ} (a : t ≡ t') (e : k ≡ k') where
  pub pairs_as : (o : ℕ) → Finds (pair_at t w o k) n r → Finds (pair_at t' w o k') n r
  pairs_as o f = rw (a, e) at f

  pub names_as : Finds (name_at t w k) n r → Finds (name_at t' w k') n r
  names_as f = rw (a, e) at f
