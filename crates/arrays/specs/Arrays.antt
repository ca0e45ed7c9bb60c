-- An array made: its elements, then its length, each a property more. Assumes nothing.
use Rattle.std.specs.Prelude.{◌≡◌, ℕ, zero, suc, ◌+◌, ◌-◌, ◌*◌, ◌<◌, ◌≤◌, true, List, [], ◌∷◌, length, refl, Ok, Err}
use native.Mathlib.Omega.{arith}
use Rattle.std.proofs.Math.Option.{Option as Maybe, none, some}
use Rattle.std.proofs.Common.{sym, subst, ◌∙◌, le-leb}
use Rattle.std.proofs.Math.Path.{ap}
use Rattle.std.proofs.lemmas.Bool.{lt-leb}
use Rattle.machine.specs.Basic.{sum_of}
use Rattle.machine.specs.Number as N
use Rattle.machine.specs.Value as M
use Rattle.machine.specs.State as St
use Rattle.machine.specs.Act as A
use Rattle.machine.specs.Fields as Fi
use Rattle.machine.specs.Instruction as I
use Rattle.machine.specs.Convert.{length_key}
use Rattle.machine.specs.Program.{fits}
use Rattle.machine.specs.Out.{out, out_make, out_refused, Asked}
use Rattle.value.specs.Lists.{bytes_of, row_of, row_length, row_ext}
use Rattle.value.specs.Words.{value_of}
use Rattle.value.specs.declared.Value.{Value}
use Rattle.value.specs.declared.Space.TheVariants.{Objects, Properties, Text}
use Rattle.texts.specs.Keeps.{text_limit}
use Rattle.number.specs.Layout.{Wrote}
use Rattle.texts.specs.Overwrite.{overwrite, overwrite_length}
use Rattle.heap.specs.Layout.{object_limit, property_limit, properties_at, objects_at}
use Rattle.heap.specs.View.{Sized, Gives, kind_at, property_of, row_at, set_row}
use Rattle.heap.specs.Laws.{with_properties}
use Rattle.heap.specs.declared.Sizes.{Sizes}
use Rattle.objects.specs.View.{on_stores, Puts, Lays}
use Rattle.objects.specs.Puts.{property_laid, property_sized}
use Rattle.arrays.specs.Keys.{keys_size, keys_none, keys_more, keys_sum}

-- The first a values of a row, and Undefined behind them.
unfoldable pub given : ℕ → (ℕ → M.Value) → ℕ → M.Value
given zero f i = M.undefined
given (suc a) f zero = f 0
given (suc a) f (suc i) = given a (λ k. f (suc k)) i

exactly_given : (p a : ℕ) (f : ℕ → M.Value) → I.exactly p (row_of a f) ≡ row_of p (given a f)
unfolding row_of given
exactly_given zero a f = refl
exactly_given (suc p) zero f = ap {B = List M.Value} (λ r. M.undefined ∷ r) (exactly_given p zero f)
exactly_given (suc p) (suc a) f = ap {B = List M.Value} (λ r. f 0 ∷ r) (exactly_given p a (λ k. f (suc k)))

pub given_in : (a i : ℕ) (f : ℕ → M.Value) → i < a → f i ≡ given a f i
unfolding given
given_in zero i f h = absurd (omega arith)
given_in (suc a) zero f h = refl
given_in (suc a) (suc i) f h = given_in a i (λ k. f (suc k)) (omega arith)

pub given_past : (a i : ℕ) (f : ℕ → M.Value) → a ≤ i → M.undefined ≡ given a f i
unfolding given
given_past zero i f h = refl
given_past (suc a) zero f h = absurd (omega arith)
given_past (suc a) (suc i) f h = given_past a i (λ k. f (suc k)) (omega arith)

-- what is left of an array from number i on
abbrev pub left : (ℕ → M.Value) → ℕ → ℕ → List (List ℕ × M.Value)
left g count i = A.elements i (row_of (count - i) (λ j. g (i + j)))

left_none : (g : ℕ → M.Value) (count : ℕ) → left g count count ≡ (length_key, M.number (N.whole count)) ∷ []
unfolding row_of
left_none g count = let q : count - count ≡ 0 = omega arith in ap (λ (u : ℕ). A.elements count (row_of u (λ j. g (count + j)))) q

-- The elements below i are laid: what is left makes of this state what the whole makes of the first.
pub record Laying (id : ℕ) (g : ℕ → M.Value) (count : ℕ) (z : Sizes) (w : List ℕ) (m : ℕ) (t : List ℕ) (i e : ℕ) (w' t' : List ℕ) : Type 0 where
  pub sized : Sized (with_properties (z.properties + i) z) w'
  pub long : length t' ≡ text_limit
  pub room : e + keys_size i (count - i) ≡ m + keys_size 0 count
  pub state : (s : St.State) → A.add_properties id (left g count i) (on_stores (with_properties (z.properties + i) z) w' e t' s) ≡ A.add_properties id (left g count 0) (on_stores z w m t s)

module _ (id : ℕ) (g : ℕ → M.Value) (count : ℕ) (z : Sizes) (w : List ℕ) (m : ℕ) (t : List ℕ) where
  pub laying_none : Sized z w → length t ≡ text_limit → Laying id g count z w m t 0 m w t
  laying_none good long =
      let e : z.properties + 0 ≡ z.properties = omega arith in
      let c : count - 0 ≡ count = omega arith in
      record {
        sized = subst (λ (x : ℕ). Sized (with_properties x z) w) (sym e) good;
        long = long;
        room = ap (λ (x : ℕ). m + keys_size 0 x) c;
        state = λ s. ap (λ (x : ℕ). A.add_properties id (left g count 0) (on_stores (with_properties x z) w m t s)) e;
      }

  left_more : (i : ℕ) → i < count → left g count i ≡ (N.decimal i, g i) ∷ left g count (i + 1)
  unfolding row_of
  left_more i h =
      let k = count - (i + 1) in
      let e : count - i ≡ suc (count - (i + 1)) = omega arith in
      let z : i + 0 ≡ i = omega arith in
      let r : row_of (count - (i + 1)) (λ j. g (i + suc j)) ≡ row_of (count - (i + 1)) (λ j. g (i + 1 + j)) =
      row_ext (count - (i + 1)) (λ j. g (i + suc j)) (λ j. g (i + 1 + j)) (λ j q. ap g (omega arith)) in
      ap (λ (x : ℕ). A.elements i (row_of x (λ j. g (i + j)))) e
      ∙ ap {B = List (List ℕ × M.Value)} (λ (u : M.Value). (N.decimal i, u) ∷ A.elements (i + 1) (row_of (count - (i + 1)) (λ j. g (i + suc j)))) (ap g z)
      ∙ ap {B = List (List ℕ × M.Value)} (λ (u : List M.Value). (N.decimal i, g i) ∷ A.elements (i + 1) u) r

  pub laying_more : (i e : ℕ) (w₁ t₁ : List ℕ) (k : List ℕ) (v : Value) (e₂ : ℕ) (w₂ t₂ : List ℕ) → Laying id g count z w m t i e w₁ t₁ → i < count
      → z.properties + count < property_limit → m + keys_size 0 count ≤ text_limit → k ≡ N.decimal i → value_of v ≡ g i
      → Lays w₁ (properties_at + 6 * (z.properties + i)) id k v e t₁ e₂ w₂ t₂ → Laying id g count z w m t (i + 1) e₂ w₂ t₂
  laying_more i e w₁ t₁ k v e₂ w₂ t₂ l h p q kd vg lay =
      let y : Sizes = with_properties (z.properties + i) z in
      let size : length k ≡ length (N.decimal i) = ap length kd in
      let more : keys_size i (count - i) ≡ length (N.decimal i) + keys_size (i + 1) (count - (i + 1)) = keys_more i count h in
      let fit : e + length k ≤ text_limit = omega (arith, l.room, more, size) in
      let n : z.properties + i + 1 ≡ z.properties + (i + 1) = omega arith in
      record {
        sized = subst (λ (x : ℕ). Sized (with_properties x z) w₂) n (property_sized y w₁ e t₁ l.sized (omega arith) l.long id k v w₂ id e (length k) (omega arith) lay.row);
        long = ap length lay.text ∙ overwrite_length t₁ e k (omega (arith, l.long)) ∙ l.long;
        room = omega (arith, l.room, more, size, lay.count);
        state = λ s.
            let made : on_stores (with_properties (z.properties + (i + 1)) z) w₂ e₂ t₂ s ≡ A.add_property id (N.decimal i) (g i) (on_stores y w₁ e t₁ s) =
            ap (λ (x : ℕ). on_stores (with_properties x z) w₂ e₂ t₂ s) (sym n)
            ∙ property_laid y w₁ e t₁ l.sized (omega arith) l.long id k v e₂ w₂ t₂ (omega arith) fit lay s
            ∙ ap (λ (x : List ℕ). A.add_property id x (value_of v) (on_stores y w₁ e t₁ s)) kd
            ∙ ap (λ (x : M.Value). A.add_property id (N.decimal i) x (on_stores y w₁ e t₁ s)) vg in
            ap (A.add_properties id (left g count (i + 1))) made
            ∙ sym (ap (λ (x : List (List ℕ × M.Value)). A.add_properties id x (on_stores y w₁ e t₁ s)) (left_more i h))
            ∙ l.state s;
      }

  pub laying_fits : (i e : ℕ) (w₁ t₁ : List ℕ) (k : List ℕ) → Laying id g count z w m t i e w₁ t₁ → i < count → m + keys_size 0 count ≤ text_limit → k ≡ N.decimal i → e + length k ≤ text_limit
  laying_fits i e w₁ t₁ k l h q kd = let more = keys_more i count h in let size : length k ≡ length (N.decimal i) = ap length kd in omega (arith, l.room, more, size)

  pub laid_room : (e : ℕ) (w₁ t₁ : List ℕ) → Laying id g count z w m t count e w₁ t₁ → e + 6 ≡ m + keys_size 0 count
  laid_room e w₁ t₁ l = ap (λ (u : ℕ). e + u) (sym (keys_none count (count - count) (omega arith))) ∙ l.room

  pub laying_all : (i e : ℕ) (w₁ t₁ : List ℕ) → Laying id g count z w m t i e w₁ t₁ → i ≤ count → count ≤ i → Laying id g count z w m t count e w₁ t₁
  laying_all i e w₁ t₁ l a b = let q : i ≡ count = omega arith in subst (λ (x : ℕ). Laying id g count z w m t x e w₁ t₁) q l

-- a new object adds no property
pub kind_same : (k : St.Kind) (z : Sizes) (w : List ℕ) (y : Sizes) (w₁ : List ℕ) → Gives (A.add_kind k) z w y w₁ → y.properties ≡ z.properties
kind_same k z w y w₁ h =
    sym (row_length y.properties (λ i. property_of (row_at w₁ (properties_at + 6 * i)))) ∙ ap (λ (s : St.State). length s.properties) (h.state St.fresh)
    ∙ row_length z.properties (λ i. property_of (row_at w (properties_at + 6 * i)))

-- the act
module _ (z : Sizes) (w : List ℕ) (m : ℕ) (t : List ℕ) (good : Sized z w) (h : m ≤ text_limit) (long : length t ≡ text_limit) (argc : ℕ) (f : ℕ → M.Value) (count : ℕ) where
  abbrev elements : List M.Value
  elements = I.exactly count (row_of argc f)

  length_elements : length elements ≡ count
  length_elements = ap length (exactly_given count argc f) ∙ row_length count (given argc f)

  abbrev object : A.Need
  object = A.need St.object_store 1

  abbrev rows : A.Need
  rows = A.need St.property_store (count + 1)

  abbrev keys : A.Need
  keys = A.need St.text_store (keys_size 0 count)

  asked : (s : St.State) (o : Maybe St.Store) → Asked (on_stores z w m t s) (object ∷ rows ∷ keys ∷ []) o → Asked (on_stores z w m t s) (A.needs (A.add_array elements) (on_stores z w m t s)) o
  asked s o k =
      let e : A.needs (A.add_array elements) (on_stores z w m t s) ≡ object ∷ rows ∷ keys ∷ [] =
      ap (λ (x : ℕ). object ∷ A.need St.property_store (x + 1) ∷ A.need St.text_store (sum_of (λ kv. length kv.0) (A.elements 0 elements)) ∷ []) length_elements
      ∙ ap (λ (x : ℕ). object ∷ rows ∷ A.need St.text_store x ∷ []) (keys_sum 0 elements ∙ ap (keys_size 0) length_elements) in
      subst (λ (x : List A.Need). Asked (on_stores z w m t s) x o) (sym e) k

  module _ (s : St.State) where
    used_objects : St.used (on_stores z w m t s) St.object_store ≡ z.objects
    used_objects = row_length z.objects (λ i. kind_at w (objects_at + 1 * i))

    used_properties : St.used (on_stores z w m t s) St.property_store ≡ z.properties
    used_properties = row_length z.properties (λ i. property_of (row_at w (properties_at + 6 * i)))

    used_text : St.used (on_stores z w m t s) St.text_store ≡ m
    used_text = row_length m (λ i. lib.ListN.get_or t i 0)

    object_fits : z.objects < object_limit → fits (on_stores z w m t s) object ≡ true
    object_fits l = rw used_objects (le-leb (z.objects + 1) object_limit (omega arith))

    rows_fit : z.properties + count < property_limit → fits (on_stores z w m t s) rows ≡ true
    rows_fit l = rw used_properties (le-leb (z.properties + (count + 1)) property_limit (omega arith))

  pub array_no_object : object_limit ≤ z.objects → Puts (A.add_array elements) z w m t (Err Objects) w t
  array_no_object l = record {
    goes = λ s p. out_refused (on_stores z w m t s) (A.add_array elements) p St.object_store refl
        (asked s (some St.object_store) (Asked.no (rw (used_objects s) (lt-leb (z.objects + 1) object_limit (omega arith)))));
    ready = (refl, refl);
  }

  pub array_no_rows : z.objects < object_limit → property_limit ≤ z.properties + count → Puts (A.add_array elements) z w m t (Err Properties) w t
  array_no_rows l k = record {
    goes = λ s p. out_refused (on_stores z w m t s) (A.add_array elements) p St.property_store refl
        (asked s (some St.property_store) (Asked.yes (object_fits s l) (Asked.no (rw (used_properties s) (lt-leb (z.properties + (count + 1)) property_limit (omega arith))))));
    ready = (refl, refl);
  }

  pub array_no_text : z.objects < object_limit → z.properties + count < property_limit → text_limit < m + keys_size 0 count → Puts (A.add_array elements) z w m t (Err Text) w t
  array_no_text l k x = record {
    goes = λ s p. out_refused (on_stores z w m t s) (A.add_array elements) p St.text_store refl
        (asked s (some St.text_store) (Asked.yes (object_fits s l) (Asked.yes (rows_fit s k) (Asked.no (rw (used_text s) (lt-leb (m + keys_size 0 count) text_limit x))))));
    ready = (refl, refl);
  }

  pub array_made : (y : Sizes) (w₁ : List ℕ) (e : ℕ) (w₂ t₂ : List ℕ) (v : Value) (e₃ : ℕ) (w₃ t₃ : List ℕ) → z.objects < object_limit → z.properties + count < property_limit → m + keys_size 0 count ≤ text_limit
      → Gives (A.add_kind St.array) z w y w₁ → Laying z.objects (given argc f) count y w₁ m t count e w₂ t₂ → value_of v ≡ M.number (N.whole count)
      → Lays w₂ (properties_at + 6 * (y.properties + count)) z.objects length_key v e t₂ e₃ w₃ t₃
      → Puts (A.add_array elements) z w m t (Ok ((with_properties (y.properties + count + 1) y), e₃)) w₃ t₃
  array_made y w₁ e w₂ t₂ v e₃ w₃ t₃ l k x gives laid whole lay = record {
    goes = λ s p.
        out_make (on_stores z w m t s) (A.add_array elements) p refl
        (asked s none (Asked.yes (object_fits s l) (Asked.yes (rows_fit s k) (Asked.yes (rw (used_text s) (le-leb (m + keys_size 0 count) text_limit x)) Asked.all))))
        ∙ sym (ap (out p) (state s));
    ready = (sized, omega (arith, lay.count, room));
  }
    where
      same : y.properties ≡ z.properties
      same = kind_same St.array z w y w₁ gives

      room : e + 6 ≡ m + keys_size 0 count
      room = laid_room z.objects (given argc f) count y w₁ m t e w₂ t₂ laid

      c : Sizes
      c = with_properties (y.properties + count) y

      sized : Sized (with_properties (y.properties + count + 1) y) w₃
      sized = property_sized c w₂ e t₂ laid.sized (omega (arith, room)) laid.long z.objects length_key v w₃ z.objects e 6 (omega (arith, same)) lay.row

      whole_left : left (given argc f) count 0 ≡ A.elements 0 elements
      whole_left =
          let q : count - 0 ≡ count = omega arith in
          ap (λ (u : ℕ). A.elements 0 (row_of u (λ j. given argc f (0 + j)))) q
          ∙ ap (A.elements 0) (row_ext count (λ j. given argc f (0 + j)) (given argc f) (λ j r. ap (given argc f) (omega arith)) ∙ sym (exactly_given count argc f))

      state : (s : St.State) → on_stores (with_properties (y.properties + count + 1) y) w₃ e₃ t₃ s ≡ A.apply (A.add_array elements) (on_stores z w m t s)
      state s =
          property_laid c w₂ e t₂ laid.sized (omega (arith, room)) laid.long z.objects length_key v e₃ w₃ t₃ (omega (arith, same)) (omega (arith, room)) lay s
          ∙ ap (λ (u : M.Value). A.add_property z.objects length_key u (on_stores c w₂ e t₂ s)) whole
          ∙ sym (ap (λ (u : List (List ℕ × M.Value)). A.add_properties z.objects u (on_stores c w₂ e t₂ s)) (left_none (given argc f) count))
          ∙ laid.state s
          ∙ ap (λ (u : List (List ℕ × M.Value)). A.add_properties z.objects u (on_stores y w₁ m t s)) whole_left
          ∙ ap (λ (u : St.State). A.add_properties z.objects (A.elements 0 elements) (Fi.set_text (bytes_of t m) u)) (gives.state s)
          ∙ ap (λ (u : ℕ). A.add_properties u (A.elements 0 elements) (A.add_kind St.array (on_stores z w m t s))) (sym (used_objects s))

-- an element's key is written straight to its place
pub laid_element : (w t : List ℕ) (k id e i : ℕ) (v : Value) (bs : List ℕ) (end size : ℕ) (w' t' : List ℕ) → bs ≡ N.decimal i → Wrote bs t e t' end → size ≡ end - e
    → w' ≡ set_row w k id e size v → Lays w k id (N.decimal i) v e t end w' t'
laid_element w t k id e i v bs end size w' t' b r s q =
    let n : length bs ≡ length (N.decimal i) = ap length b in
    let m : size ≡ length (N.decimal i) = omega (arith, r.place, n, s) in
    record {
      count = omega (arith, r.place, n);
      row = q ∙ ap (λ (x : ℕ). set_row w k id e x v) m;
      text = r.bytes ∙ ap (overwrite t e) b;
    }
