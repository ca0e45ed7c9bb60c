-- Any value, and a value brought into a row of the heap. Assumes nothing.
use Rattle.std.specs.Prelude.{◌≡◌, ℕ, ◌+◌, ◌*◌, ◌<◌, ◌≤◌, Bool, List, length, ◌≢◌, refl, Option, Some, Ok}
use Rattle.std.proofs.Common.{arith, sym, ap, ◌∙◌}
use Rattle.machine.specs.Value as M
use Rattle.machine.specs.State as St
use Rattle.machine.specs.Act as A
use Rattle.machine.specs.Fields as Fi
use Rattle.machine.specs.Out.{out}
use Rattle.value.specs.Arena.{Apart}
use Rattle.value.specs.Lists.{bytes_of}
use Rattle.value.specs.Words.{value_of, set_value, Holds, value_apart}
use Rattle.value.specs.declared.Value.{Value}
use Rattle.value.specs.declared.Value.TheVariants.{Undefined, Null, Boolean, Number, CodeText, MadeText, Object, Function}
use Rattle.texts.specs.Keeps.{text_limit}
use Rattle.heap.specs.Layout.{properties_at, globals_at, heap_words}
use Rattle.heap.specs.View.{Sized, Row, row_at, with_value, table_of, on_heap, global_of, globals_of, property_of, properties_of}
use Rattle.heap.specs.Rows.{Finds, found_change, found_within}
use Rattle.heap.specs.Tables.{row_reads, table_changed}
use Rattle.heap.specs.Laws.{in_globals, in_properties, apart_wider}
use Rattle.heap.specs.Finds.{name_at, pair_at, is_named, is_pair}
use Rattle.heap.specs.declared.Sizes.{Sizes}
use Rattle.objects.specs.View.{Puts}
use Rattle.objects.specs.Globals.{value_there}
use Rattle.objects.specs.Puts.{property_there}
use Rattle.reach.specs.Reaches.{sized_kept}

-- every value of the machine is one of the declared ones
abbrev as_text : M.Home → ℕ → ℕ → Value
as_text M.in_code a n = CodeText a n
as_text M.in_text a n = MadeText a n

abbrev pub as_value : M.Value → Value
as_value M.undefined = Undefined
as_value M.null = Null
as_value (M.boolean b) = Boolean b
as_value (M.number n) = Number n
as_value (M.text t) = as_text t.store t.at t.size
as_value (M.object i) = Object i
as_value (M.function i) = Function i

as_text_lem : (h : M.Home) (a n : ℕ) → value_of (as_text h a n) ≡ M.text (record { store = h; at = a; size = n })
as_text_lem M.in_code a n = refl
as_text_lem M.in_text a n = refl

pub as_value_lem : (v : M.Value) → value_of (as_value v) ≡ v
as_value_lem M.undefined = refl
as_value_lem M.null = refl
as_value_lem (M.boolean b) = refl
as_value_lem (M.number n) = refl
as_value_lem (M.text t) = as_text_lem t.store t.at t.size
as_value_lem (M.object i) = refl
as_value_lem (M.function i) = refl

-- a row whose value is v now
row_held : (w x : List ℕ) (k : ℕ) (v : M.Value) → Holds w x (k + 3) v → row_at x k ≡ with_value v (row_at w k)
unfolding row_at
row_held w x k v h =
    let a = h.apart in
    rw (a.at k (λ p q. omega arith), a.at (k + 1) (λ p q. omega arith), a.at (k + 2) (λ p q. omega arith), h.value)

-- THE LAW OF TABLES for words that hold a value: as for the value written
module _ {A : Type 0} (f : Row → A) (base : ℕ) (w : List ℕ) (n : ℕ) (t : A → Bool) (g : A → A) (i : ℕ) (v : M.Value) (h : Finds (λ j. t (f (row_at w (base + 6 * j)))) n (Some i))
    (q : (r : Row) → g (f r) ≡ f (with_value v r)) where
  table_held : (x : List ℕ) → Holds w x (base + 6 * i + 3) v → table_of f base x n ≡ St.change_first t g (table_of f base w n)
  table_held x o =
      let k = base + 6 * i in
      found_change t n (λ j. f (row_at w (base + 6 * j))) (Some i) h g i (λ j. f (row_at x (base + 6 * j))) refl
      (ap f (row_held w x k v o) ∙ sym (q (row_at w k)))
      (λ j d. ap f (row_reads w x (base + 6 * j) (λ y a b. o.apart.at y (λ c e. other j y d a b c e))))
    where
      other : (j y : ℕ) → (j ≢ i) → base + 6 * j ≤ y → y < base + 6 * j + 6 → base + 6 * i + 3 ≤ y → y < base + 6 * i + 3 + 3 → ⊥
      other j y d a b c e = d (omega arith)

  pub tables_same : (x : List ℕ) → base + 6 * n ≤ length w → Holds w x (base + 6 * i + 3) v → table_of f base x n ≡ table_of f base (set_value w (base + 6 * i + 3) (as_value v)) n
  tables_same x l o =
      table_held x o
      ∙ sym (table_changed f base w n t g i (as_value v) h l (λ r. q r ∙ ap (λ (u : M.Value). f (with_value u r)) (sym (as_value_lem v))))

-- what an act comes to, in words that stand for the same heap
put_as : {a : A.Act} {z : Sizes} {w : List ℕ} {m : ℕ} {t x y : List ℕ} → ((s : St.State) → on_heap z x s ≡ on_heap z y s) → Sized z x → Puts a z w m t (Ok (z, m)) y t → Puts a z w m t (Ok (z, m)) x t
put_as {a} {z} {w} {m} {t} {x} {y} e g p = record {
  goes = λ s k. p.goes s k ∙ ap (λ (u : St.State). out k (Fi.set_text (bytes_of t m) u)) (sym (e s));
  ready = (g, p.ready.1);
}

module _ (z : Sizes) (w : List ℕ) (m : ℕ) (t : List ℕ) (good : Sized z w) (h : m ≤ text_limit) (long : length t ≡ text_limit) (key : List ℕ) (r : Option ℕ) (v : M.Value) (i : ℕ) (x : List ℕ) (e : r ≡ Some i)
    (l : length x ≡ length w) where
  pub global_held : Finds (name_at (bytes_of t m) w key) z.globals r → Holds w x (globals_at + 6 * i + 3) v → Puts (A.put_global key (A.plain (value_of (as_value v)))) z w m t (Ok (z, m)) x t
  global_held f o =
      let n = z.globals in
      let y = set_value w (globals_at + 6 * i + 3) (as_value v) in
      let at : i < n = found_within f e in
      let here : Finds (name_at (bytes_of t m) w key) n (Some i) = rw e at f in
      let a : Apart w x globals_at heap_words = apart_wider globals_at heap_words o.apart (omega arith) (omega (arith, good.globals)) in
      let b : Apart w y globals_at heap_words = apart_wider globals_at heap_words (value_apart w (globals_at + 6 * i + 3) (as_value v)) (omega arith) (omega (arith, good.globals)) in
      let same : globals_of x n ≡ globals_of y n =
      tables_same global_of globals_at w n (is_named (bytes_of t m) key) (A.with_global v) i v here (λ r. refl) x (omega (arith, good.globals, good.size)) o in
      put_as (λ s. in_globals z w x good s n a ∙ ap (λ (u : List St.Global). Fi.set_globals u (on_heap z w s)) same ∙ sym (in_globals z w y good s n b))
      (sized_kept good l) (value_there z w m t good h long key r f (as_value v) i y e refl)

  pub property_held : (owner : ℕ) → Finds (pair_at (bytes_of t m) w owner key) z.properties r → Holds w x (properties_at + 6 * i + 3) v
      → Puts (A.put_property owner key (value_of (as_value v))) z w m t (Ok (z, m)) x t
  property_held owner f o =
      let n = z.properties in
      let y = set_value w (properties_at + 6 * i + 3) (as_value v) in
      let at : i < n = found_within f e in
      let here : Finds (pair_at (bytes_of t m) w owner key) n (Some i) = rw e at f in
      let a : Apart w x properties_at globals_at = apart_wider properties_at globals_at o.apart (omega arith) (omega (arith, good.properties)) in
      let b : Apart w y properties_at globals_at = apart_wider properties_at globals_at (value_apart w (properties_at + 6 * i + 3) (as_value v)) (omega arith) (omega (arith, good.properties)) in
      let same : properties_of x n ≡ properties_of y n =
      tables_same property_of properties_at w n (is_pair (bytes_of t m) owner key) (A.with_value v) i v here (λ r. refl) x (omega (arith, good.properties, good.size)) o in
      put_as (λ s. in_properties z w x good s n a ∙ ap (λ (u : List St.Property). Fi.set_properties u (on_heap z w s)) same ∙ sym (in_properties z w y good s n b))
      (sized_kept good l) (property_there z w m t good h long owner key r f (as_value v) i y e refl)
