-- What a write into the heap does to the state. Assumes nothing.
use Rattle.std.specs.Prelude.{ℕ, zero, suc, ◌+◌, ◌*◌, ◌≤◌, ◌<◌, List, [], ◌∷◌, ◌++◌, ◌≡◌, refl, length, get_or, Some, None, Ok, Err}
use native.Mathlib.Omega.{arith}
use Rattle.std.proofs.Math.Option.{some}
use Rattle.std.proofs.Math.Path.{sym}
use Rattle.std.proofs.Common.{ap, ◌∙◌, le-leb}
use Rattle.std.proofs.Math.ListN.{set, length-set, get_elem?}
use Rattle.std.proofs.Math.Seq.{get_or-set_same, get_or-set_other}
use Rattle.std.proofs.lemmas.Bool.{lt-leb}
use Rattle.machine.specs.Value as M
use Rattle.machine.specs.State as St
use Rattle.machine.specs.Act as A
use Rattle.machine.specs.Fields as Fi
use Rattle.machine.specs.Out.{out, out_make, out_refused, Asked}
use Rattle.value.specs.Arena.{Same, Apart, apart_below, apart_above, rows_kept}
use Rattle.value.specs.Lists.{row_length, row_none, one_more}
use Rattle.value.specs.Words.{value_of}
use Rattle.value.specs.declared.Value.{Value}
use Rattle.value.specs.declared.Space.TheVariants.{Functions, Objects}
use Rattle.heap.specs.Layout.{function_limit, object_limit, objects_at, properties_at, globals_at, heap_words}
use Rattle.heap.specs.declared.Sizes.{Sizes}
use Rattle.heap.specs.declared.ObjectType.TheVariants.{Ordinary, Array}
use Rattle.heap.specs.View
use Rattle.heap.specs.View.{Sized, functions_of, objects_of, properties_of, globals_of, on_heap, Row}
use Rattle.heap.specs.Rows.{elem_at, elem_past}
use Rattle.heap.specs.Tables.{table_kept, table_more, length_set_row}

function_reads : (w w' : List ℕ) (k : ℕ) → Same w w' k (k + 2) → View.function_at w' k ≡ View.function_at w k
unfolding View.function_at
function_reads w w' k a = rw (a k (omega arith) (omega arith), a (k + 1) (omega arith) (omega arith))

kind_reads : (w w' : List ℕ) (k : ℕ) → Same w w' k (k + 1) → View.kind_at w' k ≡ View.kind_at w k
unfolding View.kind_at
kind_reads w w' k a = rw (a k (omega arith) (omega arith))

functions_kept : (w w' : List ℕ) (n : ℕ) → Same w w' 0 (0 + 2 * n) → functions_of w' n ≡ functions_of w n
functions_kept w w' n = rows_kept View.function_at 0 2 function_reads w w' n

objects_kept : (w w' : List ℕ) (n : ℕ) → Same w w' objects_at (objects_at + 1 * n) → objects_of w' n ≡ objects_of w n
objects_kept w w' n = rows_kept View.kind_at objects_at 1 kind_reads w w' n

properties_kept : (w w' : List ℕ) (n : ℕ) → Same w w' properties_at (properties_at + 6 * n) → properties_of w' n ≡ properties_of w n
properties_kept w w' n = table_kept View.property_of properties_at w n w'

globals_kept : (w w' : List ℕ) (n : ℕ) → Same w w' globals_at (globals_at + 6 * n) → globals_of w' n ≡ globals_of w n
globals_kept w w' n = table_kept View.global_of globals_at w n w'

abbrev pub with_functions : ℕ → Sizes → Sizes
with_functions n z = record { functions = n; objects = z.objects; properties = z.properties; globals = z.globals }

abbrev pub with_objects : ℕ → Sizes → Sizes
with_objects n z = record { functions = z.functions; objects = n; properties = z.properties; globals = z.globals }

abbrev pub with_properties : ℕ → Sizes → Sizes
with_properties n z = record { functions = z.functions; objects = z.objects; properties = n; globals = z.globals }

abbrev pub with_globals : ℕ → Sizes → Sizes
with_globals n z = record { functions = z.functions; objects = z.objects; properties = z.properties; globals = n }

-- A write inside one store changes that store of the state, and no other.
module _ (z : Sizes) (w w' : List ℕ) (good : Sized z w) (s : St.State) where
  pub in_functions : (n : ℕ) → Apart w w' 0 objects_at → on_heap (with_functions n z) w' s ≡ Fi.set_functions (functions_of w' n) (on_heap z w s)
  in_functions n a =
      let o = objects_kept w w' z.objects (apart_above a objects_at (objects_at + 1 * z.objects) (omega arith)) in
      let p = properties_kept w w' z.properties (apart_above a properties_at (properties_at + 6 * z.properties) (omega arith)) in
      let g = globals_kept w w' z.globals (apart_above a globals_at (globals_at + 6 * z.globals) (omega arith)) in
      rw (o, p, g)

  pub in_objects : (n : ℕ) → Apart w w' objects_at properties_at → on_heap (with_objects n z) w' s ≡ Fi.set_objects (objects_of w' n) (on_heap z w s)
  in_objects n a =
      let f = functions_kept w w' z.functions (apart_below a 0 (0 + 2 * z.functions) (omega (arith, good.functions))) in
      let p = properties_kept w w' z.properties (apart_above a properties_at (properties_at + 6 * z.properties) (omega arith)) in
      let g = globals_kept w w' z.globals (apart_above a globals_at (globals_at + 6 * z.globals) (omega arith)) in
      rw (f, p, g)

  pub in_properties : (n : ℕ) → Apart w w' properties_at globals_at → on_heap (with_properties n z) w' s ≡ Fi.set_properties (properties_of w' n) (on_heap z w s)
  in_properties n a =
      let f = functions_kept w w' z.functions (apart_below a 0 (0 + 2 * z.functions) (omega (arith, good.functions))) in
      let o = objects_kept w w' z.objects (apart_below a objects_at (objects_at + 1 * z.objects) (omega (arith, good.objects))) in
      let g = globals_kept w w' z.globals (apart_above a globals_at (globals_at + 6 * z.globals) (omega arith)) in
      rw (f, o, g)

  pub in_globals : (n : ℕ) → Apart w w' globals_at heap_words → on_heap (with_globals n z) w' s ≡ Fi.set_globals (globals_of w' n) (on_heap z w s)
  in_globals n a =
      let f = functions_kept w w' z.functions (apart_below a 0 (0 + 2 * z.functions) (omega (arith, good.functions))) in
      let o = objects_kept w w' z.objects (apart_below a objects_at (objects_at + 1 * z.objects) (omega (arith, good.objects))) in
      let p = properties_kept w w' z.properties (apart_below a properties_at (properties_at + 6 * z.properties) (omega (arith, good.properties))) in
      rw (f, o, p)

pub apart_wider : {w w' : List ℕ} {lo hi : ℕ} (lo' hi' : ℕ) → Apart w w' lo hi → lo' ≤ lo → hi ≤ hi' → Apart w w' lo' hi'
apart_wider lo' hi' a p q = record { at = λ j h. a.at j (λ x y. h (omega arith) (omega arith)) }

module _ (z : Sizes) (w : List ℕ) (good : Sized z w) where
  -- Functions
  abbrev functioned : ℕ → ℕ → List ℕ
  functioned i t = set (set w (2 * z.functions) i) (2 * z.functions + 1) t

  function_new : (i t : ℕ) → z.functions < function_limit → View.function_at (functioned i t) (0 + 2 * z.functions) ≡ record { image = i; template = t }
  unfolding View.function_at
  function_new i t h =
      let k = 2 * z.functions in
      let e : 0 + k ≡ k = omega arith in
      let x = set w k i in
      rw (e, get_or-set_other x (k + 1) k t 0 (λ q. omega arith), get_or-set_same w k i 0 (omega (arith, good.size)), get_or-set_same x (k + 1) t 0 (simp length-set (omega (arith, good.size))))

  function_apart : (i t : ℕ) → Apart w (functioned i t) (2 * z.functions) (2 * z.functions + 2)
  function_apart i t = record {
    at = λ j h.
        get_or-set_other (set w (2 * z.functions) i) (2 * z.functions + 1) j t 0 (λ e. h (omega arith) (omega arith)) ∙ get_or-set_other w (2 * z.functions) j i 0 (λ e. h (omega arith) (omega arith));
  }

  pub function_full : (i t : ℕ) → function_limit ≤ z.functions → View.Grows (A.add_function i t) z w (Err Functions) w
  function_full i t h = record {
    goes = λ s p. out_refused (on_heap z w s) (A.add_function i t) p St.function_store refl (Asked.no (rw (row_length, lt-leb (z.functions + 1) function_limit (omega arith))));
    ready = refl;
  }

  pub function_went : (i t : ℕ) (w' : List ℕ) → z.functions < function_limit → w' ≡ functioned i t → View.Grows (A.add_function i t) z w (Ok (with_functions (z.functions + 1) z)) w'
  function_went i t w' h e = rw e (record {
    goes = λ s p.
        out_make (on_heap z w s) (A.add_function i t) p refl (Asked.yes (rw (row_length, le-leb (z.functions + 1) function_limit (omega arith))) Asked.all)
        ∙ sym (ap (out p) (in_functions z w x good s (n + 1) (apart_wider 0 objects_at a (omega arith) (omega arith)) ∙ ap (λ (fs : List St.Function). Fi.set_functions fs (on_heap z w s)) more));
    ready = record { functions = omega arith; objects = good.objects; properties = good.properties; globals = good.globals; size = simp length-set good.size };
  })
    where
      n : ℕ
      n = z.functions

      x : List ℕ
      x = functioned i t

      a : Apart w x (2 * n) (2 * n + 2)
      a = function_apart i t

      f : St.Function
      f = record { image = i; template = t }

      more : functions_of x (n + 1) ≡ functions_of w n ++ f ∷ []
      more = one_more n (λ j. View.function_at x (0 + 2 * j)) f (function_new i t h) ∙ ap (λ (fs : List St.Function). fs ++ f ∷ []) (functions_kept w x n (apart_below a 0 (0 + 2 * n) (omega arith)))

  pub function_known : (i image template : ℕ) → i < z.functions → image ≡ get_or w (2 * i) 0 → template ≡ get_or w (2 * i + 1) 0
      → View.function_in (Some (record { image = image; template = template })) ≡ get_elem? (functions_of w z.functions) i
  unfolding View.function_at
  function_known i image template h p q =
      let e : 0 + 2 * i ≡ 2 * i = omega arith in
      sym (elem_at z.functions i (λ j. View.function_at w (0 + 2 * j)) h ∙ rw (e, p, q))

  pub function_unknown : (i : ℕ) → z.functions ≤ i → View.function_in None ≡ get_elem? (functions_of w z.functions) i
  function_unknown i h = sym (elem_past z.functions i (λ j. View.function_at w (0 + 2 * j)) h)

  -- Objects
  kind_new : (k : ℕ) → z.objects < object_limit → View.kind_at (set w (objects_at + z.objects) k) (objects_at + 1 * z.objects) ≡ View.kind_of k
  unfolding View.kind_at
  kind_new k h =
      let e : objects_at + 1 * z.objects ≡ objects_at + z.objects = omega arith in
      rw (e, get_or-set_same w (objects_at + z.objects) k 0 (omega (arith, good.size)))

  -- an object of the kind that its word says
  pub kind_added : (kind : St.Kind) (k : ℕ) (w' : List ℕ) → View.kind_of k ≡ kind → z.objects < object_limit → w' ≡ set w (objects_at + z.objects) k → View.Gives (A.add_kind kind) z w (with_objects (z.objects + 1) z) w'
  kind_added kind k w' q h e = rw (← q, e) (record {
    state = λ s. in_objects z w x good s (n + 1) (apart_wider objects_at properties_at a (omega arith) (omega arith)) ∙ ap (λ (os : List St.Kind). Fi.set_objects os (on_heap z w s)) more;
    ready = record { functions = good.functions; objects = omega arith; properties = good.properties; globals = good.globals; size = simp length-set good.size };
  })
    where
      n : ℕ
      n = z.objects

      x : List ℕ
      x = set w (objects_at + n) k

      a : Apart w x (objects_at + n) (objects_at + n + 1)
      a = record { at = λ j h. get_or-set_other w (objects_at + n) j k 0 (λ e. h (omega arith) (omega arith)) }

      more : objects_of x (n + 1) ≡ objects_of w n ++ View.kind_of k ∷ []
      more = one_more n (λ j. View.kind_at x (objects_at + 1 * j)) (View.kind_of k) (kind_new k h) ∙ ap (λ (os : List St.Kind). os ++ View.kind_of k ∷ []) (objects_kept w x n (apart_below a objects_at (objects_at + 1 * n) (omega arith)))

  pub object_full : object_limit ≤ z.objects → View.Grows A.add_object z w (Err Objects) w
  object_full h = record {
    goes = λ s p. out_refused (on_heap z w s) A.add_object p St.object_store refl (Asked.no (rw (row_length, lt-leb (z.objects + 1) object_limit (omega arith))));
    ready = refl;
  }

  pub object_went : (r : Sizes) (w' : List ℕ) → z.objects < object_limit → View.Gives (A.add_kind St.ordinary) z w r w' → View.Grows A.add_object z w (Ok r) w'
  object_went r w' h g = record {
    goes = λ s p. out_make (on_heap z w s) A.add_object p refl (Asked.yes (rw (row_length, le-leb (z.objects + 1) object_limit (omega arith))) Asked.all) ∙ sym (ap (out p) (g.state s));
    ready = g.ready;
  }

  kind_at_lem : (i : ℕ) (k : St.Kind) → i < z.objects → View.kind_of (get_or w (objects_at + i) 0) ≡ k → some k ≡ get_elem? (objects_of w z.objects) i
  unfolding View.kind_at
  kind_at_lem i k h q =
      let e : objects_at + 1 * i ≡ objects_at + i = omega arith in
      sym (elem_at z.objects i (λ j. View.kind_at w (objects_at + 1 * j)) h ∙ rw (e, q))

  pub kind_ordinary : (i : ℕ) → i < z.objects → get_or w (objects_at + i) 0 ≡ 0 → View.kind_in (Some Ordinary) ≡ get_elem? (objects_of w z.objects) i
  kind_ordinary i h e = kind_at_lem i St.ordinary h (rw e)

  pub kind_array : (i : ℕ) → i < z.objects → (get_or w (objects_at + i) 0 ≡ 0 → ⊥) → View.kind_in (Some Array) ≡ get_elem? (objects_of w z.objects) i
  kind_array i h e = kind_at_lem i St.array h (not_zero (get_or w (objects_at + i) 0) e)
    where
      not_zero : (x : ℕ) → (x ≡ 0 → ⊥) → View.kind_of x ≡ St.array
      not_zero zero h = absurd (h refl)
      not_zero (suc x) h = refl

  pub kind_none : (i : ℕ) → z.objects ≤ i → View.kind_in None ≡ get_elem? (objects_of w z.objects) i
  kind_none i h = sym (elem_past z.objects i (λ j. View.kind_at w (objects_at + 1 * j)) h)

-- The fresh heap has one row, that of `console`.
pub cleared : (w w' : List ℕ) (v : Value) → length w ≡ heap_words → value_of v ≡ M.object St.console_id → w' ≡ View.set_row w globals_at 1 0 0 v
    → View.Clears (record { functions = 0; objects = 0; properties = 0; globals = 1 }) w'
cleared w w' v l q e = rw e (record {
  state = λ s.
      let f : functions_of x 0 ≡ [] = row_none (λ i. View.function_at x (0 + 2 * i)) in
      let o : objects_of x 0 ≡ [] = row_none (λ i. View.kind_at x (objects_at + 1 * i)) in
      let p : properties_of x 0 ≡ [] = row_none (λ i. View.property_of (View.row_at x (properties_at + 6 * i))) in
      rw (f, o, p, one);
  ready = record { functions = omega arith; objects = omega arith; properties = omega arith; globals = omega arith; size = length_set_row w globals_at 1 0 0 v ∙ l };
})
  where
    x : List ℕ
    x = View.set_row w globals_at 1 0 0 v

    row : Row
    row = record { head = 1; place = 0; size = 0; value = value_of v }

    console : St.Global
    console = record { name = St.console; value = M.object St.console_id }

    one : globals_of x 1 ≡ console ∷ []
    one =
        table_more View.global_of globals_at w 0 1 0 0 v (omega arith)
        ∙ ap (λ (gs : List St.Global). gs ++ View.global_of row ∷ []) (row_none (λ i. View.global_of (View.row_at w (globals_at + 6 * i))))
        ∙ ap (λ (u : M.Value). record { name = St.console; value = u } ∷ []) q
