-- A global put, with a value or with a text given as bytes. Assumes nothing.
use Rattle.std.specs.Prelude.{ℕ, ◌+◌, ◌*◌, ◌≤◌, ◌<◌, Bool, true, false, List, [], ◌∷◌, ◌++◌, ◌≡◌, refl, Option, Some, None, Result, Ok, Err}
use Rattle.std.proofs.Common.{arith, append-nil, add-zero, sym, ap, ◌∙◌}
use lib.ListN.{length, length-append}
use Rattle.machine.specs.Value as M
use Rattle.machine.specs.State as St
use Rattle.machine.specs.Act as A
use Rattle.machine.specs.Fields as Fi
use Rattle.value.specs.Arena.{Apart}
use Rattle.value.specs.Lists.{bytes_of, row_length}
use Rattle.value.specs.Words.{value_of, set_value, value_apart, length_set_value}
use Rattle.value.specs.declared.Value.{Value}
use Rattle.value.specs.declared.Value.TheVariants.{MadeText}
use Rattle.value.specs.declared.Space.{Space}
use Rattle.value.specs.declared.Space.TheVariants.{Globals}
use Rattle.texts.specs.Keeps.{text_limit}
use Rattle.texts.specs.Overwrite.{overwrite, overwrite_bytes, overwrite_length}
use Rattle.heap.specs.Layout.{global_limit, globals_at, heap_words}
use Rattle.heap.specs.View.{Sized, row_at, set_row, global_of, globals_of, on_heap}
use Rattle.heap.specs.Rows.{Finds, is_found, found_is, found_within}
use Rattle.heap.specs.Tables.{table_changed, table_more, set_row_apart, length_set_row}
use Rattle.heap.specs.Laws.{in_globals, apart_wider, with_globals}
use Rattle.heap.specs.Finds.{stores, name_at, names_found}
use Rattle.heap.specs.declared.Sizes.{Sizes}
use Rattle.objects.specs.View.{on_stores, Puts, Rooms, PutsTold, PutsRow, new_size}
use Rattle.objects.specs.Puts.{asked_went, asked_refused, room_there}

module _ (z : Sizes) (w : List ℕ) (m : ℕ) (t : List ℕ) (good : Sized z w) (k : List ℕ) (g : A.Given) where
  abbrev n : ℕ
  n = z.globals

  abbrev act : A.Act
  act = A.put_global k g

  abbrev given : ℕ
  given = length (A.given_bytes g)

  -- the value that is bound: a text given as bytes stands behind the name, if this is new
  abbrev bound : Bool → St.State → M.Value
  bound there s = A.given_value g (A.add_text (A.new_name there k) (on_stores z w m t s))

  state : (there : Bool) (count e : ℕ) (w' t' : List ℕ) (s : St.State) → Apart w w' globals_at heap_words
      → globals_of w' count ≡ A.bind there (stores s.code (bytes_of t m)) k (St.next_text (on_stores z w m t s) (length k)) (bound there s) (globals_of w n)
      → bytes_of t' e ≡ (bytes_of t m ++ A.new_name there k) ++ A.given_bytes g
      → on_stores (with_globals count z) w' e t' s ≡ A.set_global there k g (on_stores z w m t s)
  state there count e w' t' s a p q =
      let b = A.bind there (stores s.code (bytes_of t m)) k (St.next_text (on_stores z w m t s) (length k)) (bound there s) (globals_of w n) in
      ap (λ (u : St.State). Fi.set_text (bytes_of t' e) u) (in_globals z w w' good s count a ∙ ap (λ (u : List St.Global). Fi.set_globals u (on_heap z w s)) p)
      ∙ ap (λ (u : List ℕ). Fi.set_text u (Fi.set_globals b (on_heap z w s))) q

  module _ (r : Option ℕ) (f : Finds (name_at (bytes_of t m) w k) n r) where
    found : (s : St.State) → Finds (λ i. St.is_named (stores s.code (bytes_of t m)) k (global_of (row_at w (globals_at + 6 * i)))) n r
    found s = names_found s.code (bytes_of t m) w k n r f

    has : (s : St.State) → St.has_global (on_stores z w m t s) k ≡ is_found r
    has s = found_is (St.is_named (stores s.code (bytes_of t m)) k) n (λ i. global_of (row_at w (globals_at + 6 * i))) r (found s)

    holds : (s : St.State) → St.used (on_stores z w m t s) St.global_store ≡ n
    holds s = row_length n (λ i. global_of (row_at w (globals_at + 6 * i)))

    asks : (s : St.State) → A.needs act (on_stores z w m t s) ≡ A.need St.global_store (A.unless (is_found r) 1) ∷ A.need St.text_store (new_size r (length k) + given) ∷ []
    asks s = ap (λ (x : Bool). A.need St.global_store (A.unless x 1) ∷ A.need St.text_store (A.unless x (length k) + given) ∷ []) (has s)

    abbrev Room : Result (Unit {0}) Space → Type 0
    Room x = Rooms global_limit Globals n r m (new_size r (length k) + given) x

    pub global_refused : (e : Space) → Room (Err e) → Puts act z w m t (Err e) w t
    global_refused e g = asked_refused act z w m t Globals n (new_size r (length k) + given) r (λ s. refl) asks holds e g

    went : Room (Ok tt) → (y : Sizes) (e : ℕ) (w' t' : List ℕ) → Sized y w' → e ≤ text_limit → ((s : St.State) → on_stores y w' e t' s ≡ A.apply act (on_stores z w m t s)) → Puts act z w m t (Ok (y, e)) w' t'
    went = asked_went act z w m t Globals n (new_size r (length k) + given) r (λ s. refl) asks holds

    -- v is the value that is bound; what is given stands behind the name
    module _ (v : Value) (same : (s : St.State) → value_of v ≡ bound (is_found r) s) (j : ℕ) (w' t' : List ℕ) where
      there : (i : ℕ) → r ≡ Some i → Room (Ok tt) → w' ≡ set_value w (globals_at + 6 * i + 3) v → j ≡ m + given → bytes_of t' j ≡ bytes_of t m ++ A.given_bytes g → Puts act z w m t (Ok (z, j)) w' t'
      there i e room q c texts =
          let x = set_value w (globals_at + 6 * i + 3) v in
          let at : i < n = found_within f e in
          let a : Apart w x globals_at heap_words = apart_wider globals_at heap_words (value_apart w (globals_at + 6 * i + 3) v) (omega arith) (omega (arith, good.globals)) in
          let some : Rooms global_limit Globals n (Some i) m (0 + given) (Ok tt) = rw e at room in
          went room z j w' t'
          (record { functions = good.functions; objects = good.objects; properties = good.properties; globals = good.globals; size = ap length q ∙ length_set_value w (globals_at + 6 * i + 3) v ∙ good.size })
          (omega (arith, some.told))
          (λ s.
          let here : Finds (λ i. St.is_named (stores s.code (bytes_of t m)) k (global_of (row_at w (globals_at + 6 * i)))) n (Some i) = rw e at (found s) in
          let changed : globals_of x n ≡ St.change_first (St.is_named (stores s.code (bytes_of t m)) k) (A.with_global (bound true s)) (globals_of w n) =
          table_changed global_of globals_at w n (St.is_named (stores s.code (bytes_of t m)) k) (A.with_global (value_of v)) i v here (omega (arith, good.globals, good.size)) (λ r. refl)
          ∙ ap (λ (u : M.Value). St.change_first (St.is_named (stores s.code (bytes_of t m)) k) (A.with_global u) (globals_of w n)) (same s ∙ ap (λ (o : Option ℕ). bound (is_found o) s) e) in
          ap (λ (u : List ℕ). on_stores z u j t' s) q
          ∙ state true n j x t' s a changed (texts ∙ ap (λ (u : List ℕ). u ++ A.given_bytes g) (sym (append-nil (bytes_of t m))))
          ∙ sym (ap (λ (b : Bool). A.set_global b k g (on_stores z w m t s)) (has s ∙ ap is_found e)))

      laid : r ≡ None → Room (Ok tt) → w' ≡ set_row w (globals_at + 6 * n) 0 m (length k) v → j ≡ m + (length k + given) → bytes_of t' j ≡ (bytes_of t m ++ k) ++ A.given_bytes g
          → Puts act z w m t (Ok ((with_globals (n + 1) z), j)) w' t'
      laid e room q c texts =
          let x = set_row w (globals_at + 6 * n) 0 m (length k) v in
          let new : Rooms global_limit Globals n None m (length k + given) (Ok tt) = rw e at room in
          let a : Apart w x globals_at heap_words = apart_wider globals_at heap_words (set_row_apart w (globals_at + 6 * n) 0 m (length k) v) (omega arith) (omega (arith, new.told)) in
          went room (with_globals (n + 1) z) j w' t'
          (record { functions = good.functions; objects = good.objects; properties = good.properties; globals = omega (arith, new.told); size = ap length q ∙ length_set_row w (globals_at + 6 * n) 0 m (length k) v ∙ good.size })
          (omega (arith, new.told))
          (λ s.
          let row : ℕ → M.Value → St.Global = λ p u. record { name = St.kept (record { store = M.in_text; at = p; size = length k }); value = u } in
          let more : globals_of x (n + 1) ≡ globals_of w n ++ row (length (bytes_of t m)) (bound false s) ∷ [] =
          table_more global_of globals_at w n 0 m (length k) v (omega (arith, good.size, new.told))
          ∙ ap (λ (u : M.Value). globals_of w n ++ row m u ∷ []) (same s ∙ ap (λ (o : Option ℕ). bound (is_found o) s) e)
          ∙ ap (λ (p : ℕ). globals_of w n ++ row p (bound false s) ∷ []) (sym (row_length m (λ i. lib.ListN.get_or t i 0))) in
          ap (λ (u : List ℕ). on_stores (with_globals (n + 1) z) u j t' s) q
          ∙ state false (n + 1) j x t' s a more texts
          ∙ sym (ap (λ (b : Bool). A.set_global b k g (on_stores z w m t s)) (has s ∙ ap is_found e)))

      pub global_put : Room (Ok tt) → length t ≡ text_limit → (p : ℕ × ℕ) (t₁ : List ℕ) → PutsRow globals_at n r 0 k v w m t p w' t₁ → j ≡ p.1 + given
          → (length t₁ ≡ text_limit → p.1 + given ≤ text_limit → bytes_of t' j ≡ bytes_of t₁ p.1 ++ A.given_bytes g) → Puts act z w m t (Ok (with_globals p.0 z, j)) w' t'
      global_put room long p t₁ x c texts = go r refl x.told
        where
          go : (u : Option ℕ) → r ≡ u → PutsTold globals_at n u 0 k v w m t p w' t₁ → Puts act z w m t (Ok (with_globals p.0 z, j)) w' t'
          go (Some i) e (a, b, d) =
              let some : Rooms global_limit Globals n (Some i) m (0 + given) (Ok tt) = rw e at room in
              let first : p.1 ≡ m = ap (λ (u : ℕ × ℕ). u.1) a in
              let own : bytes_of t₁ p.1 ≡ bytes_of t m = rw (d, first) refl in
              rw (ap (λ (u : ℕ × ℕ). u.0) a) (there i e room b (omega arith) (texts (ap length d ∙ long) (omega (arith, some.told)) ∙ ap (λ (u : List ℕ). u ++ A.given_bytes g) own))
          go None e (a, lay) =
              let new : Rooms global_limit Globals n None m (length k + given) (Ok tt) = rw e at room in
              let whole : length t₁ ≡ text_limit = ap length lay.text ∙ overwrite_length t m k (omega (arith, new.told)) ∙ long in
              let own : bytes_of t₁ p.1 ≡ bytes_of t m ++ k = rw (lay.text, lay.count) (overwrite_bytes t m k (omega (arith, new.told))) in
              rw a (laid e room lay.row (omega (arith, lay.count)) (texts whole (omega (arith, new.told, lay.count)) ∙ ap (λ (u : List ℕ). u ++ A.given_bytes g) own))

-- The two ways to give a value

-- a value: nothing is kept of it
module _ (z : Sizes) (w : List ℕ) (m : ℕ) (t : List ℕ) (good : Sized z w) (h : m ≤ text_limit) (long : length t ≡ text_limit) (k : List ℕ) (r : Option ℕ) (f : Finds (name_at (bytes_of t m) w k) z.globals r) (v : Value) where
  abbrev plain_act : A.Act
  plain_act = A.put_global k (A.plain (value_of v))

  plain_room : {x : Result (Unit {0}) Space} → Rooms global_limit Globals z.globals r m (new_size r (length k)) x → Rooms global_limit Globals z.globals r m (new_size r (length k) + 0) x
  plain_room g = rw add-zero g

  pub value_refused : (e : Space) → Rooms global_limit Globals z.globals r m (new_size r (length k)) (Err e) → Puts plain_act z w m t (Err e) w t
  value_refused e g = global_refused z w m t good k (A.plain (value_of v)) r f e (plain_room g)

  pub value_put : Rooms global_limit Globals z.globals r m (new_size r (length k)) (Ok tt) → (p : ℕ × ℕ) (w' t' : List ℕ) → PutsRow globals_at z.globals r 0 k v w m t p w' t'
      → Puts plain_act z w m t (Ok (with_globals p.0 z, p.1)) w' t'
  value_put g p w' t' x = global_put z w m t good k (A.plain (value_of v)) r f v (λ s. refl) p.1 w' t' (plain_room g) long p t' x (omega arith) (λ l b. sym (append-nil (bytes_of t' p.1)))

  pub value_there : (i : ℕ) (w' : List ℕ) → r ≡ Some i → w' ≡ set_value w (globals_at + 6 * i + 3) v → Puts plain_act z w m t (Ok (z, m)) w' t
  value_there i w' e q = value_put (room_there global_limit Globals z.globals r m (new_size r (length k)) i e good.globals (rw e (omega arith))) (z.globals, m) w' t (record { told = rw e (refl, q, refl) })

-- a text by its bytes: they are kept behind the name, if this is new
module _ (z : Sizes) (w : List ℕ) (m : ℕ) (t : List ℕ) (good : Sized z w) (h : m ≤ text_limit) (long : length t ≡ text_limit) (k : List ℕ) (r : Option ℕ) (f : Finds (name_at (bytes_of t m) w k) z.globals r) (bs : List ℕ) where
  abbrev text_act : A.Act
  text_act = A.put_global k (A.as_bytes bs)

  pub text_refused : (e : Space) → Rooms global_limit Globals z.globals r m (new_size r (length k) + length bs) (Err e) → Puts text_act z w m t (Err e) w t
  text_refused e g = global_refused z w m t good k (A.as_bytes bs) r f e g

  -- the text stands behind what is new
  place : (o : Option ℕ) → m + new_size o (length k) ≡ length (bytes_of t m ++ A.new_name (is_found o) k)
  place (Some i) = omega arith ∙ sym (ap length (append-nil (bytes_of t m)) ∙ row_length m (λ i. lib.ListN.get_or t i 0))
  place None = sym (length-append (bytes_of t m) k ∙ ap (λ (u : ℕ). u + length k) (row_length m (λ i. lib.ListN.get_or t i 0)))

  pub text_put : Rooms global_limit Globals z.globals r m (new_size r (length k) + length bs) (Ok tt) → (size : ℕ) → size ≡ new_size r (length k) → (p : ℕ × ℕ) (w' t₁ t' : List ℕ)
      → PutsRow globals_at z.globals r 0 k (MadeText (m + size) (length bs)) w m t p w' t₁ → t' ≡ overwrite t₁ p.1 bs → Puts text_act z w m t (Ok (with_globals p.0 z, p.1 + length bs)) w' t'
  text_put g size d p w' t₁ t' x q =
      global_put z w m t good k (A.as_bytes bs) r f (MadeText (m + size) (length bs))
      (λ s. ap (λ (a : ℕ). M.text (record { store = M.in_text; at = a; size = length bs })) (ap (λ (u : ℕ). m + u) d ∙ place r)) (p.1 + length bs) w' t' g long p t₁ x refl
      (λ l b. ap (λ (u : List ℕ). bytes_of u (p.1 + length bs)) q ∙ overwrite_bytes t₁ p.1 bs (omega arith))
