-- No two rows have one key: then a row that has it is the one that the machine finds. Assumes nothing.
use Rattle.std.specs.Prelude.{◌≡◌, ℕ, zero, suc, ◌+◌, ◌*◌, ◌<◌, Bool, true, false, List, [], slice_index_or, refl, Option, Some}
use Rattle.std.proofs.Common.{arith, sym, ap, ◌∙◌}
use Rattle.machine.specs.Basic.{same}
use Rattle.machine.specs.State as St
use Rattle.machine.proofs.Unique.{Unique, unique_pair, unique_name}
use Rattle.value.specs.Lists.{bytes_of, row_at_lem, row_length}
use Rattle.heap.specs.Layout.{properties_at, globals_at}
use Rattle.heap.specs.View as Heap
use Rattle.heap.specs.View.{row_at, property_of, global_of}
use Rattle.heap.specs.Rows.{Finds, found_within}
use Rattle.heap.specs.Finds.{pair_at, name_at, stores}
use Rattle.heap.specs.declared.Sizes.{Sizes}
use Rattle.heapops.specs.declared.Counts.{Counts}
use Rattle.heapops.specs.Turns.{Mem, state_of}

abbrev pub Once : (ℕ → Bool) → ℕ → Type 0
Once t n = (i j : ℕ) → i < n → j < n → t i ≡ true → t j ≡ true → i ≡ j

pub record Distinct (z : Sizes) (h : List ℕ) (m : ℕ) (t : List ℕ) : Type 0 where
  pub pairs : (o : ℕ) (k : List ℕ) → Once (pair_at (bytes_of t m) h o k) z.properties
  pub names : (n : List ℕ) → Once (name_at (bytes_of t m) h n) z.globals

-- a row that passes the test: the first one, where no two pass
pub record Locates (t : ℕ → Bool) (n : ℕ) (r : Option ℕ) : Type 0 where
  pub within : (j : ℕ) → r ≡ Some j → j < n
  pub finds : Once t n → Finds t n r

pub located : {t : ℕ → Bool} {n : ℕ} {r : Option ℕ} → Finds t n r → Locates t n r
located f = record { within = λ j e. found_within f e; finds = λ u. f }

at_eq : {i j : ℕ} → Some i ≡ Some j → i ≡ j
at_eq e = cc

pub guessed : {t : ℕ → Bool} {n i : ℕ} → i < n → t i ≡ true → Locates t n (Some i)
guessed {t} {n} {i} l e = record {
  within = λ j q. let z : i ≡ j = at_eq q in omega arith;
  finds = λ u. record { told = (l, e, record { at = λ j k. below u j k (t j) refl }) };
}
  where
    below : Once t n → (j : ℕ) → j < i → (b : Bool) → t j ≡ b → t j ≡ false
    below u j k true q = absurd (let z : j ≡ i = u j i (omega arith) l q e in omega arith)
    below u j k false q = q

-- a name lies in no code
name_bytes_lem : (c t : List ℕ) (h a n : ℕ) → St.name_bytes (stores [] t) (Heap.name_of h a n) ≡ St.name_bytes (stores c t) (Heap.name_of h a n)
name_bytes_lem c t zero a n = refl
name_bytes_lem c t (suc h) a n = refl

-- every state that calls leave has such stores
pub unique_distinct : (c : Counts) (m : Mem) (s : St.State) → Unique (state_of c m s) → Distinct c.sizes m.heap c.text m.text
unique_distinct c m s u = record {
  pairs = λ o k i j a b p q. unique_pair (state_of c m s) u o k i j no_pair (rw row_length a) (rw row_length b) (pair_in o k i a p) (pair_in o k j b q);
  names = λ n i j a b p q. unique_name (state_of c m s) u n i j no_name (rw row_length a) (rw row_length b) (name_in n i a p) (name_in n j b q);
}
  where
    no_pair : St.Property
    no_pair = property_of (row_at [] 0)

    no_name : St.Global
    no_name = global_of (row_at [] 0)

    pair_in : (o : ℕ) (k : List ℕ) (i : ℕ) → i < c.sizes.properties → pair_at (bytes_of m.text c.text) m.heap o k i ≡ true
        → St.is_pair (St.bytes (state_of c m s)) o k (slice_index_or (Heap.properties_of m.heap c.sizes.properties) i no_pair) ≡ true
    pair_in o k i a p = ap (λ (x : St.Property). St.is_pair (St.bytes (state_of c m s)) o k x) (row_at_lem c.sizes.properties (λ j. property_of (row_at m.heap (properties_at + 6 * j))) i no_pair a) ∙ p

    name_in : (n : List ℕ) (i : ℕ) → i < c.sizes.globals → name_at (bytes_of m.text c.text) m.heap n i ≡ true
        → St.is_named (St.bytes (state_of c m s)) n (slice_index_or (Heap.globals_of m.heap c.sizes.globals) i no_name) ≡ true
    name_in n i a p =
        let x = row_at m.heap (globals_at + 6 * i) in
        ap (λ (y : St.Global). St.is_named (St.bytes (state_of c m s)) n y) (row_at_lem c.sizes.globals (λ j. global_of (row_at m.heap (globals_at + 6 * j))) i no_name a)
        ∙ ap (λ (b : List ℕ). same b n) (sym (name_bytes_lem s.code (bytes_of m.text c.text) x.head x.place x.size)) ∙ p
