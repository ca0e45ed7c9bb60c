-- A constant that the machine has read is the one that the bytes show, in any code that agrees with what was read. Assumes nothing.
use mathlib.Core.Path.{◌≡◌, refl, sym, ◌∙◌}
use mathlib.Core.Bool.{Bool, true, false, ◌&&◌}
use mathlib.Core.List.{List}
use Prim.Native.Nat.{ℕ, zero, suc, ◌+◌, ◌*◌, ◌≤◌, ◌<◌}
use native.Mathlib.Omega.{arith}
use lib.Dec.{ltb, leb, eqb}
use lib.ListN.{length, take, drop, get_or}
use borrow.Author.Tests.{ltb-true, ltb-false}
use Rattle.machine.specs.Basic.{is_ascii}
use Rattle.machine.specs.Value.{in_code}
use Rattle.machine.specs.Image as I
use Rattle.machine.specs.Image.{Constant, Read, Reader, refused, got, after, ◌>>=◌}
use Rattle.reader.specs.Says.{Reads}
use Rattle.reader.specs.Laws.{byte_got, byte_refused}
use Rattle.image.specs.View.{Same, wide_at, word_at, constant_by, constant_at}

-- Readers run backwards: what was got shows what was there.
module _ {A : Type 0} (s : List ℕ) (a : A) (q : ℕ) (r : List ℕ) where
  byte_by : (p : ℕ) (f : ℕ → Reader A) (b : Bool) → ltb p (length s) ≡ b → after (I.byte p (drop p s)) f ≡ got a q r
      → f (get_or s p 0) (p + 1) (drop (p + 1) s) ≡ got a q r
  byte_by p f true e h = rw (byte_got s p (ltb-true p (length s) e)).read at h
  byte_by p f false e h =
      let g = rw (byte_refused s p (ltb-false p (length s) e)) at h in
      let z : ◌≡◌ {A = ℕ} 0 1 = cc in absurd (omega arith)

  byte_back : (p : ℕ) (f : ℕ → Reader A) → after (I.byte p (drop p s)) f ≡ got a q r → f (get_or s p 0) (p + 1) (drop (p + 1) s) ≡ got a q r
  byte_back p f h = byte_by p f (ltb p (length s)) refl h

  assoc : {B C : Type 0} (x : Read B) (f : B → Reader C) (g : C → Reader A)
      → after (after x f) g ≡ after x (λ b at rest. after (f b at rest) g)
  assoc (refused n) f g = refl
  assoc (got b at rest) f g = refl

  word_back : (p : ℕ) (f : ℕ → Reader A) → after (I.word p (drop p s)) f ≡ got a q r → f (word_at s p) (p + 1 + 1) (drop (p + 1 + 1) s) ≡ got a q r
  word_back p f h =
      let g = byte_back p (λ hi at rest. after ((I.byte >>= λ lo. I.return (hi * 256 + lo)) at rest) f) (sym (assoc (I.byte p (drop p s)) _ f) ∙ h) in
      byte_back (p + 1) (λ lo at rest. after (I.return (get_or s p 0 * 256 + lo) at rest) f) (sym (assoc (I.byte (p + 1) (drop (p + 1) s)) _ f) ∙ g)

  wide_back : (k n p : ℕ) (f : ℕ → Reader A) → after (I.wide k n p (drop p s)) f ≡ got a q r
      → f (wide_at s k n p) (p + k) (drop (p + k) s) ≡ got a q r
  wide_back zero n p f h = let e : p + 0 ≡ p = omega arith in rw e h
  wide_back (suc k) n p f h =
      let g = byte_back p (λ b at rest. after (I.wide k (n * 256 + b) at rest) f) (sym (assoc (I.byte p (drop p s)) _ f) ∙ h) in
      let e : p + 1 + k ≡ p + suc k = omega arith in
      rw e at (wide_back k (n * 256 + get_or s p 0) (p + 1) f g)

  ask_back : (n : ℕ) (b : Bool) (x : A) (at : ℕ) (rest : List ℕ) → I.ask n b (I.return x) at rest ≡ got a q r → got x at rest ≡ got a q r
  ask_back n true x at rest h = h
  ask_back n false x at rest h = let z : ◌≡◌ {A = ℕ} 0 1 = cc in absurd (omega arith)

  bytes_by : (n at : ℕ) (rest : List ℕ) (b : Bool) (m : ℕ) (f : ℕ × List ℕ → A)
      → after (I.ask 1 b (λ p l. got (at, take n rest) (at + n) (drop n rest)) at rest) (λ x. I.ask m (is_ascii x.1) (I.return (f x))) ≡ got a q r
      → got (f (at, take n rest)) (at + n) (drop n rest) ≡ got a q r
  bytes_by n at rest true m f h = ask_back m (is_ascii (take n rest)) (f (at, take n rest)) (at + n) (drop n rest) h
  bytes_by n at rest false m f h = let z : ◌≡◌ {A = ℕ} 0 1 = cc in absurd (omega arith)

-- The same numbers stand in what agrees.
wide_same : (s code : List ℕ) (q k n p : ℕ) → p + k ≤ q → Same q s code → wide_at code k n p ≡ wide_at s k n p
wide_same s code q zero n p l h = refl
wide_same s code q (suc k) n p l h = rw (h.same p (omega arith)) (wide_same s code q k (n * 256 + get_or s p 0) (p + 1) (omega arith) h)

word_same : (s code : List ℕ) (q p : ℕ) → p + 2 ≤ q → Same q s code → word_at code p ≡ word_at s p
word_same s code q p l h = rw (h.same p (omega arith), h.same (p + 1) (omega arith))

module _ (s code : List ℕ) (p q own count : ℕ) (c : Constant) (r : List ℕ) (agree : Same q s code) where
  number_is : (n at : ℕ) (rest : List ℕ) → n ≡ wide_at s 8 0 (p + 1) → at ≡ p + 9 → got (Constant.number n) at rest ≡ got c q r → Constant.number (wide_at code 8 0 (p + 1)) ≡ c
  number_is n at rest e f h =
      let y : at ≡ q = cc in
      let z : Constant.number n ≡ c = cc in
      rw (wide_same s code q 8 0 (p + 1) (omega arith) agree, ← e) z

  text_is_lem : (n at end : ℕ) (rest : List ℕ) → n ≡ word_at s (p + 1) → at ≡ p + 3 → end ≡ at + n
      → got (Constant.text (record { store = in_code; at = at; size = n })) end rest ≡ got c q r
      → Constant.text (record { store = in_code; at = p + 3; size = word_at code (p + 1) }) ≡ c
  text_is_lem n at end rest e f g h =
      let y : end ≡ q = cc in
      let z : Constant.text (record { store = in_code; at = at; size = n }) ≡ c = cc in
      rw (word_same s code q (p + 1) (omega arith) agree, ← e, ← f) z

  boolean_is : (b at : ℕ) (rest : List ℕ) → b ≡ get_or s (p + 1) 0 → at ≡ p + 2 → got (Constant.boolean (eqb b 1)) at rest ≡ got c q r
      → Constant.boolean (eqb (get_or code (p + 1) 0) 1) ≡ c
  boolean_is b at rest e f h =
      let y : at ≡ q = cc in
      let z : Constant.boolean (eqb b 1) ≡ c = cc in
      rw (agree.same (p + 1) (omega arith), ← e) z

  function_is : (t at : ℕ) (rest : List ℕ) → t ≡ word_at s (p + 1) → at ≡ p + 3 → got (Constant.function t) at rest ≡ got c q r
      → Constant.function (word_at code (p + 1)) ≡ c
  function_is t at rest e f h =
      let y : at ≡ q = cc in
      let z : Constant.function t ≡ c = cc in
      rw (word_same s code q (p + 1) (omega arith) agree, ← e) z

  kind_is : (k : ℕ) → get_or (I.kinds own count) k (I.refuse 3) (p + 1) (drop (p + 1) s) ≡ got c q r → constant_by code p k ≡ c
  kind_is zero h =
      number_is (wide_at s 8 0 (p + 1)) (p + 1 + 8) (drop (p + 1 + 8) s) refl (omega arith)
      (wide_back s c q r 8 0 (p + 1) (λ n. I.return (Constant.number n)) h)
  kind_is (suc zero) h =
      let n = word_at s (p + 1) in
      let at = p + 1 + 1 + 1 in
      let g = word_back s c q r (p + 1) _ h in
      text_is_lem n at (at + n) (drop n (drop at s)) refl (omega arith) refl
      (bytes_by s c q r n at (drop at s) (leb n (length (drop at s))) 5 (λ x. Constant.text (record { store = in_code; at = x.0; size = n })) g)
  kind_is (suc (suc zero)) h =
      let b = get_or s (p + 1) 0 in
      boolean_is b (p + 1 + 1) (drop (p + 1 + 1) s) refl (omega arith)
      (ask_back s c q r 4 (ltb b 2) (Constant.boolean (eqb b 1)) (p + 1 + 1) (drop (p + 1 + 1) s) (byte_back s c q r (p + 1) _ h))
  kind_is (suc (suc (suc zero))) h = cc
  kind_is (suc (suc (suc (suc zero)))) h = cc
  kind_is (suc (suc (suc (suc (suc zero))))) h =
      let t = word_at s (p + 1) in
      function_is t (p + 1 + 1 + 1) (drop (p + 1 + 1 + 1) s) refl (omega arith)
      (ask_back s c q r 6 (ltb own t && ltb t count) (Constant.function t) (p + 1 + 1 + 1) (drop (p + 1 + 1 + 1) s) (word_back s c q r (p + 1) _ h))
  kind_is (suc (suc (suc (suc (suc (suc k)))))) h = let z : ◌≡◌ {A = ℕ} 0 1 = cc in absurd (omega arith)

pub read_at : (s code : List ℕ) (p q own count : ℕ) (c : Constant) → p < q → Same q s code → Reads s p (I.constant own count) c q → constant_at code p ≡ c
unfolding constant_at
read_at s code p q own count c l agree h =
    let g = byte_back s c q (drop q s) p (λ kind. get_or (I.kinds own count) kind (I.refuse 3)) h.read in
    rw (agree.same p l) (kind_is s code p q own count c (drop q s) agree (get_or s p 0) g)
