-- An image is refused, or read, alike wherever its first byte is to stand: only places differ. Assumes nothing.
use mathlib.Core.Path.{◌≡◌, refl}
use mathlib.Core.Bool.{Bool, true, false, ◌&&◌}
use mathlib.Core.List.{List, [], ◌∷◌}
use Prim.Native.Nat.{ℕ, zero, suc, ◌+◌, ◌*◌}
use native.Mathlib.Omega.{arith}
use lib.Dec.{leb, ltb}
use lib.ListN.{length, take, drop, get_or}
use Rattle.machine.specs.Basic.{is_ascii}
use Rattle.machine.specs.Image as I
use Rattle.machine.specs.Image.{Constant, Read, Reader, refused, got, ◌>>=◌}

abbrev pub Alike : {A B : Type 0} → ℕ → (A → B → Type 0) → Read A → Read B → Type 0
Alike k R (refused p) (refused q) = p ≡ q
Alike k R (refused p) (got b q s) = ⊥
Alike k R (got a p r) (refused q) = ⊥
Alike k R (got a p r) (got b q s) = R a b × (q ≡ k + p) × (s ≡ r)

abbrev Any : {A : Type 0} → A → A → Type 0
Any a b = Unit {0}

abbrev Equal : {A : Type 0} → A → A → Type 0
Equal a b = b ≡ a

abbrev EqualBytes : ℕ × List ℕ → ℕ × List ℕ → Type 0
EqualBytes x y = y.1 ≡ x.1

module _ (k : ℕ) where
  abbrev pub Shifts : {A B : Type 0} → (A → B → Type 0) → Reader A → Reader B → Type 0
  Shifts R r s = (at : ℕ) (rest : List ℕ) → Alike k R (r at rest) (s (k + at) rest)

  after_alike : {A B C D : Type 0} (R : A → B → Type 0) (Q : C → D → Type 0) (x : Read A) (y : Read B) (f : A → Reader C) (g : B → Reader D)
      → Alike k R x y → ((a : A) (b : B) → R a b → Shifts Q (f a) (g b)) → Alike k Q (I.after x f) (I.after y g)
  after_alike R Q (refused p) (refused q) f g h n = h
  after_alike R Q (refused p) (got b q s) f g h n = absurd h
  after_alike R Q (got a p r) (refused q) f g h n = absurd h
  after_alike R Q (got a p r) (got b q s) f g h n = rw (h.1, h.2) (n a b h.0 p r)

  bind : {A B C D : Type 0} (R : A → B → Type 0) (Q : C → D → Type 0) (r : Reader A) (s : Reader B) (f : A → Reader C) (g : B → Reader D)
      → Shifts R r s → ((a : A) (b : B) → R a b → Shifts Q (f a) (g b)) → Shifts Q (r >>= f) (s >>= g)
  bind R Q r s f g h n at rest = after_alike R Q (r at rest) (s (k + at) rest) f g (h at rest) n

  return : {A B : Type 0} (R : A → B → Type 0) (a : A) (b : B) → R a b → Shifts R (I.return a) (I.return b)
  return R a b h at rest = (h, refl, refl)

  ask : {A B : Type 0} (R : A → B → Type 0) (n : ℕ) (b : Bool) (r : Reader A) (s : Reader B) → Shifts R r s → Shifts R (I.ask n b r) (I.ask n b s)
  ask R n true r s h = h
  ask R n false r s h = λ at rest. refl

  byte : Shifts Equal I.byte I.byte
  byte at [] = refl
  byte at (b ∷ rest) = (refl, omega arith, refl)

  word : Shifts Equal I.word I.word
  word = bind Equal Equal I.byte I.byte _ _ byte (λ a b e. bind Equal Equal I.byte I.byte _ _ byte (λ c d f.
      return Equal (a * 256 + c) (b * 256 + d) (rw (e, f))))

  wide : (n m : ℕ) → Shifts Equal (I.wide n m) (I.wide n m)
  wide zero m = return Equal m m refl
  wide (suc n) m = bind Equal Equal I.byte I.byte _ _ byte (λ a b e. rw e (wide n (m * 256 + a)))

  bytes_by : (n at : ℕ) (rest : List ℕ) (b : Bool)
      → Alike k EqualBytes ((I.ask 1 b (λ p r. got (at, take n rest) (at + n) (drop n rest))) at rest)
      ((I.ask 1 b (λ p r. got (k + at, take n rest) (k + at + n) (drop n rest))) (k + at) rest)
  bytes_by n at rest true = (refl, omega arith, refl)
  bytes_by n at rest false = refl

  bytes : (n : ℕ) → Shifts EqualBytes (I.bytes n) (I.bytes n)
  bytes n at rest = bytes_by n at rest (leb n (length rest))

  times : {A : Type 0} (n : ℕ) (r : Reader A) → Shifts Any r r → Shifts Any (I.times n r) (I.times n r)
  times zero r h = λ at rest. (tt, refl, refl)
  times (suc n) r h = bind Any Any r r _ _ h (λ a b _. bind Any Any (I.times n r) (I.times n r) _ _ (times n r h) (λ x y _. return Any (a ∷ x) (b ∷ y) tt))

  text : Shifts Any I.text_constant I.text_constant
  text = bind Equal Any I.word I.word _ _ word (λ n m e. rw e (bind EqualBytes Any (I.bytes n) (I.bytes n) _ _ (bytes n) (λ x y f.
      rw f (ask Any 5 (is_ascii x.1) _ _ (λ at rest. (tt, refl, refl))))))

  boolean : Shifts Any I.boolean_constant I.boolean_constant
  boolean = bind Equal Any I.byte I.byte _ _ byte (λ a b e. rw e (ask Any 4 (ltb a 2) _ _ (λ at rest. (tt, refl, refl))))

  function : (own count : ℕ) → Shifts Any (I.function_constant own count) (I.function_constant own count)
  function own count = bind Equal Any I.word I.word _ _ word (λ a b e. rw e (ask Any 6 (ltb own a && ltb a count) _ _ (λ at rest. (tt, refl, refl))))

  kind : (own count n : ℕ) → Shifts Any (get_or (I.kinds own count) n (I.refuse 3)) (get_or (I.kinds own count) n (I.refuse 3))
  kind own count zero = bind Equal Any (I.wide 8 0) (I.wide 8 0) _ _ (wide 8 0) (λ a b _. λ at rest. (tt, refl, refl))
  kind own count (suc zero) = text
  kind own count (suc (suc zero)) = boolean
  kind own count (suc (suc (suc zero))) = return Any Constant.null Constant.null tt
  kind own count (suc (suc (suc (suc zero)))) = return Any Constant.undefined Constant.undefined tt
  kind own count (suc (suc (suc (suc (suc zero))))) = function own count
  kind own count (suc (suc (suc (suc (suc (suc n)))))) = λ at rest. refl

  constant : (own count : ℕ) → Shifts Any (I.constant own count) (I.constant own count)
  constant own count = bind Equal Any I.byte I.byte _ _ byte (λ a b e. rw e (kind own count a))

  template : (own count : ℕ) → Shifts Any (I.template own count) (I.template own count)
  template own count =
      bind Equal Any I.word I.word _ _ word (λ _ _ _. bind Equal Any I.word I.word _ _ word (λ _ _ _.
      bind Equal Any I.word I.word _ _ word (λ n m e. rw e (
      bind Any Any (I.times n (I.constant own count)) (I.times n (I.constant own count)) _ _ (times n _ (constant own count)) (λ _ _ _.
      bind Equal Any I.word I.word _ _ word (λ z y f. rw f (
      bind EqualBytes Any (I.bytes z) (I.bytes z) _ _ (bytes z) (λ _ _ _. λ at rest. (tt, refl, refl)))))))))

  templates : (count own n : ℕ) → Shifts Any (I.templates count own n) (I.templates count own n)
  templates count own zero = λ at rest. (tt, refl, refl)
  templates count own (suc n) =
      bind Any Any (I.template own count) (I.template own count) _ _ (template own count) (λ a b _.
      bind Any Any (I.templates count (own + 1) n) (I.templates count (own + 1) n) _ _ (templates count (own + 1) n) (λ x y _. return Any (a ∷ x) (b ∷ y) tt))

  at_end : {A : Type 0} (a b : A) → Shifts Any (I.at_end a) (I.at_end b)
  at_end a b at [] = (tt, refl, refl)
  at_end a b at (x ∷ rest) = refl

  pub image : Shifts Any I.image I.image
  image = bind Equal Any I.word I.word _ _ word (λ n m e. rw e (
      bind Any Any (I.ask 2 (leb 1 n && leb n 256) (I.templates n 0 n)) (I.ask 2 (leb 1 n && leb n 256) (I.templates n 0 n)) _ _
      (ask Any 2 (leb 1 n && leb n 256) (I.templates n 0 n) (I.templates n 0 n) (templates n 0 n)) (λ a b _. at_end a b)))
