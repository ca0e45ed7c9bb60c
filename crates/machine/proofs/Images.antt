-- The text constants of an image that is read lie inside its bytes, and a refusal has a number from 1 to 7. Assumes nothing.
use mathlib.Core.Path.{◌≡◌, refl}
use mathlib.Core.Bool.{Bool, true, false, ◌&&◌}
use mathlib.Core.List.{List, [], ◌∷◌}
use Prim.Native.Nat.{ℕ, zero, suc, ◌+◌, ◌*◌, ◌≤◌}
use native.Mathlib.Omega.{arith}
use lib.Dec.{leb, ltb, eqb, leb→le}
use lib.ListN.{length, take, drop, get_or, length-drop}
use Rattle.machine.specs.Basic.{is_ascii}
use Rattle.machine.specs.Value.{Text, in_code}
use Rattle.machine.specs.Image as I
use Rattle.machine.specs.Image.{Constant, Template, Read, Reader, refused, got, ◌>>=◌}
use Rattle.machine.specs.Demand3.{All}

abbrev pub Within : ℕ → ℕ → Text → Type 0
Within lo hi t = (t.store ≡ in_code) × (lo ≤ t.at) × (t.at + t.size ≤ hi)

abbrev pub ConstantIn : ℕ → ℕ → Constant → Type 0
ConstantIn lo hi (Constant.number n) = Unit {0}
ConstantIn lo hi (Constant.text t) = Within lo hi t
ConstantIn lo hi (Constant.boolean b) = Unit {0}
ConstantIn lo hi Constant.null = Unit {0}
ConstantIn lo hi Constant.undefined = Unit {0}
ConstantIn lo hi (Constant.function t) = Unit {0}

abbrev pub TemplateIn : ℕ → ℕ → Template → Type 0
TemplateIn lo hi t = All (ConstantIn lo hi) t.constants

abbrev Anything : {A : Type 0} → A → Type 0
Anything a = Unit {0}

module _ (lo hi : ℕ) where
  -- What is read is good, and the position stays within the image.
  abbrev pub Good : {A : Type 0} → (A → Type 0) → Read A → Type 0
  Good P (refused n) = n ≤ 7
  Good P (got a at rest) = (lo ≤ at) × (at + length rest ≡ hi) × P a

  abbrev pub Reads : {A : Type 0} → (A → Type 0) → Reader A → Type 0
  Reads P r = (at : ℕ) (rest : List ℕ) → lo ≤ at → at + length rest ≡ hi → Good P (r at rest)

  good_after : {A B : Type 0} (P : A → Type 0) (Q : B → Type 0) (r : Read A) (f : A → Reader B)
      → Good P r → ((a : A) → P a → Reads Q (f a)) → Good Q (I.after r f)
  good_after P Q (refused n) f g k = g
  good_after P Q (got a at rest) f g k = k a g.2 at rest g.0 g.1

  bind : {A B : Type 0} (P : A → Type 0) (Q : B → Type 0) (r : Reader A) (f : A → Reader B)
      → Reads P r → ((a : A) → P a → Reads Q (f a)) → Reads Q (r >>= f)
  bind P Q r f g k at rest l e = good_after P Q (r at rest) f (g at rest l e) k

  return : {A : Type 0} (P : A → Type 0) (a : A) → P a → Reads P (I.return a)
  return P a p at rest l e = (l, e, p)

  ask : {A : Type 0} (P : A → Type 0) (n : ℕ) → n ≤ 7 → (b : Bool) (r : Reader A) → Reads P r → Reads P (I.ask n b r)
  ask P n m true r g = g
  ask P n m false r g = λ at rest l e. m

  byte : Reads Anything I.byte
  byte at [] l e = omega arith
  byte at (b ∷ rest) l e = (omega arith, omega arith, tt)

  word : Reads Anything I.word
  word = bind Anything Anything I.byte _ byte (λ a _. bind Anything Anything I.byte _ byte (λ b _. return Anything (a * 256 + b) tt))

  wide : (k n : ℕ) → Reads Anything (I.wide k n)
  wide zero n = return Anything n tt
  wide (suc k) n = bind Anything Anything I.byte _ byte (λ b _. wide k (n * 256 + b))

  Bytes : ℕ → (ℕ × List ℕ) → Type 0
  Bytes n p = (lo ≤ p.0) × (p.0 + n ≤ hi)

  bytes_by : (n at : ℕ) (rest : List ℕ) (b : Bool) → leb n (length rest) ≡ b → lo ≤ at → at + length rest ≡ hi
      → Good (Bytes n) ((I.ask 1 b (λ p r. got (at, take n rest) (at + n) (drop n rest))) at rest)
  unfolding Bytes
  bytes_by n at rest true q l e =
      let h : n ≤ length rest = leb→le n (length rest) (rw q tt) in
      (omega arith, simp length-drop (omega arith), (l, omega arith))
  bytes_by n at rest false q l e = omega arith

  bytes : (n : ℕ) → Reads (Bytes n) (I.bytes n)
  bytes n at rest l e = bytes_by n at rest (leb n (length rest)) refl l e

  times : {A : Type 0} (P : A → Type 0) (k : ℕ) (r : Reader A) → Reads P r → Reads (All P) (I.times k r)
  times P zero r g = return (All P) [] tt
  times P (suc k) r g =
      bind P (All P) r _ g (λ a p. bind (All P) (All P) (I.times k r) _ (times P k r g) (λ more ps. return (All P) (a ∷ more) (p, ps)))

  text : Reads (ConstantIn lo hi) I.text_constant
  unfolding Bytes
  text = bind Anything (ConstantIn lo hi) I.word _ word (λ n _.
      bind (Bytes n) (ConstantIn lo hi) (I.bytes n) _ (bytes n) (λ p h.
      ask (ConstantIn lo hi) 5 (omega arith) (is_ascii p.1) _ (return (ConstantIn lo hi) (Constant.text (record { store = in_code; at = p.0; size = n })) (refl, h.0, h.1))))

  boolean : Reads (ConstantIn lo hi) I.boolean_constant
  boolean = bind Anything (ConstantIn lo hi) I.byte _ byte (λ b _. ask (ConstantIn lo hi) 4 (omega arith) (ltb b 2) _ (return (ConstantIn lo hi) (Constant.boolean (eqb b 1)) tt))

  function : (own count : ℕ) → Reads (ConstantIn lo hi) (I.function_constant own count)
  function own count = bind Anything (ConstantIn lo hi) I.word _ word (λ t _.
      ask (ConstantIn lo hi) 6 (omega arith) (ltb own t && ltb t count) _ (return (ConstantIn lo hi) (Constant.function t) tt))

  pick : {A : Type 0} (P : A → Type 0) (rs : List (Reader A)) (r : Reader A) (i : ℕ) → All (Reads P) rs → Reads P r → Reads P (get_or rs i r)
  pick P [] r i gs g = g
  pick P (q ∷ qs) r zero gs g = gs.0
  pick P (q ∷ qs) r (suc i) gs g = pick P qs r i gs.1 g

  constant : (own count : ℕ) → Reads (ConstantIn lo hi) (I.constant own count)
  constant own count = bind Anything (ConstantIn lo hi) I.byte _ byte (λ kind _.
      pick (ConstantIn lo hi) (I.kinds own count) (I.refuse 3) kind (
        bind Anything (ConstantIn lo hi) (I.wide 8 0) _ (wide 8 0) (λ n _. return (ConstantIn lo hi) (Constant.number n) tt),
        (text, (boolean, (return (ConstantIn lo hi) Constant.null tt, (return (ConstantIn lo hi) Constant.undefined tt, (function own count, tt))))),
      )
      (λ at rest l e. omega arith))

  template : (own count : ℕ) → Reads (TemplateIn lo hi) (I.template own count)
  template own count =
      bind Anything (TemplateIn lo hi) I.word _ word (λ a _.
      bind Anything (TemplateIn lo hi) I.word _ word (λ b _.
      bind Anything (TemplateIn lo hi) I.word _ word (λ n _.
      bind (All (ConstantIn lo hi)) (TemplateIn lo hi) (I.times n (I.constant own count)) _ (times (ConstantIn lo hi) n _ (constant own count)) (λ cs g.
      bind Anything (TemplateIn lo hi) I.word _ word (λ size _.
      bind (Bytes size) (TemplateIn lo hi) (I.bytes size) _ (bytes size) (λ p h.
      return (TemplateIn lo hi) (record { parameters = a; locals = b; constants = cs; at = p.0; size = size }) g))))))

  templates : (count own k : ℕ) → Reads (All (TemplateIn lo hi)) (I.templates count own k)
  templates count own zero = return (All (TemplateIn lo hi)) [] tt
  templates count own (suc k) =
      bind (TemplateIn lo hi) (All (TemplateIn lo hi)) (I.template own count) _ (template own count) (λ t p.
      bind (All (TemplateIn lo hi)) (All (TemplateIn lo hi)) (I.templates count (own + 1) k) _ (templates count (own + 1) k) (λ ts ps.
      return (All (TemplateIn lo hi)) (t ∷ ts) (p, ps)))

  at_end : {A : Type 0} (P : A → Type 0) (a : A) → P a → Reads P (I.at_end a)
  at_end P a p at [] l e = (l, e, p)
  at_end P a p at (b ∷ rest) l e = omega arith

  pub image : Reads (All (TemplateIn lo hi)) I.image
  image =
      bind Anything (All (TemplateIn lo hi)) I.word _ word (λ count _.
      bind (All (TemplateIn lo hi)) (All (TemplateIn lo hi)) (I.ask 2 (leb 1 count && leb count 256) (I.templates count 0 count)) (λ ts. I.at_end ts)
      (ask (All (TemplateIn lo hi)) 2 (omega arith) (leb 1 count && leb count 256) (I.templates count 0 count) (templates count 0 count))
      (λ ts ps. at_end (All (TemplateIn lo hi)) ts ps))
