-- Laws of the machine's readers at a position of a list. Assumes nothing.
use Rattle.std.specs.Prelude.{◌≡◌, refl, true, List, [], ◌∷◌, ◌++◌, ℕ, zero, suc, ◌+◌, ◌*◌, ◌^◌, ◌≤◌, ◌<◌, ltb, length, drop, get_or}
use Rattle.std.proofs.Common.{append_assoc, append-nil, arith, add-one, mul_assoc, le_trans, mul-le-mul_left, mul-le-mul_right, mul-one, zero-lt-suc, drop_of_length-le, drop-cons, le-leb, lt-ltb}
use Rattle.std.proofs.Math.Nat.{pow-succ', one-le-pow}
use Rattle.std.proofs.lemmas.List.Recursion.{and_from_places}
use Rattle.std.specs.Str.{IsAscii}
use Rattle.machine.specs.Basic.{is_ascii}
use Rattle.machine.specs.Image as I
use Rattle.machine.specs.Image.{Reader, Read, got, refused, ◌>>=◌, after, Constant, Template}
use Rattle.reader.specs.Says.{Reads, Refuses, Heads, Tails}
use Rattle.reader.specs.Constants.{constant_of}
use Rattle.reader.specs.declared.Constant.TheVariants.{Str}

pub byte_got : (s : List ℕ) (at : ℕ) → at < length s → Reads s at I.byte (get_or s at 0) (at + 1)
byte_got s at h = record { read = rw (drop-cons s at 0, add-one); on = omega arith; inside = omega arith }

pub byte_refused : (s : List ℕ) (at : ℕ) → length s ≤ at → Refuses s at I.byte 1
byte_refused s at h = rw drop_of_length-le

-- A number of k bytes after n, and one byte more of it.
pub wide_step : {s : List ℕ} {at p b : ℕ} (k j n : ℕ) → k ≡ suc j → Reads s at I.byte b p
    → I.wide k n at (drop at s) ≡ I.wide j (n * 256 + b) p (drop p s)
wide_step k j n e h = rw (e, h.read)

-- It fits: with k bytes to come n is below 2 ^ 64 / 256 ^ k.
pub room_step : (k j n b : ℕ) → k ≡ suc j → b < 256 → (n + 1) * 256 ^ k ≤ 2 ^ 64 → (n * 256 + b + 1) * 256 ^ j ≤ 2 ^ 64
room_step k j n b e h r =
    let m : n * 256 + b + 1 ≤ (n + 1) * 256 = omega arith in
    le_trans (mul-le-mul_right (256 ^ j) m) (rw mul_assoc (rw (e, pow-succ') at r))

pub room_fits : (k n : ℕ) → (n + 1) * 256 ^ k ≤ 2 ^ 64 → n < 2 ^ 64
room_fits k n r =
    let h : (n + 1) * 1 ≤ (n + 1) * 256 ^ k = mul-le-mul_left (n + 1) (one-le-pow k 256 (zero-lt-suc 255)) in
    omega (arith, h, mul-one (n + 1))

-- What `is_ascii` of a slice answers.
pub ascii_all : (bs : List ℕ) → IsAscii bs → is_ascii bs ≡ true
ascii_all bs h = and_from_places is_ascii (λ b. ltb b 128) refl (λ _ _. refl) bs 0 (λ i l. lt-ltb (get_or bs i 0) 128 (h i))

pub text_got : {s bs : List ℕ} {at n p q : ℕ} → Reads s at I.word n p → Reads s p (I.bytes n) (p, bs) q → IsAscii bs → Reads s at I.text_constant (constant_of (Str p n)) q
text_got h g a = record { read = rw (h.read, g.read, ascii_all _ a); on = omega arith; inside = g.inside }

-- Items one after the other: those read so far, in front of what is to come.
abbrev pub prefixed : {A : Type 0} → List A → Read (List A) → Read (List A)
prefixed xs (refused q) = refused q
prefixed xs (got ys at rest) = got (xs ++ ys) at rest

module _ {A : Type 0} where
  pub prefixed_none : (x : Read (List A)) → x ≡ prefixed [] x
  prefixed_none (refused q) = refl
  prefixed_none (got ys at rest) = refl

  pub prefixed_cons : (xs : List A) (a : A) (x : Read (List A))
      → prefixed xs (after x (λ more. I.return (a ∷ more))) ≡ prefixed (xs ++ (a ∷ [])) x
  prefixed_cons xs a (refused q) = refl
  prefixed_cons xs a (got ys at rest) = rw append_assoc

-- The items so far are some, which are not looked at.
pub record Sofar {A : Type 0} (whole rest : Read (List A)) : Type 0 where
  pub items : List A
  pub is : whole ≡ prefixed items rest

module _ {A : Type 0} (s : List ℕ) (r : Reader A) (xs : List A) (at : ℕ) where
  pub times_step : (a : A) (p k j : ℕ) → k ≡ suc j → Reads s at r a p
      → prefixed xs (I.times k r at (drop at s)) ≡ prefixed (xs ++ (a ∷ [])) (I.times j r p (drop p s))
  times_step a p k j e h = rw (e, h.read) (prefixed_cons xs a (I.times j r p (drop p s)))

  pub times_refused : (q k : ℕ) → 0 < k → Refuses s at r q → prefixed xs (I.times k r at (drop at s)) ≡ refused q
  times_refused q zero l h = absurd (omega arith)
  times_refused q (suc k) l h = rw h

  pub times_end : (k : ℕ) (rest : List ℕ) → k ≤ 0 → prefixed xs (I.times k r at rest) ≡ got xs at rest
  times_end zero rest l = rw append-nil
  times_end (suc k) rest l = absurd (omega arith)

-- Templates own .. of count.
module _ (s : List ℕ) (count own : ℕ) (xs : List Template) (at : ℕ) where
  pub templates_step : (a : Template) (p k j : ℕ) → k ≡ suc j → Reads s at (I.template own count) a p
      → prefixed xs (I.templates count own k at (drop at s)) ≡ prefixed (xs ++ (a ∷ [])) (I.templates count (own + 1) j p (drop p s))
  templates_step a p k j e h = rw (e, h.read) (prefixed_cons xs a (I.templates count (own + 1) j p (drop p s)))

  pub templates_refused : (q k : ℕ) → 0 < k → Refuses s at (I.template own count) q → prefixed xs (I.templates count own k at (drop at s)) ≡ refused q
  templates_refused q zero l h = absurd (omega arith)
  templates_refused q (suc k) l h = rw h

  pub templates_end : (k : ℕ) (rest : List ℕ) → k ≤ 0 → prefixed xs (I.templates count own k at rest) ≡ got xs at rest
  templates_end zero rest l = rw append-nil
  templates_end (suc k) rest l = absurd (omega arith)

-- A template from its parts.
module _ (s : List ℕ) (own count at a b n p : ℕ) (h : Heads s at a b n p) where
  pub template_got : (cs : List Constant) (m size place next : ℕ) → Reads s p (I.times n (I.constant own count)) cs m → Tails s m size place next
      → Reads s at (I.template own count) (record { parameters = a; locals = b; constants = cs; at = place; size = size }) next
  template_got cs m size place next g t = record {
    read = rw (h.first.read, h.second.read, h.third.read, g.read, t.first.read, t.second.read);
    on = omega (arith, h.on, g.on, t.on);
    inside = t.second.inside;
  }

  pub template_missing : (cs : List Constant) (m q : ℕ) → Reads s p (I.times n (I.constant own count)) cs m
      → ((f : ℕ → ℕ × List ℕ → Reader Template) → Refuses s m (I.word >>= λ size. I.bytes size >>= f size) q)
      → Refuses s at (I.template own count) q
  template_missing cs m q g f =
      rw (h.first.read, h.second.read, h.third.read, g.read)
      (f (λ size x. I.return (record { parameters = a; locals = b; constants = cs; at = x.0; size = size })))

-- A whole image has bytes left over.
pub image_over : {s : List ℕ} {at count p next : ℕ} {ts : List Template} → Reads s at I.word count p → 1 ≤ count → count ≤ 256
    → Reads s p (I.templates count 0 count) ts next → next < length s → Refuses s at I.image 7
image_over {s} {at} {count} {p} {next} h k l g b = rw (h.read, le-leb 1 count k, le-leb count 256 l, g.read, drop-cons s next 0)
