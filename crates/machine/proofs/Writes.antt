-- Change 2: what an accepted call of the image writer writes. Assumes nothing.
use mathlib.Core.Path.{◌≡◌, refl, sym, ap, ap₂, ◌∙◌, subst}
use mathlib.Core.Bool.{Bool, true, false, ◌&&◌, false≢true}
use mathlib.Core.Option.{none}
use mathlib.Core.List.{List, [], ◌∷◌, ◌++◌, append_assoc, append-nil}
use Prim.Native.Nat.{ℕ, suc, ◌+◌, ◌-◌, ◌^◌, ◌≤◌, ◌<◌}
use native.Mathlib.Omega.{arith}
use lib.ListN.{length, take, drop, length-append, length-drop, take-append-drop}
use lib.Seq.{take-append_seam, drop-append_seam, drop-append-add, drop_at, length-take-le}
use borrow.Author.Tests.{leb-true}
use Rattle.machine.specs.Act.{flat_map}
use Rattle.machine.specs.Format.{Constant, Template, word, constant_bytes, template_bytes, encode}
use Rattle.machine.specs.Writer as W
use Rattle.machine.specs.Writer.{Call, begin, template, constant, code, finish, Stage, unbegun, begun, opened, coded, finished, Writer, Session, overwrite, write, performed}
use Rattle.machine.specs.Writer.{at_last, bare, with_constant, with_code, grow}
use Rattle.machine.specs.Demand3.{All}
use Rattle.machine.proofs.Texts.{all_append}
use Rattle.machine.proofs.Format.{ProperConstant, ProperTemplate}

-- Lists

flat_snoc : {A : Type 0} (f : A → List ℕ) (xs : List A) (x : A) → flat_map f (xs ++ x ∷ []) ≡ flat_map f xs ++ f x
flat_snoc f [] x = append-nil (f x)
flat_snoc f (y ∷ ys) x = ap (λ (l : List ℕ). f y ++ l) (flat_snoc f ys x) ∙ sym (append_assoc (f y) (flat_map f ys) (f x))

length_snoc : {A : Type 0} (xs : List A) (x : A) → length (xs ++ x ∷ []) ≡ length xs + 1
length_snoc xs x = length-append xs (x ∷ [])

last_snoc : {A : Type 0} (f : A → A) (xs : List A) (x : A) → at_last f (xs ++ x ∷ []) ≡ xs ++ f x ∷ []
last_snoc f [] x = refl
last_snoc f (y ∷ []) x = refl
last_snoc f (y ∷ z ∷ zs) x = ap (λ l. y ∷ l) (last_snoc f (z ∷ zs) x)

-- bs in place of as many bytes that stand in the middle
over : (l a x b bs : List ℕ) (p : ℕ) → l ≡ a ++ (x ++ b) → p ≡ length a → length x ≡ length bs → overwrite l p bs ≡ a ++ bs ++ b
over l a x b bs p el ep ex =
    ap₂ (λ (l : List ℕ) (p : ℕ). overwrite l p bs) el ep
    ∙ ap₂ (λ (y z : List ℕ). y ++ bs ++ z) (take-append_seam a (x ++ b)) (drop-append-add a (x ++ b) (length bs) ∙ drop_at x b (length bs) ex)

-- An image, its newest template open

abbrev front : ℕ → List ℕ → List ℕ → ℕ → List ℕ → List ℕ
front n d h k cs = word n ++ d ++ h ++ word k ++ cs

layout : (ts : List Template) (t : Template)
    → encode (ts ++ t ∷ []) ≡ front (length ts + 1) (flat_map template_bytes ts) (word t.parameters ++ word t.locals) (length t.constants) (flat_map constant_bytes t.constants) ++ (word (length t.code) ++ t.code)
layout ts t =
    ap₂ (λ (n : ℕ) (l : List ℕ). word n ++ l) (length_snoc ts t) (flat_snoc template_bytes ts t) ∙ simp append_assoc

module _ (n : ℕ) (d h : List ℕ) (k : ℕ) (cs rest : List ℕ) where
  put_code : (m : ℕ) (bs : List ℕ) (p : ℕ) → p ≡ length (front n d h k cs) → length bs ≤ length rest
      → overwrite (front n d h k cs ++ word 0 ++ rest) p (word m ++ bs) ≡ front n d h k cs ++ (word m ++ bs) ++ drop (length bs) rest
  put_code m bs p ep l =
      over (front n d h k cs ++ word 0 ++ rest) (front n d h k cs) (word 0 ++ take (length bs) rest) (drop (length bs) rest) (word m ++ bs) p
      (append_assoc (front n d h k cs) (word 0) rest ∙ ap (λ (y : List ℕ). front n d h k cs ++ (word 0 ++ y)) (sym (take-append-drop (length bs) rest)))
      ep (ap (λ (x : ℕ). suc (suc x)) (length-take-le (length bs) rest l))

  put_constant : (c : List ℕ) (p q : ℕ) → p ≡ length (front n d h k cs) → q ≡ length (word n ++ d ++ h) → length c ≤ length rest
      → overwrite (overwrite (front n d h k cs ++ word 0 ++ rest) p (c ++ word 0)) q (word (k + 1)) ≡ front n d h (k + 1) (cs ++ c) ++ word 0 ++ drop (length c) rest
  put_constant c p q ep eq l =
      ap (λ (y : List ℕ). overwrite y q (word (k + 1)))
      (over (front n d h k cs ++ word 0 ++ rest) (front n d h k cs) (word 0 ++ take (length c) rest) (drop (length c) rest) (c ++ word 0) p
      (append_assoc (front n d h k cs) (word 0) rest ∙ ap (λ (y : List ℕ). front n d h k cs ++ (word 0 ++ y)) (sym (take-append-drop (length c) rest)))
      ep (ap (λ (x : ℕ). suc (suc x)) (length-take-le (length c) rest l) ∙ swap (length c) ∙ sym (length-append c (word 0))))
      ∙ over (front n d h k cs ++ (c ++ word 0) ++ drop (length c) rest) (word n ++ d ++ h) (word k) (cs ++ ((c ++ word 0) ++ drop (length c) rest)) (word (k + 1)) q
      (append_assoc (front n d h k cs) (c ++ word 0) (drop (length c) rest) ∙ append_assoc (word n ++ d ++ h ++ word k) cs ((c ++ word 0) ++ drop (length c) rest)
      ∙ append_assoc (word n ++ d ++ h) (word k) (cs ++ ((c ++ word 0) ++ drop (length c) rest)))
      eq refl
      ∙ behind (word n ++ d ++ h ++ word (k + 1)) (drop (length c) rest)
    where
      behind : (a y : List ℕ) → a ++ (cs ++ ((c ++ word 0) ++ y)) ≡ a ++ (cs ++ c) ++ word 0 ++ y
      behind a y = simp append_assoc

      swap : (x : ℕ) → suc (suc x) ≡ x + 2
      swap x = omega arith

-- Sizes

pub size_template : (t : Template) → length (template_bytes t) ≡ 6 + length (flat_map constant_bytes t.constants) + 2 + length t.code
size_template t = ap (λ (n : ℕ). suc (suc (suc (suc (suc (suc n)))))) (length-append (flat_map constant_bytes t.constants ++ word (length t.code)) t.code ∙ ap (λ (n : ℕ). n + length t.code) (length-append (flat_map constant_bytes t.constants) (word (length t.code)))) ∙ sum (length (flat_map constant_bytes t.constants)) (length t.code)
  where
    sum : (x y : ℕ) → suc (suc (suc (suc (suc (suc (x + 2 + y)))))) ≡ 6 + x + 2 + y
    sum x y = omega arith

pub size_snoc : (ts : List Template) (t : Template) → length (encode (ts ++ t ∷ [])) ≡ 2 + length (flat_map template_bytes ts) + length (template_bytes t)
size_snoc ts t = ap (λ (n : ℕ). suc (suc n)) (ap length (flat_snoc template_bytes ts t) ∙ length-append (flat_map template_bytes ts) (template_bytes t)) ∙ sum (length (flat_map template_bytes ts)) (length (template_bytes t))
  where
    sum : (x y : ℕ) → suc (suc (x + y)) ≡ 2 + x + y
    sum x y = omega arith

-- What is true between the calls

-- The newest template, while it takes constants and code: where it starts, and how many constants it has.
pub record Opened (w : Writer) (ts : List Template) : Type 0 where
  pub done : List Template
  pub last : Template
  pub is : ts ≡ done ++ last ∷ []
  pub uncoded : last.code ≡ []
  pub place : w.at ≡ 2 + length (flat_map template_bytes done)
  pub count : w.constants ≡ length last.constants

abbrev pub Newest : Stage → Writer → List Template → Type 0
Newest unbegun w ts = Unit {0}
Newest begun w ts = ts ≡ []
Newest opened w ts = Opened w ts
Newest coded w ts = Unit {0}
Newest finished w ts = Unit {0}

-- The buffer starts with the bytes of these templates, and the writer's counts are theirs.
pub record Holds (d : Session) (ts : List Template) : Type 0 where
  pub bytes : d.buffer ≡ encode ts ++ drop (length (encode ts)) d.buffer
  pub size : d.writer.size ≡ length (encode ts)
  pub templates : d.writer.templates ≡ length ts
  pub few : length ts ≤ 65535
  pub proper : All ProperTemplate ts
  pub newest : Newest d.writer.stage d.writer ts

-- What is written of a call that adds k bytes: it is the templates' bytes then, and the rest stays.
module _ (b e : List ℕ) (eb : b ≡ e ++ drop (length e) b) where
  rest_drop : (k : ℕ) → drop k (drop (length e) b) ≡ drop (length e + k) b
  rest_drop k = sym (ap (drop (length e + k)) eb ∙ drop-append-add e (drop (length e) b) k)

  room : (k : ℕ) → length e + k ≤ length b → k ≤ length (drop (length e) b)
  room k h = rw length-drop (omega arith)

stays : (b b' e : List ℕ) → b' ≡ e ++ drop (length e) b → b' ≡ e ++ drop (length e) b'
stays b b' e h = h ∙ ap (λ (l : List ℕ). e ++ l) (sym (ap (drop (length e)) h ∙ drop-append_seam e (drop (length e) b)))

writes_template : (ts : List Template) (p l n s : ℕ) (b : List ℕ) → b ≡ encode ts ++ drop (length (encode ts)) b → s ≡ length (encode ts) → n ≡ length ts → s + 8 ≤ length b
    → overwrite (overwrite b s (word p ++ word l ++ word 0 ++ word 0)) 0 (word (n + 1)) ≡ encode (ts ++ bare p l ∷ []) ++ drop (length (encode (ts ++ bare p l ∷ []))) b
writes_template ts p l n s b eb es en h =
    let e : List ℕ = encode ts in
    let rest : List ℕ = drop (length (encode ts)) b in
    let w : List ℕ = word p ++ word l ++ word 0 ++ word 0 in
    let r : 8 ≤ length rest = room b (encode ts) eb 8 (subst (λ (x : ℕ). x + 8 ≤ length b) es h) in
    let size : length (encode ts) + 8 ≡ length (encode (ts ++ bare p l ∷ [])) = two (length (flat_map template_bytes ts)) ∙ sym (size_snoc ts (bare p l)) in
    ap (λ (y : List ℕ). overwrite y 0 (word (n + 1))) (over b e (take 8 rest) (drop 8 rest) w s (eb ∙ ap (λ (y : List ℕ). e ++ y) (sym (take-append-drop 8 rest))) es (length-take-le 8 rest r))
    ∙ over (e ++ w ++ drop 8 rest) [] (word (length ts)) (flat_map template_bytes ts ++ w ++ drop 8 rest) (word (n + 1)) 0 refl refl refl
    ∙ ap (λ (x : ℕ). word (x + 1) ++ (flat_map template_bytes ts ++ w ++ drop 8 rest)) en
    ∙ ap₂ (λ (x : ℕ) (y : List ℕ). word x ++ (y ++ drop 8 rest)) (sym (length_snoc ts (bare p l))) (sym (flat_snoc template_bytes ts (bare p l)))
    ∙ ap (λ (y : List ℕ). encode (ts ++ bare p l ∷ []) ++ y) (rest_drop b (encode ts) eb 8 ∙ ap (λ (x : ℕ). drop x b) size)
  where
    two : (x : ℕ) → suc (suc x) + 8 ≡ 2 + x + 8
    two x = omega arith

-- The newest template is open, of k constants: s bytes are written, and it starts at q.
module _ (done : List Template) (last : Template) (un : last.code ≡ []) (s q k : ℕ) (b : List ℕ)
    (eb : b ≡ encode (done ++ last ∷ []) ++ drop (length (encode (done ++ last ∷ []))) b)
    (es : s ≡ length (encode (done ++ last ∷ []))) (eq : q ≡ 2 + length (flat_map template_bytes done)) (ek : k ≡ length last.constants) where
  abbrev now : List ℕ
  now = encode (done ++ last ∷ [])

  abbrev rest : List ℕ
  rest = drop (length now) b

  abbrev head : List ℕ
  head = word last.parameters ++ word last.locals

  abbrev before : List ℕ
  before = front (length done + 1) (flat_map template_bytes done) head (length last.constants) (flat_map constant_bytes last.constants)

  now_is : now ≡ before ++ word 0
  now_is = layout done last ∙ ap (λ (x : List ℕ). before ++ (word (length x) ++ x)) un

  b_is : b ≡ before ++ word 0 ++ rest
  b_is = eb ∙ ap (λ (x : List ℕ). x ++ rest) now_is

  s_is : s - 2 ≡ length before
  s_is = let l : s ≡ length before + 2 = es ∙ ap length now_is ∙ length-append before (word 0) in omega arith

  q_is : q + 4 ≡ length (word (length done + 1) ++ flat_map template_bytes done ++ head)
  q_is = let l : length (word (length done + 1) ++ flat_map template_bytes done ++ head) ≡ length (word (length done + 1) ++ flat_map template_bytes done) + 4 = length-append (word (length done + 1) ++ flat_map template_bytes done) head in more l
    where
      more : length (word (length done + 1) ++ flat_map template_bytes done ++ head) ≡ suc (suc (length (flat_map template_bytes done))) + 4 → q + 4 ≡ length (word (length done + 1) ++ flat_map template_bytes done ++ head)
      more l = omega arith

  size_constant : (c : Constant) → length now + length (constant_bytes c) ≡ length (encode (done ++ with_constant c last ∷ []))
  size_constant c =
      let l : length (flat_map constant_bytes (last.constants ++ c ∷ [])) ≡ length (flat_map constant_bytes last.constants) + length (constant_bytes c) =
      ap length (flat_snoc constant_bytes last.constants c) ∙ length-append (flat_map constant_bytes last.constants) (constant_bytes c) in
      sums (length now) (length (encode (done ++ with_constant c last ∷ []))) (length (flat_map template_bytes done)) (length (template_bytes last)) (length (template_bytes (with_constant c last))) (length (flat_map constant_bytes last.constants)) (length (flat_map constant_bytes (last.constants ++ c ∷ []))) (length (constant_bytes c)) (length last.code)
      (size_snoc done last) (size_snoc done (with_constant c last)) (size_template last) (size_template (with_constant c last)) l
    where
      sums : (a a' d t t' f f' c n : ℕ) → a ≡ 2 + d + t → a' ≡ 2 + d + t' → t ≡ 6 + f + 2 + n → t' ≡ 6 + f' + 2 + n → f' ≡ f + c → a + c ≡ a'
      sums a a' d t t' f f' c n ea ea' et et' ef = omega arith

  size_code : (bs : List ℕ) → length now + length bs ≡ length (encode (done ++ with_code bs last ∷ []))
  size_code bs =
      sums (length now) (length (encode (done ++ with_code bs last ∷ []))) (length (flat_map template_bytes done)) (length (template_bytes last)) (length (template_bytes (with_code bs last))) (length (flat_map constant_bytes last.constants)) (length bs) (length last.code)
      (size_snoc done last) (size_snoc done (with_code bs last)) (size_template last) (size_template (with_code bs last)) (ap length un)
    where
      sums : (a a' d t t' f m n : ℕ) → a ≡ 2 + d + t → a' ≡ 2 + d + t' → t ≡ 6 + f + 2 + n → t' ≡ 6 + f + 2 + m → n ≡ 0 → a + m ≡ a'
      sums a a' d t t' f m n ea ea' et et' en = omega arith

  writes_constant : (c : Constant) → s + length (constant_bytes c) ≤ length b
      → overwrite (overwrite b (s - 2) (constant_bytes c ++ word 0)) (q + 4) (word (k + 1)) ≡ encode (done ++ with_constant c last ∷ []) ++ drop (length (encode (done ++ with_constant c last ∷ []))) b
  writes_constant c h =
      let r : length (constant_bytes c) ≤ length rest = room b now eb (length (constant_bytes c)) (subst (λ (x : ℕ). x + length (constant_bytes c) ≤ length b) es h) in
      let cs = last.constants in
      let then : encode (done ++ with_constant c last ∷ []) ≡ front (length done + 1) (flat_map template_bytes done) head (length cs + 1) (flat_map constant_bytes cs ++ constant_bytes c) ++ word 0 =
      layout done (with_constant c last)
      ∙ ap₂ (λ (n : ℕ) (l : List ℕ). front (length done + 1) (flat_map template_bytes done) head n l ++ (word (length last.code) ++ last.code)) (length_snoc cs c) (flat_snoc constant_bytes cs c)
      ∙ ap (λ (x : List ℕ). front (length done + 1) (flat_map template_bytes done) head (length cs + 1) (flat_map constant_bytes cs ++ constant_bytes c) ++ (word (length x) ++ x)) un in
      ap₂ (λ (y : List ℕ) (k : ℕ). overwrite (overwrite y (s - 2) (constant_bytes c ++ word 0)) (q + 4) (word (k + 1))) b_is ek
      ∙ put_constant (length done + 1) (flat_map template_bytes done) head (length cs) (flat_map constant_bytes cs) rest (constant_bytes c) (s - 2) (q + 4) s_is q_is r
      ∙ ap₂ (λ (x y : List ℕ). x ++ y) (sym then) (rest_drop b now eb (length (constant_bytes c)) ∙ ap (λ (x : ℕ). drop x b) (size_constant c))

  writes_code : (bs : List ℕ) → s + length bs ≤ length b
      → overwrite b (s - 2) (word (length bs) ++ bs) ≡ encode (done ++ with_code bs last ∷ []) ++ drop (length (encode (done ++ with_code bs last ∷ []))) b
  writes_code bs h =
      let r : length bs ≤ length rest = room b now eb (length bs) (subst (λ (x : ℕ). x + length bs ≤ length b) es h) in
      let cs = last.constants in
      ap (λ (y : List ℕ). overwrite y (s - 2) (word (length bs) ++ bs)) b_is
      ∙ put_code (length done + 1) (flat_map template_bytes done) head (length cs) (flat_map constant_bytes cs) rest (length bs) bs (s - 2) s_is r
      ∙ ap₂ (λ (x y : List ℕ). x ++ y) (sym (layout done (with_code bs last))) (rest_drop b now eb (length bs) ∙ ap (λ (x : ℕ). drop x b) (size_code bs))

-- Calls

-- The host gives numbers of 64 bits.
abbrev Bits : Constant → Type 0
Bits (Constant.number n) = n < 2 ^ 64
Bits (Constant.text bs) = Unit {0}
Bits (Constant.boolean b) = Unit {0}
Bits Constant.null = Unit {0}
Bits Constant.undefined = Unit {0}
Bits (Constant.function t) = Unit {0}

abbrev pub Given : Call → Type 0
Given begin = Unit {0}
Given (template p l) = Unit {0}
Given (constant c) = Bits c
Given (code bs) = Unit {0}
Given finish = Unit {0}

pub both : (x y : Bool) → (x && y) ≡ true → (x ≡ true) × (y ≡ true)
both true y e = (refl, e)
both false y e = absurd (false≢true e)

proper_constant : (c : Constant) → Bits c → W.small_constant c ≡ true → ProperConstant c
proper_constant (Constant.number n) b e = b
proper_constant (Constant.text bs) b e = leb-true (length bs) 65535 e
proper_constant (Constant.boolean x) b e = tt
proper_constant Constant.null b e = tt
proper_constant Constant.undefined b e = tt
proper_constant (Constant.function t) b e = leb-true t 65535 e

all_first : {A : Type 0} (P : A → Type 0) (xs ys : List A) → All P (xs ++ ys) → All P xs
all_first P [] ys h = tt
all_first P (x ∷ xs) ys h = (h.0, all_first P xs ys h.1)

all_then : {A : Type 0} (P : A → Type 0) (xs ys : List A) → All P (xs ++ ys) → All P ys
all_then P [] ys h = h
all_then P (x ∷ xs) ys h = all_then P xs ys h.1

-- What an accepted call makes true: the buffer is the bytes of the templates then, with the rest as it was.
pub record Wrote (c : Call) (d : Session) (ts : List Template) : Type 0 where
  pub holds : Holds (performed none c d) (grow c ts)
  pub buffer : write c d.writer d.buffer ≡ encode (grow c ts) ++ drop (length (encode (grow c ts))) d.buffer

pub wrote_begin : (d : Session) (ts : List Template) → Wrote begin d ts
wrote_begin d ts = record {
  holds = record { bytes = stays d.buffer (write begin d.writer d.buffer) (encode []) refl; size = refl; templates = refl; few = omega arith; proper = tt; newest = refl };
  buffer = refl;
}

pub wrote_template : (p l : ℕ) (d : Session) (ts : List Template) → Holds d ts → W.counts_fit (template p l) d.writer ≡ true → d.writer.size + 8 ≤ length d.buffer → Wrote (template p l) d ts
wrote_template p l d ts h f r =
    let w = d.writer in
    let f1 = both (W.small (w.templates + 1) && W.small p) (W.small l) f in
    let f2 = both (W.small (w.templates + 1)) (W.small p) f1.0 in
    let few : w.templates + 1 ≤ 65535 = leb-true (w.templates + 1) 65535 f2.0 in
    let n : length (ts ++ bare p l ∷ []) ≡ length ts + 1 = length_snoc ts (bare p l) in
    let z = size_snoc ts (bare p l) in
    let law = writes_template ts p l w.templates w.size d.buffer h.bytes h.size h.templates r in
    record {
      holds = record {
        bytes = stays d.buffer (write (template p l) w d.buffer) (encode (ts ++ bare p l ∷ [])) law;
        size = sized w.size (length (flat_map template_bytes ts)) (length (encode (ts ++ bare p l ∷ []))) h.size z;
        templates = ap (λ (x : ℕ). x + 1) h.templates ∙ sym n;
        few = subst (λ (x : ℕ). x ≤ 65535) (ap (λ (x : ℕ). x + 1) h.templates ∙ sym n) few;
        proper = all_append ProperTemplate ts (bare p l ∷ []) h.proper
            (record { parameters = leb-true p 65535 f2.1; locals = leb-true l 65535 f1.1; count = omega arith; constants = tt; code = omega arith }, tt);
        newest = record { done = ts; last = bare p l; is = refl; uncoded = refl; place = placing w.size (length (flat_map template_bytes ts)) h.size; count = refl };
      };
      buffer = law;
    }
  where
    sized : (s f x : ℕ) → s ≡ suc (suc f) → x ≡ 2 + f + 8 → s + 8 ≡ x
    sized s f x es ex = omega arith

    placing : (s f : ℕ) → s ≡ suc (suc f) → s ≡ 2 + f
    placing s f e = omega arith

module _ (d : Session) (done : List Template) (last : Template) (h : Holds d (done ++ last ∷ [])) (un : last.code ≡ [])
    (place : d.writer.at ≡ 2 + length (flat_map template_bytes done)) (count : d.writer.constants ≡ length last.constants) where
  abbrev w : Writer
  w = d.writer

  many : (t : Template) → w.templates ≡ length (done ++ t ∷ [])
  many t = h.templates ∙ length_snoc done last ∙ sym (length_snoc done t)

  few_still : (t : Template) → length (done ++ t ∷ []) ≤ 65535
  few_still t = subst (λ (x : ℕ). x ≤ 65535) (length_snoc done last ∙ sym (length_snoc done t)) h.few

  last_proper : ProperTemplate last
  last_proper = (all_then ProperTemplate done (last ∷ []) h.proper).0

  all_proper : (t : Template) → ProperTemplate t → All ProperTemplate (done ++ t ∷ [])
  all_proper t p = all_append ProperTemplate done (t ∷ []) (all_first ProperTemplate done (last ∷ []) h.proper) (p, tt)

  law_constant : (c : Constant) → w.size + length (constant_bytes c) ≤ length d.buffer
      → write (constant c) w d.buffer ≡ encode (done ++ with_constant c last ∷ []) ++ drop (length (encode (done ++ with_constant c last ∷ []))) d.buffer
  law_constant = writes_constant done last un w.size w.at w.constants d.buffer h.bytes h.size place count

  holds_constant : (c : Constant) → Bits c → W.counts_fit (constant c) w ≡ true → w.size + length (constant_bytes c) ≤ length d.buffer → Holds (performed none (constant c) d) (done ++ with_constant c last ∷ [])
  holds_constant c g f r =
      let fs = both (W.small (w.constants + 1)) (W.small_constant c) f in
      let n = length_snoc last.constants c in
      let few : w.constants + 1 ≤ 65535 = leb-true (w.constants + 1) 65535 fs.0 in
      record {
        bytes = stays d.buffer (write (constant c) w d.buffer) (encode (done ++ with_constant c last ∷ [])) (law_constant c r);
        size = ap (λ (x : ℕ). x + length (constant_bytes c)) h.size ∙ size_constant done last un w.size w.at w.constants d.buffer h.bytes h.size place count c;
        templates = many (with_constant c last);
        few = few_still (with_constant c last);
        proper = all_proper (with_constant c last) (record {
          parameters = last_proper.parameters;
          locals = last_proper.locals;
          count = subst (λ (x : ℕ). x ≤ 65535) (ap (λ (x : ℕ). x + 1) count ∙ sym n) few;
          constants = all_append ProperConstant last.constants (c ∷ []) last_proper.constants (proper_constant c g fs.1, tt);
          code = last_proper.code;
        });
        newest = record { done = done; last = with_constant c last; is = refl; uncoded = un; place = place; count = ap (λ (x : ℕ). x + 1) count ∙ sym n };
      }

  law_code : (bs : List ℕ) → w.size + length bs ≤ length d.buffer
      → write (code bs) w d.buffer ≡ encode (done ++ with_code bs last ∷ []) ++ drop (length (encode (done ++ with_code bs last ∷ []))) d.buffer
  law_code = writes_code done last un w.size w.at w.constants d.buffer h.bytes h.size place count

  holds_code : (bs : List ℕ) → W.counts_fit (code bs) w ≡ true → w.size + length bs ≤ length d.buffer → Holds (performed none (code bs) d) (done ++ with_code bs last ∷ [])
  holds_code bs f r = record {
    bytes = stays d.buffer (write (code bs) w d.buffer) (encode (done ++ with_code bs last ∷ [])) (law_code bs r);
    size = ap (λ (x : ℕ). x + length bs) h.size ∙ size_code done last un w.size w.at w.constants d.buffer h.bytes h.size place count bs;
    templates = many (with_code bs last);
    few = few_still (with_code bs last);
    proper = all_proper (with_code bs last) (record {
      parameters = last_proper.parameters;
      locals = last_proper.locals;
      count = last_proper.count;
      constants = last_proper.constants;
      code = leb-true (length bs) 65535 f;
    });
    newest = tt;
  }

pub open_newest : (g : Stage) (w : Writer) (ts : List Template) → W.is_open g ≡ true → Newest g w ts → Opened w ts
open_newest unbegun w ts e n = absurd (false≢true e)
open_newest begun w ts e n = absurd (false≢true e)
open_newest opened w ts e n = n
open_newest coded w ts e n = absurd (false≢true e)
open_newest finished w ts e n = absurd (false≢true e)

pub wrote_constant : (c : Constant) (d : Session) (ts : List Template) → Bits c → Holds d ts → Opened d.writer ts → W.counts_fit (constant c) d.writer ≡ true
    → d.writer.size + length (constant_bytes c) ≤ length d.buffer → Wrote (constant c) d ts
wrote_constant c d ts g h o f r =
    let h' : Holds d (o.done ++ o.last ∷ []) = subst (λ us. Holds d us) o.is h in
    let e : o.done ++ with_constant c o.last ∷ [] ≡ grow (constant c) ts = sym (ap (at_last (with_constant c)) o.is ∙ last_snoc (with_constant c) o.done o.last) in
    record {
      holds = subst (λ us. Holds (performed none (constant c) d) us) e (holds_constant d o.done o.last h' o.uncoded o.place o.count c g f r);
      buffer = subst (λ us. write (constant c) d.writer d.buffer ≡ encode us ++ drop (length (encode us)) d.buffer) e (law_constant d o.done o.last h' o.uncoded o.place o.count c r);
    }

pub wrote_code : (bs : List ℕ) (d : Session) (ts : List Template) → Holds d ts → Opened d.writer ts → W.counts_fit (code bs) d.writer ≡ true
    → d.writer.size + length bs ≤ length d.buffer → Wrote (code bs) d ts
wrote_code bs d ts h o f r =
    let h' : Holds d (o.done ++ o.last ∷ []) = subst (λ us. Holds d us) o.is h in
    let e : o.done ++ with_code bs o.last ∷ [] ≡ grow (code bs) ts = sym (ap (at_last (with_code bs)) o.is ∙ last_snoc (with_code bs) o.done o.last) in
    record {
      holds = subst (λ us. Holds (performed none (code bs) d) us) e (holds_code d o.done o.last h' o.uncoded o.place o.count bs f r);
      buffer = subst (λ us. write (code bs) d.writer d.buffer ≡ encode us ++ drop (length (encode us)) d.buffer) e (law_code d o.done o.last h' o.uncoded o.place o.count bs r);
    }

pub wrote_finish : (d : Session) (ts : List Template) → Holds d ts → Wrote finish d ts
wrote_finish d ts h = record {
  holds = record { bytes = h.bytes; size = h.size; templates = h.templates; few = h.few; proper = h.proper; newest = tt };
  buffer = h.bytes;
}
