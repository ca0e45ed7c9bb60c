-- Change 2: what the machine's reader makes of the bytes of templates. It never answers 1 or 7: it refuses by 2, 5 or 6 where `judge` says so, and else it
-- reads these templates. Assumes nothing.
use mathlib.Core.Path.{◌≡◌, refl, sym, ap, ap₂, ◌∙◌}
use mathlib.Core.Bool.{Bool, true, false, ◌&&◌}
use mathlib.Core.Option.{Option, none, some}
use mathlib.Core.List.{List, [], ◌∷◌, ◌++◌, map, append_assoc, append-nil}
use Prim.Native.Nat.{ℕ, zero, suc, ◌+◌, ◌*◌, ◌/◌, ◌%◌, ◌^◌, ◌≤◌, ◌<◌}
use native.Mathlib.Omega.{arith}
use lib.Dec.{leb, ltb, eqb}
use lib.ListN.{length, take, drop, get_or, length-append}
use lib.Seq.{take-append_seam, drop-append_seam, drop-append-add, drop_at}
use borrow.Author.Tests.{le-leb}
use Rattle.machine.specs.Basic.{is_ascii}
use Rattle.std.specs.Prelude.{if◌then◌else◌}
use Rattle.machine.specs.Value.{in_code}
use Rattle.machine.specs.Image as I
use Rattle.machine.specs.Image.{Read, Reader, refused, got, ◌>>=◌}
use Rattle.machine.specs.State.{Bytes, bytes_of}
use Rattle.machine.specs.Act.{flat_map}
use Rattle.machine.specs.Host.{ask}
use Rattle.machine.specs.Format.{Constant, Template, word, wide_onto, constant_bytes, template_bytes, encode, or_next, judge_constant, judge_constants, judge_templates, judge}
use Rattle.machine.specs.Format.{placed_constant, placed_constants, placed_template, placed_templates, placed, read_of, constant_in, template_in}
use Rattle.machine.specs.Demand3.{All}
use Rattle.machine.proofs.Texts.{all_append}

-- What the writer lets through: every count has two bytes, and a number is one of 64 bits.

abbrev pub ProperConstant : Constant → Type 0
ProperConstant (Constant.number n) = n < 2 ^ 64
ProperConstant (Constant.text bs) = length bs ≤ 65535
ProperConstant (Constant.boolean b) = Unit {0}
ProperConstant Constant.null = Unit {0}
ProperConstant Constant.undefined = Unit {0}
ProperConstant (Constant.function t) = t ≤ 65535

pub record ProperTemplate (t : Template) : Type 0 where
  pub parameters : t.parameters ≤ 65535
  pub locals : t.locals ≤ 65535
  pub count : length t.constants ≤ 65535
  pub constants : All ProperConstant t.constants
  pub code : length t.code ≤ 65535

-- Numbers

word_reads : (n at : ℕ) (rest : List ℕ) → I.word at (word n ++ rest) ≡ got n (at + 1 + 1) rest
word_reads n at rest = let e : n / 256 * 256 + n % 256 ≡ n = omega arith in ap (λ (x : ℕ). got x (at + 1 + 1) rest) e

wide_last : (k m at : ℕ) (xs : List ℕ) → I.wide (suc k) m at xs ≡ I.after (I.wide k m at xs) (λ v. I.byte >>= λ b. I.return (v * 256 + b))
wide_last zero m at [] = refl
wide_last zero m at (b ∷ rest) = refl
wide_last (suc k) m at [] = refl
wide_last (suc k) m at (b ∷ rest) = wide_last k (m * 256 + b) (at + 1) rest

abbrev Octets : ℕ → ℕ → Type 0
Octets zero n = n ≡ 0
Octets (suc k) n = Octets k (n / 256)

wide_reads : (k n at : ℕ) (rest : List ℕ) → Octets k n → I.wide k 0 at (wide_onto k n rest) ≡ got n (at + k) rest
wide_reads zero n at rest h = let e : at ≡ at + 0 = omega arith in ap₂ (λ (x p : ℕ). got x p rest) (sym h) e
wide_reads (suc k) n at rest h =
    let e : n / 256 * 256 + n % 256 ≡ n = omega arith in
    let p : at + k + 1 ≡ at + suc k = omega arith in
    wide_last k 0 at (wide_onto k (n / 256) ((n % 256) ∷ rest))
    ∙ ap (λ r. I.after r (λ v. I.byte >>= λ b. I.return (v * 256 + b))) (wide_reads k (n / 256) at ((n % 256) ∷ rest) h)
    ∙ ap₂ (λ (x q : ℕ). got x q rest) e p

octets : (n : ℕ) → n < 2 ^ 64 → Octets 8 n
octets n h = omega arith

-- Bytes

bytes_read : (bs rest : List ℕ) (at : ℕ) → I.bytes (length bs) at (bs ++ rest) ≡ got (at, bs) (at + length bs) rest
bytes_read bs rest at =
    let h : length bs ≤ length (bs ++ rest) = rw length-append (omega arith) in
    ap (λ t. (I.ask 1 t (λ p r. got (at, take (length bs) (bs ++ rest)) (at + length bs) (drop (length bs) (bs ++ rest)))) at (bs ++ rest)) (le-leb (length bs) (length (bs ++ rest)) h)
    ∙ ap₂ (λ (x y : List ℕ). got (at, x) (at + length bs) y) (take-append_seam bs rest) (drop-append_seam bs rest)

-- Constants

asked : {A : Type 0} (n : ℕ) (b : Bool) (a : A) (at : ℕ) (rest : List ℕ) → I.ask n b (I.return a) at rest ≡ read_of (ask n b none) a at rest
asked n true a at rest = refl
asked n false a at rest = refl

joined : (n : ℕ) → n / 256 * 256 + n % 256 ≡ n
joined n = omega arith

text_reads : (bs rest : List ℕ) (at : ℕ)
    → I.text_constant at (word (length bs) ++ (bs ++ rest)) ≡ read_of (ask 5 (is_ascii bs) none) (I.text (record { store = in_code; at = at + 1 + 1; size = length bs })) (at + 1 + 1 + length bs) rest
text_reads bs rest at =
    let said : ℕ → (ℕ × List ℕ) → Reader I.Constant = λ x q. I.ask 5 (is_ascii q.1) (I.return (I.text (record { store = in_code; at = q.0; size = x }))) in
    let f : ℕ → Read I.Constant = λ x. (I.bytes x >>= said x) (at + 1 + 1) (bs ++ rest) in
    ap f (joined (length bs))
    ∙ ap (λ (r : Read (ℕ × List ℕ)). I.after r (said (length bs))) (bytes_read bs rest (at + 1 + 1))
    ∙ asked 5 (is_ascii bs) (I.text (record { store = in_code; at = at + 1 + 1; size = length bs })) (at + 1 + 1 + length bs) rest

function_reads : (own count t at : ℕ) (rest : List ℕ)
    → I.function_constant own count at (word t ++ rest) ≡ read_of (ask 6 (ltb own t && ltb t count) none) (I.function t) (at + 1 + 1) rest
function_reads own count t at rest =
    let f : ℕ → Read I.Constant = λ x. I.ask 6 (ltb own x && ltb x count) (I.return (I.function x)) (at + 1 + 1) rest in
    ap f (joined t) ∙ asked 6 (ltb own t && ltb t count) (I.function t) (at + 1 + 1) rest

constant_reads : (own count at : ℕ) (rest : List ℕ) (c : Constant) → ProperConstant c
    → I.constant own count at (constant_bytes c ++ rest) ≡ read_of (judge_constant own count c) (placed_constant at c) (at + length (constant_bytes c)) rest
constant_reads own count at rest (Constant.number n) h =
    let e : at + 1 + 8 ≡ at + 9 = omega arith in
    ap (λ r. I.after r (λ n. I.return (I.number n))) (wide_reads 8 n (at + 1) rest (octets n h)) ∙ ap (λ (p : ℕ). got (I.number n) p rest) e
constant_reads own count at rest (Constant.text bs) h =
    let e : at + 1 + 1 + 1 ≡ at + 3 = omega arith in
    let g : at + 1 + 1 + 1 + length bs ≡ at + suc (suc (suc (length bs))) = omega arith in
    text_reads bs rest (at + 1)
    ∙ ap₂ (λ (p q : ℕ). read_of (ask 5 (is_ascii bs) none) (I.text (record { store = in_code; at = p; size = length bs })) q rest) e g
constant_reads own count at rest (Constant.boolean true) h = let e : at + 1 + 1 ≡ at + 2 = omega arith in ap (λ (p : ℕ). got (I.boolean true) p rest) e
constant_reads own count at rest (Constant.boolean false) h = let e : at + 1 + 1 ≡ at + 2 = omega arith in ap (λ (p : ℕ). got (I.boolean false) p rest) e
constant_reads own count at rest Constant.null h = refl
constant_reads own count at rest Constant.undefined h = refl
constant_reads own count at rest (Constant.function t) h =
    let e : at + 1 + 1 + 1 ≡ at + 3 = omega arith in
    function_reads own count t (at + 1) rest ∙ ap (λ (p : ℕ). read_of (ask 6 (ltb own t && ltb t count) none) (I.function t) p rest) e

-- One reader after the other

bound : {A B : Type 0} (q u : Option ℕ) (r : Read A) (f : A → Reader B) (a : A) (at : ℕ) (rest : List ℕ) (b : B) (end : ℕ) (more : List ℕ)
    → r ≡ read_of q a at rest → f a at rest ≡ read_of u b end more → I.after r f ≡ read_of (or_next q u) b end more
bound none u r f a at rest b end more e g = ap (λ r. I.after r f) e ∙ g
bound (some n) u r f a at rest b end more e g = ap (λ r. I.after r f) e

mapped : {A B : Type 0} (q : Option ℕ) (r : Read A) (f : A → B) (a : A) (at : ℕ) (rest : List ℕ) → r ≡ read_of q a at rest → I.after r (λ x. I.return (f x)) ≡ read_of q (f a) at rest
mapped none r f a at rest e = ap (λ r. I.after r (λ x. I.return (f x))) e
mapped (some n) r f a at rest e = ap (λ r. I.after r (λ x. I.return (f x))) e

constants_read : (own count at : ℕ) (rest : List ℕ) (cs : List Constant) → All ProperConstant cs
    → I.times (length cs) (I.constant own count) at (flat_map constant_bytes cs ++ rest)
    ≡ read_of (judge_constants own count cs) (placed_constants at cs) (at + length (flat_map constant_bytes cs)) rest
constants_read own count at rest [] h = let e : at ≡ at + 0 = omega arith in ap (λ (p : ℕ). got [] p rest) e
constants_read own count at rest (c ∷ cs) h =
    let l = length-append (constant_bytes c) (flat_map constant_bytes cs) in
    let e : at + length (constant_bytes c) + length (flat_map constant_bytes cs) ≡ at + length (constant_bytes c ++ flat_map constant_bytes cs) = omega arith in
    ap (λ (xs : List ℕ). I.times (suc (length cs)) (I.constant own count) at xs) (append_assoc (constant_bytes c) (flat_map constant_bytes cs) rest)
    ∙ bound (judge_constant own count c) (judge_constants own count cs) (I.constant own count at (constant_bytes c ++ (flat_map constant_bytes cs ++ rest)))
    (λ a. I.times (length cs) (I.constant own count) >>= λ more. I.return (a ∷ more))
    (placed_constant at c) (at + length (constant_bytes c)) (flat_map constant_bytes cs ++ rest)
    (placed_constants at (c ∷ cs)) (at + length (constant_bytes c) + length (flat_map constant_bytes cs)) rest
    (constant_reads own count at (flat_map constant_bytes cs ++ rest) c h.0)
    (mapped (judge_constants own count cs) (I.times (length cs) (I.constant own count) (at + length (constant_bytes c)) (flat_map constant_bytes cs ++ rest)) (λ more. placed_constant at c ∷ more)
    (placed_constants (at + length (constant_bytes c)) cs) (at + length (constant_bytes c) + length (flat_map constant_bytes cs)) rest
    (constants_read own count (at + length (constant_bytes c)) rest cs h.1))
    ∙ ap (λ (p : ℕ). read_of (judge_constants own count (c ∷ cs)) (placed_constants at (c ∷ cs)) p rest) e

-- A template

-- what stands behind the constants, and behind the three counts
abbrev tail : ℕ → ℕ → List I.Constant → Reader I.Template
tail a b cs = do
  size ← I.word
  (at, bs) ← I.bytes size
  I.return (record { parameters = a; locals = b; constants = cs; at = at; size = size })

abbrev body : ℕ → ℕ → ℕ → ℕ → ℕ → Reader I.Template
body own count a b n = do
  cs ← I.times n (I.constant own count)
  tail a b cs

abbrev made : ℕ → ℕ → List I.Constant → ℕ → ℕ → I.Template
made a b cs at size = record { parameters = a; locals = b; constants = cs; at = at; size = size }

tail_reads : (a b : ℕ) (cs : List I.Constant) (code rest : List ℕ) (at : ℕ)
    → tail a b cs at (word (length code) ++ (code ++ rest)) ≡ got (made a b cs (at + 2) (length code)) (at + 2 + length code) rest
tail_reads a b cs code rest at =
    let e : at + 1 + 1 ≡ at + 2 = omega arith in
    let said : ℕ → (ℕ × List ℕ) → Reader I.Template = λ x q. I.return (made a b cs q.0 x) in
    let f : ℕ → Read I.Template = λ x. (I.bytes x >>= said x) (at + 1 + 1) (code ++ rest) in
    ap f (joined (length code))
    ∙ ap (λ (r : Read (ℕ × List ℕ)). I.after r (said (length code))) (bytes_read code rest (at + 1 + 1))
    ∙ ap (λ (p : ℕ). got (made a b cs p (length code)) (p + length code) rest) e

or_next_none : (q : Option ℕ) → or_next q none ≡ q
or_next_none none = refl
or_next_none (some n) = refl

template_reads : (own count at : ℕ) (rest : List ℕ) (t : Template) → ProperTemplate t
    → I.template own count at (template_bytes t ++ rest) ≡ read_of (judge_constants own count t.constants) (placed_template at t) (at + length (template_bytes t)) rest
template_reads own count at rest t h =
    let cs = t.constants in
    let bs : List ℕ = flat_map constant_bytes t.constants in
    let p : ℕ = at + 1 + 1 + 1 + 1 + 1 + 1 in
    let ep : p ≡ at + 6 = omega arith in
    let f : ℕ → ℕ → ℕ → Read I.Template = λ a b n. body own count a b n p (bs ++ word (length t.code) ++ t.code ++ rest) in
    let l : length (bs ++ word (length t.code) ++ t.code) ≡ length bs + 2 + length t.code = simp length-append in
    let ee : at + 6 + length bs + 2 + length t.code ≡ at + suc (suc (suc (suc (suc (suc (length (bs ++ word (length t.code) ++ t.code))))))) = omega arith in
    ap (λ (a : ℕ). f a (t.locals / 256 * 256 + t.locals % 256) (length cs / 256 * 256 + length cs % 256)) (joined t.parameters)
    ∙ ap₂ (f t.parameters) (joined t.locals) (joined (length cs))
    ∙ ap₂ (λ (p : ℕ) (xs : List ℕ). body own count t.parameters t.locals (length cs) p xs) ep (append_assoc (bs ++ word (length t.code)) t.code rest ∙ append_assoc bs (word (length t.code)) (t.code ++ rest))
    ∙ bound (judge_constants own count cs) none (I.times (length cs) (I.constant own count) (at + 6) (bs ++ (word (length t.code) ++ (t.code ++ rest)))) (tail t.parameters t.locals)
    (placed_constants (at + 6) cs) (at + 6 + length bs) (word (length t.code) ++ (t.code ++ rest))
    (placed_template at t) (at + 6 + length bs + 2 + length t.code) rest
    (constants_read own count (at + 6) (word (length t.code) ++ (t.code ++ rest)) cs h.constants)
    (tail_reads t.parameters t.locals (placed_constants (at + 6) cs) t.code rest (at + 6 + length bs))
    ∙ ap₂ (λ (q : Option ℕ) (e : ℕ). read_of q (placed_template at t) e rest) (or_next_none (judge_constants own count cs)) ee

templates_read_lem : (count own at : ℕ) (rest : List ℕ) (ts : List Template) → All ProperTemplate ts
    → I.templates count own (length ts) at (flat_map template_bytes ts ++ rest)
    ≡ read_of (judge_templates count own ts) (placed_templates at ts) (at + length (flat_map template_bytes ts)) rest
templates_read_lem count own at rest [] h = let e : at ≡ at + 0 = omega arith in ap (λ (p : ℕ). got [] p rest) e
templates_read_lem count own at rest (t ∷ ts) h =
    let l = length-append (template_bytes t) (flat_map template_bytes ts) in
    let e : at + length (template_bytes t) + length (flat_map template_bytes ts) ≡ at + length (template_bytes t ++ flat_map template_bytes ts) = omega arith in
    ap (λ (xs : List ℕ). I.templates count own (suc (length ts)) at xs) (append_assoc (template_bytes t) (flat_map template_bytes ts) rest)
    ∙ bound (judge_constants own count t.constants) (judge_templates count (own + 1) ts) (I.template own count at (template_bytes t ++ (flat_map template_bytes ts ++ rest)))
    (λ a. I.templates count (own + 1) (length ts) >>= λ more. I.return (a ∷ more))
    (placed_template at t) (at + length (template_bytes t)) (flat_map template_bytes ts ++ rest)
    (placed_templates at (t ∷ ts)) (at + length (template_bytes t) + length (flat_map template_bytes ts)) rest
    (template_reads own count at (flat_map template_bytes ts ++ rest) t h.0)
    (mapped (judge_templates count (own + 1) ts) (I.templates count (own + 1) (length ts) (at + length (template_bytes t)) (flat_map template_bytes ts ++ rest)) (λ more. placed_template at t ∷ more)
    (placed_templates (at + length (template_bytes t)) ts) (at + length (template_bytes t) + length (flat_map template_bytes ts)) rest
    (templates_read_lem count (own + 1) (at + length (template_bytes t)) rest ts h.1))
    ∙ ap (λ (p : ℕ). read_of (judge_templates count own (t ∷ ts)) (placed_templates at (t ∷ ts)) p rest) e

-- The image

counted : (b : Bool) (q : Option ℕ) (ts : List I.Template) (r : Reader (List I.Template)) (at end : ℕ) (xs : List ℕ)
    → r at xs ≡ read_of q ts end [] → I.after (I.ask 2 b r at xs) (λ found. I.at_end found) ≡ read_of (ask 2 b q) ts end []
counted true none ts r at end xs e = ap (λ r. I.after r (λ found. I.at_end found)) e
counted true (some n) ts r at end xs e = ap (λ r. I.after r (λ found. I.at_end found)) e
counted false q ts r at end xs e = refl

-- THE READER on what the writer writes.
pub image_reads : (at : ℕ) (ts : List Template) → All ProperTemplate ts → I.image at (encode ts) ≡ read_of (judge ts) (placed at ts) (at + length (encode ts)) []
image_reads at ts h =
    let e : at + 1 + 1 ≡ at + 2 = omega arith in
    let g : at + 2 + length (flat_map template_bytes ts) ≡ at + suc (suc (length (flat_map template_bytes ts))) = omega arith in
    let f : ℕ → ℕ → List ℕ → Read (List I.Template) = λ n p xs. I.after (I.ask 2 (leb 1 n && leb n 256) (I.templates n 0 n) p xs) (λ found. I.at_end found) in
    ap (λ (n : ℕ). f n (at + 1 + 1) (flat_map template_bytes ts)) (joined (length ts))
    ∙ ap₂ (f (length ts)) e (sym (append-nil (flat_map template_bytes ts)))
    ∙ counted (leb 1 (length ts) && leb (length ts) 256) (judge_templates (length ts) 0 ts) (placed at ts) (I.templates (length ts) 0 (length ts)) (at + 2) (at + 2 + length (flat_map template_bytes ts)) (flat_map template_bytes ts ++ [])
    (templates_read_lem (length ts) 0 (at + 2) [] ts h)
    ∙ ap (λ (p : ℕ). read_of (judge ts) (placed at ts) p []) g

-- THE SAME TEMPLATES: what was read says what was written, wherever the bytes stand in the code store.
module _ (m : Bytes) where
  constant_in_lem : (pre post : List ℕ) (at : ℕ) (c : Constant) → m.code ≡ pre ++ (constant_bytes c ++ post) → length pre ≡ at → constant_in m (placed_constant at c) ≡ c
  constant_in_lem pre post at (Constant.number n) e l = refl
  constant_in_lem pre post at (Constant.text bs) e l =
      ap (λ (xs : List ℕ). Constant.text (take (length bs) xs))
      (ap₂ (λ (n : ℕ) (xs : List ℕ). drop (n + 3) xs) (sym l) e ∙ drop-append-add pre (constant_bytes (Constant.text bs) ++ post) 3)
      ∙ ap Constant.text (take-append_seam bs post)
  constant_in_lem pre post at (Constant.boolean b) e l = refl
  constant_in_lem pre post at Constant.null e l = refl
  constant_in_lem pre post at Constant.undefined e l = refl
  constant_in_lem pre post at (Constant.function t) e l = refl

  constants_in : (pre post : List ℕ) (at : ℕ) (cs : List Constant) → m.code ≡ pre ++ (flat_map constant_bytes cs ++ post) → length pre ≡ at → map (constant_in m) (placed_constants at cs) ≡ cs
  constants_in pre post at [] e l = refl
  constants_in pre post at (c ∷ cs) e l =
      let a : m.code ≡ pre ++ (constant_bytes c ++ (flat_map constant_bytes cs ++ post)) = e ∙ ap (λ (xs : List ℕ). pre ++ xs) (append_assoc (constant_bytes c) (flat_map constant_bytes cs) post) in
      let g : length (pre ++ constant_bytes c) ≡ at + length (constant_bytes c) = length-append pre (constant_bytes c) ∙ ap (λ (n : ℕ). n + length (constant_bytes c)) l in
      ap₂ (λ (x : Constant) (xs : List Constant). x ∷ xs) (constant_in_lem pre (flat_map constant_bytes cs ++ post) at c a l)
      (constants_in (pre ++ constant_bytes c) post (at + length (constant_bytes c)) cs (a ∙ sym (append_assoc pre (constant_bytes c) (flat_map constant_bytes cs ++ post))) g)

  template_in_lem : (pre post : List ℕ) (at : ℕ) (t : Template) → m.code ≡ pre ++ (template_bytes t ++ post) → length pre ≡ at → template_in m (placed_template at t) ≡ t
  template_in_lem pre post at t e l =
      let counts : List ℕ = word t.parameters ++ word t.locals ++ word (length t.constants) in
      let bs : List ℕ = flat_map constant_bytes t.constants in
      let n : List ℕ = word (length t.code) in
      let split : m.code ≡ pre ++ counts ++ (bs ++ (n ++ (t.code ++ post))) =
      e ∙ ap (λ (xs : List ℕ). pre ++ (counts ++ xs)) (append_assoc (bs ++ n) t.code post ∙ append_assoc bs n (t.code ++ post)) ∙ sym (append_assoc pre counts (bs ++ (n ++ (t.code ++ post)))) in
      let lc : length (pre ++ counts) ≡ at + 6 = length-append pre counts ∙ ap (λ (x : ℕ). x + 6) l in
      let behind : m.code ≡ pre ++ counts ++ bs ++ n ++ (t.code ++ post) =
      split ∙ sym (append_assoc (pre ++ counts) bs (n ++ (t.code ++ post))) ∙ sym (append_assoc (pre ++ counts ++ bs) n (t.code ++ post)) in
      let lb : length (pre ++ counts ++ bs ++ n) ≡ at + 6 + length bs + 2 =
      length-append (pre ++ counts ++ bs) n ∙ ap (λ (x : ℕ). x + 2) (length-append (pre ++ counts) bs ∙ ap (λ (x : ℕ). x + length bs) lc) in
      ap₂ (λ (cs : List Constant) (code : List ℕ). record { parameters = t.parameters; locals = t.locals; constants = cs; code = code })
      (constants_in (pre ++ counts) (n ++ (t.code ++ post)) (at + 6) t.constants split lc)
      (ap (take (length t.code)) (ap (drop (at + 6 + length bs + 2)) behind ∙ drop_at (pre ++ counts ++ bs ++ n) (t.code ++ post) (at + 6 + length bs + 2) lb) ∙ take-append_seam t.code post)

  templates_in_lem : (pre post : List ℕ) (at : ℕ) (ts : List Template) → m.code ≡ pre ++ (flat_map template_bytes ts ++ post) → length pre ≡ at → map (template_in m) (placed_templates at ts) ≡ ts
  templates_in_lem pre post at [] e l = refl
  templates_in_lem pre post at (t ∷ ts) e l =
      let a : m.code ≡ pre ++ (template_bytes t ++ (flat_map template_bytes ts ++ post)) = e ∙ ap (λ (xs : List ℕ). pre ++ xs) (append_assoc (template_bytes t) (flat_map template_bytes ts) post) in
      let g : length (pre ++ template_bytes t) ≡ at + length (template_bytes t) = length-append pre (template_bytes t) ∙ ap (λ (n : ℕ). n + length (template_bytes t)) l in
      ap₂ (λ (x : Template) (xs : List Template). x ∷ xs) (template_in_lem pre (flat_map template_bytes ts ++ post) at t a l)
      (templates_in_lem (pre ++ template_bytes t) post (at + length (template_bytes t)) ts (a ∙ sym (append_assoc pre (template_bytes t) (flat_map template_bytes ts ++ post))) g)

  pub image_in : (pre post : List ℕ) (ts : List Template) → m.code ≡ pre ++ (encode ts ++ post) → map (template_in m) (placed (length pre) ts) ≡ ts
  image_in pre post ts e =
      templates_in_lem (pre ++ word (length ts)) post (length pre + 2) ts (e ∙ sym (append_assoc pre (word (length ts)) (flat_map template_bytes ts ++ post))) (length-append pre (word (length ts)))

-- INJECTIVE: a reader that judges nothing gives the templates back.

abbrev Gives : {A : Type 0} → Reader A → List ℕ → A → Type 0
Gives r bs a = (at : ℕ) (rest : List ℕ) → r at (bs ++ rest) ≡ got a (at + length bs) rest

gives_return : {A : Type 0} (a : A) → Gives (I.return a) [] a
gives_return a at rest = let e : at ≡ at + 0 = omega arith in ap (λ (p : ℕ). got a p rest) e

gives_then : {A B : Type 0} (r : Reader A) (f : A → Reader B) (xs ys : List ℕ) (a : A) (b : B) → Gives r xs a → Gives (f a) ys b → Gives (r >>= f) (xs ++ ys) b
gives_then r f xs ys a b h g at rest =
    let l = length-append xs ys in
    let e : at + length xs + length ys ≡ at + length (xs ++ ys) = omega arith in
    ap (λ (zs : List ℕ). I.after (r at zs) f) (append_assoc xs ys rest) ∙ ap (λ q. I.after q f) (h at (ys ++ rest)) ∙ g (at + length xs) rest ∙ ap (λ (p : ℕ). got b p rest) e

gives_word : (n : ℕ) → Gives I.word (word n) n
gives_word n at rest = let e : at + 1 + 1 ≡ at + 2 = omega arith in word_reads n at rest ∙ ap (λ (p : ℕ). got n p rest) e

gives_byte : (b : ℕ) → Gives I.byte (b ∷ []) b
gives_byte b at rest = refl

lax_bytes : ℕ → Reader (List ℕ)
lax_bytes n = I.bytes n >>= λ q. I.return q.1

gives_lax : (bs : List ℕ) → Gives (lax_bytes (length bs)) bs bs
unfolding lax_bytes
gives_lax bs at rest = ap (λ (q : Read (ℕ × List ℕ)). I.after q (λ q. I.return q.1)) (bytes_read bs rest at)

abbrev lax_kinds : List (Reader Constant)
lax_kinds =
    (I.wide 8 0 >>= λ n. I.return (Constant.number n)) ∷ (I.word >>= λ n. lax_bytes n >>= λ bs. I.return (Constant.text bs)) ∷ (I.byte >>= λ b. I.return (Constant.boolean (eqb b 1)))
    ∷ I.return Constant.null ∷ I.return Constant.undefined ∷ (I.word >>= λ t. I.return (Constant.function t)) ∷ []

abbrev lax_constant : Reader Constant
lax_constant = I.byte >>= λ kind. get_or lax_kinds kind (I.refuse 3)

gives_constant : (c : Constant) → ProperConstant c → Gives lax_constant (constant_bytes c) c
gives_constant (Constant.number n) h at rest =
    let e : at + 1 + 8 ≡ at + 9 = omega arith in
    ap (λ (r : Read ℕ). I.after r (λ n. I.return (Constant.number n))) (wide_reads 8 n (at + 1) rest (octets n h)) ∙ ap (λ (p : ℕ). got (Constant.number n) p rest) e
gives_constant (Constant.text bs) h at rest =
    gives_then I.byte (λ kind. get_or lax_kinds kind (I.refuse 3)) (1 ∷ []) (word (length bs) ++ bs) 1 (Constant.text bs) (gives_byte 1)
    (gives_then I.word (λ n. lax_bytes n >>= λ bs. I.return (Constant.text bs)) (word (length bs)) bs (length bs) (Constant.text bs) (gives_word (length bs))
    (λ at rest. ap (λ (q : Read (List ℕ)). I.after q (λ bs. I.return (Constant.text bs))) (gives_lax bs at rest)))
    at rest
gives_constant (Constant.boolean true) h at rest = let e : at + 1 + 1 ≡ at + 2 = omega arith in ap (λ (p : ℕ). got (Constant.boolean true) p rest) e
gives_constant (Constant.boolean false) h at rest = let e : at + 1 + 1 ≡ at + 2 = omega arith in ap (λ (p : ℕ). got (Constant.boolean false) p rest) e
gives_constant Constant.null h at rest = refl
gives_constant Constant.undefined h at rest = refl
gives_constant (Constant.function t) h at rest =
    gives_then I.byte (λ kind. get_or lax_kinds kind (I.refuse 3)) (5 ∷ []) (word t) 5 (Constant.function t) (gives_byte 5)
    (gives_then I.word (λ t. I.return (Constant.function t)) (word t) [] t (Constant.function t) (gives_word t) (gives_return (Constant.function t)))
    at rest

gives_times : {A : Type 0} (r : Reader A) (bytes_of : A → List ℕ) (P : A → Type 0) → ((a : A) → P a → Gives r (bytes_of a) a)
    → (xs : List A) → All P xs → Gives (I.times (length xs) r) (flat_map bytes_of xs) xs
gives_times r bytes_of P g [] h = gives_return []
gives_times r bytes_of P g (a ∷ xs) h =
    gives_then r (λ a. I.times (length xs) r >>= λ more. I.return (a ∷ more)) (bytes_of a) (flat_map bytes_of xs) a (a ∷ xs) (g a h.0)
    (λ at rest. ap (λ q. I.after q (λ more. I.return (a ∷ more))) (gives_times r bytes_of P g xs h.1 at rest))

abbrev lax_template : Reader Template
lax_template = do
  parameters ← I.word
  locals ← I.word
  n ← I.word
  constants ← I.times n lax_constant
  size ← I.word
  code ← lax_bytes size
  I.return (record { parameters = parameters; locals = locals; constants = constants; code = code })

abbrev lax_tail : ℕ → ℕ → List Constant → Reader Template
lax_tail a b cs = do
  size ← I.word
  code ← lax_bytes size
  I.return (record { parameters = a; locals = b; constants = cs; code = code })

gives_template : (t : Template) → ProperTemplate t → Gives lax_template (template_bytes t) t
gives_template t h at rest =
    let bs : List ℕ = flat_map constant_bytes t.constants in
    let m : List ℕ = word (length t.code) in
    let split : bs ++ m ++ t.code ≡ bs ++ (m ++ t.code) = append_assoc bs m t.code in
    let tail : Gives (lax_tail t.parameters t.locals t.constants) (m ++ t.code) t =
    gives_then I.word (λ size. lax_bytes size >>= λ code. I.return (record { parameters = t.parameters; locals = t.locals; constants = t.constants; code = code })) m t.code (length t.code) t (gives_word (length t.code))
    (λ at rest. ap (λ (q : Read (List ℕ)). I.after q (λ code. I.return (record { parameters = t.parameters; locals = t.locals; constants = t.constants; code = code }))) (gives_lax t.code at rest)) in
    let body : Gives (I.times (length t.constants) lax_constant >>= lax_tail t.parameters t.locals) (bs ++ (m ++ t.code)) t =
    gives_then (I.times (length t.constants) lax_constant) (lax_tail t.parameters t.locals) bs (m ++ t.code) t.constants t
    (gives_times lax_constant constant_bytes ProperConstant gives_constant t.constants h.constants) tail in
    let whole : Gives lax_template (word t.parameters ++ (word t.locals ++ (word (length t.constants) ++ (bs ++ (m ++ t.code))))) t =
    gives_then I.word (λ a. I.word >>= λ b. I.word >>= λ n. I.times n lax_constant >>= lax_tail a b) (word t.parameters) (word t.locals ++ (word (length t.constants) ++ (bs ++ (m ++ t.code)))) t.parameters t (gives_word t.parameters)
    (gives_then I.word (λ b. I.word >>= λ n. I.times n lax_constant >>= lax_tail t.parameters b) (word t.locals) (word (length t.constants) ++ (bs ++ (m ++ t.code))) t.locals t (gives_word t.locals)
    (gives_then I.word (λ n. I.times n lax_constant >>= lax_tail t.parameters t.locals) (word (length t.constants)) (bs ++ (m ++ t.code)) (length t.constants) t (gives_word (length t.constants)) body)) in
    ap (λ (xs : List ℕ). lax_template at (word t.parameters ++ word t.locals ++ word (length t.constants) ++ xs ++ rest)) split
    ∙ whole at rest
    ∙ ap (λ (xs : List ℕ). got t (at + length (word t.parameters ++ word t.locals ++ word (length t.constants) ++ xs)) rest) (sym split)

abbrev decode : Reader (List Template)
decode = I.word >>= λ n. I.times n lax_template

gives_encode : (ts : List Template) → All ProperTemplate ts → Gives decode (encode ts) ts
gives_encode ts h =
    gives_then I.word (λ n. I.times n lax_template) (word (length ts)) (flat_map template_bytes ts) (length ts) ts (gives_word (length ts))
    (gives_times lax_template template_bytes ProperTemplate gives_template ts h)

read_to : {A : Type 0} → A → Read A → A
read_to d (refused n) = d
read_to d (got a at rest) = a

-- Unequal templates never give equal bytes.
pub encode_injective : (ts us : List Template) → All ProperTemplate ts → All ProperTemplate us → encode ts ≡ encode us → ts ≡ us
unfolding read_to
encode_injective ts us h g e =
    sym (ap (read_to []) (gives_encode ts h 0 [])) ∙ ap (λ (xs : List ℕ). read_to [] (decode 0 (xs ++ []))) e ∙ ap (read_to []) (gives_encode us g 0 [])

-- What is written are bytes, where what is given are.

abbrev pub Byte : ℕ → Type 0
Byte b = b < 256

abbrev pub BytesGiven : Constant → Type 0
BytesGiven (Constant.number n) = Unit {0}
BytesGiven (Constant.text bs) = All Byte bs
BytesGiven (Constant.boolean b) = Unit {0}
BytesGiven Constant.null = Unit {0}
BytesGiven Constant.undefined = Unit {0}
BytesGiven (Constant.function t) = Unit {0}

abbrev pub TemplateGiven : Template → Type 0
TemplateGiven t = All BytesGiven t.constants × All Byte t.code

word_bytes : (n : ℕ) → n ≤ 65535 → All Byte (word n)
word_bytes n h = (omega arith, (omega arith, tt))

wide_bytes : (k n : ℕ) (bs : List ℕ) → All Byte bs → All Byte (wide_onto k n bs)
wide_bytes zero n bs h = h
wide_bytes (suc k) n bs h = wide_bytes k (n / 256) ((n % 256) ∷ bs) (omega arith, h)

bit : (b : Bool) → Byte (if b then 1 else 0)
bit true = omega arith
bit false = omega arith

constant_bytes_lem : (c : Constant) → ProperConstant c → BytesGiven c → All Byte (constant_bytes c)
constant_bytes_lem (Constant.number n) h g = (omega arith, wide_bytes 8 n [] tt)
constant_bytes_lem (Constant.text bs) h g = (omega arith, all_append Byte (word (length bs)) bs (word_bytes (length bs) h) g)
constant_bytes_lem (Constant.boolean b) h g = (omega arith, (bit b, tt))
constant_bytes_lem Constant.null h g = (omega arith, tt)
constant_bytes_lem Constant.undefined h g = (omega arith, tt)
constant_bytes_lem (Constant.function t) h g = (omega arith, word_bytes t h)

flat_bytes : {A : Type 0} (f : A → List ℕ) (P Q : A → Type 0) → ((a : A) → P a → Q a → All Byte (f a)) → (xs : List A) → All P xs → All Q xs → All Byte (flat_map f xs)
flat_bytes f P Q g [] p q = tt
flat_bytes f P Q g (x ∷ xs) p q = all_append Byte (f x) (flat_map f xs) (g x p.0 q.0) (flat_bytes f P Q g xs p.1 q.1)

template_bytes_lem : (t : Template) → ProperTemplate t → TemplateGiven t → All Byte (template_bytes t)
template_bytes_lem t h g =
    let a : List ℕ = word t.parameters ++ word t.locals ++ word (length t.constants) in
    let cs : List ℕ = flat_map constant_bytes t.constants in
    all_append Byte (a ++ cs ++ word (length t.code)) t.code
    (all_append Byte (a ++ cs) (word (length t.code))
    (all_append Byte a cs
    (all_append Byte (word t.parameters ++ word t.locals) (word (length t.constants))
    (all_append Byte (word t.parameters) (word t.locals) (word_bytes t.parameters h.parameters) (word_bytes t.locals h.locals))
    (word_bytes (length t.constants) h.count))
    (flat_bytes constant_bytes ProperConstant BytesGiven constant_bytes_lem t.constants h.constants g.0))
    (word_bytes (length t.code) h.code))
    g.1

pub encode_bytes : (ts : List Template) → length ts ≤ 65535 → All ProperTemplate ts → All TemplateGiven ts → All Byte (encode ts)
encode_bytes ts n h g =
    all_append Byte (word (length ts)) (flat_map template_bytes ts) (word_bytes (length ts) n) (flat_bytes template_bytes ProperTemplate TemplateGiven template_bytes_lem ts h g)
