-- Change 2: over every list of calls, the bytes written are those of the templates added. Assumes nothing.
use mathlib.Core.Path.{◌≡◌, refl, sym, ap, ap₂, ◌∙◌, subst}
use mathlib.Core.Bool.{Bool, true, false, ◌&&◌, false≢true}
use mathlib.Core.Option.{Option, none, some, some-ne-none, none-ne-some, some-injective}
use mathlib.Core.Logic.{◌⊎◌, inl, inr}
use mathlib.Core.List.{List, [], ◌∷◌, ◌++◌, map}
use Prim.Native.Nat.{ℕ, ◌+◌, ◌*◌, ◌^◌, ◌≤◌}
use native.Mathlib.Omega.{arith}
use lib.Dec.{leb}
use lib.ListN.{length, take, drop, replicate, length-append}
use lib.Seq.{take-append_seam, drop-append_seam}
use borrow.Author.Tests.{le-leb, leb-true}
use Rattle.machine.specs.State.{State, bytes, code_store, image_store}
use Rattle.machine.specs.Act.{Act, flat_map, need, apply}
use Rattle.machine.specs.Program.{fits}
use Rattle.machine.specs.Host as H
use Rattle.machine.specs.Host.{ask, perform_on}
use Rattle.machine.specs.Format.{Constant, Template, constant_bytes, template_bytes, encode, judge, placed, template_in}
use Rattle.machine.specs.Writer as W
use Rattle.machine.specs.Writer.{Call, begin, template, constant, code, finish, Stage, unbegun, begun, Writer, Session, write, after, perform, performed, leaves, added}
use Rattle.machine.specs.Writer.{grow, grown}
use Rattle.machine.specs.Demand3.{All}
use Rattle.machine.proofs.Format.{encode_injective}
use Rattle.machine.proofs.Loads.{load_answer, load_answer_lem, load_leaves, load_image, same_templates}
use Rattle.machine.proofs.Writes.{Holds, Opened, Given, Wrote, wrote_begin, wrote_template, wrote_constant, wrote_code, wrote_finish, open_newest, both, size_snoc, size_template}

-- Before a begin nothing is claimed of the buffer; from then on, `Holds`.
pub data Kept (d : Session) (ts : List Template) : Type 0 where
  not_yet : d.writer.stage ≡ unbegun → ts ≡ [] → Kept d ts
  holds : Holds d ts → Kept d ts

never : (g : Stage) (f : Stage → Bool) → g ≡ unbegun → f unbegun ≡ false → f g ≡ true → ⊥
never g f e u t = false≢true (sym u ∙ sym (ap f e) ∙ t)

accepted : (c : Call) (d : Session) (ts : List Template) → Given c → Kept d ts → (W.in_order c d.writer.stage && W.counts_fit c d.writer) ≡ true
    → W.room_for c d.writer (length d.buffer) ≡ true → Wrote c d ts
accepted begin d ts g k o r = wrote_begin d ts
accepted (template p l) d ts g (not_yet e t) o r = absurd (never d.writer.stage W.underway e refl (both (W.underway d.writer.stage) _ o).0)
accepted (template p l) d ts g (holds h) o r =
    wrote_template p l d ts h (both (W.underway d.writer.stage) (W.counts_fit (template p l) d.writer) o).1 (leb-true (d.writer.size + 8) (length d.buffer) r)
accepted (constant c) d ts g (not_yet e t) o r = absurd (never d.writer.stage W.is_open e refl (both (W.is_open d.writer.stage) _ o).0)
accepted (constant c) d ts g (holds h) o r =
    let q = both (W.is_open d.writer.stage) (W.counts_fit (constant c) d.writer) o in
    wrote_constant c d ts g h (open_newest d.writer.stage d.writer ts q.0 h.newest) q.1 (leb-true (d.writer.size + length (constant_bytes c)) (length d.buffer) r)
accepted (code bs) d ts g (not_yet e t) o r = absurd (never d.writer.stage W.is_open e refl (both (W.is_open d.writer.stage) _ o).0)
accepted (code bs) d ts g (holds h) o r =
    let q = both (W.is_open d.writer.stage) (W.counts_fit (code bs) d.writer) o in
    wrote_code bs d ts h (open_newest d.writer.stage d.writer ts q.0 h.newest) q.1 (leb-true (d.writer.size + length bs) (length d.buffer) r)
accepted finish d ts g (not_yet e t) o r = absurd (never d.writer.stage W.underway e refl (both (W.underway d.writer.stage) _ o).0)
accepted finish d ts g (holds h) o r = wrote_finish d ts h

allowed : (b t : Bool) → ask 34 b (ask 31 t none) ≡ none → (b ≡ true) × (t ≡ true)
allowed true true e = (refl, refl)
allowed true false e = absurd (some-ne-none 31 e)
allowed false t e = absurd (some-ne-none 34 e)

-- THE LAW OF A CALL: where it is not refused, the buffer is the bytes of the templates then, with the rest as it was; and `Holds` stands again.
pub call_writes : (c : Call) (d : Session) (ts : List Template) → Given c → Kept d ts → W.asked c d ≡ none → Wrote c d ts
call_writes c d ts g k e =
    let q = allowed (W.in_order c d.writer.stage && W.counts_fit c d.writer) (W.room_for c d.writer (length d.buffer)) e in
    accepted c d ts g k q.0 q.1

-- A refused call alters nothing: neither the writer nor a byte of the buffer.
pub refused_alters_nothing : (c : Call) (d : Session) (n : ℕ) → W.asked c d ≡ some n → perform c d ≡ d
refused_alters_nothing c d n e = ap (λ q. performed q c d) e

-- The refusals are 34 and 31.
pub refused_by : (c : Call) (d : Session) (n : ℕ) → W.asked c d ≡ some n → (n ≡ 34) ⊎ (n ≡ 31)
refused_by c d n e = by (W.in_order c d.writer.stage && W.counts_fit c d.writer) (W.room_for c d.writer (length d.buffer)) e
  where
    by : (b t : Bool) → ask 34 b (ask 31 t none) ≡ some n → (n ≡ 34) ⊎ (n ≡ 31)
    by true true e = absurd (none-ne-some n e)
    by true false e = inr (sym (some-injective 31 n e))
    by false t e = inl (sym (some-injective 34 n e))

pub kept_call_lem : (c : Call) (d : Session) (ts : List Template) → Given c → Kept d ts → Kept (perform c d) (grown (W.asked c d) c ts)
kept_call_lem c d ts g k = by (W.asked c d) refl
  where
    by : (q : Option ℕ) → W.asked c d ≡ q → Kept (performed q c d) (grown q c ts)
    by (some n) e = k
    by none e = holds (call_writes c d ts g k e).holds

holds_call : (c : Call) (d : Session) (ts : List Template) → Given c → Holds d ts → Holds (perform c d) (grown (W.asked c d) c ts)
holds_call c d ts g h = by (W.asked c d) refl
  where
    by : (q : Option ℕ) → W.asked c d ≡ q → Holds (performed q c d) (grown q c ts)
    by (some n) e = h
    by none e = (call_writes c d ts g (holds h) e).holds

pub kept_calls : (cs : List Call) (d : Session) (ts : List Template) → All Given cs → Kept d ts → Kept (leaves d cs) (added d ts cs)
kept_calls [] d ts g k = k
kept_calls (c ∷ cs) d ts g k = kept_calls cs (perform c d) (grown (W.asked c d) c ts) g.1 (kept_call_lem c d ts g.0 k)

holds_calls : (cs : List Call) (d : Session) (ts : List Template) → All Given cs → Holds d ts → Holds (leaves d cs) (added d ts cs)
holds_calls [] d ts g h = h
holds_calls (c ∷ cs) d ts g h = holds_calls cs (perform c d) (grown (W.asked c d) c ts) g.1 (holds_call c d ts g.0 h)

-- OVER EVERY LIST OF CALLS, on a writer not yet begun: the bytes written are those of the templates added.
pub calls_write : (cs : List Call) (b : List ℕ) → All Given cs → let d : Session = record { writer = W.unused; buffer = b } in Kept (leaves d cs) (added d [] cs)
calls_write cs b g = kept_calls cs (record { writer = W.unused; buffer = b }) [] g (not_yet refl refl)

-- A BEGIN STARTS ANEW, on any state and any buffer of two bytes or more.
pub begin_anew_lem : (cs : List Call) (d : Session) (ts : List Template) → All Given cs → 2 ≤ length d.buffer → Holds (leaves d (begin ∷ cs)) (added d ts (begin ∷ cs))
begin_anew_lem cs d ts g h =
    let e : W.asked begin d ≡ none = ap (λ t. ask 31 t none) (le-leb 2 (length d.buffer) h) in
    holds_calls cs (perform begin d) (grown (W.asked begin d) begin ts) g
    (subst (λ q. Holds (performed q begin d) (grown q begin ts)) (sym e) (wrote_begin d ts).holds)

-- What the writer has written.
abbrev pub image : Session → List ℕ
image d = take d.writer.size d.buffer

pub image_is : (d : Session) (ts : List Template) → Holds d ts → image d ≡ encode ts
image_is d ts h = ap₂ (λ (n : ℕ) (b : List ℕ). take n b) h.size h.bytes ∙ take-append_seam (encode ts) (drop (length (encode ts)) d.buffer)

-- EQUAL TEMPLATES GIVE EQUAL BYTES, and unequal ones never do.
pub equal_bytes : (d e : Session) (ts us : List Template) → Holds d ts → Holds e us → ts ≡ us → image d ≡ image e
equal_bytes d e ts us h g q = image_is d ts h ∙ ap encode q ∙ sym (image_is e us g)

pub equal_templates : (d e : Session) (ts us : List Template) → Holds d ts → Holds e us → image d ≡ image e → ts ≡ us
equal_templates d e ts us h g q = encode_injective ts us h.proper g.proper (sym (image_is d ts h) ∙ q ∙ image_is e us g)

-- Bytes past those written stay, and the buffer keeps its length.
pub past_stays : (c : Call) (d : Session) (ts : List Template) → Wrote c d ts
    → drop (after c d.writer).size (write c d.writer d.buffer) ≡ drop (after c d.writer).size d.buffer
past_stays c d ts w =
    let n = length (encode (grow c ts)) in
    ap (λ (k : ℕ). drop k (write c d.writer d.buffer)) w.holds.size
    ∙ ap (drop n) w.buffer ∙ drop-append_seam (encode (grow c ts)) (drop n d.buffer)
    ∙ ap (λ (k : ℕ). drop k d.buffer) (sym w.holds.size)

-- THE LOADER on what a list of calls has written: the answer is that of its templates, and it then has the same templates.
pub writer_load : (d : Session) (ts : List Template) → Holds d ts → (s : State) (sizes : Bool)
    → (perform_on sizes (H.Call.load (image d)) s).answer ≡ load_answer sizes (judge ts) (fits s (need code_store (length (image d)))) (fits s (need image_store 1)) (length s.images)
writer_load d ts h s sizes =
    subst (λ (x : List ℕ). (perform_on sizes (H.Call.load x) s).answer ≡ load_answer sizes (judge ts) (fits s (need code_store (length x))) (fits s (need image_store 1)) (length s.images))
    (sym (image_is d ts h)) (load_answer_lem s ts h.proper sizes)

pub writer_reads : (d : Session) (ts : List Template) → Holds d ts → (s : State) → judge ts ≡ none → fits s (need code_store (length (image d))) ≡ true → fits s (need image_store 1) ≡ true
    → let t = (H.perform (H.Call.load (image d)) s).after in
    (t.images ≡ s.images ++ placed (length s.code) ts ∷ []) × (map (template_in (bytes t)) (placed (length s.code) ts) ≡ ts)
writer_reads d ts h s e c i =
    let q = image_is d ts h in
    let c' : fits s (need code_store (length (encode ts))) ≡ true = ap (λ (x : List ℕ). fits s (need code_store (length x))) (sym q) ∙ c in
    let t : (H.perform (H.Call.load (image d)) s).after ≡ apply (Act.load (encode ts)) s = ap (λ (x : List ℕ). (H.perform (H.Call.load x) s).after) q ∙ load_leaves s ts h.proper e c' i in
    subst (λ (t : State). (t.images ≡ s.images ++ placed (length s.code) ts ∷ []) × (map (template_in (bytes t)) (placed (length s.code) ts) ≡ ts)) (sym t)
    (load_image s ts h.proper e, same_templates s ts h.proper)

-- What a call finds written by calls, it finds in its place: the eight bytes of the open template are among them, and all of them in the buffer.
opened_place : (w : Writer) (ts : List Template) → w.size ≡ length (encode ts) → Opened w ts → w.at + 8 ≤ w.size
opened_place w ts e o =
    let z : length (encode ts) ≡ 2 + length (flat_map template_bytes o.done) + length (template_bytes o.last) = ap (λ us. length (encode us)) o.is ∙ size_snoc o.done o.last in
    sums w.at w.size (length (encode ts)) (length (flat_map template_bytes o.done)) (length (template_bytes o.last)) (length (flat_map constant_bytes o.last.constants)) (length o.last.code)
    o.place e z (size_template o.last)
  where
    sums : (a s n d t f c : ℕ) → a ≡ 2 + d → s ≡ n → n ≡ 2 + d + t → t ≡ 6 + f + 2 + c → a + 8 ≤ s
    sums a s n d t f c ea es en et = omega arith

pub written_in : (d : Session) (ts : List Template) → Holds d ts → d.writer.size ≤ length d.buffer
written_in d ts h =
    let l : length d.buffer ≡ length (encode ts) + length (drop (length (encode ts)) d.buffer) = ap length h.bytes ∙ length-append (encode ts) (drop (length (encode ts)) d.buffer) in
    sums d.writer.size (length d.buffer) (length (encode ts)) (length (drop (length (encode ts)) d.buffer)) h.size l
  where
    sums : (s n e r : ℕ) → s ≡ e → n ≡ e + r → s ≤ n
    sums s n e r es en = omega arith

kept_place : (d : Session) (ts : List Template) → W.is_open d.writer.stage ≡ true → Kept d ts → leb (d.writer.at + 8) d.writer.size ≡ true
kept_place d ts e (not_yet u t) = absurd (never d.writer.stage W.is_open u refl e)
kept_place d ts e (holds h) =
    le-leb (d.writer.at + 8) d.writer.size (opened_place d.writer ts h.size (open_newest d.writer.stage d.writer ts e h.newest))

either : (t : Bool) (c : Call) (d : Session) → W.asked c d ≡ some 34 → W.asked_on t c d ≡ W.asked c d
either true c d e = refl
either false c d e = sym e

pub always_in_place : (c : Call) (d : Session) (ts : List Template) → Kept d ts → W.asked_on (W.in_place c d.writer) c d ≡ W.asked c d
always_in_place begin d ts k = refl
always_in_place (template p l) d ts k = refl
always_in_place (constant c) d ts k = by (W.is_open d.writer.stage) refl
  where
    by : (t : Bool) → W.is_open d.writer.stage ≡ t → W.asked_on (leb (d.writer.at + 8) d.writer.size) (constant c) d ≡ W.asked (constant c) d
    by true e = ap (λ t. W.asked_on t (constant c) d) (kept_place d ts e k)
    by false e =
        either (leb (d.writer.at + 8) d.writer.size) (constant c) d
        (ap (λ t. ask 34 (t && W.counts_fit (constant c) d.writer) (ask 31 (W.room_for (constant c) d.writer (length d.buffer)) none)) e)
always_in_place (code bs) d ts k = by (W.is_open d.writer.stage) refl
  where
    by : (t : Bool) → W.is_open d.writer.stage ≡ t → W.asked_on (leb (d.writer.at + 8) d.writer.size) (code bs) d ≡ W.asked (code bs) d
    by true e = ap (λ t. W.asked_on t (code bs) d) (kept_place d ts e k)
    by false e =
        either (leb (d.writer.at + 8) d.writer.size) (code bs) d
        (ap (λ t. ask 34 (t && W.counts_fit (code bs) d.writer) (ask 31 (W.room_for (code bs) d.writer (length d.buffer)) none)) e)
always_in_place finish d ts k = refl

-- The bench sheet's sample image, written call by call over a buffer of other bytes; a byte less of buffer, and the code is refused.
abbrev sample_calls : List Call
sample_calls = begin ∷ template 0 0 ∷ constant (Constant.number (7 * 2 ^ 32)) ∷ code (0x4b ∷ 0 ∷ 8 ∷ 0 ∷ 0 ∷ 0 ∷ 0x4a ∷ 0xff ∷ 0xff ∷ []) ∷ finish ∷ []

abbrev over170 : ℕ → Session
over170 n = record { writer = W.unused; buffer = replicate n 170 }

pub sample_written : (leaves (over170 30) sample_calls).buffer
    ≡ 0 ∷ 1 ∷ 0 ∷ 0 ∷ 0 ∷ 0 ∷ 0 ∷ 1 ∷ 0 ∷ 0 ∷ 0 ∷ 0 ∷ 7 ∷ 0 ∷ 0 ∷ 0 ∷ 0 ∷ 0 ∷ 9 ∷ 0x4b ∷ 0 ∷ 8 ∷ 0 ∷ 0 ∷ 0 ∷ 0x4a ∷ 0xff ∷ 0xff ∷ 170 ∷ 170 ∷ []
sample_written = refl

pub sample_short : W.asked (code (0x4b ∷ 0 ∷ 8 ∷ 0 ∷ 0 ∷ 0 ∷ 0x4a ∷ 0xff ∷ 0xff ∷ [])) (leaves (over170 27) (begin ∷ template 0 0 ∷ constant (Constant.number (7 * 2 ^ 32)) ∷ [])) ≡ some 31
sample_short = refl

-- Each place of 34, and that finish asks for no template.
pub record Sheet : Type 0 where
  pub no_template : W.asked (constant Constant.null) (leaves (over170 9) (begin ∷ [])) ≡ some 34
  pub constant_late : W.asked (constant Constant.null) (leaves (over170 10) (begin ∷ template 0 0 ∷ code [] ∷ [])) ≡ some 34
  pub code_twice : W.asked (code []) (leaves (over170 10) (begin ∷ template 0 0 ∷ code [] ∷ [])) ≡ some 34
  pub many_parameters : W.asked (template 65536 0) (leaves (over170 2) (begin ∷ [])) ≡ some 34
  pub before_begin : W.asked finish (over170 10) ≡ some 34
  pub finish_twice : W.asked finish (leaves (over170 2) (begin ∷ finish ∷ [])) ≡ some 34
  pub finish_empty : W.asked finish (leaves (over170 2) (begin ∷ [])) ≡ none
  pub begin_short : W.asked begin (over170 1) ≡ some 31
  pub begin_anew : W.asked begin (leaves (over170 2) (begin ∷ finish ∷ [])) ≡ none

pub sheet : Sheet
sheet = record {
  no_template = refl;
  constant_late = refl;
  code_twice = refl;
  many_parameters = refl;
  before_begin = refl;
  finish_twice = refl;
  finish_empty = refl;
  begin_short = refl;
  begin_anew = refl;
}
