-- How an accepted call comes to its contract. Assumes nothing.
use Rattle.std.specs.Prelude.{◌≡◌, refl, Bool, true, false, ◌&&◌, List, [], ◌∷◌, ◌++◌, ℕ, ◌+◌, ◌-◌, ◌/◌, ◌%◌, ◌≤◌, ◌<◌, length, slice_index, set, Ok}
use Rattle.std.proofs.Common.{sym, ap, ap₂, ◌∙◌, arith, add-one, length-append, le-leb}
use Rattle.std.proofs.Math.Option.{none}
use Rattle.std.proofs.lemmas.List.Edits.{sets-eq}
use Rattle.std.proofs.lemmas.Nat.{shr-shr}
use Rattle.std.specs.Int.{w16, w64, to_be_bytes, from_bool}
use Rattle.machine.specs.Host.{ask}
use Rattle.machine.specs.Format as F
use Rattle.machine.specs.Format.{word}
use Rattle.machine.specs.Writer as W
use Rattle.number.specs.Overwrite.{overwrite, overwrite_more}
use Rattle.writer.specs.declared.Writer.{Writer}
use Rattle.writer.specs.View.{stage_of, stage_number, writer_of, session_of, answer, Does}

as_machine : (xs : List ℕ) (at : ℕ) (bs : List ℕ) → overwrite xs at bs ≡ W.overwrite xs at bs
unfolding overwrite
as_machine xs at bs = refl

module _ (c : W.Call) (w y : Writer) (b b' : List ℕ) where
  -- The questions answered yes, a call leaves what the machine's does.
  wrote : W.in_place c (writer_of w) ≡ true → (W.in_order c (stage_of w.stage) && W.counts_fit c (writer_of w)) ≡ true → W.room_for c (writer_of w) (length b) ≡ true
      → y.stage ≡ stage_number (stage_of y.stage) → writer_of y ≡ W.after c (writer_of w) → b' ≡ W.write c (writer_of w) b → Does c w b (Ok y) b'
  wrote o t r n ew eb = record {
    numbered = n;
    said = sym none_of;
    session = ap₂ (λ (x : W.Writer) (z : List ℕ). record { writer = x; buffer = z }) ew eb ∙ sym (ap (λ q. W.performed q c (session_of w b)) none_of);
  }
    where
      none_of : answer c w b ≡ none
      none_of = ap (λ (t : Bool). W.asked_on t c (session_of w b)) o ∙ ap₂ (λ (s t : Bool). ask 34 s (ask 31 t none)) t r

pub small_of : (n : ℕ) → n < 65536 → W.small n ≡ true
small_of n h = le-leb n 65535 (omega arith)

pub begins : (w : Writer) (b b' : List ℕ) (s t a k : ℕ) → 2 ≤ length b → b' ≡ overwrite b 0 (word 0) → s ≡ 1 → t ≡ 0 → a ≡ 0 → k ≡ 0
    → Does W.begin w b (Ok (record { stage = s; size = 2; templates = t; at = a; constants = k })) b'
begins w b b' s t a k h e es et ea ek = rw (es, et, ea, ek) (wrote W.begin w (record { stage = 1; size = 2; templates = 0; at = 0; constants = 0 }) b b' refl refl (le-leb 2 (length b) h) refl refl (e ∙ as_machine b 0 (word 0)))

pub template_wrote : (w : Writer) (b b₁ b₂ b₃ b₄ b₅ : List ℕ) (p l p' l' s z n m : ℕ) → W.underway (stage_of w.stage) ≡ true
    → n < 65536 → n ≡ w.templates + 1 → m ≡ n → (p < 65536) × (p' ≡ p) → (l < 65536) × (l' ≡ l) → (z ≡ w.size + 8) × (z ≤ length b) → s ≡ 2
    → b₁ ≡ overwrite b w.size (word p') → b₂ ≡ overwrite b₁ (w.size + 2) (word l') → b₃ ≡ overwrite b₂ (w.size + 4) (word 0) → b₄ ≡ overwrite b₃ (w.size + 6) (word 0) → b₅ ≡ overwrite b₄ 0 (word n)
    → Does (W.template p l) w b (Ok (record { stage = s; size = z; templates = m; at = w.size; constants = 0 })) b₅
template_wrote w b b₁ b₂ b₃ b₄ b₅ p l p' l' s z n m u hn en em (hp, ep) (hl, el) (ez, hz) es e₁ e₂ e₃ e₄ e₅ =
    let h : w.size + 8 ≤ length b = omega arith in
    let f₁ : b₁ ≡ overwrite b w.size (word p) = e₁ ∙ ap (λ (x : ℕ). overwrite b w.size (word x)) ep in
    let f₂ : b₂ ≡ overwrite b w.size (word p ++ word l) = e₂ ∙ ap₂ (λ (x : List ℕ) (y : ℕ). overwrite x (w.size + 2) (word y)) f₁ el ∙ overwrite_more b w.size (word p) (omega arith) (word l) in
    let f₃ : b₃ ≡ overwrite b w.size (word p ++ word l ++ word 0) = e₃ ∙ ap (λ (x : List ℕ). overwrite x (w.size + 4) (word 0)) f₂ ∙ overwrite_more b w.size (word p ++ word l) (omega arith) (word 0) in
    let f₄ : b₄ ≡ overwrite b w.size (word p ++ word l ++ word 0 ++ word 0) = e₄ ∙ ap (λ (x : List ℕ). overwrite x (w.size + 6) (word 0)) f₃ ∙ overwrite_more b w.size (word p ++ word l ++ word 0) (omega arith) (word 0) in
    let few : (W.small (w.templates + 1) && W.small p && W.small l) ≡ true = rw (le-leb (w.templates + 1) 65535 (omega arith), small_of p hp, small_of l hl) in
    rw (es, ez, em, en) (wrote (W.template p l) w (record { stage = 2; size = w.size + 8; templates = w.templates + 1; at = w.size; constants = 0 }) b b₅ refl
    (ap₂ (λ (s t : Bool). s && t) u few) (le-leb (w.size + 8) (length b) h) refl refl
    (e₅ ∙ ap (λ (k : ℕ). overwrite b₄ 0 (word k)) en ∙ as_machine b₄ 0 (word (w.templates + 1)) ∙ ap (λ (x : List ℕ). W.overwrite x 0 (word (w.templates + 1))) (f₄ ∙ as_machine b w.size (word p ++ word l ++ word 0 ++ word 0))))

-- With a template open, a constant or code comes in its order.
open_order : (g : ℕ) → g ≡ 2 → W.is_open (stage_of g) ≡ true
open_order g e = ap (λ (x : ℕ). W.is_open (stage_of x)) e

pub constant_wrote : (w : Writer) (b b₁ b₂ b₃ b₄ head body : List ℕ) (c : F.Constant) (z n m : ℕ) → (w.at + 8 ≤ w.size) × (w.stage ≡ 2) → n < 65536 → n ≡ w.constants + 1 → m ≡ n
    → (z ≡ w.size + (length head + length body)) × (z ≤ length b) → W.small_constant c ≡ true → F.constant_bytes c ≡ head ++ body
    → b₁ ≡ overwrite b (w.size - 2) head → b₂ ≡ overwrite b₁ (w.size - 2 + length head) body → b₃ ≡ overwrite b₂ (z - 2) (word 0) → b₄ ≡ overwrite b₃ (w.at + 4) (word n)
    → Does (W.constant c) w b (Ok (record { stage = w.stage; size = z; templates = w.templates; at = w.at; constants = m })) b₄
constant_wrote w b b₁ b₂ b₃ b₄ head body c z n m (place, es) hn en em (ez, hz) s ec e₁ e₂ e₃ e₄ =
    let p = w.size - 2 in
    let k : length (F.constant_bytes c) ≡ length head + length body = ap length ec ∙ length-append head body in
    let f₂ : b₂ ≡ overwrite b p (F.constant_bytes c) = e₂ ∙ ap (λ (x : List ℕ). overwrite x (p + length head) body) e₁ ∙ overwrite_more b p head (omega arith) body ∙ ap (overwrite b p) (sym ec) in
    let at₃ : z - 2 ≡ p + length (F.constant_bytes c) = omega arith in
    let f₃ : b₃ ≡ overwrite b p (F.constant_bytes c ++ word 0) = e₃ ∙ ap₂ (λ (x : List ℕ) (k : ℕ). overwrite x k (word 0)) f₂ at₃ ∙ overwrite_more b p (F.constant_bytes c) (omega arith) (word 0) in
    let turn : (W.is_open (stage_of w.stage) && (W.small (w.constants + 1) && W.small_constant c)) ≡ true = rw (open_order w.stage es, le-leb (w.constants + 1) 65535 (omega arith), s) in
    let size : z ≡ w.size + length (F.constant_bytes c) = omega arith in
    rw (em, en) (wrote (W.constant c) w (record { stage = w.stage; size = z; templates = w.templates; at = w.at; constants = w.constants + 1 }) b b₄
    (le-leb (w.at + 8) w.size place) turn (le-leb (w.size + length (F.constant_bytes c)) (length b) (omega arith)) (es ∙ ap (λ (x : ℕ). stage_number (stage_of x)) (sym es))
    (ap₂ (λ (x : W.Stage) (y : ℕ). record { stage = x; size = y; templates = w.templates; at = w.at; constants = w.constants + 1 }) (ap stage_of es) size)
    (e₄ ∙ ap (λ (x : ℕ). overwrite b₃ (w.at + 4) (word x)) en ∙ as_machine b₃ (w.at + 4) (word (w.constants + 1))
    ∙ ap (λ (x : List ℕ). W.overwrite x (w.at + 4) (word (w.constants + 1))) (f₃ ∙ as_machine b p (F.constant_bytes c ++ word 0))))

pub code_wrote : (w : Writer) (b b₁ b₂ bs : List ℕ) (s z n : ℕ) → (w.at + 8 ≤ w.size) × (w.stage ≡ 2) → (length bs < 65536) × (n ≡ length bs) → (z ≡ w.size + length bs) × (z ≤ length b) → s ≡ 3
    → b₁ ≡ overwrite b (w.size - 2) (word n) → b₂ ≡ overwrite b₁ w.size bs
    → Does (W.code bs) w b (Ok (record { stage = s; size = z; templates = w.templates; at = w.at; constants = w.constants })) b₂
code_wrote w b b₁ b₂ bs s z n (place, eo) (hn, en) (ez, hz) es e₁ e₂ =
    let p = w.size - 2 in
    let f : b₂ ≡ overwrite b p (word (length bs) ++ bs) =
    e₂ ∙ ap₂ (λ (x : List ℕ) (k : ℕ). overwrite x k bs) (e₁ ∙ ap (λ (x : ℕ). overwrite b p (word x)) en) (omega arith) ∙ overwrite_more b p (word (length bs)) (omega arith) bs in
    rw (es, ez) (wrote (W.code bs) w (record { stage = 3; size = w.size + length bs; templates = w.templates; at = w.at; constants = w.constants }) b b₂
    (le-leb (w.at + 8) w.size place) (ap₂ (λ (x y : Bool). x && y) (open_order w.stage eo) (small_of (length bs) hn)) (le-leb (w.size + length bs) (length b) (omega arith)) refl refl
    (f ∙ as_machine b p (word (length bs) ++ bs)))

-- The bytes of each kind

pub number_bytes : (n : ℕ) (bs : List ℕ) → bs ≡ to_be_bytes w64 n → F.constant_bytes (F.number n) ≡ 0 ∷ bs
number_bytes n bs e = rw (e, shr-shr n 8 8, shr-shr n 16 8, shr-shr n 24 8, shr-shr n 32 8, shr-shr n 40 8, shr-shr n 48 8) refl

word_bytes : (n m : ℕ) (bs : List ℕ) → (n < 65536) × (m ≡ n) → bs ≡ to_be_bytes w16 m → word n ≡ bs
word_bytes n m bs (h, e) eb =
    let high : n / 256 ≡ n / 256 % 256 = omega arith in
    ap (λ (x : ℕ). x ∷ n % 256 ∷ []) high ∙ ap (to_be_bytes w16) (sym e) ∙ sym eb

pub word_put : (b bs : List ℕ) (at n : ℕ) → at + 2 ≤ length b → n < 65536 → bs ≡ to_be_bytes w16 n → set (set b at (slice_index bs 0)) (at + 1) (slice_index bs 1) ≡ overwrite b at (word n)
unfolding overwrite
word_put b bs at n h l e =
    let w : bs ≡ word n = sym (word_bytes n n bs (l, refl) e) in
    ap (λ (x : List ℕ). set (set b at (slice_index x 0)) (at + 1) (slice_index x 1)) w ∙ ap (λ (k : ℕ). set (set b at (n / 256)) k (n % 256)) (add-one at) ∙ sets-eq (word n) b at h

pub function_bytes : (t n : ℕ) (bs : List ℕ) → (t < 65536) × (n ≡ t) → bs ≡ to_be_bytes w16 n → F.constant_bytes (F.function t) ≡ 5 ∷ bs
function_bytes t n bs h e = ap (λ (x : List ℕ). 5 ∷ x) (word_bytes t n bs h e)

pub text_bytes : (ts bs : List ℕ) (n : ℕ) → (length ts < 65536) × (n ≡ length ts) → bs ≡ to_be_bytes w16 n → F.constant_bytes (F.text ts) ≡ (1 ∷ slice_index bs 0 ∷ slice_index bs 1 ∷ []) ++ ts
text_bytes ts bs n h e =
    let w : word (length ts) ≡ bs = word_bytes (length ts) n bs h e in
    ap (λ (x : List ℕ). (1 ∷ slice_index x 0 ∷ slice_index x 1 ∷ []) ++ ts) w

-- by the halves of the number or of the length, also where it has more than two bytes
pub function_halves : (t h l : ℕ) → h ≡ t / 256 → l ≡ t % 256 → F.constant_bytes (F.function t) ≡ (5 ∷ h ∷ l ∷ []) ++ []
function_halves t h l eh el = rw (eh, el)

pub text_halves : (bs : List ℕ) (h l : ℕ) → h ≡ length bs / 256 → l ≡ length bs % 256 → F.constant_bytes (F.text bs) ≡ (1 ∷ h ∷ l ∷ []) ++ bs
text_halves bs h l eh el = rw (eh, el)

pub boolean_bytes : (b : Bool) (n : ℕ) → n ≡ from_bool b → F.constant_bytes (F.boolean b) ≡ 2 ∷ n ∷ []
boolean_bytes true n e = ap (λ (x : ℕ). 2 ∷ x ∷ []) (sym e)
boolean_bytes false n e = ap (λ (x : ℕ). 2 ∷ x ∷ []) (sym e)
