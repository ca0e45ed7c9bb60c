-- THE PROMISE of change 2 for the code: over every list of calls from a begin, each call as its contract says. Assumes nothing.
use Rattle.std.specs.Prelude.{◌≡◌, refl, ◌⊎◌, List, [], ◌∷◌, ℕ, ◌≤◌, length, take, drop, Result, Ok, Err}
use Rattle.std.proofs.Common.{sym, ap, ◌∙◌, subst}
use Rattle.std.proofs.Math.Option.{Option, none, some, none-ne-some}
use Rattle.machine.specs.Demand3.{All}
use Rattle.machine.specs.Format.{Template, encode}
use Rattle.machine.specs.Writer as W
use Rattle.machine.proofs.Writes.{Holds, Given}
use Rattle.machine.proofs.Writer.{Kept, holds, kept_call_lem, always_in_place, begin_anew_lem, refused_by, call_writes, past_stays, image_is, equal_bytes, equal_templates}
use Rattle.writer.specs.declared.Writer.{Writer}
use Rattle.writer.specs.declared.WriteError.{WriteError}
use Rattle.writer.specs.View.{session_of, refusal, left, Does}

-- Each call comes on the writer and the buffer that the last one left; refused calls are in the list.
pub data Made : Writer → List ℕ → List W.Call → Writer → List ℕ → Type 0 where
  done : {w : Writer} {b : List ℕ} → Made w b [] w b
  then : {c : W.Call} {cs : List W.Call} {w y : Writer} {r : Result Writer WriteError} {b b' b'' : List ℕ} → Does c w b r b' → Made (left r w) b' cs y b'' → Made w b (c ∷ cs) y b''

-- What a call does where ts are the templates so far: its answer is the machine's; refused, by 34 or 31, it alters nothing; what is written is the bytes of the
-- templates then, with right counts; and the bytes past those written stay.
pub record Promised (c : W.Call) (w : Writer) (b : List ℕ) (ts : List Template) (r : Result Writer WriteError) (b' : List ℕ) : Type 0 where
  pub answered : refusal r ≡ W.asked c (session_of w b)
  pub refused : (n : ℕ) → refusal r ≡ some n → (left r w ≡ w) × (b' ≡ b) × ((n ≡ 34) ⊎ (n ≡ 31))
  pub session : session_of (left r w) b' ≡ W.perform c (session_of w b)
  pub kept : Kept (session_of (left r w) b') (W.grown (W.asked c (session_of w b)) c ts)
  pub past : drop (left r w).size b' ≡ drop (left r w).size b

module _ {c : W.Call} {w : Writer} {b : List ℕ} {r : Result Writer WriteError} {b' : List ℕ} {ts : List Template} (k : Kept (session_of w b) ts) (g : Given c) (d : Does c w b r b') where
  abbrev s : W.Session
  s = session_of w b

  said : refusal r ≡ W.asked c s
  said = d.said ∙ always_in_place c s ts k

  does : session_of (left r w) b' ≡ W.perform c s
  does = d.session ∙ ap (λ q. W.performed q c s) (always_in_place c s ts k)

  stays : (x : Result Writer WriteError) (n : ℕ) → refusal x ≡ some n → left x w ≡ w
  stays (Ok y) n e = absurd (none-ne-some n e)
  stays (Err x) n e = refl

  abbrev Past : W.Session → Type 0
  Past t = drop t.writer.size t.buffer ≡ drop t.writer.size b

  past_of : (q : Option ℕ) → W.asked c s ≡ q → Past (W.performed q c s)
  past_of (some n) e = refl
  past_of none e = past_stays c s ts (call_writes c s ts g k e)

  pub call_promised : Promised c w b ts r b'
  call_promised = record {
    answered = said;
    refused = λ n e. (stays r n e, ap (λ (t : W.Session). t.buffer) (does ∙ ap (λ q. W.performed q c s) (sym said ∙ e)), refused_by c s n (sym said ∙ e));
    session = does;
    kept = subst (λ t. Kept t (W.grown (W.asked c s) c ts)) (sym does) (kept_call_lem c s ts g k);
    past = subst Past (sym does) (past_of (W.asked c s) refl);
  }

pub made_leaves : {w y : Writer} {b b'' : List ℕ} {cs : List W.Call} → Made w b cs y b'' → (ts : List Template) → All Given cs → Kept (session_of w b) ts
    → session_of y b'' ≡ W.leaves (session_of w b) cs
made_leaves done ts g k = refl
made_leaves (then {c} {cs} {w} {y} {r} {b} {b'} {b''} d m) ts g k =
    let p = call_promised k g.0 d in
    made_leaves m (W.grown (W.asked c (session_of w b)) c ts) g.1 p.kept ∙ ap (λ x. W.leaves x cs) p.session

-- The templates that the accepted calls of a list add, from a begin on.
abbrev pub added_by : Writer → List ℕ → List W.Call → List Template
added_by w b cs = W.added (session_of w b) [] (W.begin ∷ cs)

-- FROM A BEGIN ON, whatever the writer was and the buffer of two bytes or more held: the buffer is the bytes of the templates added, with the rest behind them,
-- and the writer's counts are theirs.
pub begun_holds : {w y : Writer} {b b'' : List ℕ} {cs : List W.Call} → Made w b (W.begin ∷ cs) y b'' → 2 ≤ length b → All Given cs → Holds (session_of y b'') (added_by w b cs)
begun_holds (then {cs = cs} {w = w} {y = y} {r = r} {b = b} {b' = b'} {b'' = b''} d m) h g =
    let e : session_of (left r w) b' ≡ W.perform W.begin (session_of w b) = d.session in
    let k : Kept (W.perform W.begin (session_of w b)) (W.grown (W.asked W.begin (session_of w b)) W.begin []) = holds (begin_anew_lem [] (session_of w b) [] tt h) in
    let f : session_of y b'' ≡ W.leaves (W.perform W.begin (session_of w b)) cs =
    made_leaves m (W.grown (W.asked W.begin (session_of w b)) W.begin []) g (subst (λ x. Kept x (W.grown (W.asked W.begin (session_of w b)) W.begin [])) (sym e) k)
    ∙ ap (λ x. W.leaves x cs) e in
    subst (λ x. Holds x (added_by w b cs)) (sym f) (begin_anew_lem cs (session_of w b) [] g h)

-- The image: the bytes that the calls wrote.
abbrev pub image_of : Writer → List ℕ → List ℕ
image_of y b = take y.size b

module _ {w y : Writer} {b b'' : List ℕ} {cs : List W.Call} (m : Made w b (W.begin ∷ cs) y b'') (h : 2 ≤ length b) (g : All Given cs) where
  -- every further call, on what the list left
  pub then_promised : {c : W.Call} {r : Result Writer WriteError} {b''' : List ℕ} → Given c → Does c y b'' r b''' → Promised c y b'' (added_by w b cs) r b'''
  then_promised gc d = call_promised (holds (begun_holds m h g)) gc d

  pub image_written : image_of y b'' ≡ encode (added_by w b cs)
  image_written = image_is (session_of y b'') (added_by w b cs) (begun_holds m h g)

  -- EQUAL TEMPLATES GIVE EQUAL BYTES, AND UNEQUAL ONES NEVER DO, of two lists of calls.
  module _ {w₂ y₂ : Writer} {b₂ b₂'' : List ℕ} {cs₂ : List W.Call} (m₂ : Made w₂ b₂ (W.begin ∷ cs₂) y₂ b₂'') (h₂ : 2 ≤ length b₂) (g₂ : All Given cs₂) where
    pub same_bytes : added_by w b cs ≡ added_by w₂ b₂ cs₂ → image_of y b'' ≡ image_of y₂ b₂''
    same_bytes = equal_bytes (session_of y b'') (session_of y₂ b₂'') (added_by w b cs) (added_by w₂ b₂ cs₂) (begun_holds m h g) (begun_holds m₂ h₂ g₂)

    pub same_templates : image_of y b'' ≡ image_of y₂ b₂'' → added_by w b cs ≡ added_by w₂ b₂ cs₂
    same_templates = equal_templates (session_of y b'') (session_of y₂ b₂'') (added_by w b cs) (added_by w₂ b₂ cs₂) (begun_holds m h g) (begun_holds m₂ h₂ g₂)
