-- What drain and the text call write to a caller's buffer. Assumes nothing.
use Rattle.std.specs.Prelude.{ℕ, ◌+◌, ◌≤◌, Bool, true, false, List, ◌++◌, ◌≡◌, refl, leb, length, get_or, take, drop, Option, Some, None}
use Rattle.std.proofs.Common.{arith, sym, ap, ◌∙◌, length-append, take_at}
use Rattle.std.proofs.Math.Option.{Option as Maybe, none}
use Rattle.std.specs.Prelude.{if◌then◌else◌}
use Rattle.std.specs.Option.{ok_or}
use Rattle.machine.specs.State as St
use Rattle.machine.specs.Act.{Given}
use Rattle.machine.specs.Fields as Fi
use Rattle.machine.specs.Out.{out_next}
use Rattle.machine.specs.Host as H
use Rattle.value.specs.Lists.{bytes_of, row_none}
use Rattle.texts.specs.Overwrite.{overwrite}
use Rattle.texts.specs.Spans.{bytes_take}
use Rattle.texts.specs.Spells.{Writes}
use Rattle.heapops.specs.declared.Counts.{Counts}
use Rattle.heapops.specs.Turns.{Mem}
use Rattle.finish.specs.Parts.{Tables}
use Rattle.run.specs.Runs.{state_in}
use Rattle.host.specs.Calls.{lent, Called, Buffered, answer_of_text}
use Rattle.host.specs.Lent.{Lent, lent_lengths, lent_within, lent_by}
use Rattle.host.specs.Performs.{comes_went, called_no, called_done}
use Rattle.host.specs.declared.refusal.Refusal.TheVariants.{BufferTooShort}

-- What was written, by the answer
pub record Fitted (t b : List ℕ) (k : ℕ) (b' : List ℕ) : Type 0 where
  pub room : leb (length t) (length b) ≡ true
  pub size : k ≡ length t
  pub bytes : b' ≡ t ++ drop (length t) b

fitted_by : (q : Bool) (t b b' : List ℕ) (k : ℕ) → leb (length t) (length b) ≡ q
    → Some k ≡ (if q then Some (length t) else None) → b' ≡ (if q then t ++ drop (length t) b else b) → Fitted t b k b'
fitted_by true t b b' k h a f = record { room = h; size = cc; bytes = f }
fitted_by false t b b' k h a f = cc

pub fitted : {t b b' : List ℕ} {k : ℕ} → Writes t b (Some k) b' → Fitted t b k b'
fitted {t} {b} {b'} {k} f = fitted_by (leb (length t) (length b)) t b b' k refl f.answer f.buffer

pub record Short (t b b' : List ℕ) : Type 0 where
  pub room : leb (length t) (length b) ≡ false
  pub bytes : b' ≡ b

short_by : (q : Bool) (t b b' : List ℕ) → leb (length t) (length b) ≡ q
    → None ≡ (if q then Some (length t) else None) → b' ≡ (if q then t ++ drop (length t) b else b) → Short t b b'
short_by true t b b' h a f = cc
short_by false t b b' h a f = record { room = h; bytes = f }

pub short : {t b b' : List ℕ} → Writes t b None b' → Short t b b'
short {t} {b} {b'} f = short_by (leb (length t) (length b)) t b b' refl f.answer f.buffer

pub fitted_start : {t b b' : List ℕ} {k : ℕ} → Fitted t b k b' → bytes_of b' k ≡ t
fitted_start {t} {b} {b'} {k} f =
    let n : length b' ≡ length t + length (drop (length t) b) = ap length f.bytes ∙ length-append t (drop (length t) b) in
    let z = f.size in
    bytes_take b' k (omega (arith, n, z)) ∙ ap (take k) f.bytes ∙ take_at t (drop (length t) b) k (sym f.size)

pub fitted_buffer : {t b b' : List ℕ} {k : ℕ} → Fitted t b k b' → Buffered (H.wrote (bytes_of b' k)) b b'
unfolding overwrite
fitted_buffer {t} {b} {b'} {k} f =
    let z : 0 + length t ≡ length t = omega arith in
    let e : b' ≡ overwrite b 0 t = f.bytes ∙ rw z refl in
    record { bytes = e ∙ ap (overwrite b 0) (sym (fitted_start f)) }

-- Drain: the bytes in use, and then none
abbrev pub emptied : Counts → Counts
emptied c = record { depths = c.depths; sizes = c.sizes; code = c.code; images = c.images; text = c.text; output = 0 }

-- the text call's questions
abbrev asks : Bool → Bool → Bool → Maybe ℕ
asks x y z = H.ask 29 x (H.ask 30 y (H.ask 31 z none))

module _ {c : Counts} {g : Tables} {m : Mem} (e : Lent c g m) where
  output_within : c.output ≤ length m.output
  output_within = omega (arith, (lent_within e).output, (lent_lengths e).output)

  output_in_use : bytes_of m.output c.output ≡ take c.output m.output
  output_in_use = bytes_take m.output c.output output_within

  lent_emptied : lent (emptied c) g m ≡ true
  lent_emptied = let y = lent_within e in lent_by (emptied c) g m (lent_lengths e) (record {
    operands = y.operands;
    slots = y.slots;
    frames = y.frames;
    handlers = y.handlers;
    functions = y.functions;
    objects = y.objects;
    properties = y.properties;
    globals = y.globals;
    code = y.code;
    images = y.images;
    text = y.text;
    output = omega arith;
  })

  module _ {b b' : List ℕ} where
    pub drain_short : Writes (take c.output m.output) b None b' → Called (H.drain (length b)) c g m (H.refusal 31) c g m × Buffered (H.refusal 31) b b'
    drain_short f =
        let s = short f in
        let k : leb (length (bytes_of m.output c.output)) (length b) ≡ false = rw output_in_use s.room in
        (called_no e (ap (λ (x : Bool). H.ask 31 x none) k), record { bytes = s.bytes })

    pub drain_bytes : {k : ℕ} → Writes (take c.output m.output) b (Some k) b' → Called (H.drain (length b)) c g m (H.wrote (bytes_of b' k)) (emptied c) g m × Buffered (H.wrote (bytes_of b' k)) b b'
    drain_bytes {k} f =
        let s = fitted f in
        let h : leb (length (bytes_of m.output c.output)) (length b) ≡ true = rw output_in_use s.room in
        let t : bytes_of m.output c.output ≡ bytes_of b' k = output_in_use ∙ sym (fitted_start s) in (
          called_done e refl (rw h (ap H.wrote t), rw h (ap (λ (o : List ℕ). Fi.set_output o (state_in c g m)) (sym (row_none (λ i. get_or m.output i 0))))) lent_emptied (λ d. d) (λ z. z),
          fitted_buffer s,
        )

  -- The text of a value, or of bytes
  module _ (v : Given) where
    abbrev given : Bool
    given = H.given_fine (St.bytes (state_in c g m)) v

    abbrev fits : ℕ → Bool
    fits n = leb (length (H.given_text (St.bytes (state_in c g m)) v)) n

    module _ (p : H.bytes_fine v ≡ true) where
      module _ (q : given ≡ true) where
        asked : (n : ℕ) {z : Bool} → fits n ≡ z → H.questions (H.text v n) (state_in c g m) ≡ H.ask 31 z none
        asked n h = ap (λ (x : Bool). asks x given (fits n)) p ∙ ap (λ (y : Bool). asks true y (fits n)) q ∙ ap (λ (z : Bool). H.ask 31 z none) h

        pub text_by : {b b' : List ℕ} (r : Option ℕ) → Writes (H.given_text (St.bytes (state_in c g m)) v) b r b'
            → Called (H.text v (length b)) c g m (answer_of_text (ok_or r BufferTooShort) b') c g m × Buffered (answer_of_text (ok_or r BufferTooShort) b') b b'
        text_by {b} None t = let s = short t in (called_no e (asked (length b) s.room), record { bytes = s.bytes })
        text_by {b} (Some k) t =
            let s = fitted t in
            let z = comes_went (H.text v (length b)) (state_in c g m) (asked (length b) s.room) (state_in c g m) (out_next (state_in c g m)) in (
              called_done e refl (ap (λ (x : H.Called). x.answer) z.0 ∙ ap H.wrote (sym (fitted_start s)), ap (λ (x : H.Called). x.after) z.0 ∙ z.1) e.right (λ d. d) (λ z. z),
              fitted_buffer s,
            )
