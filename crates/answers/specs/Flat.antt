-- What C is told of the machine's answers, and what it reads there: number 0 is acceptance. Assumes nothing.
use Rattle.std.specs.Prelude.{ℕ, zero, suc, ◌-◌, List, [], ◌∷◌, ◌≡◌, refl, length, get_or, Result, Ok, Err}
use Rattle.std.proofs.Common.{sym, ap, subst, ◌∙◌}
use Rattle.machine.specs.Value as M
use Rattle.machine.specs.Error as E
use Rattle.machine.specs.State as St
use Rattle.machine.specs.Program as P
use Rattle.machine.specs.Run as R
use Rattle.machine.specs.Host as H
use Rattle.value.specs.Lists.{bytes_of, row_none, row_length}
use Rattle.value.specs.declared.Value.{Value}
use Rattle.value.specs.declared.Value.TheVariants.{Undefined, Null, Boolean, Number, CodeText, MadeText, Object, Function}
use Rattle.value.specs.declared.Words.{Words}
use Rattle.value.specs.Words.{bit, words_of, value_of, decode_of, decode_words}
use Rattle.texts.specs.Overwrite.{overwrite, overwrite_none}
use Rattle.heapops.specs.declared.Counts.{Counts}
use Rattle.heapops.specs.Turns.{Mem}
use Rattle.finish.specs.Parts.{Tables}
use Rattle.run.specs.Runs.{state_in, result_of}
use Rattle.host.specs.Calls.{lent, Called, Clears, Buffered, answer_of_numbered, counts_of_numbered, answer_of_changed, counts_of_changed, answer_of_read, answer_of_run, counts_of_run, answer_of_text, answer_of_drain, counts_of_drain}
use Rattle.answers.specs.declared.Answer.{Answer}
use Rattle.answers.specs.declared.ValueAnswer.{ValueAnswer}
use Rattle.answers.specs.declared.RunTold.{RunTold}
use Rattle.answers.specs.Numbers.{never_0}
use Rattle.host.specs.Refusals.{number_of}
use Rattle.host.specs.declared.refusal.Refusal.{Refusal}
use Rattle.host.specs.declared.refusal.Refusal.TheVariants.{StoreSizes}
use Rattle.run.specs.declared.Ran.{Ran}
use Rattle.value.specs.declared.Stop.{Stop}
use Rattle.value.specs.declared.Stop.TheVariants.{Failed, Refused}
use Rattle.value.specs.declared.JsVmError.TheVariants.{ExecutionLimitExceeded, UnknownOpcode, IpOutOfBounds, StackUnderflow, StackOverflow, UncaughtException, NotCallable, InvalidFunctionId, NoCallFrame}

-- WHAT IS TOLD

-- the three words of a machine's value
abbrev words : ℕ → ℕ → ℕ → Words
words k a b = record { kind = k; first = a; second = b }

abbrev text_words : M.Home → ℕ → ℕ → Words
text_words M.in_code a n = words 4 a n
text_words M.in_text a n = words 5 a n

abbrev pub words_in : M.Value → Words
words_in M.undefined = words 0 0 0
words_in M.null = words 1 0 0
words_in (M.boolean b) = words 2 (bit b) 0
words_in (M.number n) = words 3 n 0
words_in (M.text t) = text_words t.store t.at t.size
words_in (M.object i) = words 6 i 0
words_in (M.function i) = words 7 i 0

abbrev pub answer : ℕ → ℕ → Counts → Answer
answer n k c = record { number = n; amount = k; counts = c }

-- The number, an amount and what is in use then; nothing else is told.
abbrev pub told : H.Answer → Counts → Answer
told (H.refusal n) c = answer n 0 c
told (H.numbered i) c = answer 0 i c
told H.done c = answer 0 0 c
told (H.valued v) c = answer 0 0 c
told (H.ran e k) c = answer 0 0 c
told (H.wrote bs) c = answer 0 (length bs) c

abbrev pub told_value : H.Answer → ValueAnswer
told_value (H.refusal n) = record { number = n; value = words_in M.undefined }
told_value (H.numbered i) = record { number = 0; value = words_in M.undefined }
told_value H.done = record { number = 0; value = words_in M.undefined }
told_value (H.valued v) = record { number = 0; value = words_in v }
told_value (H.ran e k) = record { number = 0; value = words_in M.undefined }
told_value (H.wrote bs) = record { number = 0; value = words_in M.undefined }

-- the byte of error 13
abbrev pub error_opcode : E.JsVmError → ℕ
error_opcode E.execution_limit_exceeded = 0
error_opcode (E.unknown_opcode b) = b
error_opcode E.ip_out_of_bounds = 0
error_opcode E.stack_underflow = 0
error_opcode E.stack_overflow = 0
error_opcode (E.uncaught_exception v) = 0
error_opcode E.not_callable = 0
error_opcode E.invalid_function_id = 0
error_opcode E.no_call_frame = 0

abbrev pub opcode_of : R.Result → ℕ
opcode_of (R.ended (P.finished v)) = 0
opcode_of (R.ended (P.failed e)) = error_opcode e
opcode_of (R.full q) = 0

abbrev not_started : ℕ → Counts → RunTold
not_started n c = record { number = n; started = 0; steps = 0; opcode = 0; value = words_in M.undefined; counts = c }

abbrev pub told_run : H.Answer → Counts → RunTold
told_run (H.refusal n) c = not_started n c
told_run (H.numbered i) c = not_started 0 c
told_run H.done c = not_started 0 c
told_run (H.valued v) c = not_started 0 c
told_run (H.ran e k) c = record { number = R.end_number e; started = 1; steps = k; opcode = opcode_of e; value = words_in (R.end_value e); counts = c }
told_run (H.wrote bs) c = not_started 0 c

-- WHAT IS READ THERE

abbrev pub by_number : ℕ → H.Answer → H.Answer
by_number zero a = a
by_number (suc n) a = H.refusal (suc n)

abbrev pub numbered_by : Answer → H.Answer
numbered_by r = by_number r.number (H.numbered r.amount)

abbrev pub changed_by : Answer → H.Answer
changed_by r = by_number r.number H.done

-- the bytes at the buffer's start
abbrev pub wrote_by : Answer → List ℕ → H.Answer
wrote_by r b = by_number r.number (H.wrote (bytes_of b r.amount))

-- of clear, whose only refusal is 33: `only` below rules out any other number
abbrev cleared_as : ℕ → Counts → Result Counts Refusal
cleared_as zero c = Ok c
cleared_as (suc n) c = Err StoreSizes

abbrev pub cleared_by : Answer → Result Counts Refusal
cleared_by r = cleared_as r.number r.counts

abbrev pub value_by : Words → M.Value
value_by w = decode_of w.kind w.first w.second

abbrev pub valued_by : ValueAnswer → H.Answer
valued_by r = by_number r.number (H.valued (value_by r.value))

-- How a run ended, by its number: 0, or one from 8 on; with 13 goes the byte, with 0 and 17 a value. No run ends with 10.
abbrev ends : ℕ → M.Value → List R.Result
ends b v =
    R.full St.code_store ∷ R.full St.image_store ∷ R.ended (P.finished v) ∷ R.full St.frame_store ∷ R.ended (P.failed E.execution_limit_exceeded)
    ∷ R.ended (P.failed (E.unknown_opcode b)) ∷ R.ended (P.failed E.ip_out_of_bounds) ∷ R.ended (P.failed E.stack_underflow) ∷ R.ended (P.failed E.stack_overflow)
    ∷ R.ended (P.failed (E.uncaught_exception v)) ∷ R.ended (P.failed E.not_callable) ∷ R.ended (P.failed E.invalid_function_id) ∷ R.ended (P.failed E.no_call_frame)
    ∷ R.full St.slot_store ∷ R.full St.handler_store ∷ R.full St.function_store ∷ R.full St.object_store ∷ R.full St.property_store ∷ R.full St.global_store
    ∷ R.full St.text_store ∷ R.full St.output_store ∷ []

abbrev pub result_by : ℕ → ℕ → M.Value → R.Result
result_by zero b v = R.ended (P.finished v)
result_by (suc n) b v = get_or (ends b v) (n - 7) (R.ended (P.finished v))

abbrev started_as : ℕ → ℕ → R.Result → ℕ → H.Answer
started_as zero n r k = H.refusal n
started_as (suc z) n r k = H.ran r k

abbrev pub ran_by : RunTold → H.Answer
ran_by x = started_as x.started x.number (result_by x.number x.opcode (value_by x.value)) x.steps

-- THE CONTRACTS: what is read is the machine's answer, and nothing but that is told.

pub record Tells (call : H.Call) (c : Counts) (g : Tables) (m : Mem) (a : H.Answer) (r : Answer) (g' : Tables) (m' : Mem) : Type 0 where
  pub called : Called call c g m a r.counts g' m'
  pub only : r ≡ told a r.counts

pub record TellsValue (call : H.Call) (c : Counts) (g : Tables) (m : Mem) (r : ValueAnswer) : Type 0 where
  pub called : Called call c g m (valued_by r) c g m
  pub only : r ≡ told_value (valued_by r)

pub record TellsRun (call : H.Call) (c : Counts) (g : Tables) (m : Mem) (r : RunTold) (m' : Mem) : Type 0 where
  pub called : Called call c g m (ran_by r) r.counts g m'
  pub only : r ≡ told_run (ran_by r) r.counts

pub record TellsClear (c : Counts) (g : Tables) (m : Mem) (r : Answer) (g' : Tables) (m' : Mem) : Type 0 where
  pub clears : Clears g m (cleared_by r) g' m'
  pub only : r ≡ told (answer_of_changed (cleared_by r)) (counts_of_changed c (cleared_by r))

-- What the engine's answers are told as: an amount with the counts, or alone
abbrev pub flat : Counts → Result (ℕ × Counts) Refusal → Answer
flat c (Ok (k, d)) = answer 0 k d
flat c (Err e) = answer (number_of e) 0 c

abbrev pub flat_text : Counts → Result ℕ Refusal → Answer
flat_text c (Ok k) = answer 0 k c
flat_text c (Err e) = answer (number_of e) 0 c

-- THE LAWS, one for each shape of answer

-- No call is refused with 0, so the number tells.
module _ {call : H.Call} {c : Counts} {g g' : Tables} {m m' : Mem} where
  refused_called : (n : ℕ) (a : H.Answer) → Called call c g m (H.refusal n) c g' m' → Called call c g m (by_number n a) c g' m'
  refused_called zero a x = record {
    machine = λ r. absurd (never_0 (lent c g m) call (state_in c g m) (x.machine r).0);
    refused = λ n e. x.refused 0 refl;
    stands = x.stands;
    placed = x.placed;
  }
  refused_called (suc n) a x = x

  refused_told : (n : ℕ) (a : H.Answer) → answer 0 0 c ≡ told a c → Called call c g m (H.refusal n) c g' m'
      → Tells call c g m (by_number n a) (answer n 0 c) g' m'
  refused_told zero a e x = record { called = refused_called zero a x; only = e }
  refused_told (suc n) a e x = record { called = x; only = refl }

  numbered_by_lem : (x : Result (ℕ × Counts) Refusal) → Called call c g m (answer_of_numbered x) (counts_of_numbered c x) g' m'
      → Tells call c g m (numbered_by (flat c x)) (flat c x) g' m'
  numbered_by_lem (Ok (i, d)) k = record { called = k; only = refl }
  numbered_by_lem (Err e) k = refused_told (number_of e) (H.numbered 0) refl k

  pub numbered_told : (x : Result (ℕ × Counts) Refusal) {r : Answer} → r ≡ flat c x
      → Called call c g m (answer_of_numbered x) (counts_of_numbered c x) g' m' → Tells call c g m (numbered_by r) r g' m'
  numbered_told x e k = subst (λ (r : Answer). Tells call c g m (numbered_by r) r g' m') (sym e) (numbered_by_lem x k)

  changed_by_lem : (x : Result Counts Refusal) → Called call c g m (answer_of_changed x) (counts_of_changed c x) g' m'
      → let r = told (answer_of_changed x) (counts_of_changed c x) in Tells call c g m (changed_by r) r g' m'
  changed_by_lem (Ok d) k = record { called = k; only = refl }
  changed_by_lem (Err e) k = refused_told (number_of e) H.done refl k

  pub changed_told : (x : Result Counts Refusal) {r : Answer} → r ≡ told (answer_of_changed x) (counts_of_changed c x)
      → Called call c g m (answer_of_changed x) (counts_of_changed c x) g' m' → Tells call c g m (changed_by r) r g' m'
  changed_told x e k = subst (λ (r : Answer). Tells call c g m (changed_by r) r g' m') (sym e) (changed_by_lem x k)

-- those that write to a buffer
abbrev Writes : H.Call → Counts → Tables → Mem → List ℕ → Answer → List ℕ → Type 0
Writes call c g m b r b' = Tells call c g m (wrote_by r b') r g m × Buffered (wrote_by r b') b b'

none_written : (b : List ℕ) → bytes_of b 0 ≡ []
none_written b = row_none (λ i. get_or b i 0)

refused_buffer : {b b' : List ℕ} (n : ℕ) → b' ≡ b → Buffered (by_number n (H.wrote (bytes_of b' 0))) b b'
refused_buffer {b} {b'} zero e = record { bytes = e ∙ sym (overwrite_none b 0) ∙ ap (overwrite b 0) (sym (none_written b')) }
refused_buffer (suc n) e = record { bytes = e }

module _ {call : H.Call} {c : Counts} {g : Tables} {m : Mem} {b b' : List ℕ} where
  wrote_refused : (n : ℕ) → Called call c g m (H.refusal n) c g m × Buffered (H.refusal n) b b' → Writes call c g m b (answer n 0 c) b'
  wrote_refused n k =
      let z : answer 0 0 c ≡ told (H.wrote (bytes_of b' 0)) c = ap (λ (bs : List ℕ). answer 0 (length bs) c) (sym (none_written b')) in
      (refused_told n (H.wrote (bytes_of b' 0)) z k.0, refused_buffer n k.1.bytes)

  written : (k : ℕ) (e : Counts) → Called call c g m (H.wrote (bytes_of b' k)) e g m × Buffered (H.wrote (bytes_of b' k)) b b' → Writes call c g m b (answer 0 k e) b'
  written k e h = (record { called = h.0; only = ap (λ (n : ℕ). answer 0 n e) (sym (row_length k (λ i. get_or b' i 0))) }, h.1)

  text_by : (x : Result ℕ Refusal) → Called call c g m (answer_of_text x b') c g m × Buffered (answer_of_text x b') b b' → Writes call c g m b (flat_text c x) b'
  text_by (Ok k) h = written k c h
  text_by (Err e) h = wrote_refused (number_of e) h

  pub text_told : (x : Result ℕ Refusal) {r : Answer} → r ≡ flat_text c x → Called call c g m (answer_of_text x b') c g m × Buffered (answer_of_text x b') b b'
      → Writes call c g m b r b'
  text_told x e h = subst (λ (r : Answer). Writes call c g m b r b') (sym e) (text_by x h)

  drain_by : (x : Result (ℕ × Counts) Refusal) → Called call c g m (answer_of_drain x b') (counts_of_drain c x) g m × Buffered (answer_of_drain x b') b b' → Writes call c g m b (flat c x) b'
  drain_by (Ok (k, d)) h = written k d h
  drain_by (Err e) h = wrote_refused (number_of e) h

  pub drain_told : (x : Result (ℕ × Counts) Refusal) {r : Answer} → r ≡ flat c x → Called call c g m (answer_of_drain x b') (counts_of_drain c x) g m × Buffered (answer_of_drain x b') b b'
      → Writes call c g m b r b'
  drain_told x e h = subst (λ (r : Answer). Writes call c g m b r b') (sym e) (drain_by x h)

-- clear
module _ (c : Counts) {g g' : Tables} {m m' : Mem} where
  clear_by : (x : Result Counts Refusal) → Clears g m x g' m' → TellsClear c g m (told (answer_of_changed x) (counts_of_changed c x)) g' m'
  clear_by (Ok d) h = record { clears = h; only = refl }
  clear_by (Err e) h = rw h.told.0 (record { clears = rw h.told.0 at h; only = refl })

  pub clear_told : (x : Result Counts Refusal) {r : Answer} → r ≡ told (answer_of_changed x) (counts_of_changed c x) → Clears g m x g' m' → TellsClear c g m r g' m'
  clear_told x e h = subst (λ (r : Answer). TellsClear c g m r g' m') (sym e) (clear_by x h)

-- a value
pub words_in_lem : (v : Value) → words_of v ≡ words_in (value_of v)
words_in_lem Undefined = refl
words_in_lem Null = refl
words_in_lem (Boolean b) = refl
words_in_lem (Number n) = refl
words_in_lem (CodeText a n) = refl
words_in_lem (MadeText a n) = refl
words_in_lem (Object i) = refl
words_in_lem (Function i) = refl

pub value_fields : {n : ℕ} {w u : Words} → w ≡ u → ◌≡◌ {A = ValueAnswer} (record { number = n; value = w }) (record { number = n; value = u })
value_fields {n} e = ap (λ (w : Words). record { number = n; value = w }) e

-- a machine's value is read back from its words
text_read : (h : M.Home) (a n : ℕ) → value_by (text_words h a n) ≡ M.text (record { store = h; at = a; size = n })
text_read M.in_code a n = decode_words (CodeText a n)
text_read M.in_text a n = decode_words (MadeText a n)

value_read : (v : M.Value) → value_by (words_in v) ≡ v
value_read M.undefined = decode_words Undefined
value_read M.null = decode_words Null
value_read (M.boolean b) = decode_words (Boolean b)
value_read (M.number n) = decode_words (Number n)
value_read (M.text t) = text_read t.store t.at t.size
value_read (M.object i) = decode_words (Object i)
value_read (M.function i) = decode_words (Function i)

module _ {call : H.Call} {c : Counts} {g : Tables} {m : Mem} where
  refused_value : (n : ℕ) → Called call c g m (H.refusal n) c g m → TellsValue call c g m (told_value (H.refusal n))
  refused_value zero k = record {
    called = refused_called zero (H.valued (value_by (words_in M.undefined))) k;
    only = ap (λ (v : M.Value). told_value (H.valued v)) (sym (value_read M.undefined));
  }
  refused_value (suc n) k = record { called = k; only = refl }

  value_by_lem : (v : M.Value) → Called call c g m (H.valued v) c g m → TellsValue call c g m (told_value (H.valued v))
  value_by_lem v k = record {
    called = subst (λ (w : M.Value). Called call c g m (H.valued w) c g m) (sym (value_read v)) k;
    only = ap (λ (w : M.Value). told_value (H.valued w)) (sym (value_read v));
  }

  read_by : (x : Result Value Refusal) → Called call c g m (answer_of_read x) c g m → TellsValue call c g m (told_value (answer_of_read x))
  read_by (Ok v) k = value_by_lem (value_of v) k
  read_by (Err e) k = refused_value (number_of e) k

  pub read_told : (x : Result Value Refusal) {r : ValueAnswer} → r ≡ told_value (answer_of_read x) → Called call c g m (answer_of_read x) c g m → TellsValue call c g m r
  read_told x e k = subst (λ (r : ValueAnswer). TellsValue call c g m r) (sym e) (read_by x k)

-- a run
error_read : (e : E.JsVmError) → result_by (E.error_number e) (error_opcode e) (R.thrown_value e) ≡ R.ended (P.failed e)
error_read E.execution_limit_exceeded = refl
error_read (E.unknown_opcode b) = refl
error_read E.ip_out_of_bounds = refl
error_read E.stack_underflow = refl
error_read E.stack_overflow = refl
error_read (E.uncaught_exception v) = refl
error_read E.not_callable = refl
error_read E.invalid_function_id = refl
error_read E.no_call_frame = refl

store_read : (q : St.Store) → result_by (St.question q) 0 M.undefined ≡ R.full q
store_read St.code_store = refl
store_read St.image_store = refl
store_read St.frame_store = refl
store_read St.slot_store = refl
store_read St.handler_store = refl
store_read St.function_store = refl
store_read St.object_store = refl
store_read St.property_store = refl
store_read St.global_store = refl
store_read St.text_store = refl
store_read St.output_store = refl

result_read : (e : R.Result) → result_by (R.end_number e) (opcode_of e) (R.end_value e) ≡ e
result_read (R.ended (P.finished v)) = refl
result_read (R.ended (P.failed e)) = error_read e
result_read (R.full q) = store_read q

ran_read : (e : R.Result) (k : ℕ) (c : Counts) → ran_by (told_run (H.ran e k) c) ≡ H.ran e k
ran_read e k c = ap (λ (v : M.Value). H.ran (result_by (R.end_number e) (opcode_of e) v) k) (value_read (R.end_value e)) ∙ ap (λ (z : R.Result). H.ran z k) (result_read e)

-- no other end has a byte
pub no_opcode : (e : Result Value Stop) → ((b : ℕ) → e ≡ Err (Failed (UnknownOpcode b)) → ⊥) → opcode_of (result_of e) ≡ 0
no_opcode (Ok v) h = refl
no_opcode (Err (Refused q)) h = refl
no_opcode (Err (Failed ExecutionLimitExceeded)) h = refl
no_opcode (Err (Failed (UnknownOpcode b))) h = absurd (h b refl)
no_opcode (Err (Failed IpOutOfBounds)) h = refl
no_opcode (Err (Failed StackUnderflow)) h = refl
no_opcode (Err (Failed StackOverflow)) h = refl
no_opcode (Err (Failed (UncaughtException v))) h = refl
no_opcode (Err (Failed NotCallable)) h = refl
no_opcode (Err (Failed InvalidFunctionId)) h = refl
no_opcode (Err (Failed NoCallFrame)) h = refl

-- as the fields are computed
pub ran_fields : (e : R.Result) (v : Value) {n b k : ℕ} {w : Words} {c : Counts} → n ≡ R.end_number e → b ≡ opcode_of e → value_of v ≡ R.end_value e → w ≡ words_of v
    → ◌≡◌ {A = RunTold} (record { number = n; started = 1; steps = k; opcode = b; value = w; counts = c }) (told_run (H.ran e k) c)
ran_fields e v {w = w} p q t u =
    let d : w ≡ words_in (R.end_value e) = u ∙ words_in_lem v ∙ ap words_in t in
    rw (p, q, d)

module _ {call : H.Call} {c : Counts} {g : Tables} {m m' : Mem} where
  run_by : (x : Result Ran Refusal) → Called call c g m (answer_of_run x) (counts_of_run c x) g m' → TellsRun call c g m (told_run (answer_of_run x) (counts_of_run c x)) m'
  run_by (Ok y) h =
      let e = ran_read (result_of y.end) y.steps y.counts in
      record {
        called = subst (λ (a : H.Answer). Called call c g m a y.counts g m') (sym e) h;
        only = ap (λ (a : H.Answer). told_run a y.counts) (sym e);
      }
  run_by (Err e) h = record { called = h; only = refl }

  pub run_told : (x : Result Ran Refusal) {r : RunTold} → r ≡ told_run (answer_of_run x) (counts_of_run c x) → Called call c g m (answer_of_run x) (counts_of_run c x) g m'
      → TellsRun call c g m r m'
  run_told x e h = subst (λ (r : RunTold). TellsRun call c g m r m') (sym e) (run_by x h)
