-- No call is refused with 0, so a caller in C can tell a refusal by its number. Assumes nothing.
use Rattle.std.specs.Prelude.{Bool, true, false, ◌&&◌, List, [], ◌∷◌, ◌≡◌, ℕ, zero, suc, ◌+◌, ◌*◌, leb, ltb, length, take, drop, get_or}
use Rattle.std.proofs.Math.Option.{Option, none, some}
use Rattle.std.proofs.Common.{subst}
use Rattle.machine.specs.Basic.{is_ascii}
use Rattle.machine.specs.Error as E
use Rattle.machine.specs.State as St
use Rattle.machine.specs.Act as Ac
use Rattle.machine.specs.Program as P
use Rattle.machine.specs.Image as I
use Rattle.machine.specs.Host as H

abbrev pub IsSome : ℕ → Type 0
IsSome zero = ⊥
IsSome (suc n) = Unit {0}

-- The reader: questions 1 to 7
abbrev Numbered : {A : Type 0} → I.Read A → Type 0
Numbered (I.refused n) = IsSome n
Numbered (I.got a at rest) = Unit {0}

abbrev Asks : {A : Type 0} → I.Reader A → Type 0
Asks r = (at : ℕ) (rest : List ℕ) → Numbered (r at rest)

after_asks : {A B : Type 0} (x : I.Read A) (f : A → I.Reader B) → Numbered x → ((a : A) → Asks (f a)) → Numbered (I.after x f)
after_asks (I.refused n) f h k = h
after_asks (I.got a at rest) f h k = k a at rest

then_asks : {A B : Type 0} (r : I.Reader A) (f : A → I.Reader B) → Asks r → ((a : A) → Asks (f a)) → Asks (λ at rest. I.after (r at rest) f)
then_asks r f h k at rest = after_asks (r at rest) f (h at rest) k

ask_asks : {A : Type 0} (n : ℕ) (b : Bool) (r : I.Reader A) → IsSome n → Asks r → Asks (I.ask n b r)
ask_asks n true r h k = k
ask_asks n false r h k = λ at rest. h

byte_asks : Asks I.byte
byte_asks at [] = tt
byte_asks at (b ∷ rest) = tt

word_asks : Asks I.word
word_asks = then_asks I.byte _ byte_asks (λ hi. then_asks I.byte _ byte_asks (λ lo at rest. tt))

wide_asks : (k n : ℕ) → Asks (I.wide k n)
wide_asks zero n = λ at rest. tt
wide_asks (suc k) n = then_asks I.byte _ byte_asks (λ b. wide_asks k (n * 256 + b))

bytes_asks : (n : ℕ) → Asks (I.bytes n)
bytes_asks n at rest = ask_asks 1 (leb n (length rest)) (λ p r. I.got (at, take n rest) (at + n) (drop n rest)) tt (λ p r. tt) at rest

times_asks : {A : Type 0} (k : ℕ) (r : I.Reader A) → Asks r → Asks (I.times k r)
times_asks zero r h = λ at rest. tt
times_asks (suc k) r h = then_asks r _ h (λ a. then_asks (I.times k r) _ (times_asks k r h) (λ more at rest. tt))

text_asks : Asks I.text_constant
text_asks = then_asks I.word _ word_asks (λ n. then_asks (I.bytes n) _ (bytes_asks n) (λ p. ask_asks 5 (is_ascii p.1) _ tt (λ at rest. tt)))

boolean_asks : Asks I.boolean_constant
boolean_asks = then_asks I.byte _ byte_asks (λ b. ask_asks 4 (ltb b 2) _ tt (λ at rest. tt))

function_asks : (own count : ℕ) → Asks (I.function_constant own count)
function_asks own count = then_asks I.word _ word_asks (λ t. ask_asks 6 (ltb own t && ltb t count) _ tt (λ at rest. tt))

kind_asks : (own count kind : ℕ) → Asks (get_or (I.kinds own count) kind (I.refuse 3))
kind_asks own count zero = then_asks (I.wide 8 0) _ (wide_asks 8 0) (λ n at rest. tt)
kind_asks own count (suc zero) = text_asks
kind_asks own count (suc (suc zero)) = boolean_asks
kind_asks own count (suc (suc (suc zero))) = λ at rest. tt
kind_asks own count (suc (suc (suc (suc zero)))) = λ at rest. tt
kind_asks own count (suc (suc (suc (suc (suc zero))))) = function_asks own count
kind_asks own count (suc (suc (suc (suc (suc (suc kind)))))) = λ at rest. tt

constant_asks : (own count : ℕ) → Asks (I.constant own count)
constant_asks own count = then_asks I.byte _ byte_asks (kind_asks own count)

template_asks : (own count : ℕ) → Asks (I.template own count)
template_asks own count =
    then_asks I.word _ word_asks (λ parameters. then_asks I.word _ word_asks (λ locals. then_asks I.word _ word_asks (λ n.
    then_asks (I.times n (I.constant own count)) _ (times_asks n (I.constant own count) (constant_asks own count)) (λ constants.
    then_asks I.word _ word_asks (λ size. then_asks (I.bytes size) _ (bytes_asks size) (λ p at rest. tt))))))

templates_asks : (count own k : ℕ) → Asks (I.templates count own k)
templates_asks count own zero = λ at rest. tt
templates_asks count own (suc k) =
    then_asks (I.template own count) _ (template_asks own count) (λ t.
    then_asks (I.templates count (own + 1) k) _ (templates_asks count (own + 1) k) (λ more at rest. tt))

end_asks : {A : Type 0} (a : A) → Asks (I.at_end a)
end_asks a at [] = tt
end_asks a at (b ∷ rest) = tt

image_asks : Asks I.image
image_asks =
    then_asks I.word _ word_asks (λ count.
    then_asks (I.ask 2 (leb 1 count && leb count 256) (I.templates count 0 count)) _
    (ask_asks 2 (leb 1 count && leb count 256) (I.templates count 0 count) tt (templates_asks count 0 count)) (λ found. end_asks found))

-- The questions of a call, and what its act answers
abbrev Asked : Option ℕ → Type 0
Asked none = Unit {0}
Asked (some n) = IsSome n

asked : (n : ℕ) (b : Bool) (more : Option ℕ) → IsSome n → Asked more → Asked (H.ask n b more)
asked n true more h k = k
asked n false more h k = h

read_asked : (x : I.Read (List I.Template)) → Numbered x → Asked (H.refusal_read x)
read_asked (I.refused n) h = h
read_asked (I.got ts at rest) h = tt

questions_asked : (c : H.Call) (s : St.State) → Asked (H.questions c s)
questions_asked (H.load bs) s = read_asked (I.image (length s.code) bs) (image_asks (length s.code) bs)
questions_asked (H.register i t) s =
    let known = H.ask 32 (leb 1 t && ltb t (length (get_or s.images i []))) none in
    asked 10 (ltb i (length s.images)) known tt (asked 32 (leb 1 t && ltb t (length (get_or s.images i []))) none tt tt)
questions_asked (H.set_global n g) s =
    let handle = H.ask 30 (H.given_fine (St.bytes s) g) none in
    asked 29 (is_ascii n && H.bytes_fine g) handle tt (asked 30 (H.given_fine (St.bytes s) g) none tt tt)
questions_asked (H.read_global n) s = asked 29 (is_ascii n) none tt tt
questions_asked (H.run i) s = asked 10 (ltb i (length s.images)) none tt tt
questions_asked (H.text g n) s =
    let room = leb (length (H.given_text (St.bytes s) g)) n in
    let handle = H.given_fine (St.bytes s) g in
    asked 29 (H.bytes_fine g) (H.ask 30 handle (H.ask 31 room none)) tt (asked 30 handle (H.ask 31 room none) tt (asked 31 room none tt tt))
questions_asked (H.drain n) s = asked 31 (leb (length s.output) n) none tt tt
questions_asked H.clear s = tt

error_some : (e : E.JsVmError) → IsSome (E.error_number e)
error_some E.execution_limit_exceeded = tt
error_some (E.unknown_opcode b) = tt
error_some E.ip_out_of_bounds = tt
error_some E.stack_underflow = tt
error_some E.stack_overflow = tt
error_some (E.uncaught_exception v) = tt
error_some E.not_callable = tt
error_some E.invalid_function_id = tt
error_some E.no_call_frame = tt

question_some : (q : St.Store) → IsSome (St.question q)
question_some St.code_store = tt
question_some St.image_store = tt
question_some St.frame_store = tt
question_some St.slot_store = tt
question_some St.handler_store = tt
question_some St.function_store = tt
question_some St.object_store = tt
question_some St.property_store = tt
question_some St.global_store = tt
question_some St.text_store = tt
question_some St.output_store = tt

-- a program of one act does not finish a run
abbrev Goes : P.How → Type 0
Goes P.went = Unit {0}
Goes (P.ended (P.finished v)) = ⊥
Goes (P.ended (P.failed e)) = Unit {0}
Goes (P.refused q) = Unit {0}

answered_goes : (b : Bool) (a : Ac.Act) (s : St.State) (n : Ac.Need) (o : P.Outcome) → Goes o.how → Goes (P.answered b a s n o).how
answered_goes true a s n o h = h
answered_goes false a s n o h = tt

asking_goes : (a : Ac.Act) (s : St.State) (ns : List Ac.Need) (o : P.Outcome) → Goes o.how → Goes (P.asking a s ns o).how
asking_goes a s [] o h = h
asking_goes a s (n ∷ ns) o h = answered_goes (P.fits s n) a s n (P.asking a s ns o) (asking_goes a s ns o h)

error_goes : (e : Option E.JsVmError) (s : St.State) (o : P.Outcome) → Goes o.how → Goes (P.unless_error e s o).how
error_goes (some e) s o h = tt
error_goes none s o h = h

act_goes : (a : Ac.Act) (s : St.State) → Goes (P.exec (P.make a P.next) s).how
act_goes a s = error_goes (Ac.error a s) s _ (asking_goes a s (Ac.needs a s) _ tt)

makes_goes : (c : H.Call) (s : St.State) → Goes (P.exec (H.makes c) s).how
makes_goes (H.load bs) s = act_goes (Ac.load bs) s
makes_goes (H.register i t) s = act_goes (Ac.add_function i t) s
makes_goes (H.set_global n g) s = act_goes (Ac.put_global n g) s
makes_goes (H.read_global n) s = tt
makes_goes (H.run i) s = act_goes (Ac.push_frame i 0 []) s
makes_goes (H.text g n) s = tt
makes_goes (H.drain n) s = act_goes Ac.empty_output s
makes_goes H.clear s = tt

abbrev pub Told : H.Answer → Type 0
Told (H.refusal n) = IsSome n
Told (H.numbered n) = Unit {0}
Told H.done = Unit {0}
Told (H.valued v) = Unit {0}
Told (H.ran e n) = Unit {0}
Told (H.wrote bs) = Unit {0}

accepted_told : (c : H.Call) (s : St.State) (o : P.Outcome) → Told (H.accepted c s o).answer
accepted_told (H.load bs) s o = tt
accepted_told (H.register i t) s o = tt
accepted_told (H.set_global n g) s o = tt
accepted_told (H.read_global n) s o = tt
accepted_told (H.run i) s o = tt
accepted_told (H.text g n) s o = tt
accepted_told (H.drain n) s o = tt
accepted_told H.clear s o = tt

settled_told : (h : P.How) (c : H.Call) (s : St.State) (o : P.Outcome) → Goes h → Told (H.settled_call h c s o).answer
settled_told P.went c s o g = accepted_told c s o
settled_told (P.ended (P.finished v)) c s o g = absurd g
settled_told (P.ended (P.failed e)) c s o g = error_some e
settled_told (P.refused q) c s o g = question_some q

performed_told : (q : Option ℕ) (c : H.Call) (s : St.State) → Asked q → Told (H.performed q c s).answer
performed_told (some n) c s h = h
performed_told none c s h = settled_told (P.exec (H.makes c) s).how c s (P.exec (H.makes c) s) (makes_goes c s)

pub never_0 : (b : Bool) (c : H.Call) (s : St.State) → (H.perform_on b c s).answer ≡ H.refusal 0 → ⊥
never_0 true c s e = subst Told e (performed_told (H.questions c s) c s (questions_asked c s))
never_0 false c s e = subst Told e tt
