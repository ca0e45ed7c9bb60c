-- Document 01's number of each refusal, its text, and what a question promises. Assumes nothing.
use Rattle.std.specs.Prelude.{◌≡◌, Bool, true, false, ℕ, List, codes, Result, MatchResult}
use Rattle.value.specs.Errors.{stop_number, stop_text}
use Rattle.image.specs.Errors.{asked}
use Rattle.image.specs.Errors as LoadErrors
use Rattle.host.specs.declared.refusal.Refusal.{Refusal}
use Rattle.host.specs.declared.refusal.Refusal.TheVariants.{StoreSizes, NotAscii, Handle, BufferTooShort, NoImage, NoTemplate, Load, Stopped}

abbrev pub number_of : Refusal → ℕ
number_of StoreSizes = 33
number_of NotAscii = 29
number_of Handle = 30
number_of BufferTooShort = 31
number_of NoImage = 10
number_of NoTemplate = 32
number_of (Load e) = asked e
number_of (Stopped s) = stop_number s

abbrev pub text_of : Refusal → List ℕ
text_of StoreSizes = codes "a store has another size than the listed one"
text_of NotAscii = codes "a name or a text has a byte above 127"
text_of Handle = codes "a text handle is not inside the bytes in use"
text_of BufferTooShort = codes "the buffer is too short"
text_of NoImage = codes "no such image is loaded"
text_of NoTemplate = codes "the image has no such template"
text_of (Load e) = LoadErrors.text_of e
text_of (Stopped s) = stop_text s

-- A question that asks for a test: it goes on, or this is the refusal.
abbrev pub Asks : Result (Unit {0}) Refusal → Bool → Refusal → Type 0
Asks r test q = MatchResult r (λ _. test ≡ true) (λ e. (test ≡ false) × (e ≡ q))
