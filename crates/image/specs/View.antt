-- How the lent stores hold the machine's images. A store is read with 0 past its end, so the view is a function of the stores alone: no fact
-- about them is needed to state it, or to look a template or a constant up. Assumes nothing.
use Rattle.std.specs.Prelude.{◌≡◌, List, [], ◌∷◌, ◌++◌, ℕ, zero, suc, ◌+◌, ◌*◌, ◌<◌, eqb, get_or}
use Rattle.machine.specs.Value.{in_code}
use Rattle.machine.specs.Image.{Constant, Template}

-- f 0, f 1, .. f (n - 1)
abbrev pub list : {A : Type 0} → (ℕ → A) → ℕ → List A
list f zero = []
list f (suc n) = list f n ++ (f n ∷ [])

-- Two bytes of the code, and k bytes that follow the worth of those before them.
abbrev pub word_at : List ℕ → ℕ → ℕ
word_at s p = get_or s p 0 * 256 + get_or s (p + 1) 0

abbrev pub wide_at : List ℕ → ℕ → ℕ → ℕ → ℕ
wide_at s zero n p = n
wide_at s (suc k) n p = wide_at s k (n * 256 + get_or s p 0) (p + 1)

-- The constant of kind k that stands at place p of the code.
abbrev pub constant_by : List ℕ → ℕ → ℕ → Constant
constant_by s p k = get_or (Constant.number (wide_at s 8 0 (p + 1)) ∷ Constant.text (record { store = in_code; at = p + 3; size = word_at s (p + 1) })
    ∷ Constant.boolean (eqb (get_or s (p + 1) 0) 1) ∷ Constant.null ∷ Constant.undefined ∷ Constant.function (word_at s (p + 1)) ∷ []) k Constant.undefined

-- Its kind is the byte there.
unfoldable pub constant_at : List ℕ → ℕ → Constant
constant_at s p = constant_by s p (get_or s p 0)

-- The n constants whose places stand from entry c on.
unfoldable pub constants_of : List ℕ → List ℕ → ℕ → ℕ → List Constant
constants_of s places c n = list (λ k. constant_at s (get_or places (c + k) 0)) n

-- A template's row: parameters, locals, the first constant's entry, the count of constants, the code's place and its size.
unfoldable pub template_at : List ℕ → List ℕ → List ℕ → ℕ → Template
template_at s places rows r = record {
  parameters = get_or rows r 0;
  locals = get_or rows (r + 1) 0;
  constants = constants_of s places (get_or rows (r + 2) 0) (get_or rows (r + 3) 0);
  at = get_or rows (r + 4) 0;
  size = get_or rows (r + 5) 0;
}

-- n rows, 8 entries apart, as a template has at least 8 bytes.
unfoldable pub templates_at : List ℕ → List ℕ → List ℕ → ℕ → ℕ → List Template
templates_at s places rows r n = list (λ t. template_at s places rows (r + 8 * t)) n

-- The image that starts at byte b of the code store: its count of templates is at entry b, its rows start at b + 2.
unfoldable pub image_at : List ℕ → List ℕ → List ℕ → ℕ → List Template
image_at s places rows b = templates_at s places rows (b + 2) (get_or rows b 0)

unfoldable pub images_of : List ℕ → List ℕ → List ℕ → List ℕ → ℕ → List (List Template)
images_of s places rows starts n = list (λ i. image_at s places rows (get_or starts i 0)) n

-- ys has what xs has below m.
pub record Same (m : ℕ) (xs ys : List ℕ) : Type 0 where
  pub same : (j : ℕ) → j < m → get_or ys j 0 ≡ get_or xs j 0

-- bs is nine bytes of the code, from place p on.
pub record Window (code : List ℕ) (p : ℕ) (bs : List ℕ) : Type 0 where
  pub same : (j : ℕ) → j < 9 → get_or bs j 0 ≡ get_or code (p + j) 0
