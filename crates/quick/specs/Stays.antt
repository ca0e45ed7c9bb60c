-- An instruction that stays in its frame: the newest frame's row and its slots are where they were. Assumes nothing.
use Rattle.std.specs.Prelude.{ℕ, ◌+◌, ◌-◌, ◌*◌, ◌≤◌, ◌<◌, List, ◌≡◌, get_or, Option, Some, None}
use Rattle.std.proofs.Common.{arith, ◌∙◌}
use Rattle.std.proofs.Math.Path.{refl, sym, ap}
use Rattle.machine.specs.State as St
use Rattle.value.specs.Arena.{Same, Apart, apart_below, apart_above}
use Rattle.stacks.specs.Layout.{slots_at, frames_at, handlers_at}
use Rattle.stacks.specs.Laws.{with_ip, with_operands}
use Rattle.stacks.specs.Places.{Spot}
use Rattle.stacks.specs.View
use Rattle.stacks.specs.declared.Depths.{Depths}
use Rattle.stacks.specs.declared.Frame.{Frame}
use Rattle.fetch.specs.declared.Running.{Running}
use Rattle.fetch.specs.Running.{Runs}
use Rattle.quick.specs.declared.Here.{Here}

-- from the stacks d, w to e, w': as many frames and slots, and every frame's row as it was
pub record Kept (d : Depths) (w : List ℕ) (e : Depths) (w' : List ℕ) : Type 0 where
  pub frames : e.frames ≡ d.frames
  pub slots : e.slots ≡ d.slots
  pub rows : Same w w' frames_at handlers_at

abbrev pub StaysTold : Depths → List ℕ → Option Depths → List ℕ → Type 0
StaysTold d w (Some e) w' = Kept d w e w'
StaysTold d w None w' = Unit {0}

pub record Stays (d : Depths) (w : List ℕ) (q : Option Depths) (w' : List ℕ) : Type 0 where
  pub told : StaysTold d w q w'

pub stays_left : {d : Depths} {w w' : List ℕ} → Stays d w None w'
stays_left = record { told = tt }

pub kept_trans : {d e f : Depths} {w w₁ w' : List ℕ} → Kept d w e w₁ → Kept e w₁ f w' → Kept d w f w'
kept_trans a b = record { frames = b.frames ∙ a.frames; slots = b.slots ∙ a.slots; rows = λ j p q. b.rows j p q ∙ a.rows j p q }

-- whatever becomes of the operands, the handlers and the place
abbrev pub within : ℕ → ℕ → ℕ → Depths → Depths
within n h p d = record { operands = n; slots = d.slots; frames = d.frames; handlers = h; ip = p }

pub kept_within : {n h p : ℕ} {d e : Depths} {w w' : List ℕ} → e ≡ within n h p d → Same w w' frames_at handlers_at → Kept d w e w'
kept_within z s = record { frames = ap (λ (y : Depths). y.frames) z; slots = ap (λ (y : Depths). y.slots) z; rows = s }

pub kept_ip : {p : ℕ} {d e : Depths} {w : List ℕ} → e ≡ with_ip p d → Kept d w e w
kept_ip z = kept_within z (λ j p q. refl)

pub kept_operands : {n : ℕ} {d e : Depths} {w : List ℕ} → e ≡ with_operands n d → Kept d w e w
kept_operands z = kept_within z (λ j p q. refl)

stays_told : {d e : Depths} {w w₁ : List ℕ} (w' : List ℕ) (q : Option Depths) → Kept d w e w₁ → StaysTold e w₁ q w' → StaysTold d w q w'
stays_told w' (Some f) a t = kept_trans a t
stays_told w' None a t = tt

-- what goes on from there, and stays
pub stays_from : {d e : Depths} {w w₁ w' : List ℕ} {q : Option Depths} → Kept d w e w₁ → Stays e w₁ q w' → Stays d w q w'
stays_from {w' = w'} {q = q} a t = record { told = stays_told w' q a t.told }

pub stays_went : {d e : Depths} {w w' : List ℕ} → Kept d w e w' → Stays d w (Some e) w'
stays_went k = record { told = k }

-- a write below the frames, and one above them
pub below_frames : {w w' : List ℕ} {lo hi : ℕ} → Apart w w' lo hi → hi ≤ frames_at → Same w w' frames_at handlers_at
below_frames a l = apart_above a frames_at handlers_at l

pub above_frames : {w w' : List ℕ} {lo hi : ℕ} → Apart w w' lo hi → handlers_at ≤ lo → Same w w' frames_at handlers_at
above_frames a l = apart_below a frames_at handlers_at l

-- The newest frame

abbrev pub row_at : Depths → ℕ
row_at d = frames_at + 5 * (d.frames - 1)

abbrev pub base_in : Depths → List ℕ → ℕ
base_in d w = get_or w (row_at d + 3) 0

abbrev pub count_in : Depths → List ℕ → ℕ
count_in d w = get_or w (row_at d + 4) 0

-- y says where it stands; its slots are the newest
pub record InFrame (x : Running) (y : Here) (d : Depths) (w : List ℕ) : Type 0 where
  pub runs : Runs x d w
  pub slots : y.slots ≡ slots_at + 3 * base_in d w
  pub count : y.count ≡ count_in d w
  pub full : base_in d w + y.count ≡ d.slots
  pub last : y.last ≡ x.shape.size - 2

abbrev pub StandsTold : Running → Depths → List ℕ → Option Here → Type 0
StandsTold x d w (Some y) = InFrame x y d w
StandsTold x d w None = Unit {0}

pub record Stands (x : Running) (d : Depths) (w : List ℕ) (r : Option Here) : Type 0 where
  pub told : StandsTold x d w r

module _ {x : Running} (d : Depths) {w : List ℕ} (f : Frame) (z : d.frames ≡ 0 → ⊥) (e : View.frame_of f ≡ View.frame_at w (row_at d)) where
  pub stands_here : f.image ≡ x.image → f.template ≡ x.template → f.base ≤ d.slots → {n : ℕ} → n ≡ d.slots - f.base → f.count ≡ n → {l : ℕ} → l ≡ x.shape.size - 2
      → Stands x d w (Some (record { slots = slots_at + 3 * f.base; count = n; last = l }))
  unfolding View.frame_at
  stands_here i t b n c l =
      let base : f.base ≡ base_in d w = ap (λ (y : St.Frame). y.base) e in
      record {
        told = record {
          runs = record { stands = z; image = sym (ap (λ (y : St.Frame). y.image) e) ∙ i; template = sym (ap (λ (y : St.Frame). y.template) e) ∙ t };
          slots = ap (λ (n : ℕ). slots_at + 3 * n) base;
          count = sym c ∙ ap (λ (y : St.Frame). y.count) e;
          full = omega (arith, base, b, n);
          last = l;
        };
      }

pub stood : {x : Running} {y : Here} {d : Depths} {w : List ℕ} {r : Option Here} → Stands x d w r → r ≡ Some y → InFrame x y d w
stood s e = rw e at s.told

-- it stands there after an instruction that stays
module _ {x : Running} {y : Here} {d : Depths} {w : List ℕ} (f : InFrame x y d w) (good : View.Ready d w) where
  word_kept : {e : Depths} {w' : List ℕ} → Kept d w e w' → (j : ℕ) → j < 5 → get_or w' (row_at e + j) 0 ≡ get_or w (row_at d + j) 0
  word_kept {e} {w'} k j l =
      ap (λ (n : ℕ). get_or w' (frames_at + 5 * (n - 1) + j) 0) k.frames
      ∙ k.rows (row_at d + j) (omega arith) (let z = f.runs.stands in omega (arith, good.frames, z))

  pub frame_kept : {e : Depths} {w' : List ℕ} → Kept d w e w' → InFrame x y e w'
  frame_kept {e} {w'} k =
      let b : base_in e w' ≡ base_in d w = word_kept k 3 (omega arith) in
      record {
        runs = record {
          stands = λ z. f.runs.stands (sym k.frames ∙ z);
          image = first e w' k ∙ f.runs.image;
          template = word_kept k 1 (omega arith) ∙ f.runs.template;
        };
        slots = f.slots ∙ ap (λ (z : ℕ). slots_at + 3 * z) (sym b);
        count = f.count ∙ sym (word_kept k 4 (omega arith));
        full = ap (λ (z : ℕ). z + y.count) b ∙ f.full ∙ sym k.slots;
        last = f.last;
      }
    where
      first : (e : Depths) (w' : List ℕ) → Kept d w e w' → get_or w' (row_at e) 0 ≡ get_or w (row_at d) 0
      first e w' k =
          let a : row_at e + 0 ≡ row_at e = omega arith in
          let b : row_at d + 0 ≡ row_at d = omega arith in
          ap (λ (z : ℕ). get_or w' z 0) (sym a) ∙ word_kept k 0 (omega arith) ∙ ap (λ (z : ℕ). get_or w z 0) b

  pub frame_stays : {e : Depths} {w' : List ℕ} {q : Option Depths} → Stays d w q w' → q ≡ Some e → InFrame x y e w'
  frame_stays s g = frame_kept (rw g at s.told)

  -- slot i of the frame
  abbrev pub frame_row : Frame
  frame_row = record { image = get_or w (row_at d) 0; template = get_or w (row_at d + 1) 0; ip = get_or w (row_at d + 2) 0; base = base_in d w; count = count_in d w }

  pub frame_row_is : View.frame_of frame_row ≡ View.frame_at w (row_at d)
  unfolding View.frame_at
  frame_row_is = refl

  pub frame_spot : (i : ℕ) → i < y.count → Spot d w i (y.slots + 3 * i)
  frame_spot i l = record {
    frame = frame_row;
    stands = f.runs.stands;
    newest = frame_row_is;
    counted = omega (arith, l, f.count);
    inside = omega (arith, l, f.full);
    place = omega (arith, f.slots);
  }
