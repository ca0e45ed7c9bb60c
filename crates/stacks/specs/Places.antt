-- Where a slot of the newest frame stands. Assumes nothing.
use Rattle.stacks.specs.Layout.{slots_at, frames_at, stack_words}
use Rattle.std.specs.Prelude.{ℕ, ◌+◌, ◌-◌, ◌*◌, ◌<◌, List, ◌≡◌, refl, length, Option, Some, None, Ok}
use Rattle.std.proofs.Common.{arith, ap, ◌∙◌}
use Rattle.machine.specs.Value as M
use Rattle.machine.specs.Act as A
use Rattle.value.specs.Words.{value_at, Holds}
use Rattle.stacks.specs.declared.Depths.{Depths}
use Rattle.stacks.specs.declared.Frame.{Frame}
use Rattle.stacks.specs.View
use Rattle.stacks.specs.Cuts.{slot_at}
use Rattle.stacks.specs.Slots.{put_holds, store_holds}

-- slot i of a frame f, the newest, at place k
pub record Spot (d : Depths) (w : List ℕ) (i k : ℕ) : Type 0 where
  pub frame : Frame
  pub stands : d.frames ≡ 0 → ⊥
  pub newest : View.frame_of frame ≡ View.frame_at w (frames_at + 5 * (d.frames - 1))
  pub counted : i < frame.count
  pub inside : frame.base + i < d.slots
  pub place : k ≡ slots_at + 3 * (frame.base + i)

abbrev pub StandsAt : Depths → List ℕ → ℕ → Option ℕ → Type 0
StandsAt d w i (Some k) = Spot d w i k
StandsAt d w i None = M.undefined ≡ View.slot_of d w i

pub record Stands (d : Depths) (w : List ℕ) (i : ℕ) (r : Option ℕ) : Type 0 where
  pub place : StandsAt d w i r

module _ {d : Depths} {w : List ℕ} {i k : ℕ} (good : View.Ready d w) (s : Spot d w i k) where
  pub spot_within : k + 2 < stack_words
  spot_within = omega (arith, s.inside, s.place, good.slots)

  -- what is read there is the slot's value
  pub spot_read : value_at w k ≡ View.slot_of d w i
  spot_read = ap (value_at w) s.place ∙ slot_holds
    where
      slot_holds : value_at w (slots_at + 3 * (s.frame.base + i)) ≡ View.slot_of d w i
      slot_holds = slot_at d w good i s.frame s.stands s.newest (value_at w (slots_at + 3 * (s.frame.base + i))) s.counted s.inside refl

  -- what is put there is stored into the slot
  pub spot_store : (v : M.Value) (w' : List ℕ) → Holds w w' k v → length w' ≡ length w → View.Makes (A.store i v) d w (Ok d) w'
  spot_store v w' h l = store_holds d w good i v s.frame (i + 1 - s.frame.count) s.stands s.newest refl w' s.counted s.inside
      (put_holds w w' d.slots (s.frame.base + i) v s.inside good.slots (rw s.place at h)) l
