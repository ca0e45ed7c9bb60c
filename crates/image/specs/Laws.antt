-- For the crates above: the invariant of a fresh engine, and what a lookup's promise says of the machine's state. Assumes nothing.
use Rattle.std.specs.Prelude.{◌≡◌, refl, [], ℕ, get_or}
use Rattle.std.proofs.Common.{arith}
use Rattle.machine.specs.State.{State, template_of, no_template}
use Rattle.image.specs.View.{images_of}
use Rattle.image.specs.Load.{Stores, images, shown, Sound}
use Rattle.image.specs.declared.ImageCounts.{ImageCounts}

-- Nothing is in use, whatever the stores hold.
pub fresh_sound : (x : Stores) → Sound x (record { code = 0; images = 0 })
unfolding images_of
fresh_sound x = record { inside = omega arith; steady = λ y a. refl }

-- `template_at` and `load_const` promise of `images x n` what the machine reads here.
pub looked_up : (x : Stores) (c : ImageCounts) (s : State) (i t : ℕ)
    → template_of (shown x c s) i t ≡ get_or (get_or (images x c.images) i []) t no_template
looked_up x c s i t = refl
