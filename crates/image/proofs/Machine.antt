-- The load of this crate is the machine's: on the state that the stores show, its answer and what it leaves. Assumes nothing.
use mathlib.Core.Path.{◌≡◌, refl, sym, ap, ◌∙◌}
use mathlib.Core.Bool.{Bool, true, false}
use mathlib.Core.Option.{none, some}
use mathlib.Core.List.{List, [], ◌∷◌, ◌++◌}
use Rattle.std.specs.Prelude.{Ok, Err}
use Prim.Native.Nat.{ℕ, ◌+◌}
use native.Mathlib.Omega.{arith}
use lib.Dec.{leb}
use lib.ListN.{length, take, get_or, get_or-append}
use lib.Seq.{length-take-le}
use Rattle.machine.specs.Image as I
use Rattle.machine.specs.Image.{Template, Read, refused, got}
use Rattle.machine.specs.State.{State, limit, code_store, image_store}
use Rattle.machine.specs.Act.{templates_read}
use Rattle.machine.specs.Fields.{set_code, set_images}
use Rattle.machine.specs.Host.{refusal_read}
use Rattle.machine.specs.Host as H
use Rattle.machine.specs.Host.{perform, refusal, numbered}
use Rattle.image.specs.View.{images_of, image_at}
use Rattle.image.specs.Errors.{asked}
use Rattle.image.specs.Load.{Stores, listed, unless, or_else, space_refusal, load_refusal, images, shown, Sound, Loaded, Loads, Appends, AppendSays, Fitting}
use Rattle.image.specs.declared.ImageCounts.{ImageCounts}
use Rattle.image.specs.declared.error.LoadError.{LoadError}
use Rattle.image.proofs.Lists.{list_length}

-- What the machine's load does, by its answers.
refused_by : (s : State) (bs : List ℕ) (x : Read (List Template)) (b d : Bool) (q : ℕ)
    → I.image (length s.code) bs ≡ x → leb (length s.code + length bs) (limit code_store) ≡ b → leb (length s.images + 1) (limit image_store) ≡ d
    → or_else (refusal_read x) (or_else (unless b 8) (unless d 9)) ≡ some q
    → ((perform (H.load bs) s).answer ≡ refusal q) × ((perform (H.load bs) s).after ≡ s)
refused_by s bs (refused p) b d q e f g h = let z : p ≡ q = cc in rw (e, z) (refl, refl)
refused_by s bs (got ts p r) false d q e f g h = let z : 8 ≡ q = cc in rw (e, f, ← z) (refl, refl)
refused_by s bs (got ts p r) true false q e f g h = let z : 9 ≡ q = cc in rw (e, f, g, ← z) (refl, refl)
refused_by s bs (got ts p r) true true q e f g h = let z : ◌≡◌ {A = ℕ} 0 1 = cc in absurd (omega arith)

accepted_by : (s : State) (bs : List ℕ) (x : Read (List Template)) (b d : Bool)
    → I.image (length s.code) bs ≡ x → leb (length s.code + length bs) (limit code_store) ≡ b → leb (length s.images + 1) (limit image_store) ≡ d
    → or_else (refusal_read x) (or_else (unless b 8) (unless d 9)) ≡ none
    → ((perform (H.load bs) s).answer ≡ numbered (length s.images))
    × ((perform (H.load bs) s).after ≡ set_code (s.code ++ bs) (set_images (s.images ++ (templates_read x ∷ [])) s))
accepted_by s bs (refused p) b d e f g h = let z : ◌≡◌ {A = ℕ} 0 1 = cc in absurd (omega arith)
accepted_by s bs (got ts p r) false d e f g h = let z : ◌≡◌ {A = ℕ} 0 1 = cc in absurd (omega arith)
accepted_by s bs (got ts p r) true false e f g h = let z : ◌≡◌ {A = ℕ} 0 1 = cc in absurd (omega arith)
accepted_by s bs (got ts p r) true true e f g h =
    rw (e, f, g) (refl, ap (λ (y : Read (List Template)). set_code (s.code ++ bs) (set_images (s.images ++ (templates_read y ∷ [])) s)) e)

images_length : (x : Stores) (n : ℕ) → length (images x n) ≡ n
unfolding images_of
images_length x n = list_length (λ i. image_at x.code x.places x.rows (get_or x.starts i 0)) n

module _ (x : Stores) (c : ImageCounts) (bs : List ℕ) (sound : Sound x c) (s : State) where
  code_length : length (take c.code x.code) ≡ c.code
  code_length = length-take-le c.code x.code sound.inside

  machine_refused : (q : ℕ) → load_refusal true c bs ≡ some q
      → ((perform (H.load bs) (shown x c s)).answer ≡ refusal q) × ((perform (H.load bs) (shown x c s)).after ≡ shown x c s)
  machine_refused q h =
      let t = shown x c s in
      refused_by t bs (I.image (length t.code) bs) (leb (length t.code + length bs) (limit code_store)) (leb (length t.images + 1) (limit image_store)) q refl refl refl
      (rw (code_length, images_length x c.images) h)

  machine_done : (y : Stores) (d : ImageCounts) → load_refusal true c bs ≡ none → Appends x y c bs d
      → ((perform (H.load bs) (shown x c s)).answer ≡ numbered c.images) × ((perform (H.load bs) (shown x c s)).after ≡ shown y d s)
  machine_done y d h a =
      let t = shown x c s in
      let g = accepted_by t bs (I.image (length t.code) bs) (leb (length t.code + length bs) (limit code_store)) (leb (length t.images + 1) (limit image_store)) refl refl refl
      (rw (code_length, images_length x c.images) h) in
      (g.0 ∙ ap numbered (images_length x c.images), g.1 ∙ rw (code_length, ← a.code, ← a.view sound))

-- The contract, for each way that load ends.
module _ (x : Stores) (c : ImageCounts) (bs : List ℕ) where
  pub loads_refused : (r : LoadError) → listed x ≡ true → load_refusal true c bs ≡ some (asked r) → Loads x x c bs (Err r)
  loads_refused r e h = record {
    asked = rw e (sym h);
    leaves = refl;
    sound = λ w. w;
    machine = λ _ w s. machine_refused x c bs w s (asked r) h;
    older = λ w i l. refl;
  }

  pub image_refused : (q : ℕ) → I.image c.code bs ≡ refused q → load_refusal true c bs ≡ some q
  image_refused q e = rw e

  pub space_refused : (q : ℕ) → refusal_read (I.image c.code bs) ≡ none → space_refusal c (length bs) ≡ some q → load_refusal true c bs ≡ some q
  space_refused q e f = rw (e, f)

  pub loads_done : (y : Stores) (r : Loaded) → Fitting x c bs → AppendSays x y c bs r → Loads x y c bs r
  loads_done y (Err e) f a = absurd a
  loads_done y (Ok p) f a =
      let n : load_refusal true c bs ≡ none = rw (f.good, f.room) in
      record {
        asked = rw f.sized (sym n);
        leaves = a;
        sound = λ w. a.1.sound w;
        machine = λ _ w s. rw a.0 (machine_done x c bs w s y p.1 n a.1);
        older = λ w i l. rw (a.1.view w) (get_or-append (images x c.images) _ [] i (rw (images_length x c.images) l));
      }
