-- THE PROMISE of change 3 for the code: a text that comes in parts, each call as its contract says. Assumes nothing.
use Rattle.std.specs.Prelude.{◌≡◌, ℕ, List, [], ◌∷◌, refl}
use Rattle.std.proofs.Common.{sym, ap, ◌∙◌, subst}
use Rattle.machine.specs.Number as N
use Rattle.machine.specs.Reading as R
use Rattle.machine.proofs.Reading.{one_pass, resume_append, restore_save, Small, small}
use Rattle.number.specs.declared.parse.Reading.{Reading}
use Rattle.number.specs.declared.parse.Saved.{Saved}
use Rattle.number.specs.Parse.{reading_of, saved_of}

-- From a reading, the parts, to a reading: `resume` with each part; between them, `Saved::from` and `Reading::from` as often as one likes.
pub data Reads : Reading → List (List ℕ) → Reading → Type 0 where
  done : {r : Reading} → Reads r [] r
  part : {r s z : Reading} {bs : List ℕ} {l : List (List ℕ)} → reading_of s ≡ R.resume (reading_of r) bs → Reads s l z → Reads r (bs ∷ l) z
  kept : {r s z : Reading} {p : Saved} {l : List (List ℕ)} → saved_of p ≡ R.save (reading_of r) → reading_of s ≡ R.restore (saved_of p) → Reads s l z → Reads r l z

reads_joined : {r z : Reading} {l : List (List ℕ)} → Reads r l z → reading_of z ≡ R.resume (reading_of r) (R.joined l)
reads_joined done = refl
reads_joined (part {r} {s} {z} {bs} {l} e m) =
    reads_joined m ∙ ap (λ (x : R.Reading). R.resume x (R.joined l)) e ∙ sym (resume_append (reading_of r) bs (R.joined l))
reads_joined (kept {r} {s} {z} {p} {l} e f m) =
    reads_joined m ∙ ap (λ (x : R.Reading). R.resume x (R.joined l)) (f ∙ ap R.restore e ∙ restore_save (reading_of r))

module _ {r z : Reading} {l : List (List ℕ)} (begun : reading_of r ≡ R.start) (m : Reads r l z) where
  from_start : reading_of z ≡ R.resume R.start (R.joined l)
  from_start = reads_joined m ∙ ap (λ (x : R.Reading). R.resume x (R.joined l)) begun

  -- What `finish` answers (x) is the number of the whole text ..
  pub parts_finish : (x : ℕ) → x ≡ R.finish (reading_of z) → x ≡ N.parse_js_number (R.joined l)
  parts_finish x e = e ∙ ap R.finish from_start ∙ one_pass (R.joined l)

  -- .. and what `Saved::from` gives then is three numbers of 64 bits.
  pub parts_save : (p : Saved) → saved_of p ≡ R.save (reading_of z) → Small (saved_of p)
  parts_save p e = subst Small (sym (e ∙ ap R.save from_start)) (small (R.joined l))
