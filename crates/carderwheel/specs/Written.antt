-- Change 2 of document 02, of the exported calls: the loader on an image that calls of the image writer wrote. Assumes nothing.
use Rattle.std.specs.Prelude.{◌≡◌, Bool, true, List, [], ◌∷◌, ◌++◌, map, ℕ, ◌≤◌, length}
use Rattle.std.proofs.Common.{sym, ap, ◌∙◌, subst}
use Rattle.std.proofs.Math.Option.{none}
use Rattle.machine.specs.State as St
use Rattle.machine.specs.Act.{need}
use Rattle.machine.specs.Program.{fits}
use Rattle.machine.specs.Host as H
use Rattle.machine.specs.Demand3.{All}
use Rattle.machine.specs.Format.{judge, placed, template_in}
use Rattle.machine.specs.Writer as W
use Rattle.machine.proofs.Loads.{load_answer}
use Rattle.machine.proofs.Writes.{Given}
use Rattle.machine.proofs.Writer.{writer_load, writer_reads}
use Rattle.heapops.specs.declared.Counts.{Counts}
use Rattle.heapops.specs.Turns.{Mem}
use Rattle.finish.specs.Parts.{Tables}
use Rattle.run.specs.Runs.{state_in}
use Rattle.host.specs.Calls.{lent, Stands, Called}
use Rattle.writer.specs.declared.Writer.{Writer}
use Rattle.writer.specs.View.{session_of}
use Rattle.writer.specs.Promise.{Made, added_by, begun_holds, image_of}

module _ {w y : Writer} {b b' : List ℕ} {cs : List W.Call} (made : Made w b (W.begin ∷ cs) y b') (two : 2 ≤ length b) (given : All Given cs)
    {c c' : Counts} {g g' : Tables} {m m' : Mem} {a : H.Answer} (call : Called (H.load (image_of y b')) c g m a c' g' m') (stands : lent c g m ≡ true → Stands c g) where
  abbrev image : List ℕ
  image = image_of y b'

  abbrev before : St.State
  before = state_in c g m

  abbrev after : St.State
  after = state_in c' g' m'

  abbrev has_code : Bool
  has_code = fits before (need St.code_store (length image))

  abbrev has_image : Bool
  has_image = fits before (need St.image_store 1)

  -- ACCEPTED EXACTLY when 33, 2 to 6, 8 and 9 are answered yes.
  pub written_loads : a ≡ load_answer (lent c g m) (judge (added_by w b cs)) has_code has_image (length before.images)
  written_loads = sym (call.machine stands).0 ∙ writer_load (session_of y b') (added_by w b cs) (begun_holds made two given) before (lent c g m)

  -- .. AND THEN IT READS THE SAME TEMPLATES: parameters, locals, constants with texts as bytes, code as bytes.
  pub written_reads : lent c g m ≡ true → judge (added_by w b cs) ≡ none → has_code ≡ true → has_image ≡ true
      → (after.images ≡ before.images ++ placed (length before.code) (added_by w b cs) ∷ [])
      × (map (template_in (St.bytes after)) (placed (length before.code) (added_by w b cs)) ≡ added_by w b cs)
  written_reads l j k i =
      let e : (H.perform (H.load image) before).after ≡ after = ap (λ (t : Bool). (H.perform_on t (H.load image) before).after) (sym l) ∙ (call.machine stands).1 in
      subst (λ (s : St.State). (s.images ≡ before.images ++ placed (length before.code) (added_by w b cs) ∷ []) × (map (template_in (St.bytes s)) (placed (length before.code) (added_by w b cs)) ≡ added_by w b cs))
      e (writer_reads (session_of y b') (added_by w b cs) (begun_holds made two given) before j k i)
