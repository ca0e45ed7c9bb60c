-- The laws of a run: its own frame, and then the machine's steps. Assumes nothing.
use Rattle.std.specs.Prelude.{ℕ, ◌≤◌, Bool, true, false, List, [], ◌≡◌, refl, ltb, length, Result, Ok, Err}
use Rattle.std.proofs.Math.Option.{none}
use Rattle.std.proofs.Common.{sym, ap, subst, ◌∙◌}
use Rattle.machine.specs.State as St
use Rattle.machine.specs.Fields as Fi
use Rattle.machine.specs.State.{limit, code_store, image_store}
use Rattle.machine.specs.Act as A
use Rattle.machine.specs.Program.{next, make}
use Rattle.machine.specs.Out.{went, out, out_next}
use Rattle.machine.specs.Run as R
use Rattle.machine.specs.Host as H
use Rattle.machine.proofs.Unique.{Unique, unique_begun}
use Rattle.value.specs.Errors.{error_of, space_of}
use Rattle.value.specs.Lists.{bytes_of, row_length, stack_length}
use Rattle.stacks.specs.Laws.{top_length}
use Rattle.stacks.specs.View as Stacks
use Rattle.stacks.specs.declared.Depths.{Depths}
use Rattle.image.specs.View.{images_of}
use Rattle.image.specs.Load.{Sound}
use Rattle.image.specs.declared.ImageCounts.{ImageCounts}
use Rattle.heapops.specs.declared.Counts.{Counts}
use Rattle.heapops.specs.Turns.{Mem, below, state_of, with_depths}
use Rattle.finish.specs.Parts.{Tables, with_stacks}
use Rattle.run.specs.Bounds.{went_bounded}
use Rattle.run.specs.Runs.{Told, run_of, run_is, Whole, ground_of, state_in, ran_of, result_of, Leaves}
use Rattle.run.specs.declared.Ran.{Ran}
use Rattle.host.specs.Calls.{lent, stores_of, image_counts, Called}
use Rattle.host.specs.Lent.{Lent, lent_by, lent_lengths, lent_within, whole_lent}
use Rattle.value.specs.Errors.{stop_number}
use Rattle.host.specs.Performs.{Comes, comes_failed, comes_went, called_no, called_full, called_refused, called_sure}
use Rattle.value.specs.declared.Stop.{Stop}
use Rattle.value.specs.declared.Stop.TheVariants.{Failed, Refused}

limit_is : R.step_limit ≡ R.max_steps
unfolding R.step_limit
limit_is = refl

-- what is told of a run, of its three parts
module _ (k : ℕ) (t : St.State) (y : Told) (e : y ≡ run_of k 0 t) where
  told_made : (R.steps k 0 t).made ≡ y.made
  told_made = sym (ap (λ (x : Told). x.made) (e ∙ run_is k 0 t))

  told_result : (R.steps k 0 t).result ≡ y.result
  told_result = sym (ap (λ (x : Told). x.result) (e ∙ run_is k 0 t))

  told_state : (R.steps k 0 t).state ≡ y.state
  told_state = sym (ap (λ (x : Told). x.state) (e ∙ run_is k 0 t))

module _ (i : ℕ) (s : St.State) (l : ltb i (length s.images) ≡ true) where
  asked : H.questions (H.run i) s ≡ none
  asked = ap (λ (b : Bool). H.ask 10 b none) l

  run_went : (t : St.State) (y : Told) → out (H.makes (H.run i)) s ≡ went t → y ≡ run_of R.step_limit 0 t → Comes (H.run i) s (H.ran y.result y.made) y.state
  run_went t y e r =
      let k = comes_went (H.run i) s asked t e in
      let p = k.0 in
      let z = k.1 in
      let m = told_made R.step_limit t y r in
      let n = told_result R.step_limit t y r in (
        ap (λ (x : H.Called). x.answer) p ∙ ap (λ (x : St.State). H.ran (R.steps R.step_limit 0 x).result (R.steps R.step_limit 0 x).made) z
            ∙ ap (λ (x : R.Result). H.ran x (R.steps R.step_limit 0 t).made) n ∙ ap (λ (x : ℕ). H.ran y.result x) m,
        ap (λ (x : H.Called). x.after) p ∙ ap (λ (x : St.State). (R.steps R.step_limit 0 x).state) z ∙ told_state R.step_limit t y r,
      )

-- the tables, by the counts of the images
abbrev base_of : ImageCounts → Tables → St.State
base_of y g = Fi.set_code (bytes_of g.code y.code) (Fi.set_images (images_of g.code g.places g.rows g.starts y.images) St.fresh)

-- What a run leaves is lent again.
module _ {c : Counts} {g : Tables} {m : Mem} (e : Lent c g m) where
  pub lent_again : {b z : Counts} {m' : Mem} → Leaves b z g m' → b.code ≡ c.code → b.images ≡ c.images → lent z g m' ≡ true
  lent_again {b} {z} {m'} l p q =
      let x = lent_lengths e in let y = lent_within e in let w = l.whole in let d = w.bounded in
      lent_by z g m' (record { code = x.code; places = x.places; rows = x.rows; starts = x.starts; stacks = w.stacks; heap = w.heap; text = w.text; output = w.output })
      (record {
        operands = rw stack_length at d.operands;
        slots = rw row_length at d.slots;
        frames = rw (top_length, stack_length) at d.frames;
        handlers = rw stack_length at d.handlers;
        functions = rw row_length at d.functions;
        objects = rw row_length at d.objects;
        properties = rw row_length at d.properties;
        globals = rw row_length at d.globals;
        code = subst (λ (k : ℕ). k ≤ limit code_store) (sym (l.code ∙ p)) y.code;
        images = subst (λ (k : ℕ). k ≤ limit image_store) (sym (l.images ∙ q)) y.images;
        text = rw row_length at d.text;
        output = rw row_length at d.output;
      })

-- The call, of what is lent
module _ {c : Counts} {g : Tables} {m : Mem} (i : ℕ) (e : Lent c g m) where
  pub no_image : ltb i (length (state_in c g m).images) ≡ false → Called (H.run i) c g m (H.refusal 10) c g m
  no_image q = called_no e (ap (λ (b : Bool). H.ask 10 b none) q)

  abbrev Framed : List ℕ → Result Depths Stop → Type 0
  Framed w r = Stacks.Makes (A.push_frame i 0 []) c.depths m.stacks r w

  module _ (found : ltb i (length (state_in c g m).images) ≡ true) {w : List ℕ} where
    made : {x : Result Depths Stop} → Framed w x → out (make (A.push_frame i 0 []) next) (state_in c g m) ≡ Stacks.made_then x next c.depths w (below c m (ground_of c g))
    made k = k.goes (below c m (ground_of c g)) next

    same_stacks : w ≡ m.stacks → with_stacks w m ≡ m
    same_stacks q = ap (λ (x : List ℕ). with_stacks x m) q

    -- no frame more
    pub start_refused : (s : Stop) → Framed w (Err s) → Called (H.run i) c g m (H.refusal (stop_number s)) c g (with_stacks w m)
    start_refused (Refused q) k = called_full e (space_of q) (asked i (state_in c g m) found) (made k) refl (same_stacks k.ready)
    start_refused (Failed q) k = called_refused e (same_stacks k.ready) (comes_failed (H.run i) (state_in c g m) (asked i (state_in c g m) found) (error_of q) _ (made k))

    module _ {d : Depths} (k : Framed w (Ok d)) where
      goes : out (make (A.push_frame i 0 []) next) (state_in c g m) ≡ went (state_in (with_depths d c) g (with_stacks w m))
      goes = made k ∙ out_next (state_in (with_depths d c) g (with_stacks w m))

      pub start_whole : Whole (with_depths d c) g (with_stacks w m) (ground_of (with_depths d c) g)
      start_whole = let f = whole_lent e in record {
        bounded = went_bounded (state_in (with_depths d c) g (with_stacks w m)) (make (A.push_frame i 0 []) next) (state_in c g m) goes f.bounded;
        code = refl;
        images = refl;
        codes = f.codes;
        stacks = k.ready.size;
        heap = f.heap;
        text = f.text;
        output = f.output;
      }

      ran_from_lem : (x : Ran) {m' : Mem} → (Unique (state_in (with_depths d c) g (with_stacks w m)) → ran_of x (with_depths d c) g m' ≡ run_of R.max_steps 0 (state_in (with_depths d c) g (with_stacks w m))) → Leaves (with_depths d c) x.counts g m'
          → Called (H.run i) c g m (H.ran (result_of x.end) x.steps) x.counts g m'
      ran_from_lem x {m'} t l =
          let p : Unique (state_in c g m) → Comes (H.run i) (state_in c g m) (H.ran (result_of x.end) x.steps) (ran_of x (with_depths d c) g m').state = λ z. run_went i (state_in c g m) found (state_in (with_depths d c) g (with_stacks w m)) (ran_of x (with_depths d c) g m') goes
          (subst (λ (n : ℕ). ran_of x (with_depths d c) g m' ≡ run_of n 0 (state_in (with_depths d c) g (with_stacks w m))) (sym limit_is) (t (unique_begun i (state_in c g m) _ goes z))) in
          let ic : image_counts x.counts ≡ image_counts c = ap (λ (n : ℕ). record { code = n; images = x.counts.images }) l.code ∙ ap (λ (n : ℕ). record { code = c.code; images = n }) l.images in
          called_sure e refl (λ z. ((p z).0, (p z).1 ∙ sym (ap (λ (y : ImageCounts). state_of x.counts m' (base_of y g)) ic)))
          (lent_again e l refl refl) (λ s. subst (λ (y : ImageCounts). Sound (stores_of g) y) (sym ic) s) (λ z. l.placed)

      pub start_ran : {a : Counts} (x : Ran) {m' : Mem} → a ≡ with_depths d c → (Unique (state_in a g (with_stacks w m)) → ran_of x a g m' ≡ run_of R.max_steps 0 (state_in a g (with_stacks w m))) → Leaves a x.counts g m'
          → Called (H.run i) c g m (H.ran (result_of x.end) x.steps) x.counts g m'
      start_ran {a} x {m'} q t l =
          ran_from_lem x (subst (λ (y : Counts). Unique (state_in y g (with_stacks w m)) → ran_of x y g m' ≡ run_of R.max_steps 0 (state_in y g (with_stacks w m))) q t) (subst (λ (y : Counts). Leaves y x.counts g m') q l)
