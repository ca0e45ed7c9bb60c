-- Clear's law: the fresh engine, over any stores of listed size. Assumes nothing.
use Rattle.std.specs.Prelude.{ℕ, Bool, true, false, List, [], ◌≡◌, Result, Ok, Err}
use Rattle.std.proofs.Common.{arith, true≢false, sym, ap, ◌∙◌, subst}
use Rattle.std.proofs.lemmas.Bool.{false≢true}
use Rattle.std.proofs.Math.Path.{refl}
use Rattle.machine.specs.State as St
use Rattle.value.specs.Lists.{stack_of, row_of}
use Rattle.texts.specs.Keeps.{on_text, on_output}
use Rattle.stacks.specs.View as Stacks
use Rattle.heap.specs.View as Heap
use Rattle.heap.specs.declared.Sizes.{Sizes}
use Rattle.image.specs.View.{images_of}
use Rattle.image.specs.Laws.{fresh_sound}
use Rattle.heapops.specs.declared.Counts.{Counts}
use Rattle.heapops.specs.Turns.{Mem, mem, below, fresh_counts}
use Rattle.finish.specs.Parts.{Tables}
use Rattle.run.specs.Runs.{ground_of, state_in}
use Rattle.host.specs.Calls.{sizes_right, lent, stores_of, Clears}
use Rattle.host.specs.Lent.{lengths, lent_by}
use Rattle.host.specs.declared.refusal.Refusal.{Refusal}
use Rattle.host.specs.declared.refusal.Refusal.TheVariants.{StoreSizes}

abbrev is_done : Result Counts Refusal → Bool
is_done (Ok c) = true
is_done (Err e) = false

cleared_not : (z : Counts) (e : Refusal) → Ok z ≡ Err e → ⊥
cleared_not z e q = true≢false (ap is_done q)

module _ (g : Tables) (m : Mem) where
  pub clear_refused : sizes_right g m ≡ false → Clears g m (Err StoreSizes) g m
  clear_refused e = record { told = (refl, refl, refl); asked = λ f. refl; granted = λ f x q. absurd (false≢true (sym e ∙ f)) }

  fresh_under : (w t o : List ℕ) (z : Sizes) → Stacks.on_stacks (fresh_counts z).depths w (Heap.fresh_heap (below (fresh_counts z) (mem w [] t o) (ground_of (fresh_counts z) g))) ≡ St.fresh
  unfolding row_of stack_of images_of
  fresh_under w t o z = refl

  pub clear_done : {z : Sizes} {c : Counts} {h : List ℕ} → sizes_right g m ≡ true → Heap.Clears z h → c ≡ fresh_counts z → Clears g m (Ok c) g (mem m.stacks h m.text m.output)
  clear_done {z} {c} {h} e k q =
      let x = lengths g m e in let y = k.ready in
      let m' = mem m.stacks h m.text m.output in
      let fresh : state_in (fresh_counts z) g m' ≡ St.fresh =
      ap (λ (s : St.State). Stacks.on_stacks (fresh_counts z).depths m.stacks s) (k.state (on_text 0 m.text (on_output 0 m.output (ground_of (fresh_counts z) g)))) ∙ fresh_under m.stacks m.text m.output z in
      let right : lent (fresh_counts z) g m' ≡ true = lent_by (fresh_counts z) g m'
      (record { code = x.code; places = x.places; rows = x.rows; starts = x.starts; stacks = x.stacks; heap = y.size; text = x.text; output = x.output })
      (record {
        operands = omega arith;
        slots = omega arith;
        frames = omega arith;
        handlers = omega arith;
        functions = y.functions;
        objects = y.objects;
        properties = y.properties;
        globals = y.globals;
        code = omega arith;
        images = omega arith;
        text = omega arith;
        output = omega arith;
      }) in
      subst (λ (y : Counts). Clears g m (Ok y) g m') (sym q) (record {
        told = (fresh, right, fresh_sound (stores_of g), record { place = λ f. refl });
        asked = λ f. absurd (false≢true (sym f ∙ e));
        granted = λ f x q. cleared_not (fresh_counts z) x q;
      })
