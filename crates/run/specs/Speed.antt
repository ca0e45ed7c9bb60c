-- Quick steps, one after another. Assumes nothing.
use Rattle.std.specs.Prelude.{ℕ, suc, ◌+◌, ◌-◌, ◌≤◌, ◌<◌, Bool, true, false, not, List, [], ◌≡◌, refl, length, Option, Some, None}
use Rattle.std.proofs.Common.{arith, sym, ap, subst, ◌∙◌}
use Rattle.machine.specs.State as St
use Rattle.machine.specs.Run.{max_steps}
use Rattle.machine.specs.Out.{Out, went, out}
use Rattle.machine.proofs.Unique.{Unique, went_unique}
use Rattle.stacks.specs.View as Stacks
use Rattle.stacks.specs.declared.Depths.{Depths}
use Rattle.heap.specs.View.{Sized}
use Rattle.texts.specs.Keeps.{text_limit}
use Rattle.fetch.specs.declared.Running.{Running}
use Rattle.fetch.specs.Running.{Known}
use Rattle.readops.specs.Holds.{Constants}
use Rattle.quick.specs.Quickly.{QuickStep}
use Rattle.quick.specs.Stays.{Stays, Kept, InFrame, frame_kept}
use Rattle.quick.specs.declared.Here.{Here}
use Rattle.heapops.specs.declared.Counts.{Counts}
use Rattle.heapops.specs.Turns.{Mem, mem, below, state_of, with_depths}
use Rattle.finish.specs.Parts.{Tables, tables, Ground}
use Rattle.finish.specs.Laws.{looks_named, looks_below}
use Rattle.reach.specs.Distinct.{Distinct, unique_distinct}
use Rattle.reach.specs.Reaches.{ReachStep, Sure, quick_in, sized_kept}
use Rattle.reach.specs.Leaps.{LeapStep, leapt_to}
use Rattle.run.specs.Runs.{Told, then_do, program_of, run_of, whole_base, whole_moved, Underway}
use Rattle.run.specs.declared.speed.Strode.{Strode}
use Rattle.run.specs.declared.speed.Sped.{Sped}

-- j steps lead from the state s to the state t: what a run makes of s, it makes of t with j steps fewer
pub record Onward (j : ℕ) (s t : St.State) : Type 0 where
  pub runs : (n k : ℕ) → run_of (j + n) k s ≡ run_of n (k + j) t
  pub unique : Unique s → Unique t

pub onward_none : (s : St.State) → Onward 0 s s
onward_none s = record {
  runs = λ n k. let e : k + 0 ≡ k = omega arith in let z : 0 + n ≡ n = omega arith in ap (λ (i : ℕ). run_of i k s) z ∙ ap (λ (i : ℕ). run_of n i s) (sym e);
  unique = λ b. b;
}

pub onward_step : {j : ℕ} {s u t : St.State} → Onward j s u → out (program_of u) u ≡ went t → Onward (j + 1) s t
unfolding run_of
onward_step {j} {s} {u} {t} o g = record {
  runs = λ n k.
      let e : j + 1 + n ≡ j + suc n = omega arith in
      let f : k + j + 1 ≡ k + (j + 1) = omega arith in
      ap (λ (i : ℕ). run_of i k s) e ∙ o.runs (suc n) k
      ∙ ap (λ (y : Out). then_do y (k + j + 1) u (λ v. run_of n (k + j + 1) v)) g
      ∙ ap (λ (i : ℕ). run_of n i t) f;
  unique = λ b. went_unique u t g (o.unique b);
}

abbrev pub strode : Depths → ℕ → Strode
strode d k = record { depths = d; steps = k }

abbrev pub stay_of : Depths → Depths → Depths
stay_of d f = record { operands = f.operands; slots = d.slots; frames = d.frames; handlers = f.handlers; ip = f.ip }

stay_is : {d f : Depths} {w w' : List ℕ} → Kept d w f w' → stay_of d f ≡ f
stay_is {d} {f} k =
    ap (λ (n : ℕ). record { operands = f.operands; slots = n; frames = d.frames; handlers = f.handlers; ip = f.ip }) (sym k.slots)
    ∙ ap (λ (n : ℕ). record { operands = f.operands; slots = f.slots; frames = n; handlers = f.handlers; ip = f.ip }) (sym k.frames)

-- THE CONTRACT of quick steps in one frame: they lead on, where no two rows have one key; and whether or not, the frame stands and everything is ready.
pub record Strides (x : Running) (y : Here) (c : Counts) (code places w h t : List ℕ) (k : ℕ) (r : Strode) (w' h' : List ℕ) : Type 0 where
  pub goes : (rows starts o : List ℕ) (s : St.State) → Ground x c (tables code places rows starts) s → Unique (state_of c (mem w h t o) s)
      → Onward (r.steps - k) (state_of c (mem w h t o) s) (state_of (with_depths r.depths c) (mem w' h' t o) s)
  pub ready : Stacks.Ready r.depths w'
  pub frame : InFrame x y r.depths w'
  pub sized : Sized c.sizes h'
  pub from : k ≤ r.steps
  pub to : r.steps < max_steps - 1

pub stride_none : {x : Running} {y : Here} {c : Counts} {code places w h t : List ℕ} {k : ℕ} → Stacks.Ready c.depths w → InFrame x y c.depths w → Sized c.sizes h → k < max_steps - 1
    → Strides x y c code places w h t k (strode c.depths k) w h
stride_none {c = c} {w = w} {h = h} {t = t} {k = k} g f z l = record {
  goes = λ rows starts o s a u. let e : k - k ≡ 0 = omega arith in subst (λ (j : ℕ). Onward j (state_of c (mem w h t o) s) (state_of c (mem w h t o) s)) (sym e) (onward_none (state_of c (mem w h t o) s));
  ready = g;
  frame = f;
  sized = z;
  from = omega arith;
  to = l;
}

module _ {x : Running} {y : Here} {c : Counts} {code places w h t : List ℕ} {k : ℕ} {e : Depths} {j : ℕ} {w₁ h₁ : List ℕ} (p : Strides x y c code places w h t k (strode e j) w₁ h₁) where
  -- one step more
  further : {f : Depths} {w₂ h₂ : List ℕ} → ((rows starts o : List ℕ) (s : St.State) → Ground x c (tables code places rows starts) s → Unique (state_of (with_depths e c) (mem w₁ h₁ t o) s)
      → out (program_of (state_of (with_depths e c) (mem w₁ h₁ t o) s)) (state_of (with_depths e c) (mem w₁ h₁ t o) s) ≡ went (state_of (with_depths f c) (mem w₂ h₂ t o) s))
      → Stacks.Ready f w₂ → Kept e w₁ f w₂ → Sized c.sizes h₂ → j < max_steps - 2 → {d : Depths} → d ≡ stay_of e f → Strides x y c code places w h t k (strode d (j + 1)) w₂ h₂
  further {f} {w₂} {h₂} o r s z l {d} i =
      let n : j - k + 1 ≡ j + 1 - k = omega (arith, p.from) in
      subst (λ (u : Depths). Strides x y c code places w h t k (strode u (j + 1)) w₂ h₂) (sym (i ∙ stay_is s)) (record {
        goes = λ rows starts b q a u. let v = p.goes rows starts b q a u in
            subst (λ (i : ℕ). Onward i (state_of c (mem w h t b) q) (state_of (with_depths f c) (mem w₂ h₂ t b) q)) n (onward_step v (o rows starts b q a (v.unique u)));
        ready = r;
        frame = frame_kept p.frame p.ready s;
        sized = z;
        from = omega (arith, p.from);
        to = omega arith;
      })

  module _ {q : Option Depths} {w₂ : List ℕ} (t₁ : QuickStep (Constants x c.code code places) e w₁ q w₂) (s₁ : Stays e w₁ q w₂) where
    pub stride_quick : {f d : Depths} → q ≡ Some f → d ≡ stay_of e f → j < max_steps - 2 → Strides x y c code places w h t k (strode d (j + 1)) w₂ h₁
    stride_quick g i l =
        let m = rw g at t₁.told in
        further (λ rows starts o s a u. m.0 (below c (mem w₁ h₁ t o) s) (looks_named (below c (mem w₁ h₁ t o) s) (looks_below (mem w₁ h₁ t o) s a)).constants) m.1 (rw g at s₁.told) p.sized l i

    -- an instruction that is left changes nothing
    pub stride_left : q ≡ None → Strides x y c code places w h t k (strode e j) w₂ h₁
    stride_left g = let same : w₂ ≡ w₁ = rw g at t₁.told in subst (λ (u : List ℕ). Strides x y c code places w h t k (strode e j) u h₁) (sym same) p

  module _ {b : Counts} (q : Option (Depths × ℕ)) {w₂ h₂ : List ℕ} (z : b ≡ with_depths e c)
      (t₁ : (rows starts o : List ℕ) → ReachStep (Sure (Distinct b.sizes h₁ b.text t) (Ground x b (tables code places rows starts))) b (mem w₁ h₁ t o) (quick_in q) (mem w₂ h₂ t o))
      (s₁ : Stays b.depths w₁ (quick_in q) w₂) where
    step₁ : (rows starts o : List ℕ) → ReachStep (Sure (Distinct c.sizes h₁ c.text t) (Ground x (with_depths e c) (tables code places rows starts))) (with_depths e c) (mem w₁ h₁ t o) (quick_in q) (mem w₂ h₂ t o)
    step₁ rows starts o = subst (λ (u : Counts). ReachStep (Sure (Distinct u.sizes h₁ u.text t) (Ground x u (tables code places rows starts))) u (mem w₁ h₁ t o) (quick_in q) (mem w₂ h₂ t o)) z (t₁ rows starts o)

    stays₁ : Stays e w₁ (quick_in q) w₂
    stays₁ = subst (λ (u : Counts). Stays u.depths w₁ (quick_in q) w₂) z s₁

    pub stride_reach : {f d : Depths} {i : ℕ} → q ≡ Some (f, i) → d ≡ stay_of e f → length h₂ ≡ length h₁ → j < max_steps - 2 → Strides x y c code places w h t k (strode d (j + 1)) w₂ h₂
    stride_reach g i l n =
        further (λ rows starts o s a u. let m = rw g at (step₁ rows starts o).told in m.0 s (record { code = a.code; images = a.images; known = a.known }, unique_distinct (with_depths e c) (mem w₁ h₁ t o) s u))
        (let m = rw g at (step₁ [] [] []).told in m.1) (rw g at stays₁.told) (sized_kept p.sized l) n i

    pub stride_stops : q ≡ None → Strides x y c code places w h t k (strode e j) w₂ h₂
    stride_stops g =
        let m : mem w₂ h₂ t [] ≡ mem w₁ h₁ t [] = rw g at (step₁ [] [] []).told in
        subst (λ (u : Mem). Strides x y c code places w h t k (strode e j) u.stacks u.heap) (sym m) p

abbrev pub sped_to : Counts → ℕ → Sped
sped_to c k = record { counts = c; steps = k }

-- and on all stores, from frame to frame: wherever a run is under way, it is so after them
pub record Speeds (c : Counts) (g : Tables) (w h t : List ℕ) (k : ℕ) (r : Sped) (w' h' t' : List ℕ) : Type 0 where
  pub goes : {b : St.State} {all : Told} {o : List ℕ} {s : St.State} → Underway b all k c g (mem w h t o) s → Underway b all r.steps r.counts g (mem w' h' t' o) s
  pub ready : Stacks.Ready r.counts.depths w'
  pub sized : Sized r.counts.sizes h'
  pub texts : (r.counts.text ≤ text_limit) × (length t' ≡ text_limit)
  pub from : k ≤ r.steps
  pub to : r.steps < max_steps
  pub code : r.counts.code ≡ c.code
  pub images : r.counts.images ≡ c.images

pub speed_none : {c : Counts} {g : Tables} {w h t : List ℕ} {k : ℕ} → Stacks.Ready c.depths w → Sized c.sizes h → (c.text ≤ text_limit) × (length t ≡ text_limit) → k < max_steps → Speeds c g w h t k (sped_to c k) w h t
speed_none a b d l = record { goes = λ u. u; ready = a; sized = b; texts = d; from = omega arith; to = l; code = refl; images = refl }

-- a run that is under way, j steps on
underway_on : {b : St.State} {all : Told} {k j i : ℕ} {c : Counts} {e : Depths} {g : Tables} {w h t o w' h' t' : List ℕ} {s : St.State} → Underway b all k c g (mem w h t o) s
    → (Unique (state_of c (mem w h t o) s) → Onward j (state_of c (mem w h t o) s) (state_of (leapt_to e i c) (mem w' h' t' o) s)) → k + j ≤ max_steps
    → Stacks.Ready e w' → Sized c.sizes h' → i ≤ text_limit → length t' ≡ text_limit
    → Underway b all (k + j) (leapt_to e i c) g (mem w' h' t' o) s
underway_on {b} {all} {k} {j} {i} {c} {e} {g} {w} {h} {t} {o} {w'} {h'} {t'} {s} u a l x y n m =
    let z : max_steps - k ≡ j + (max_steps - (k + j)) = omega arith in
    record {
      left = λ d. sym ((a (u.unique d)).runs (max_steps - (k + j)) k) ∙ ap (λ (z : ℕ). run_of z k (state_of c (mem w h t o) s)) (sym z) ∙ u.left d;
      unique = λ d. (a (u.unique d)).unique (u.unique d);
      whole = whole_moved u.whole x y n m;
    }

module _ {c d : Counts} {g : Tables} {w h t w₁ h₁ t₁ : List ℕ} {k j : ℕ} {x : Running} (p : Speeds c g w h t k (sped_to d j) w₁ h₁ t₁) (n : Known g.rows g.starts d.images x) where
  -- quick steps in one frame
  pub speed_stride : {y : Here} {b : Counts} {r : Strode} {w₂ h₂ : List ℕ} → Strides x y d g.code g.places w₁ h₁ t₁ j r w₂ h₂ → b ≡ with_depths r.depths d → Speeds c g w h t k (sped_to b r.steps) w₂ h₂ t₁
  speed_stride {r = r} {w₂ = w₂} {h₂ = h₂} q z =
      let i : j + (r.steps - j) ≡ r.steps = omega (arith, q.from) in
      subst (λ (y : Counts). Speeds c g w h t k (sped_to y r.steps) w₂ h₂ t₁) (sym z) (record {
        goes = λ {b = a} {all} {o} {s} u.
            let v = p.goes u in
            subst (λ (y : ℕ). Underway a all y (with_depths r.depths d) g (mem w₂ h₂ t₁ o) s) i
            (underway_on v (λ f. q.goes g.rows g.starts o s (whole_base v.whole n) f) (omega (arith, q.to, i)) q.ready q.sized p.texts.0 p.texts.1);
        ready = q.ready;
        sized = q.sized;
        texts = p.texts;
        from = omega (arith, p.from, q.from);
        to = omega (arith, q.to);
        code = p.code;
        images = p.images;
      })

  -- a step that may leave the frame
  module _ {q : Option (Depths × ℕ)} {w₂ t₂ : List ℕ} (r : (o : List ℕ) → LeapStep (Ground x d g) d (mem w₁ h₁ t₁ o) q (mem w₂ h₁ t₂ o)) where
    pub speed_leap : {b : Counts} {e : Depths} {i : ℕ} → q ≡ Some (e, i) → b ≡ leapt_to e i d → j < max_steps - 1 → length t₂ ≡ length t₁ → Speeds c g w h t k (sped_to b (j + 1)) w₂ h₁ t₂
    speed_leap {e = e} {i = i} f z l y =
        let m = rw f at (r []).told in
        subst (λ (y : Counts). Speeds c g w h t k (sped_to y (j + 1)) w₂ h₁ t₂) (sym z) (record {
          goes = λ {b = a₀} {all} {o} {s} u.
              let v = p.goes u in
              let a = rw f at (r o).told in
              underway_on v (λ d₁. onward_step (onward_none (state_of d (mem w₁ h₁ t₁ o) s)) (a.0 s (whole_base v.whole n))) (omega arith) a.1 p.sized a.2 (y ∙ p.texts.1);
          ready = m.1;
          sized = p.sized;
          texts = (m.2, y ∙ p.texts.1);
          from = omega (arith, p.from);
          to = omega arith;
          code = p.code;
          images = p.images;
        })

    pub speed_left : q ≡ None → Speeds c g w h t k (sped_to d j) w₂ h₁ t₂
    speed_left f =
        let m : mem w₂ h₁ t₂ [] ≡ mem w₁ h₁ t₁ [] = rw f at (r []).told in
        subst (λ (y : Mem). Speeds c g w h t k (sped_to d j) y.stacks y.heap y.text) (sym m) p

pub not_false : (b : Bool) → not b ≡ false → b ≡ true
not_false true e = refl
not_false false e = sym e
