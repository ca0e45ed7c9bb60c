-- What is left to do follows the machine's program: one law for each way that it goes. Assumes nothing.
use Rattle.std.specs.Prelude.{ℕ, ◌+◌, ◌≤◌, List, [], ◌≡◌, refl, length, get_or, Result}
use Rattle.std.proofs.Common.{sym, ap, subst, ◌∙◌}
use Rattle.machine.specs.Image as Im
use Rattle.machine.specs.State as St
use Rattle.machine.specs.State.{operand_limit}
use Rattle.machine.specs.Program.{Program}
use Rattle.machine.specs.Out.{Out, out}
use Rattle.value.specs.Lists.{bytes_of}
use Rattle.value.specs.Words.{value_of}
use Rattle.value.specs.declared.Value.{Value}
use Rattle.value.specs.declared.Space.{Space}
use Rattle.texts.specs.Keeps.{text_limit}
use Rattle.texts.specs.Sources.{InUse, stores_of}
use Rattle.image.specs.Load.{template_from}
use Rattle.stacks.specs.View as Stacks
use Rattle.stacks.specs.declared.Depths.{Depths}
use Rattle.heap.specs.View.{Held, held_in}
use Rattle.opcode.specs.Programs.{deferred}
use Rattle.opcode.specs.declared.Deferred.{Deferred}
use Rattle.outcome.specs.Meets as Part
use Rattle.outcome.specs.Meets.{Meets, Any, stepped, registers, joins, prints}
use Rattle.outcome.specs.declared.Part.{Part}
use Rattle.outcome.specs.declared.Part.TheVariants.{Went, Ended, Refused, Register, Join, Print, More}
use Rattle.outcome.specs.declared.Stepped.{Stepped}
use Rattle.fetch.specs.declared.Running.{Running}
use Rattle.fetch.specs.Running.{Coded}
use Rattle.readops.specs.Holds.{Constants, Objects, Named, Callable}
use Rattle.dispatch.specs.Dispatch.{KeptBy}
use Rattle.heapops.specs.declared.Counts.{Counts}
use Rattle.heapops.specs.declared.How.{How}
use Rattle.heapops.specs.declared.How.TheVariants.{Went as How-as-Went, Ended as How-as-Ended, Refused as How-as-Refused}
use Rattle.heapops.specs.declared.Turned.{Turned}
use Rattle.heapops.specs.Turns.{Mem, mem, below, state_of, with_depths, turned, Loaded, Tells, KeptOf, Turns}
use Rattle.finish.specs.Parts.{part_out, told, Tables, Ground, Looks, LeftReady, MoreReady, LeftBy, steady_of, with_stacks, Completes, Finishes}
use Rattle.value.specs.declared.JsVmError.{JsVmError}

-- what the state holds
module _ {x : Running} {c : Counts} {g : Tables} where
  template_is : (s : St.State) → Ground x c g s → St.template_of s x.image x.template ≡ template_from g.code g.places x.shape
  template_is s h = ap (λ (i : List (List Im.Template)). get_or (get_or i x.image []) x.template St.no_template) h.images ∙ sym (h.known.shape g.code g.places)

  pub to_coded : (s : St.State) → Ground x c g s → Coded x c.code g.code s
  to_coded s h = record {
    code = h.code;
    at = ap (λ (t : Im.Template). t.at) (template_is s h);
    size = ap (λ (t : Im.Template). t.size) (template_is s h);
  }

  pub to_constants : (s : St.State) → Ground x c g s → Constants x c.code g.code g.places s
  to_constants s h = record { coded = to_coded s h; pooled = record { constants = ap (λ (t : Im.Template). t.constants) (template_is s h) } }

  pub to_loaded : (s : St.State) → Ground x c g s → Loaded c.code g.code s
  to_loaded s h = record { code = h.code }

  module _ {b : St.Bytes} {h : Held} where
    pub looks_constants : (s : St.State) → Looks x c g b h s → Constants x c.code g.code g.places s
    looks_constants s l = to_constants s l.base

    pub looks_objects : (s : St.State) → Looks x c g b h s → Objects b h s
    looks_objects s l = record { holding = l.holding; objects = l.objects; properties = l.properties; globals = l.globals }

    pub looks_named : (s : St.State) → Looks x c g b h s → Named x c.code g.code g.places b h s
    looks_named s l = record { constants = looks_constants s l; objects = looks_objects s l }

    pub looks_callable : (s : St.State) → Looks x c g b h s → Callable x c.code g.code g.places g.rows g.starts c.images h s
    looks_callable s l = record { coded = to_coded s l.base; functions = l.functions; templates = record { held = l.base.images } }

  -- under the stores
  pub looks_below : (m : Mem) (s : St.State) → Ground x c g s → Looks x c g (stores_of g.code c.code m.text c.text) (held_in c.sizes m.heap) (below c m s)
  looks_below m s h = record {
    base = record { code = h.code; images = h.images; known = h.known };
    holding = record { bytes = ap (λ (k : List ℕ). record { code = k; text = bytes_of m.text c.text }) h.code };
    functions = refl;
    objects = refl;
    properties = refl;
    globals = refl;
  }

-- the words of the code and the text
pub in_use : {c : List ℕ} {n : ℕ} {t : List ℕ} {m : ℕ} → n ≤ length c → (m ≤ text_limit) × (length t ≡ text_limit) → InUse c n t m
in_use {c} {n} {t} {m} a b = record { code = a; text = subst (λ (k : ℕ). m ≤ k) (sym b.1) b.0 }

-- what the answer leaves ready
module _ {h : Part} {d : Depths} {w : List ℕ} where
  pub ready_register : {i t : ℕ} → h ≡ Register i t → LeftReady h d w → Stacks.Ready d w
  ready_register g l = subst (λ (p : Part). LeftReady p d w) g l

  pub ready_join : {a b : Value} → h ≡ Join a b → LeftReady h d w → Stacks.Ready d w
  ready_join g l = subst (λ (p : Part). LeftReady p d w) g l

  pub ready_print : {k : ℕ} → h ≡ Print k → LeftReady h d w → Stacks.Ready d w × (d.operands + 1 + k ≤ operand_limit)
  ready_print g l = subst (λ (p : Part). LeftReady p d w) g l

  pub ready_more : {x : Running} {op : Deferred} → h ≡ More op → LeftBy x h d w → MoreReady x d w
  ready_more {x} g l = subst (λ (p : Part). LeftBy x p d w) g l

pub left_of : (h : Part) (d : Depths) (w w' : List ℕ) → Part.KeptOf h d w w' → LeftReady h d w'
left_of Went d w w' k = tt
left_of (Ended e) d w w' k = tt
left_of (Refused q) d w w' k = tt
left_of (Register i t) d w w' k = subst (Stacks.Ready d) (sym k.0) k.1
left_of (Join a b) d w w' k = subst (Stacks.Ready d) (sym k.0) k.1
left_of (Print n) d w w' k = (subst (Stacks.Ready d) (sym k.0) k.1, k.2)
left_of (More b) d w w' k = k

-- whatever the depths were, and under the stacks from before
kept_as : (h : How) (c : Counts) (d : Depths) (m m' : Mem) → KeptOf h (with_depths d c) m m' → KeptOf h c m m'
kept_as How-as-Went c d m m' k = k
kept_as (How-as-Ended e) c d m m' k = k
kept_as (How-as-Refused q) c d m m' k = k

kept_under : (h : How) (c : Counts) (d : Depths) (m m' : Mem) (w : List ℕ) → m.stacks ≡ w → KeptOf h (with_depths d c) m m' → KeptOf h c (with_stacks w m) m'
kept_under h c d m m' w e k = subst (λ (u : List ℕ). KeptOf h c (with_stacks u m) m') e (kept_as h c d m m' k)

-- Completes, for a part and its depths
record Done (H : St.State → Type 0) (c : Counts) (m : Mem) (h : Part) (d : Depths) (t : Turned) (m' : Mem) : Type 0 where
  goes : (s : St.State) → H s → Tells t.how t.counts m' s (part_out h d m.stacks (below c m s))
  kept : (w : List ℕ) → Part.KeptOf h d w m.stacks → KeptOf t.how c (with_stacks w m) m'

module _ {H : St.State → Type 0} {c : Counts} {r : Stepped} where
  as_part : {m m' : Mem} {h : Part} {t : Turned} → r.how ≡ h → Done H c m h r.depths t m' → Completes H c m r t m'
  as_part {m} {m'} {h} {t} e a =
      let b : Done H c m r.how r.depths t m' = subst (λ (p : Part). Done H c m p r.depths t m') (sym e) a in
      record { goes = b.goes; kept = b.kept }

  -- the arms of `complete`
  pub done_went : {m : Mem} {t : Turned} → r.how ≡ Went → t ≡ turned (with_depths r.depths c) How-as-Went → Completes H c m r t m
  done_went {m} e f = subst (λ (t : Turned). Completes H c m r t m) (sym f) (as_part e (record { goes = λ s i. refl; kept = λ w k. tt }))

  pub done_ended : {m : Mem} {q : Result Value JsVmError} → r.how ≡ Ended q → Completes H c m r (turned (with_depths r.depths c) (How-as-Ended q)) m
  done_ended {m} e = as_part e (record { goes = λ s i. refl; kept = λ w k. tt })

  pub done_refused : {m : Mem} {q : Space} {t : Turned} → r.how ≡ Refused q → t ≡ turned (with_depths r.depths c) (How-as-Refused q) → Completes H c m r t m
  done_refused {m} e f = subst (λ (t : Turned). Completes H c m r t m) (sym f) (as_part e (record {
    goes = λ s i. refl;
    kept = λ w k d s. ap (λ (u : List ℕ). state_of (with_depths d c) (with_stacks u m) s) k;
  }))

  pub done_register : {m m' : Mem} {t : Turned} {i j : ℕ} → r.how ≡ Register i j → Turns Any (registers i j) (with_depths r.depths c) m t m' → Completes H c m r t m'
  done_register {m} {m'} {t} e a = as_part e (record { goes = λ s h. a.goes s tt; kept = λ w k. kept_under t.how c r.depths m m' w k.0 a.kept })

  pub done_join : {m m' : Mem} {t : Turned} {v u : Value} → r.how ≡ Join v u → Turns H (joins (value_of v) (value_of u)) (with_depths r.depths c) m t m' → Completes H c m r t m'
  done_join {m} {m'} {t} e a = as_part e (record { goes = a.goes; kept = λ w k. kept_under t.how c r.depths m m' w k.0 a.kept })

  pub done_print : {m m' : Mem} {t : Turned} {n : ℕ} → r.how ≡ Print n
      → Turns H (prints (Stacks.arguments m.stacks (r.depths.operands + 1) n)) (with_depths r.depths c) m t m' → Completes H c m r t m'
  done_print {m} {m'} {t} e a = as_part e (record { goes = a.goes; kept = λ w k. kept_under t.how c r.depths m m' w k.0 a.kept })

  -- none is left whole
  pub done_more : {m m' : Mem} {t : Turned} {op : Deferred} → r.how ≡ More op → LeftReady r.how r.depths m.stacks → Completes H c m r t m'
  done_more {m} e l = absurd (subst (λ (p : Part). LeftReady p r.depths m.stacks) e l)

-- THE LAW of an instruction of which a part is done on the stacks
pub by_part : {H K L : St.State → Type 0} {p : Program} {c : Counts} {w h t o : List ℕ} {r : Stepped} {w' : List ℕ} {x : Turned} {m' : Mem}
    → Meets K p c.depths w r w' → ((s : St.State) → H s → K (below c (mem w h t o) s)) → ((s : St.State) → H s → L s)
    → Completes L c (mem w' h t o) r x m' → Turns H p c (mem w h t o) x m'
by_part {H} {K} {L} {p} {c} {w} {h} {t} {o} {r} {w'} {x} {m'} a f g b = record {
  goes = λ s i. subst (Tells x.how x.counts m' s)
      (sym (told r.how r.depths w' (below c (mem w h t o) s) (out p (state_of c (mem w h t o) s)) (a.goes (below c (mem w h t o) s) (f s i)))) (b.goes s (g s i));
  kept = b.kept w a.kept;
}

-- The code and the images stay.
tells_steady : (h : How) (c k : Counts) (m : Mem) (s : St.State) (o : Out) → Tells h k m s o → Tells h (steady_of c (turned k h)).counts m s o
tells_steady How-as-Went c k m s o e = e
tells_steady (How-as-Ended q) c k m s o e = e
tells_steady (How-as-Refused q) c k m s o e = e

-- a part that is not the whole
abbrev pub Rest : Part → Type 0
Rest h = (op : Deferred) → h ≡ More op → ⊥

pub left_rest : (x : Running) (h : Part) (d : Depths) (w : List ℕ) → Rest h → LeftBy x h d w → LeftReady h d w
left_rest x Went d w n l = l
left_rest x (Ended e) d w n l = l
left_rest x (Refused q) d w n l = l
left_rest x (Register i t) d w n l = l
left_rest x (Join a b) d w n l = l
left_rest x (Print k) d w n l = l
left_rest x (More b) d w n l = n b refl

kept_rest : (x : Running) (h : Part) (d : Depths) (w w' : List ℕ) → Rest h → KeptBy x h d w w' → Part.KeptOf h d w w'
kept_rest x Went d w w' n l = l
kept_rest x (Ended e) d w w' n l = l
kept_rest x (Refused q) d w w' n l = l
kept_rest x (Register i t) d w w' n l = l
kept_rest x (Join a b) d w w' n l = l
kept_rest x (Print k) d w w' n l = l
kept_rest x (More b) d w w' n l = absurd (n b refl)

module _ {x : Running} {c : Counts} {g : Tables} {m m' : Mem} {t : Turned} where
  pub finish_rest : {r : Stepped} {u : Turned} → Rest r.how → Completes (Loaded c.code g.code) c m r t m' → u ≡ steady_of c t → Finishes (Ground x c g) x c m r u m'
  finish_rest {r} n a e = subst (λ (y : Turned). Finishes (Ground x c g) x c m r y m') (sym e) (record {
    goes = λ s h. tells_steady t.how c t.counts m' s (part_out r.how r.depths m.stacks (below c m s)) (a.goes s (to_loaded s h));
    kept = λ w k. a.kept w (kept_rest x r.how r.depths w m.stacks n k);
    steady = (refl, refl);
  })

  whole : {op : Deferred} {d : Depths} → Turns (Ground x (with_depths d c) g) (deferred op) (with_depths d c) m t m' → Finishes (Ground x c g) x c m (stepped d (More op)) (steady_of c t) m'
  whole {op} {d} a = record {
    goes = λ s h. tells_steady t.how c t.counts m' s (out (deferred op) (Stacks.on_stacks d m.stacks (below c m s)))
        (a.goes s (record { code = h.code; images = h.images; known = h.known }));
    kept = λ w k. kept_under t.how c d m m' w k.0 a.kept;
    steady = (refl, refl);
  }

  pub finish_more : {r : Stepped} {u : Turned} {op : Deferred} → r.how ≡ More op → Turns (Ground x (with_depths r.depths c) g) (deferred op) (with_depths r.depths c) m t m' → u ≡ steady_of c t
      → Finishes (Ground x c g) x c m r u m'
  finish_more {r} f a e =
      subst (λ (y : Turned). Finishes (Ground x c g) x c m r y m') (sym e)
      (subst (λ (h : Part). Finishes (Ground x c g) x c m (stepped r.depths h) (steady_of c t) m') (sym f) (whole a))
