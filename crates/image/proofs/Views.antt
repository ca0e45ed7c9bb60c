-- Pass 2: what the tables show grows with what is read. Assumes nothing.
use mathlib.Core.Path.{◌≡◌, refl, ◌∙◌}
use mathlib.Core.List.{List, [], ◌∷◌, ◌++◌}
use Rattle.std.specs.Prelude.{Result, Ok, Err}
use Prim.Native.Nat.{ℕ, ◌+◌, ◌-◌, ◌*◌, ◌≤◌, ◌<◌}
use native.Mathlib.Omega.{arith}
use lib.ListN.{length, drop, get_or, set, length-set}
use lib.Seq.{get_or-set_same, get_or-set_other}
use Rattle.machine.specs.Image as I
use Rattle.machine.specs.Image.{Constant}
use Rattle.reader.specs.Says.{Reads, Heads, Tails}
use Rattle.reader.specs.Laws.{prefixed, prefixed_none, times_step, times_end, templates_step, templates_end, template_got}
use Rattle.reader.specs.declared.error.ImageError.{ImageError}
use Rattle.image.specs.View.{constant_at, constants_of, template_at, templates_at, image_at, Same}
use Rattle.image.specs.Fills.{Filled, Rowed, FilledOne, FilledAll, FillsAll, FillsImage}
use Rattle.image.specs.declared.FunctionTemplate.{FunctionTemplate}
use Rattle.image.proofs.Lists.{list_more, same_refl, same_trans, same_less, same_set, unset_below, unset_at}
use Rattle.image.proofs.Back.{read_at}

-- The loop over a template's constants: i of n have their places in the table.
pub record Placing (s ps₀ ps : List ℕ) (own count at n p i : ℕ) : Type 0 where
  pub few : i ≤ n
  pub room : at + i ≤ p
  pub inside : p ≤ length s
  pub sized : length ps ≡ length ps₀
  pub placed : Same at ps₀ ps
  pub is : (code places : List ℕ) → Same p s code → Same (at + i) ps places
      → I.times n (I.constant own count) at (drop at s)
      ≡ prefixed (constants_of code places at i) (I.times (n - i) (I.constant own count) p (drop p s))

pub placing_start : (s ps : List ℕ) (own count at n : ℕ) → at ≤ length s → Placing s ps ps own count at n at 0
unfolding constants_of
placing_start s ps own count at n h = record {
  few = omega arith;
  room = omega arith;
  inside = h;
  sized = refl;
  placed = same_refl;
  is = λ code places f g. let e : n - 0 ≡ n = omega arith in rw e (prefixed_none _);
}

constants_more : (s places : List ℕ) (c i p : ℕ) (k : Constant) → get_or places (c + i) 0 ≡ p → constant_at s p ≡ k
    → constants_of s places c (i + 1) ≡ constants_of s places c i ++ (k ∷ [])
unfolding constants_of
constants_more s places c i p k e f = list_more (λ k. constant_at s (get_or places (c + k) 0)) i ∙ rw (e, f)

pub placing_step : (s ps₀ ps : List ℕ) (own count at n p i q : ℕ) (k : Constant) → i < n → at + i < length ps → p < q
    → Placing s ps₀ ps own count at n p i → Reads s p (I.constant own count) k q
    → Placing s ps₀ (set ps (at + i) p) own count at n q (i + 1)
placing_step s ps₀ ps own count at n p i q k l b m h g = record {
  few = omega arith;
  room = omega (arith, h.room);
  inside = g.inside;
  sized = simp length-set h.sized;
  placed = same_trans h.placed (same_set at ps (at + i) p (omega arith));
  is = λ code places f w.
      let e : at + (i + 1) ≡ at + i + 1 = omega arith in
      let w' : Same (at + i + 1) (set ps (at + i) p) places = rw e at w in
      h.is code places (same_less (omega arith) f) (unset_below ps places (at + i) p w')
      ∙ times_step s (I.constant own count) (constants_of code places at i) p k q (n - i) (n - (i + 1)) (omega arith) g
      ∙ rw (constants_more code places at i p k (unset_at ps places (at + i) p w' b) (read_at s code p q own count k m f g));
}

pub placing_end : (s ps₀ ps : List ℕ) (own count at n p i : ℕ) → n ≤ i → Placing s ps₀ ps own count at n p i → Filled s ps₀ ps at n own count p
placing_end s ps₀ ps own count at n p i l h =
    let e : i ≡ n = omega (arith, h.few) in
    record {
      reads = λ code places f g. record {
        read = h.is code places f (same_less h.room g)
            ∙ times_end s (I.constant own count) (constants_of code places at i) p (n - i) (drop p s) (omega arith) ∙ rw e;
        on = omega (arith, h.room);
        inside = h.inside;
      };
      room = omega (arith, h.room);
      inside = h.inside;
      placed = h.placed;
    }

-- Six stores make a row.
module _ (xs : List ℕ) (r : ℕ) (t : FunctionTemplate) where
  abbrev pub sixed : List ℕ
  sixed = set (set (set (set (set (set xs r t.param_count) (r + 1) t.local_count) (r + 2) t.constants) (r + 3) t.constant_count) (r + 4) t.at) (r + 5) t.size

past : (xs : List ℕ) (i j v x : ℕ) → (j ≡ i → ⊥) → get_or xs j 0 ≡ x → get_or (set xs i v) j 0 ≡ x
past xs i j v x h e = get_or-set_other xs i j v 0 h ∙ e

pub row_put : (xs : List ℕ) (r : ℕ) (t : FunctionTemplate) → r + 6 ≤ length xs → Rowed xs (sixed xs r t) r t
row_put xs r t h =
    let a = t.param_count in
    let b = t.local_count in
    let f = t.constants in
    let n = t.constant_count in
    let p = t.at in
    let z = t.size in
    let x1 = set xs r a in
    let x2 = set x1 (r + 1) b in
    let x3 = set x2 (r + 2) f in
    let x4 = set x3 (r + 3) n in
    let x5 = set x4 (r + 4) p in
    let l1 : length x1 ≡ length xs = length-set xs r a in
    let l2 : length x2 ≡ length xs = length-set x1 (r + 1) b ∙ l1 in
    let l3 : length x3 ≡ length xs = length-set x2 (r + 2) f ∙ l2 in
    let l4 : length x4 ≡ length xs = length-set x3 (r + 3) n ∙ l3 in
    let l5 : length x5 ≡ length xs = length-set x4 (r + 4) p ∙ l4 in
    record {
      at0 = past x5 (r + 5) r z a (λ e. omega arith) (past x4 (r + 4) r p a (λ e. omega arith) (past x3 (r + 3) r n a (λ e. omega arith)
          (past x2 (r + 2) r f a (λ e. omega arith) (past x1 (r + 1) r b a (λ e. omega arith) (get_or-set_same xs r a 0 (omega arith))))));
      at1 = past x5 (r + 5) (r + 1) z b (λ e. omega arith) (past x4 (r + 4) (r + 1) p b (λ e. omega arith) (past x3 (r + 3) (r + 1) n b (λ e. omega arith)
          (past x2 (r + 2) (r + 1) f b (λ e. omega arith) (get_or-set_same x1 (r + 1) b 0 (omega arith)))));
      at2 = past x5 (r + 5) (r + 2) z f (λ e. omega arith) (past x4 (r + 4) (r + 2) p f (λ e. omega arith) (past x3 (r + 3) (r + 2) n f (λ e. omega arith)
          (get_or-set_same x2 (r + 2) f 0 (omega arith))));
      at3 = past x5 (r + 5) (r + 3) z n (λ e. omega arith) (past x4 (r + 4) (r + 3) p n (λ e. omega arith) (get_or-set_same x3 (r + 3) n 0 (omega arith)));
      at4 = past x5 (r + 5) (r + 4) z p (λ e. omega arith) (get_or-set_same x4 (r + 4) p 0 (omega arith));
      at5 = get_or-set_same x5 (r + 5) z 0 (omega arith);
      below = record {
        same = λ j l. past x5 (r + 5) j z _ (λ e. omega arith) (past x4 (r + 4) j p _ (λ e. omega arith) (past x3 (r + 3) j n _ (λ e. omega arith)
            (past x2 (r + 2) j f _ (λ e. omega arith) (past x1 (r + 1) j b _ (λ e. omega arith) (get_or-set_other xs r j a 0 (λ e. omega arith))))));
      };
    }

-- A template from its parts, in any lines that agree with its row.
template_is : (code places rows rows' lines : List ℕ) (r : ℕ) (t : FunctionTemplate) → Rowed rows rows' r t → Same (r + 8) rows' lines
    → template_at code places lines r
    ≡ record { parameters = t.param_count; locals = t.local_count; constants = constants_of code places t.constants t.constant_count; at = t.at; size = t.size }
unfolding template_at
template_is code places rows rows' lines r t h f =
    rw (
      f.same r (omega arith) ∙ h.at0,
      f.same (r + 1) (omega arith) ∙ h.at1,
      f.same (r + 2) (omega arith) ∙ h.at2,
      f.same (r + 3) (omega arith) ∙ h.at3,
      f.same (r + 4) (omega arith) ∙ h.at4,
      f.same (r + 5) (omega arith) ∙ h.at5,
    )

-- A template filled, from its four parts.
pub fill_one : {s ps rows ps' rows' : List ℕ} {at r own count a b n p m size place next : ℕ}
    → Heads s at a b n p → Filled s ps ps' p n own count m → Tails s m size place next
    → Rowed rows rows' r (record { param_count = a; local_count = b; constants = p; constant_count = n; at = place; size = size })
    → FilledOne s ps rows ps' rows' at r own count next
fill_one {s} {ps} {rows} {ps'} {rows'} {at} {r} {own} {count} {a} {b} {n} {p} {m} {size} {place} {next} h g t w =
    let l : m ≤ next = omega (arith, t.on) in
    record {
      reads = λ code places lines e f k.
          rw (template_is code places rows rows' lines r (record { param_count = a; local_count = b; constants = p; constant_count = n; at = place; size = size }) w k)
          (template_got s own count at a b n p h (constants_of code places p n) m size place next (g.reads code places (same_less l e) (same_less l f)) t);
      room = omega (arith, h.on, g.room, t.on);
      inside = t.second.inside;
      placed = same_less (omega (arith, h.on)) g.placed;
      rowed = w.below;
    }

-- The loop over an image's templates: own of them are in the tables, each with a row 8 entries after the one before.
pub record Filling (s ps₀ rows₀ ps rows : List ℕ) (count at p own : ℕ) : Type 0 where
  pub few : own ≤ count
  pub room : at + 8 * own ≤ p
  pub inside : p ≤ length s
  pub ps_sized : length ps ≡ length ps₀
  pub rows_sized : length rows ≡ length rows₀
  pub placed : Same at ps₀ ps
  pub rowed : Same at rows₀ rows
  pub is : (code places lines : List ℕ) → Same p s code → Same p ps places → Same (at + 8 * own) rows lines
      → I.templates count 0 count at (drop at s) ≡ prefixed (templates_at code places lines at own) (I.templates count own (count - own) p (drop p s))

pub filling_start : (s ps rows : List ℕ) (count at : ℕ) → at ≤ length s → Filling s ps rows ps rows count at at 0
unfolding templates_at
filling_start s ps rows count at h = record {
  few = omega arith;
  room = omega arith;
  inside = h;
  ps_sized = refl;
  rows_sized = refl;
  placed = same_refl;
  rowed = same_refl;
  is = λ code places lines f g w. let e : count - 0 ≡ count = omega arith in rw e (prefixed_none _);
}

templates_more : (code places lines : List ℕ) (at own : ℕ)
    → templates_at code places lines at (own + 1) ≡ templates_at code places lines at own ++ (template_at code places lines (at + 8 * own) ∷ [])
unfolding templates_at
templates_more code places lines at own = list_more (λ t. template_at code places lines (at + 8 * t)) own

pub filling_step : {s ps₀ rows₀ ps rows ps' rows' : List ℕ} {count at p own q : ℕ} → own < count
    → Filling s ps₀ rows₀ ps rows count at p own → FilledOne s ps rows ps' rows' p (at + 8 * own) own count q
    → length ps' ≡ length ps → length rows' ≡ length rows
    → Filling s ps₀ rows₀ ps' rows' count at q (own + 1)
filling_step {s} {ps₀} {rows₀} {ps} {rows} {ps'} {rows'} {count} {at} {p} {own} {q} l h g lp lr = record {
  few = omega arith;
  room = omega (arith, h.room, g.room);
  inside = g.inside;
  ps_sized = lp ∙ h.ps_sized;
  rows_sized = lr ∙ h.rows_sized;
  placed = same_trans h.placed (same_less (omega (arith, h.room)) g.placed);
  rowed = same_trans h.rowed (same_less (omega arith) g.rowed);
  is = λ code places lines e f w.
      let w' : Same (at + 8 * own + 8) rows' lines = same_less (omega arith) w in
      h.is code places lines (same_less (omega (arith, g.room)) e) (same_trans g.placed (same_less (omega (arith, g.room)) f))
      (same_trans g.rowed (same_less (omega arith) w))
      ∙ templates_step s count own (templates_at code places lines at own) p (template_at code places lines (at + 8 * own)) q (count - own) (count - (own + 1)) (omega arith)
      (g.reads code places lines e f w')
      ∙ rw (templates_more code places lines at own);
}

pub filling_end : {s ps₀ rows₀ ps rows : List ℕ} {count at p own : ℕ} → count ≤ own
    → Filling s ps₀ rows₀ ps rows count at p own → FilledAll s ps₀ rows₀ ps rows at count p
filling_end {s} {ps₀} {rows₀} {ps} {rows} {count} {at} {p} {own} l h =
    let e : own ≡ count = omega (arith, h.few) in
    record {
      reads = λ code places lines f g w. record {
        read = h.is code places lines f g (same_less h.room w)
            ∙ templates_end s count own (templates_at code places lines at own) p (count - own) (drop p s) (omega arith) ∙ rw e;
        on = omega (arith, h.room);
        inside = h.inside;
      };
      inside = h.inside;
      on = omega (arith, h.room);
      placed = h.placed;
      rowed = h.rowed;
    }

-- An image filled: its count of templates stands at its own place.
pub fill_image : (s ps rows ps' rows' : List ℕ) (at n p next : ℕ) (x : Result Unit ImageError) → Reads s at I.word n p → p ≡ at + 2 → at < length rows
    → FillsAll s ps (set rows at n) ps' rows' p next n x → FillsImage s ps rows ps' rows' at x
unfolding image_at
fill_image s ps rows ps' rows' at n p next (Ok _) h e l g = record {
  next = next;
  reads = λ code places lines f k w.
      let d : get_or lines at 0 ≡ n = w.same at (omega (arith, g.on)) ∙ g.rowed.same at (omega arith) ∙ get_or-set_same rows at n 0 l in
      let r : Reads s p (I.templates n 0 n) (templates_at code places lines p n) next = g.reads code places lines f k w in
      record { read = rw (d, ← e, h.read) r.read; on = omega (arith, r.on); inside = r.inside };
  inside = g.inside;
  placed = same_less (omega arith) g.placed;
  rowed = same_trans (same_set at rows at n (omega arith)) (same_less (omega arith) g.rowed);
}
fill_image s ps rows ps' rows' at n p next (Err q) h e l g = rw h.read g
