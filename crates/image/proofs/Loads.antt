-- From the two passes to the whole load. Assumes nothing.
use mathlib.Core.Path.{◌≡◌, refl, sym, ap, ◌∙◌}
use mathlib.Core.Bool.{Bool, true, false, ◌&&◌}
use mathlib.Core.Option.{none}
use mathlib.Core.List.{List, [], ◌∷◌, ◌++◌}
use Prim.Native.Nat.{ℕ, ◌+◌, ◌≤◌, ◌<◌}
use native.Mathlib.Omega.{arith}
use native.Mathlib.Nat.{add-zero}
use lib.Dec.{leb, eqb}
use lib.ListN.{length, take, drop, get_or, set, get_or-append}
use lib.Seq.{paste, length-paste, take-paste, take-length, drop_at, length-take-le, get_or-set_same, get_or-take}
use borrow.Author.Tests.{leb-true, eqb-true}
use Rattle.machine.specs.Image as I
use Rattle.machine.specs.Image.{Template, Read, Reader, refused, got, ◌>>=◌, after}
use Rattle.machine.specs.State.{limit, code_store, image_store}
use Rattle.machine.specs.Act.{templates_read}
use Rattle.machine.specs.Host.{refusal_read}
use Rattle.reader.specs.Says.{Refuses, Passed}
use Rattle.image.specs.View.{image_at, images_of, Same}
use Rattle.image.specs.Fills.{FilledImage, unasked}
use Rattle.image.specs.Load.{Stores, listed, unless, or_else, space_refusal, images, Agree, Sound, Appends, Fitting}
use Rattle.image.specs.declared.ImageCounts.{ImageCounts}
use Rattle.image.proofs.Lists.{list_more, same_refl, same_trans, same_less, same_set, same_take}
use Rattle.image.proofs.Shift as Shift

-- Templates are read, and the place after them is not looked at.
pub record Taken (y : Read (List Template)) : Type 0 where
  pub templates : List Template
  pub at : ℕ
  pub rest : List ℕ
  pub is : y ≡ got templates at rest

-- Pass 1 read the image as if it stood at 0; at k it is taken or refused alike.
alike_got : {A : Type 0} (R : A → List Template → Type 0) (k p : ℕ) (a : A) (r : List ℕ) (y : Read (List Template)) → Shift.Alike k R (got a p r) y → Taken y
alike_got R k p a r (refused q) h = absurd h
alike_got R k p a r (got ts q s) h = record { templates = ts; at = q; rest = s; is = refl }

alike_refused : {A : Type 0} (R : A → List Template → Type 0) (k q : ℕ) (y : Read (List Template)) → Shift.Alike k R (refused q) y → y ≡ refused q
alike_refused R k q (refused p) h = ap refused (sym h)
alike_refused R k q (got ts p s) h = absurd h

taken_by : {A : Type 0} (R : A → List Template → Type 0) (k p : ℕ) (a : A) (r : List ℕ) (x : Read A) (y : Read (List Template)) → Shift.Alike k R x y → x ≡ got a p r → Taken y
taken_by R k p a r (refused q) y h e = let z : ◌≡◌ {A = ℕ} 0 1 = cc in absurd (omega arith)
taken_by R k p a r (got b q s) y h e = alike_got R k q b s y h

refused_by : {A : Type 0} (R : A → List Template → Type 0) (k q : ℕ) (x : Read A) (y : Read (List Template)) → Shift.Alike k R x y → x ≡ refused q → y ≡ refused q
refused_by R k q (refused p) y h e = let z : p ≡ q = cc in rw z at (alike_refused R k p y h)
refused_by R k q (got a p r) y h e = let z : ◌≡◌ {A = ℕ} 0 1 = cc in absurd (omega arith)

taken : (k : ℕ) (bs : List ℕ) (next : ℕ) → Passed bs 0 I.image next → Taken (I.image k bs)
taken k bs next p = rw add-zero at (taken_by _ k next p.value (drop next bs) (I.image 0 bs) (I.image (k + 0) bs) (Shift.image k 0 bs) p.reads.read)

pub refused_there : (k : ℕ) (bs : List ℕ) (q : ℕ) → Refuses bs 0 I.image q → I.image k bs ≡ refused q
refused_there k bs q e = rw add-zero at (refused_by _ k q (I.image 0 bs) (I.image (k + 0) bs) (Shift.image k 0 bs) e)

pub good : (k : ℕ) (bs : List ℕ) (next : ℕ) → Passed bs 0 I.image next → refusal_read (I.image k bs) ≡ none
good k bs next p = rw (taken k bs next p).is

-- What is taken with questions 2 and 7 is read without them.
module _ (ts : List Template) (e : ℕ) (end : List ℕ) where
  end_got : (x : Read (List Template)) → after x (λ t. I.at_end t) ≡ got ts e end → x ≡ got ts e end
  end_got (refused q) h = let z : ◌≡◌ {A = ℕ} 0 1 = cc in absurd (omega arith)
  end_got (got t p []) h = h
  end_got (got t p (b ∷ r)) h = let z : ◌≡◌ {A = ℕ} 0 1 = cc in absurd (omega arith)

  ask_got : (b : Bool) (r : Reader (List Template)) (p : ℕ) (l : List ℕ) → after (I.ask 2 b r p l) (λ t. I.at_end t) ≡ got ts e end → r p l ≡ got ts e end
  ask_got true r p l h = end_got (r p l) h
  ask_got false r p l h = let z : ◌≡◌ {A = ℕ} 0 1 = cc in absurd (omega arith)

  word_got : (x : Read ℕ)
      → after x (λ n. I.ask 2 (leb 1 n && leb n 256) (I.templates n 0 n) >>= λ t. I.at_end t) ≡ got ts e end
      → after x (λ n. I.templates n 0 n) ≡ got ts e end
  word_got (refused q) h = let z : ◌≡◌ {A = ℕ} 0 1 = cc in absurd (omega arith)
  word_got (got n p r) h = ask_got (leb 1 n && leb n 256) (I.templates n 0 n) p r h

  pub unasked_got : (at : ℕ) (bs : List ℕ) → I.image at bs ≡ got ts e end → unasked at bs ≡ got ts e end
  unasked_got at bs h = word_got (I.word at bs) h

-- What question 33 asks, and 8 and 9.
all_four : (a b c d : Bool) → (a && b && c && d) ≡ true → (a ≡ true) × (b ≡ true) × (c ≡ true) × (d ≡ true)
all_four true true true true h = (refl, refl, refl, refl)
all_four true true true false h = let z : ◌≡◌ {A = ℕ} 0 1 = cc in absurd (omega arith)
all_four true true false d h = let z : ◌≡◌ {A = ℕ} 0 1 = cc in absurd (omega arith)
all_four true false c d h = let z : ◌≡◌ {A = ℕ} 0 1 = cc in absurd (omega arith)
all_four false b c d h = let z : ◌≡◌ {A = ℕ} 0 1 = cc in absurd (omega arith)

pub record Sizes (x : Stores) : Type 0 where
  pub code : length x.code ≡ limit code_store
  pub places : length x.places ≡ limit code_store
  pub rows : length x.rows ≡ limit code_store
  pub starts : length x.starts ≡ limit image_store

pub sizes : (x : Stores) → listed x ≡ true → Sizes x
sizes x h =
    let f = all_four (eqb (length x.code) (limit code_store)) (eqb (length x.places) (limit code_store)) (eqb (length x.rows) (limit code_store)) (eqb (length x.starts) (limit image_store)) h in
    record {
      code = eqb-true (length x.code) (limit code_store) f.0;
      places = eqb-true (length x.places) (limit code_store) f.1;
      rows = eqb-true (length x.rows) (limit code_store) f.2;
      starts = eqb-true (length x.starts) (limit image_store) f.3;
    }

space_by : (a b : Bool) → or_else (unless a 8) (unless b 9) ≡ none → (a ≡ true) × (b ≡ true)
space_by true true h = (refl, refl)
space_by true false h = let z : ◌≡◌ {A = ℕ} 0 1 = cc in absurd (omega arith)
space_by false b h = let z : ◌≡◌ {A = ℕ} 0 1 = cc in absurd (omega arith)

pub fits : (c : ImageCounts) (n : ℕ) → space_refusal c n ≡ none → (c.code + n ≤ limit code_store) × (c.images + 1 ≤ limit image_store)
fits c n h =
    let f = space_by (leb (c.code + n) (limit code_store)) (leb (c.images + 1) (limit image_store)) h in
    (leb-true (c.code + n) (limit code_store) f.0, leb-true (c.images + 1) (limit image_store) f.1)

good_by : (y : Read (List Template)) → refusal_read y ≡ none → Taken y
good_by (refused q) h = let z : ◌≡◌ {A = ℕ} 0 1 = cc in absurd (omega arith)
good_by (got ts p r) h = record { templates = ts; at = p; rest = r; is = refl }

-- The bytes of the store in use, after the copy.
copied_all : (code bs : List ℕ) (count : ℕ) → count + length bs ≤ length code
    → take (count + length bs) (paste code count bs (length bs)) ≡ take count code ++ bs
copied_all code bs count h = take-paste code count bs (length bs) (omega arith) (omega arith) ∙ rw take-length

copied_drop : (code bs : List ℕ) (count : ℕ) → count ≤ length code → drop count (take count code ++ bs) ≡ bs
copied_drop code bs count h = drop_at (take count code) bs count (length-take-le count code h)

copied_below : (code bs code' : List ℕ) (count end : ℕ) → count ≤ length code → count ≤ end → take end code' ≡ take count code ++ bs → Same count code code'
copied_below code bs code' count end h l e = record {
  same = λ j m.
      let k : j < length (take count code) = rw (length-take-le count code h) m in
      sym (get_or-take end code' j 0 (omega arith)) ∙ rw e (get_or-append (take count code) bs 0 j k) ∙ get_or-take count code j 0 m;
}

-- One image more in the list of images.
images_more : (x : Stores) (n : ℕ) → images x (n + 1) ≡ images x n ++ (image_at x.code x.places x.rows (get_or x.starts n 0) ∷ [])
unfolding images_of
images_more x n = list_more (λ i. image_at x.code x.places x.rows (get_or x.starts i 0)) n

-- The stores after the two passes.
abbrev pub after_load : Stores → ImageCounts → List ℕ → List ℕ → List ℕ → Stores
after_load x c code places rows = record { code = code; places = places; rows = rows; starts = set x.starts c.images c.code }

module _ (x : Stores) (c : ImageCounts) (bs code' : List ℕ) (fitting : Fitting x c bs) (pasted : code' ≡ paste x.code c.code bs (length bs)) where
  abbrev end : ℕ
  end = c.code + length bs

  room : (c.code + length bs ≤ limit code_store) × (c.images + 1 ≤ limit image_store)
  room = fits c (length bs) fitting.room

  sized : Sizes x
  sized = sizes x fitting.sized

  there : take end code' ≡ take c.code x.code ++ bs
  there = rw pasted (copied_all x.code bs c.code (omega (arith, room, sized.code)))

  taken_image : Taken (I.image c.code bs)
  taken_image = good_by (I.image c.code bs) fitting.good

  -- Pass 2 reads in the store what pass 1 read in the image.
  unasked_there : unasked c.code (drop c.code (take end code')) ≡ got taken_image.templates taken_image.at taken_image.rest
  unasked_there =
      let h : c.code ≤ length x.code = omega (arith, room, sized.code) in
      rw (there, copied_drop x.code bs c.code h)
      (unasked_got taken_image.templates taken_image.at taken_image.rest c.code bs taken_image.is)

  pub append_never : (q : ℕ) → Refuses (take end code') c.code unasked q → ⊥
  append_never q h =
      let u = unasked_there in
      let z : ◌≡◌ {A = ℕ} 0 1 = cc in omega arith

  kept : length code' ≡ length x.code
  kept = rw pasted (length-paste x.code c.code bs (length bs) (omega (arith, room, sized.code)) (omega arith))

  module _ (places' rows' : List ℕ) (g : FilledImage (take end code') x.places x.rows places' rows' c.code) where
    abbrev y : Stores
    y = after_load x c code' places' rows'

    abbrev d : ImageCounts
    d = record { code = end; images = c.images + 1 }

    in_store : end ≤ length code'
    in_store = omega (arith, room, sized.code, kept)

    short : g.next ≤ end
    short = let e : length (take end code') ≡ end = length-take-le end code' in_store in omega (arith, g.inside, e)

    -- Whatever agrees with these stores shows the new image.
    shows : (code places rows : List ℕ) → Same end code' code → Same end places' places → Same end rows' rows
        → image_at code places rows c.code ≡ templates_read (I.image c.code bs)
    shows code places rows e f k =
        let l = short in
        let r = (g.reads code places rows (same_less l (same_trans (same_take end code') e)) (same_less l f) (same_less l k)).read in
        let u = unasked_there in
        let v : image_at code places rows c.code ≡ taken_image.templates = cc in
        rw taken_image.is v

    start_is : get_or (set x.starts c.images c.code) c.images 0 ≡ c.code
    start_is = get_or-set_same x.starts c.images c.code 0 (omega (arith, room, sized.starts))

    agree : Agree c x y
    agree = record {
      code = copied_below x.code bs code' c.code end (omega (arith, room, sized.code)) (omega arith) there;
      places = g.placed;
      rows = g.rowed;
      starts = same_set c.images x.starts c.images c.code (omega arith);
    }

    -- Older images are as they were, and the new one is there, in whatever agrees.
    all_shown : Sound x c → (z : Stores) → Agree d y z → images z (c.images + 1) ≡ images x c.images ++ (templates_read (I.image c.code bs) ∷ [])
    all_shown h z w =
        let older : images z c.images ≡ images x c.images = h.steady z (record {
          code = same_trans agree.code (same_less (omega arith) w.code);
          places = same_trans agree.places (same_less (omega arith) w.places);
          rows = same_trans agree.rows (same_less (omega arith) w.rows);
          starts = same_trans agree.starts (same_less (omega arith) w.starts);
        }) in
        let start : get_or z.starts c.images 0 ≡ c.code = w.starts.same c.images (omega arith) ∙ start_is in
        images_more z c.images ∙ rw (older, start, shows z.code z.places z.rows w.code w.places w.rows)

    itself : Agree d y y
    itself = record { code = same_refl; places = same_refl; rows = same_refl; starts = same_refl }

    pub appended : Appends x y c bs d
    appended = record {
      counts = refl;
      code = there;
      view = λ h. all_shown h y itself;
      sound = λ h. record { inside = in_store; steady = λ z w. all_shown h z w ∙ sym (all_shown h y itself) };
    }
