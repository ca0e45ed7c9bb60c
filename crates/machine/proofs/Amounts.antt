-- The amount asked is what the act adds to that store's use. Assumes nothing.
use mathlib.Core.Path.{◌≡◌, refl, sym, ap, ◌∙◌}
use mathlib.Core.Bool.{Bool, true, false}
use mathlib.Core.List.{List, [], ◌∷◌, ◌++◌, map}
use Prim.Native.Nat.{ℕ, ◌+◌}
use native.Mathlib.Omega.{arith}
use lib.ListN.{length, length-append}
use Rattle.machine.specs.Basic.{same, sum, sum_of}
use Rattle.machine.specs.Value.{Value, in_code}
use Rattle.machine.specs.Image.{Template, Constant, Read}
use Rattle.machine.specs.Image as I
use Rattle.machine.specs.State.{State, Frame, has_property, has_global, any}
use Rattle.machine.specs.Act as A
use Rattle.machine.specs.Act.{Act, Need, needs, elements, Held, brings}
use Rattle.machine.specs.Tally as T
use Rattle.machine.specs.Tally.{Tally, count, use_of}
use Rattle.machine.specs.Demand3.{All, stored_bytes}
use Rattle.machine.proofs.Images.{ConstantIn, TemplateIn, Good, image}
use Rattle.machine.proofs.Texts.{all_flat}
use Rattle.machine.proofs.Sound.{Sound, has_key, has_name}
use Rattle.machine.proofs.Frames as F
use Rattle.machine.proofs.Bounded.{length_elements}

pairs_added : (o : ℕ) (kvs : List (List ℕ × Value)) (t : Tally)
    → ((T.add_pairs o kvs t).objects ≡ t.objects) × (length (T.add_pairs o kvs t).pairs ≡ length t.pairs + length kvs)
    × ((T.add_pairs o kvs t).text ≡ t.text + sum_of (λ kv. length kv.0) kvs)
pairs_added o [] t = (refl, omega arith, omega arith)
pairs_added o (kv ∷ kvs) t =
    let h = pairs_added o kvs (T.add_pair o kv.0 t) in
    let e = length-append t.pairs (record { object = o; key = kv.0 } ∷ []) in
    let x = h.1 in let y = h.2 in
    (h.0, omega arith, omega arith)

put_adds : (b : Bool) (o : ℕ) (k : List ℕ) (t : Tally)
    → (length (T.put_pair b o k t).pairs ≡ length t.pairs + A.unless b 1) × ((T.put_pair b o k t).text ≡ t.text + A.unless b (length k))
put_adds true o k t = (omega arith, omega arith)
put_adds false o k t = (length-append t.pairs _, refl)

name_adds : (b : Bool) (n : List ℕ) (t : Tally)
    → (length (T.put_name b n t).names ≡ length t.names + A.unless b 1) × ((T.put_name b n t).text ≡ t.text + A.unless b (length n))
name_adds true n t = (omega arith, omega arith)
name_adds false n t = (length-append t.names _, refl)

reach_adds : (i : ℕ) (fs : List Frame) → sum (T.reach i (map F.slot_count fs)) ≡ sum (map F.slot_count fs) + A.lacking_top i fs
reach_adds i [] = refl
reach_adds i (f ∷ fs) = omega arith

pub amounts : (a : Act) (s : State) (t : Tally) → Sound s t → All (λ n. use_of (count a t) n.of ≡ use_of t n.of + n.amount) (needs a s)
amounts (A.push v) s t r = tt
amounts A.drop s t r = tt
amounts (A.drop_many n) s t r = tt
amounts (A.jump p) s t r = tt
amounts (A.push_frame i k vs) s t r = (omega arith, (omega arith, tt))
amounts A.pop_frame s t r = tt
amounts (A.store i v) s t r = (rw r.frames.counts at (reach_adds i s.frames), tt)
amounts (A.push_handler p) s t r = (omega arith, tt)
amounts A.pop_handler s t r = tt
amounts A.unwind s t r = tt
amounts (A.add_function i k) s t r = (refl, tt)
amounts A.add_object s t r = (refl, tt)
amounts (A.add_array vs) s t r =
    let h = pairs_added t.objects (elements 0 vs) (T.tally_objects (t.objects + 1) t) in
    let e = length_elements 0 vs in let x = h.1 in
    (h.0, (omega arith, (h.2, tt)))
amounts (A.put_property o k v) s t r = rw (has_key o k s t r) (let h = put_adds (any (T.is_key o k) t.pairs) o k t in (h.0, (h.1, tt)))
amounts (A.put_global n g) s t r =
    let h = name_adds (any (λ m. same m n) t.names) n t in let y = h.1 in
    rw (has_name n s t r) (h.0, (omega arith, tt))
amounts (A.keep_text bs) s t r = (refl, tt)
amounts (A.print bs) s t r = (refl, tt)
amounts (A.load bs) s t r = (refl, (refl, tt))
amounts A.empty_output s t r = tt

-- What an act adds to the text store's use are the texts that it brings there.

-- A text of an image is not there.
abbrev InCode : Held → Type 0
InCode h = h.text.store ≡ in_code

none_stored : (hs : List Held) → All InCode hs → stored_bytes hs ≡ 0
none_stored [] p = refl
none_stored (h ∷ hs) p = let e = none_stored hs p.1 in rw p.0 (omega arith)

constant_coded : (lo hi : ℕ) (bs : List ℕ) (c : Constant) → ConstantIn lo hi c → All InCode (A.held_constant lo bs c)
constant_coded lo hi bs (Constant.number n) w = tt
constant_coded lo hi bs (Constant.text t) w = (w.0, tt)
constant_coded lo hi bs (Constant.boolean b) w = tt
constant_coded lo hi bs Constant.null w = tt
constant_coded lo hi bs Constant.undefined w = tt
constant_coded lo hi bs (Constant.function t) w = tt

image_coded : (lo hi : ℕ) (bs : List ℕ) (r : Read (List Template)) → Good lo hi (All (TemplateIn lo hi)) r → All InCode (A.held_image lo bs (A.templates_read r))
image_coded lo hi bs (Read.refused n) g = tt
image_coded lo hi bs (Read.got ts at rest) g =
    all_flat (TemplateIn lo hi) InCode (λ t. A.flat_map (A.held_constant lo bs) t.constants)
    (λ t p. all_flat (ConstantIn lo hi) InCode (A.held_constant lo bs) (constant_coded lo hi bs) t.constants p) ts g.2

stored_keys : (o : ℕ) (kvs : List (List ℕ × Value)) (s : State) → stored_bytes (A.held_keys o kvs s) ≡ sum_of (λ kv. length kv.0) kvs
stored_keys o [] s = refl
stored_keys o (kv ∷ kvs) s = let h = stored_keys o kvs (A.add_property o kv.0 kv.1 s) in omega arith

stored_new : (b : Bool) (bs : List ℕ) (s : State) → stored_bytes (A.held_new b bs s) ≡ A.unless b (length bs)
stored_new true bs s = refl
stored_new false bs s = omega arith

stored_given : (b : Bool) (n : List ℕ) (g : A.Given) (s s' : State) → stored_bytes (A.held_new b n s ++ A.held_given g s') ≡ A.unless b (length n) + length (A.given_bytes g)
stored_given true n (A.plain v) s s' = refl
stored_given true n (A.as_bytes bs) s s' = omega arith
stored_given false n (A.plain v) s s' = omega arith
stored_given false n (A.as_bytes bs) s s' = omega arith

unwound_text : (hs : List T.Saved) (t : Tally) → (T.unwound hs t).text ≡ t.text
unwound_text [] t = refl
unwound_text (h ∷ hs) t = refl

pub charges : (a : Act) (s : State) (t : Tally) → Sound s t → (count a t).text ≡ t.text + stored_bytes (brings a s)
charges (A.push v) s t r = omega arith
charges A.drop s t r = omega arith
charges (A.drop_many n) s t r = omega arith
charges (A.jump p) s t r = omega arith
charges (A.push_frame i k vs) s t r = omega arith
charges A.pop_frame s t r = omega arith
charges (A.store i v) s t r = omega arith
charges (A.push_handler p) s t r = omega arith
charges A.pop_handler s t r = omega arith
charges A.unwind s t r = let e = unwound_text t.handlers t in omega arith
charges (A.add_function i k) s t r = omega arith
charges A.add_object s t r = omega arith
charges (A.add_array vs) s t r =
    let h = (pairs_added t.objects (elements 0 vs) (T.tally_objects (t.objects + 1) t)).2 in
    let e = stored_keys (length s.objects) (elements 0 vs) (A.add_kind _ s) in h ∙ ap (λ (n : ℕ). t.text + n) (sym e)
charges (A.put_property o k v) s t r =
    let e = stored_new (has_property s o k) k s in
    rw (← (has_key o k s t r)) ((put_adds (has_property s o k) o k t).1 ∙ ap (λ (n : ℕ). t.text + n) (sym e))
charges (A.put_global n g) s t r =
    let e = stored_given (has_global s n) n g s (A.add_text (A.new_name (has_global s n) n) s) in
    let h = (name_adds (has_global s n) n t).1 in
    rw (← (has_name n s t r)) (omega arith)
charges (A.keep_text bs) s t r = omega arith
charges (A.print bs) s t r = omega arith
charges (A.load bs) s t r =
    let lo = length s.code in
    let e : stored_bytes (brings (A.load bs) s) ≡ 0 = none_stored (brings (A.load bs) s) (image_coded lo (lo + length bs) bs (I.image lo bs) (image lo (lo + length bs) lo bs (omega arith) refl)) in omega arith
charges A.empty_output s t r = omega arith
