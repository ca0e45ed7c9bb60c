-- The template that runs, and the operand bytes of its code. Assumes nothing.
use Prim.Native.Nat.{ℕ, ◌+◌, ◌-◌, ◌*◌, ◌≤◌, ◌<◌, max}
use native.Mathlib.Omega.{arith}
use Rattle.std.specs.Prelude.{Bool, ◌≡◌, refl, ltb, Option, Some, None, Err}
use mathlib.Core.List.{List, [], ◌∷◌}
use Rattle.std.proofs.Common.{sym, subst, ◌∙◌, lt-ltb, le-ltb}
use Rattle.std.proofs.Math.Path.{ap}
use Rattle.std.proofs.Math.ListN.{get_or}
use Rattle.std.specs.Prelude.{if◌then◌else◌}
use Rattle.machine.specs.Image as Im
use Rattle.machine.specs.State as St
use Rattle.machine.specs.Act as A
use Rattle.machine.specs.Program as P
use Rattle.machine.specs.Program.{Program, make, end}
use Rattle.machine.specs.Error.{ip_out_of_bounds}
use Rattle.machine.specs.Instruction as I
use Rattle.machine.specs.Out.{Out, ended, out, out_fetch, out_jump, out_end}
use Rattle.value.specs.Lists.{bytes_of, stack_pop}
use Rattle.value.specs.declared.JsVmError.TheVariants.{IpOutOfBounds}
use Rattle.image.specs.View.{images_of, constants_of}
use Rattle.image.specs.Load.{template_from}
use Rattle.stacks.specs.Layout.{frames_at}
use Rattle.stacks.specs.View
use Rattle.stacks.specs.Laws.{with_ip, jumped, ready_ip}
use Rattle.stacks.specs.declared.Depths.{Depths}
use Rattle.outcome.specs.Meets.{Meets, stepped, onward}
use Rattle.outcome.specs.declared.Part.TheVariants.{Ended}
use Rattle.outcome.specs.declared.Stepped.{Stepped}
use Rattle.fetch.specs.declared.Running.{Running}

abbrev pub byte_in : List ℕ → ℕ → ℕ → ℕ
byte_in code n k = get_or (bytes_of code n) k 0

-- The newest frame is one of this template.
pub record Runs (x : Running) (d : Depths) (w : List ℕ) : Type 0 where
  pub stands : d.frames ≡ 0 → ⊥
  pub image : get_or w (frames_at + 5 * (d.frames - 1)) 0 ≡ x.image
  pub template : get_or w (frames_at + 5 * (d.frames - 1) + 1) 0 ≡ x.template

-- What is kept of a template is what the tables say of it.
pub record Known (rows starts : List ℕ) (images : ℕ) (x : Running) : Type 0 where
  pub shape : (code places : List ℕ) → template_from code places x.shape ≡ get_or (get_or (images_of code places rows starts images) x.image []) x.template St.no_template

pub record Current (rows starts : List ℕ) (images : ℕ) (d : Depths) (w : List ℕ) (x : Running) : Type 0 where
  pub known : Known rows starts images x
  pub runs : (d.frames ≡ 0 → ⊥) → Runs x d w

-- The state s has this code loaded, n bytes of it, and in its images the template with this place and size.
pub record Coded (x : Running) (n : ℕ) (c : List ℕ) (s : St.State) : Type 0 where
  pub code : s.code ≡ bytes_of c n
  pub at : (St.template_of s x.image x.template).at ≡ x.shape.at
  pub size : (St.template_of s x.image x.template).size ≡ x.shape.size

-- and with these constants
pub record Pooled (x : Running) (code places : List ℕ) (s : St.State) : Type 0 where
  pub constants : (St.template_of s x.image x.template).constants ≡ constants_of code places x.shape.constants x.shape.constant_count

-- The state s has these bytes of code and text.
pub record Holding (b : St.Bytes) (s : St.State) : Type 0 where
  pub bytes : St.bytes s ≡ b

pub record CodedText (x : Running) (n : ℕ) (c : List ℕ) (b : St.Bytes) (s : St.State) : Type 0 where
  pub coded : Coded x n c s
  pub holding : Holding b s

-- Error 14: the operand bytes that were there are read.
abbrev pub cut_of : Running → Depths → Stepped
cut_of x d = stepped (with_ip (max d.ip x.shape.size) d) (Ended (Err IpOutOfBounds))

abbrev pub fetch_then : Option (ℕ × Depths) → (ℕ → Program) → Running → Depths → List ℕ → St.State → Out
fetch_then (Some (b, e)) k x d w s = out (k b) (View.on_stacks e w s)
fetch_then None k x d w s = ended (P.failed ip_out_of_bounds) (View.on_stacks (with_ip (max d.ip x.shape.size) d) w s)

-- an operand of `width` bytes
abbrev pub FetchReady : ℕ → ℕ → Option (ℕ × Depths) → Running → Depths → Type 0
FetchReady m width (Some (b, e)) x d = (e ≡ with_ip (d.ip + width) d) × (b < m) × (d.ip + width ≤ x.shape.size)
FetchReady m width None x d = x.shape.size < d.ip + width

-- THE CONTRACT of a reader of operands below m, of `width` bytes
pub record Reads (m width : ℕ) (reader : (ℕ → Program) → Program) (x : Running) (n : ℕ) (code : List ℕ) (d : Depths) (r : Option (ℕ × Depths)) : Type 0 where
  pub goes : (w : List ℕ) → Runs x d w → (s : St.State) → Coded x n code s → (k : ℕ → Program) → out (reader k) (View.on_stacks d w s) ≡ fetch_then r k x d w s
  pub ready : FetchReady m width r x d

abbrev pub Fetches : Running → ℕ → List ℕ → Depths → Option (ℕ × Depths) → Type 0
Fetches = Reads 256 1 I.fetch

abbrev pub FetchesWord : Running → ℕ → List ℕ → Depths → Option (ℕ × Depths) → Type 0
FetchesWord = Reads 65536 2 I.fetch_word

-- The newest frame
module _ {x : Running} {d : Depths} {w : List ℕ} (r : Runs x d w) where
  abbrev row : St.Frame
  row = View.frame_at w (frames_at + 5 * (d.frames - 1))

  frames_are : View.frames_of w d.frames d.ip ≡ St.set_ip d.ip (View.frame_at w (frames_at + 5 * (d.frames - 1))) ∷ View.rows_of w (d.frames - 1)
  frames_are = ap (St.top_at d.ip) (stack_pop (λ i. View.frame_at w (frames_at + 5 * i)) d.frames r.stands)

  image_is : (View.frame_at w (frames_at + 5 * (d.frames - 1))).image ≡ x.image
  unfolding View.frame_at
  image_is = r.image

  template_is : (View.frame_at w (frames_at + 5 * (d.frames - 1))).template ≡ x.template
  unfolding View.frame_at
  template_is = r.template

  -- the template that runs, and its image
  pub current_is : (s : St.State) → I.current (View.on_stacks d w s) (View.frames_of w d.frames d.ip) ≡ St.template_of s x.image x.template
  current_is s =
      ap (I.current (View.on_stacks d w s)) frames_are
      ∙ ap (λ (i : ℕ). St.template_of s i (View.frame_at w (frames_at + 5 * (d.frames - 1))).template) image_is
      ∙ ap (λ (t : ℕ). St.template_of s x.image t) template_is

  pub image_runs : I.current_image (View.frames_of w d.frames d.ip) ≡ x.image
  image_runs = ap I.current_image frames_are ∙ image_is

  pub runs_ip : (p : ℕ) → Runs x (with_ip p d) w
  runs_ip p = record { stands = r.stands; image = r.image; template = r.template }

  -- what a fetch does, by the template that runs
  by : St.State → (ℕ → Program) → Bool → ℕ → Program
  by s k b at = if b then make (A.jump (d.ip + 1)) (k (get_or s.code (at + d.ip) 0)) else end (P.failed ip_out_of_bounds)

  abbrev whole : St.State → (ℕ → Program) → Im.Template → Program
  whole s k t = if ltb d.ip t.size then make (A.jump (d.ip + 1)) (k (get_or s.code (t.at + d.ip) 0)) else end (P.failed ip_out_of_bounds)

  fetched : {n : ℕ} {code : List ℕ} (s : St.State) (h : Coded x n code s) (k : ℕ → Program)
      → out (I.fetch k) (View.on_stacks d w s) ≡ out (by s k (ltb d.ip x.shape.size) x.shape.at) (View.on_stacks d w s)
  unfolding by
  fetched s h k =
      let f : St.Frame = View.frame_at w (frames_at + 5 * (d.frames - 1)) in
      out_fetch (View.on_stacks d w s) k
      ∙ ap (λ (y : List St.Frame). out (I.fetch_from (View.on_stacks d w s) y k) (View.on_stacks d w s)) frames_are
      ∙ ap (λ (i : ℕ). out (whole s k (St.template_of s i (View.frame_at w (frames_at + 5 * (d.frames - 1))).template)) (View.on_stacks d w s)) image_is
      ∙ ap (λ (t : ℕ). out (whole s k (St.template_of s x.image t)) (View.on_stacks d w s)) template_is
      ∙ ap (λ (z : ℕ). out (by s k (ltb d.ip z) (St.template_of s x.image x.template).at) (View.on_stacks d w s)) h.size
      ∙ ap (λ (z : ℕ). out (by s k (ltb d.ip x.shape.size) z) (View.on_stacks d w s)) h.at

  pub fetch_past : {n : ℕ} {code : List ℕ} (s : St.State) (h : Coded x n code s) (k : ℕ → Program) → x.shape.size ≤ d.ip
      → out (I.fetch k) (View.on_stacks d w s) ≡ fetch_then None k x d w s
  unfolding by
  fetch_past s h k g =
      let z : max d.ip x.shape.size ≡ d.ip = omega arith in
      fetched s h k
      ∙ ap (λ (b : Bool). out (by s k b x.shape.at) (View.on_stacks d w s)) (le-ltb d.ip x.shape.size g)
      ∙ out_end (View.on_stacks d w s) (P.failed ip_out_of_bounds)
      ∙ ap (λ (p : ℕ). ended (P.failed ip_out_of_bounds) (View.on_stacks (with_ip p d) w s)) (sym z)

  pub fetch_there : {n : ℕ} {code : List ℕ} (s : St.State) (h : Coded x n code s) (k : ℕ → Program) → d.ip < x.shape.size
      → out (I.fetch k) (View.on_stacks d w s) ≡ out (k (byte_in code n (x.shape.at + d.ip))) (View.on_stacks (with_ip (d.ip + 1) d) w s)
  unfolding by
  fetch_there {n} {code} s h k g =
      let b = get_or s.code (x.shape.at + d.ip) 0 in
      fetched s h k
      ∙ ap (λ (b : Bool). out (by s k b x.shape.at) (View.on_stacks d w s)) (lt-ltb d.ip x.shape.size g)
      ∙ out_jump (View.on_stacks d w s) (d.ip + 1) (k b)
      ∙ ap (out (k b)) (sym (jumped d w (d.ip + 1) s))
      ∙ ap (λ (c : List ℕ). out (k (get_or c (x.shape.at + d.ip) 0)) (View.on_stacks (with_ip (d.ip + 1) d) w s)) h.code

-- One byte
module _ (x : Running) (n : ℕ) (code : List ℕ) (d : Depths) where
  pub reads_past : x.shape.size ≤ d.ip → Fetches x n code d None
  reads_past g = record { goes = λ w r s h k. fetch_past r s h k g; ready = omega arith }

  pub reads_there : (b : ℕ) (e : Depths) → d.ip < x.shape.size → b ≡ byte_in code n (x.shape.at + d.ip) → b < 256 → e ≡ with_ip (d.ip + 1) d → Fetches x n code d (Some (b, e))
  reads_there b e g q l f = record {
    goes = λ w r s h k. fetch_there r s h k g ∙ ap (λ (y : ℕ). out (k y) (View.on_stacks (with_ip (d.ip + 1) d) w s)) (sym q) ∙ ap (λ (y : Depths). out (k b) (View.on_stacks y w s)) (sym f);
    ready = (f, l, omega arith);
  }

  -- Two bytes
  pub word_none : {r : Option (ℕ × Depths)} → Fetches x n code d r → r ≡ None → FetchesWord x n code d None
  word_none {r} f g = record {
    goes = λ w q s h k. f.goes w q s h (λ hi. I.fetch λ lo. k (hi * 256 + lo)) ∙ ap (λ (y : Option (ℕ × Depths)). fetch_then y (λ hi. I.fetch λ lo. k (hi * 256 + lo)) x d w s) g;
    ready = let z : FetchReady 256 1 None x d = rw g at f.ready in omega (arith, z);
  }

  module _ {r : Option (ℕ × Depths)} {hi : ℕ} {e : Depths} (f : Fetches x n code d r) (g : r ≡ Some (hi, e)) where
    facts : FetchReady 256 1 (Some (hi, e)) x d
    facts = rw g at f.ready

    moved : (w : List ℕ) → Runs x d w → Runs x e w
    moved w q = subst (λ (y : Depths). Runs x y w) (sym facts.0) (runs_ip q (d.ip + 1))

    first : (w : List ℕ) (q : Runs x d w) (s : St.State) (h : Coded x n code s) (k : ℕ → Program) → out (I.fetch_word k) (View.on_stacks d w s) ≡ out (I.fetch λ lo. k (hi * 256 + lo)) (View.on_stacks e w s)
    first w q s h k = f.goes w q s h (λ hi. I.fetch λ lo. k (hi * 256 + lo)) ∙ ap (λ (y : Option (ℕ × Depths)). fetch_then y (λ hi. I.fetch λ lo. k (hi * 256 + lo)) x d w s) g

    pub word_half : {q : Option (ℕ × Depths)} → Fetches x n code e q → q ≡ None → FetchesWord x n code d None
    word_half {q} a b =
        let z : FetchReady 256 1 None x e = rw b at a.ready in
        let y : x.shape.size < d.ip + 1 + 1 = subst (λ (u : Depths). x.shape.size < u.ip + 1) facts.0 z in
        let o : max (d.ip + 1) x.shape.size ≡ max d.ip x.shape.size = omega (arith, facts.2, y) in
        record {
          goes = λ w p s h k.
              first w p s h k ∙ a.goes w (moved w p) s h (λ lo. k (hi * 256 + lo)) ∙ ap (λ (u : Option (ℕ × Depths)). fetch_then u (λ lo. k (hi * 256 + lo)) x e w s) b
              ∙ ap (λ (u : Depths). ended (P.failed ip_out_of_bounds) (View.on_stacks (with_ip (max u.ip x.shape.size) u) w s)) facts.0
              ∙ ap (λ (u : ℕ). ended (P.failed ip_out_of_bounds) (View.on_stacks (with_ip u d) w s)) o;
          ready = omega (arith, y);
        }

    pub word_got : {q : Option (ℕ × Depths)} {lo : ℕ} {c : Depths} → Fetches x n code e q → q ≡ Some (lo, c) → FetchesWord x n code d (Some ((hi * 256 + lo), c))
    word_got {q} {lo} {c} a b =
        let z : FetchReady 256 1 (Some (lo, c)) x e = rw b at a.ready in
        let y : c ≡ with_ip (d.ip + 1 + 1) d = z.0 ∙ ap (λ (u : Depths). with_ip (u.ip + 1) u) facts.0 in
        let t : d.ip + 1 + 1 ≤ x.shape.size = subst (λ (u : Depths). u.ip + 1 ≤ x.shape.size) facts.0 z.2 in
        let o : d.ip + 1 + 1 ≡ d.ip + 2 = omega arith in
        record {
          goes = λ w p s h k. first w p s h k ∙ a.goes w (moved w p) s h (λ lo. k (hi * 256 + lo)) ∙ ap (λ (u : Option (ℕ × Depths)). fetch_then u (λ lo. k (hi * 256 + lo)) x e w s) b;
          ready = (y ∙ ap (λ (u : ℕ). with_ip u d) o, omega (arith, facts.1, z.1), omega (arith, t));
        }

    pub byte_small : (hi < 256)
    byte_small = facts.1

-- What follows a fetch
module _ {m width : ℕ} {reader : (ℕ → Program) → Program} {x : Running} {n : ℕ} {code : List ℕ} {d : Depths} {r : Option (ℕ × Depths)} (f : Reads m width reader x n code d r) where
  pub got : {b : ℕ} {e : Depths} → r ≡ Some (b, e) → FetchReady m width (Some (b, e)) x d
  got g = rw g at f.ready

  pub got_ready : {b : ℕ} {e : Depths} {w : List ℕ} → r ≡ Some (b, e) → View.Ready d w → View.Ready e w
  got_ready {b} {e} {w} g a = subst (λ (y : Depths). View.Ready y w) (sym (got g).0) (ready_ip (d.ip + width) a)

  pub got_runs : {b : ℕ} {e : Depths} {w : List ℕ} → r ≡ Some (b, e) → Runs x d w → Runs x e w
  got_runs {b} {e} {w} g a = subst (λ (y : Depths). Runs x y w) (sym (got g).0) (runs_ip a (d.ip + width))

  pub got_operands : {b : ℕ} {e : Depths} → r ≡ Some (b, e) → e.operands ≡ d.operands
  got_operands g = ap (λ (y : Depths). y.operands) (got g).0

  module _ {H : St.State → Type 0} (k : ℕ → Program) {w : List ℕ} (c : (s : St.State) → H s → Coded x n code s) (q : Runs x d w) where
    pub after_fetch : {b : ℕ} {e : Depths} {y : Stepped} {w' : List ℕ} → r ≡ Some (b, e) → Meets H (k b) e w y w' → Meets H (reader k) d w y w'
    after_fetch g p = onward (λ s h. f.goes w q s (c s h) k ∙ ap (λ (u : Option (ℕ × Depths)). fetch_then u k x d w s) g) refl p

    pub fetch_fails : {y : Stepped} → r ≡ None → y ≡ cut_of x d → Meets H (reader k) d w y w
    fetch_fails g e = subst (λ (u : Stepped). Meets H (reader k) d w u w) (sym e) (record {
      goes = λ s h. f.goes w q s (c s h) k ∙ ap (λ (u : Option (ℕ × Depths)). fetch_then u k x d w s) g;
      kept = tt;
    })

-- Finding a template
pub finds : {rows starts : List ℕ} {images : ℕ} {x : Running} → Known rows starts images x → {d : Depths} {w : List ℕ} → ((d.frames ≡ 0 → ⊥) → Runs x d w) → Current rows starts images d w x
finds k r = record { known = k; runs = r }
