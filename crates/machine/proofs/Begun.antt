-- A step that begins an opcode: its byte is fetched, and its instruction goes on from there. Assumes nothing.
use mathlib.Core.Path.{◌≡◌, refl, sym, ap, ap₂, ◌∙◌, subst}
use mathlib.Core.Bool.{Bool, true, false}
use mathlib.Core.Option.{Option, none, some}
use mathlib.Core.List.{List, [], ◌∷◌}
use Prim.Native.Nat.{ℕ, ◌+◌}
use native.Mathlib.Omega.{arith}
use lib.Dec.{ltb}
use lib.ListN.{get_or}
use Rattle.std.specs.Prelude.{if◌then◌else◌}
use Rattle.machine.specs.Error.{JsVmError, ip_out_of_bounds}
use Rattle.machine.specs.State.{State, Store, Frame, running}
use Rattle.machine.specs.Fields as S
use Rattle.machine.specs.Act as A
use Rattle.machine.specs.Act.{apply}
use Rattle.machine.specs.Program.{make, end, End, failed, went, ended, refused, did, Outcome, noting, unless_error, exec}
use Rattle.machine.specs.Instruction.{instruction}
use Rattle.machine.specs.Run.{Kind, begun, run_out, no_frame, kind_in, kind_of, body}

pub ended_went : {e : End} → ended e ≡ went → ⊥
ended_went q = let z : ◌≡◌ {A = ℕ} 0 1 = cc in omega arith

pub refused_went : {q : Store} → refused q ≡ went → ⊥
refused_went q = let z : ◌≡◌ {A = ℕ} 0 1 = cc in omega arith

-- an act that goes on has no error
pub no_error_lem : (e : Option JsVmError) (s : State) (o : Outcome) → (unless_error e s o).how ≡ went → unless_error e s o ≡ o
no_error_lem (some e) s o h = absurd (ended_went h)
no_error_lem none s o h = refl

-- The step's byte is k, and its place is within the code.
kind_within : (k : ℕ) (b : Bool) (n : ℕ) → (if b then begun n else run_out) ≡ begun k → (b ≡ true) × (n ≡ k)
kind_within k true n e = (refl, cc)
kind_within k false n e = let z : ◌≡◌ {A = ℕ} 0 1 = cc in absurd (omega arith)

module _ (s : State) (f : Frame) (fs : List Frame) where
  abbrev pub here : State
  here = S.set_frames (f ∷ fs) s

  abbrev pub fetched : State
  fetched = apply (A.jump (f.ip + 1)) here

  pub begins : (b : ℕ) → kind_of here ≡ begun b → exec (body (kind_of here)) here ≡ noting (did (A.jump (f.ip + 1)) []) (exec (instruction b) fetched)
  begins b e =
      let t = running here f in
      let w = kind_within b (ltb f.ip t.size) (get_or s.code (t.at + f.ip) 0) e in
      ap (λ (k : Kind). exec (body k) here) e
      ∙ ap₂ (λ (x : Bool) (y : ℕ). exec (if x then make (A.jump (f.ip + 1)) (instruction y) else end (failed ip_out_of_bounds)) here) w.0 w.1

-- An opcode that is begun has a frame, so what holds of each state with one holds of every such state.
pub in_frame : (b : ℕ) (P : State → Type 0) → ((s : State) (f : Frame) (fs : List Frame) → P (here s f fs)) → (s : State) → kind_of s ≡ begun b → P s
in_frame b P framed s e = go s.frames refl
  where
    go : (fs : List Frame) → s.frames ≡ fs → P s
    go [] ef = let z : ◌≡◌ {A = Kind} no_frame (begun b) = ap (kind_in s) (sym ef) ∙ e in let y : ◌≡◌ {A = ℕ} 0 1 = cc in absurd (omega arith)
    go (f ∷ fs) ef = let σ : s ≡ here s f fs = λ i. S.set_frames (ef i) s in subst P (sym σ) (framed s f fs)
