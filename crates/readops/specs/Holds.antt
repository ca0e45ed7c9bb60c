-- What the instructions of this crate ask of the rest of the state: that it is what the lent stores hold. Assumes nothing.
use Rattle.std.specs.Prelude.{ℕ, List, ◌≡◌}
use Rattle.std.proofs.Math.Option.{Option}
use Rattle.machine.specs.Value as M
use Rattle.machine.specs.State as St
use Rattle.machine.specs.Error as E
use Rattle.machine.specs.Program.{Program, look, end, failed}
use Rattle.machine.specs.Instruction as I
use Rattle.image.specs.View.{images_of}
use Rattle.heap.specs.View.{Held}
use Rattle.fetch.specs.declared.Running.{Running}
use Rattle.fetch.specs.Running.{Coded, Pooled, Holding}
use Rattle.readops.specs.declared.call.Callee.{Callee}
use Rattle.readops.specs.declared.call.Callee.TheVariants.{Function, Object, Other}

-- the code and the constants of the template that runs
pub record Constants (x : Running) (n : ℕ) (code places : List ℕ) (s : St.State) : Type 0 where
  pub coded : Coded x n code s
  pub pooled : Pooled x code places s

-- the texts b, and the objects, properties and globals of h
pub record Objects (b : St.Bytes) (h : Held) (s : St.State) : Type 0 where
  pub holding : Holding b s
  pub objects : s.objects ≡ h.objects
  pub properties : s.properties ≡ h.properties
  pub globals : s.globals ≡ h.globals

pub record Named (x : Running) (n : ℕ) (code places : List ℕ) (b : St.Bytes) (h : Held) (s : St.State) : Type 0 where
  pub constants : Constants x n code places s
  pub objects : Objects b h s

-- the templates of the images
pub record Templates (code places rows starts : List ℕ) (images : ℕ) (s : St.State) : Type 0 where
  pub held : s.images ≡ images_of code places rows starts images

-- the functions, and the templates that they name
pub record Callable (x : Running) (n : ℕ) (code places rows starts : List ℕ) (images : ℕ) (h : Held) (s : St.State) : Type 0 where
  pub coded : Coded x n code s
  pub functions : s.functions ≡ h.functions
  pub templates : Templates code places rows starts images s

-- a function called, or error 19
abbrev pub calling : Option St.Function → List M.Value → Program
calling f args = look λ s. I.call_function s f args

abbrev pub CalleeIs : Callee → M.Value → Type 0
CalleeIs (Function i) v = v ≡ M.function i
CalleeIs (Object i) v = v ≡ M.object i
CalleeIs Other v = (args : List M.Value) → I.call v args ≡ end (failed E.not_callable)

pub record CalleeOf (v : M.Value) (r : Callee) : Type 0 where
  pub is : CalleeIs r v
