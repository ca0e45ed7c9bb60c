-- The machine's program of each instruction, and what a byte names. Assumes nothing.
use Rattle.std.specs.Prelude.{ℕ, ◌≡◌, Option, MatchOption}
use Rattle.machine.specs.Error.{unknown_opcode}
use Rattle.machine.specs.Instruction as I
use Rattle.machine.specs.Program.{Program, end, failed}
use Rattle.opcode.specs.declared.Opcode.{Opcode}
use Rattle.opcode.specs.declared.Opcode.TheVariants as Op
use Rattle.opcode.specs.declared.Deferred.{Deferred}
use Rattle.opcode.specs.declared.Deferred.TheVariants as Left
use Rattle.opcode.specs.declared.Lookup.{Lookup}
use Rattle.opcode.specs.declared.Lookup.TheVariants as Read
use Rattle.opcode.specs.declared.Change.{Change}
use Rattle.opcode.specs.declared.Change.TheVariants as Write

abbrev pub instruction_of : Opcode → Program
instruction_of Op.LoadConst = I.LoadConst
instruction_of Op.LoadLocal = I.LoadLocal
instruction_of Op.StoreLocal = I.StoreLocal
instruction_of Op.LoadGlobal = I.LoadGlobal
instruction_of Op.StoreGlobal = I.StoreGlobal
instruction_of Op.LoadProperty = I.LoadProperty
instruction_of Op.StoreProperty = I.StoreProperty
instruction_of Op.LoadIndex = I.LoadIndex
instruction_of Op.StoreIndex = I.StoreIndex
instruction_of Op.Add = I.Add
instruction_of Op.Sub = I.Sub
instruction_of Op.Mul = I.Mul
instruction_of Op.Div = I.Div
instruction_of Op.Mod = I.Mod
instruction_of Op.Neg = I.Neg
instruction_of Op.Not = I.Not
instruction_of Op.BitAnd = I.BitAnd
instruction_of Op.BitOr = I.BitOr
instruction_of Op.BitXor = I.BitXor
instruction_of Op.ShiftLeft = I.ShiftLeft
instruction_of Op.ShiftRight = I.ShiftRight
instruction_of Op.Eq = I.Eq
instruction_of Op.StrictEq = I.StrictEq
instruction_of Op.NotEq = I.NotEq
instruction_of Op.StrictNotEq = I.StrictNotEq
instruction_of Op.Lt = I.Lt
instruction_of Op.Gt = I.Gt
instruction_of Op.LtEq = I.LtEq
instruction_of Op.GtEq = I.GtEq
instruction_of Op.LogicalAnd = I.LogicalAnd
instruction_of Op.LogicalOr = I.LogicalOr
instruction_of Op.Jump = I.Jump
instruction_of Op.JumpIfFalse = I.JumpIfFalse
instruction_of Op.JumpIfTrue = I.JumpIfTrue
instruction_of Op.Call = I.Call
instruction_of Op.Return = I.Return
instruction_of Op.CreateClosure = I.CreateClosure
instruction_of Op.CreateObject = I.CreateObject
instruction_of Op.CreateArray = I.CreateArray
instruction_of Op.GetThis = I.GetThis
instruction_of Op.Typeof = I.Typeof
instruction_of Op.Instanceof = I.Instanceof
instruction_of Op.In = I.In
instruction_of Op.Throw = I.Throw
instruction_of Op.EnterTry = I.EnterTry
instruction_of Op.LeaveTry = I.LeaveTry
instruction_of Op.Pop = I.Pop
instruction_of Op.Dup = I.Dup
instruction_of Op.Halt = I.Halt

abbrev pub looking_up : Lookup → Program
looking_up Read.LoadGlobal = I.LoadGlobal
looking_up Read.LoadProperty = I.LoadProperty
looking_up Read.LoadIndex = I.LoadIndex
looking_up Read.Call = I.Call
looking_up Read.CreateClosure = I.CreateClosure

abbrev pub changing : Change → Program
changing Write.StoreGlobal = I.StoreGlobal
changing Write.StoreProperty = I.StoreProperty
changing Write.StoreIndex = I.StoreIndex
changing Write.CreateObject = I.CreateObject
changing Write.CreateArray = I.CreateArray
changing Write.Typeof = I.Typeof

abbrev pub deferred : Deferred → Program
deferred (Left.Lookup op) = looking_up op
deferred (Left.Change op) = changing op
deferred (Left.Unknown b) = end (failed (unknown_opcode b))

-- Question 13: the byte has the instruction's program, or that of a byte that names none.
abbrev pub Decodes : ℕ → Option Opcode → Type 0
Decodes b r = MatchOption r (I.instruction b ≡ end (failed (unknown_opcode b))) (λ op. I.instruction b ≡ instruction_of op)
