-- Marks on a code: which locals may wait for a child's value before each instruction, and which instructions are those of plain functions.
use Rattle.std.specs.Prelude.{◌≡◌, ℕ, suc, Bool, true, false, Option, Some, None, List, [], ◌∷◌, slice_get}
use Rattle.cilk_meaning.specs.Wants.{Deposit}
use Rattle.compiled_code.specs.Safe.{Set}
use Rattle.machine_code.specs.Machine.{Code, Activation}
use Rattle.machine_code.specs.declared.code.Proc.{Proc}
use Rattle.machine_code.specs.declared.instr.Instr.{Instr}
use Rattle.machine_code.specs.declared.instr.Instr.TheVariants as instr

abbrev pub IsWithin : Set → Set → Type 0
IsWithin few many = (k : ℕ) → few k ≡ true → many k ≡ true

-- every target is in the set
abbrev pub Targets : Set → List Deposit → Type 0
Targets set [] = Unit {0}
Targets set (first ∷ rest) = ((k : ℕ) → first.0 ≡ Some k → set k ≡ true) × Targets set rest

pub record Marks : Type 0 where
  pub waiting : ℕ → Set
  pub plain : ℕ → Bool

-- control may go from one place to another
abbrev pub Flows : Marks → ℕ → ℕ → Type 0
Flows m from to = IsWithin (m.waiting from) (m.waiting to) × (m.plain from ≡ true → m.plain to ≡ true)

-- a spawn's target waits behind it, and not before
abbrev pub Waits : Marks → ℕ → Option ℕ → Type 0
Waits m at None = Unit {0}
Waits m at (Some target) = (m.waiting (suc at) target ≡ true) × (m.waiting at target ≡ false)

-- No local that may wait is loaded or stored; spawns and syncs stand in `cilk` procedures, and calls are of plain functions.
abbrev pub IsMarked : Code → Marks → ℕ → Instr → Type 0
IsMarked code m at (instr.Load k) = (m.waiting at k ≡ false) × Flows m at (suc at)
IsMarked code m at (instr.Store k) = (m.waiting at k ≡ false) × Flows m at (suc at)
IsMarked code m at (instr.Jump to) = Flows m at to
IsMarked code m at (instr.JumpIfZero to) = Flows m at to × Flows m at (suc at)
IsMarked code m at (instr.Call procedure) = Flows m at (suc at) × ((proc : Proc) → slice_get code.procs procedure ≡ Some proc → m.plain proc.start ≡ true)
IsMarked code m at (instr.Spawn procedure target) = Flows m at (suc at) × Waits m at target × (m.plain at ≡ false)
IsMarked code m at instr.SyncAll = m.plain at ≡ false
IsMarked code m at instr.Return = Unit {0}
IsMarked code m at (instr.Const v) = Flows m at (suc at)
IsMarked code m at instr.Pop = Flows m at (suc at)
IsMarked code m at instr.Add = Flows m at (suc at)
IsMarked code m at instr.Sub = Flows m at (suc at)
IsMarked code m at instr.Mul = Flows m at (suc at)
IsMarked code m at instr.Div = Flows m at (suc at)
IsMarked code m at instr.Rem = Flows m at (suc at)
IsMarked code m at instr.Neg = Flows m at (suc at)
IsMarked code m at instr.Not = Flows m at (suc at)
IsMarked code m at instr.Eq = Flows m at (suc at)
IsMarked code m at instr.Ne = Flows m at (suc at)
IsMarked code m at instr.Lt = Flows m at (suc at)
IsMarked code m at instr.Le = Flows m at (suc at)
IsMarked code m at instr.Gt = Flows m at (suc at)
IsMarked code m at instr.Ge = Flows m at (suc at)
IsMarked code m at (instr.ReadShared array) = Flows m at (suc at)
IsMarked code m at (instr.WriteShared array) = Flows m at (suc at)
IsMarked code m at (instr.AddShared array) = Flows m at (suc at)
IsMarked code m at instr.PrintTop = Flows m at (suc at)
IsMarked code m at instr.Turn = Flows m at (suc at)

abbrev pub AreMarks : Code → Marks → Type 0
AreMarks code m = (at : ℕ) (i : Instr) → slice_get code.instrs at ≡ Some i → IsMarked code m at i

-- These locals of the frame's own function may wait where it stands: in that function itself, or in a plain function that it called.
abbrev pub MayWait : Marks → Set → List Activation → ℕ → Type 0
MayWait m set [] at = IsWithin set (m.waiting at)
MayWait m set (caller ∷ callers) at = (m.plain at ≡ true) × MayWait m set callers caller.pc
