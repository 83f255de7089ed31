-- When a frame stands in a code: control is where the code expects it, with the operands that it expects there.
use Rattle.std.specs.Prelude.{◌≡◌, ℕ, suc, ◌≤◌, false, ℤ, Some, List, [], ◌∷◌, length, slice_get}
use Rattle.cilk_meaning.specs.Instance.{limits}
use Rattle.machine_code.specs.Machine.{Code, Activation, Frame}
use Rattle.machine_code.specs.Valid.{IsValid, Shape, Leads}
use Rattle.machine_code.specs.declared.code.Proc.{Proc}

-- a procedure that is called from another function of the frame is plain
abbrev pub IsCallable : Proc → List Activation → Type 0
IsCallable proc [] = Unit {0}
IsCallable proc (caller ∷ callers) = proc.«cilk» ≡ false

-- The function is at a place of a procedure that expects so many operands there, and has its locals and room for its operands. These
-- are its callers.
pub record IsAt (code : Code) (shapes : ℕ → Shape) (operands : ℕ) (activation : Activation) (callers : List Activation) : Type 0 where
  pub procedure : ℕ
  pub proc : Proc
  pub is : slice_get code.procs procedure ≡ Some proc
  pub leads : Leads code.instrs shapes procedure proc operands activation.pc
  pub locals : length activation.locals ≡ proc.locals
  pub room : activation.room ≡ proc.operands
  pub callable : IsCallable proc callers

-- each caller is at a place that expects the value of the call on top of its operands
abbrev pub AreWaiting : Code → (ℕ → Shape) → List Activation → Type 0
AreWaiting code shapes [] = Unit {0}
AreWaiting code shapes (caller ∷ callers) = IsAt code shapes (suc (length caller.operands)) caller callers × AreWaiting code shapes callers

-- The frame stands in the code, which is well formed. So each of its steps finds what it takes.
pub record StandsIn (code : Code) (frame : Frame) : Type 0 where
  pub valid : IsValid code
  pub running : IsAt code valid.shapes (length frame.running.operands) frame.running frame.callers
  pub waiting : AreWaiting code valid.shapes frame.callers
  pub depth : frame.depth ≤ limits.depth

-- the locals of the frame's own function, the first of the open ones
abbrev pub own_locals_of : Activation → List Activation → List ℤ
own_locals_of running [] = running.locals
own_locals_of running (caller ∷ callers) = own_locals_of caller callers

abbrev pub own_locals : Frame → List ℤ
own_locals frame = own_locals_of frame.running frame.callers
