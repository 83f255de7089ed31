-- What a frame that stands in its code wants to spawn can be started.
use Rattle.std.specs.Prelude.{◌≡◌, ◌<◌, ◌≤◌, ℕ, ℤ, suc, Option, Some, None, List, length, slice_get}
use Rattle.cilk_meaning.specs.Instance.{limits}
use Rattle.machine_code.specs.Machine.{Code, Frame}
use Rattle.machine_code.specs.declared.code.Proc.{Proc}
use Rattle.plain_machine.specs.Standing.{own_locals}

-- the target, if there is one, is a local of the frame's own function
abbrev pub IsTarget : Option ℕ → Frame → Type 0
IsTarget None frame = Unit {0}
IsTarget (Some target) frame = target < length (own_locals frame)

-- A child with this target can be started: its procedure is one of the code and gets as many arguments as it has parameters, and it is not
-- too deep.
pub record CanStart (code : Code) (frame : Frame) (goal : Option ℕ) (procedure : ℕ) (arguments : List ℤ) : Type 0 where
  pub proc : Proc
  pub is : slice_get code.procs procedure ≡ Some proc
  pub params : length arguments ≡ proc.params
  pub depth : suc frame.depth ≤ limits.depth
  pub target : IsTarget goal frame
