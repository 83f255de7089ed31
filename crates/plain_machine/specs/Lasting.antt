-- What lasts in a frame, whatever happens to it.
use Rattle.std.specs.Prelude.{◌≡◌, ◌≤◌, ℕ, ℤ, Option, Some, None, List, length, slice_get}
use Rattle.cilk_meaning.specs.Instance.{limits}
use Rattle.machine_code.specs.Early.{Event, HasRun, Run}
use Rattle.machine_code.specs.Machine.{Code, Frame}
use Rattle.machine_code.specs.Valid.{IsValid, params_of}
use Rattle.machine_code.specs.declared.code.Proc.{Proc}
use Rattle.plain_machine.specs.Standing.{StandsIn, own_locals}

-- The frame came to be by these events in a well formed code, from the start of a procedure with as many arguments as that has
-- parameters, and not too deep.
pub record HasLasted (code : Code) (depth procedure : ℕ) (arguments : List ℤ) (events : List Event) (run : Run) : Type 0 where
  pub valid : IsValid code
  pub params : length arguments ≡ params_of (slice_get code.procs procedure)
  pub deep : depth ≤ limits.depth
  pub has_run : HasRun code depth procedure arguments events run

abbrev pub locals_of : Option Proc → ℕ
locals_of None = 0
locals_of (Some proc) = proc.locals

-- It stands in its code, is as deep as at its start, and its own function has the locals of its procedure.
pub record Lasts (code : Code) (from procedure : ℕ) (frame : Frame) : Type 0 where
  pub stands : StandsIn code frame
  pub depth : frame.depth ≡ from
  pub locals : length (own_locals frame) ≡ locals_of (slice_get code.procs procedure)
