-- Frames that came to be from the start of a procedure.
use Rattle.std.specs.Prelude.{◌≡◌, ℕ, ℤ, List}
use Rattle.machine_code.specs.Early.{Event, Run}
use Rattle.machine_code.specs.Machine.{Code, Frame}
use Rattle.plain_machine.specs.Lasting.{HasLasted}

-- The frame came to be by some events from the start of this procedure.
pub record IsRunOf (code : Code) (depth procedure : ℕ) (arguments : List ℤ) (frame : Frame) : Type 0 where
  pub events : List Event
  pub run : Run
  pub frame_is : run.frame ≡ frame
  pub lasted : HasLasted code depth procedure arguments events run

-- so does the one frame if the other did
abbrev pub RunsOn : Code → Frame → Frame → Type 0
RunsOn code old new = (depth procedure : ℕ) (arguments : List ℤ) → IsRunOf code depth procedure arguments old → IsRunOf code depth procedure arguments new
