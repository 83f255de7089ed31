-- What the steps of a run make of the service that it stands for.
use Rattle.std.specs.Prelude.{◌≡◌, ◌+◌, ℕ, ℤ, Option, Some, None, List, [], ◌∷◌, length}
use Rattle.cilk_meaning.specs.declared.ends.NodeEnd.{NodeEnd}
use Rattle.cilk_meaning.specs.declared.ends.NodeEnd.TheVariants.{Finished}
use Rattle.cilk_meaning.specs.Serve as service
use Rattle.cilk_meaning.specs.Serve.{State, serve, served, with_child}
use Rattle.cilk_meaning.specs.Wants.{Request, Read, Write, Add, Print, Spawn, Sync, Call, LoopTurn, Want, Asks, Returns, Traps}
use Rattle.cilk_meaning.specs.World.{End}
use Rattle.machine_code.specs.Early.{TakesEarly, with_values}
use Rattle.machine_code.specs.Machine.{Code, Frame, starts}
use Rattle.plain_machine.specs.declared.want.Want as declared
use Rattle.plain_machine.specs.declared.want.Want.TheVariants as shown
use Rattle.serial_run.specs.Running.{Stands}
use Rattle.serial_run.specs.declared.run.Run.{Run}

-- the want that is shown so, with these arguments for a child
abbrev pub meant_by : declared.Want → List ℤ → Want
meant_by (shown.Read word) arguments = Asks (Read word)
meant_by (shown.Write word value) arguments = Asks (Write word value)
meant_by (shown.Add word addend) arguments = Asks (Add word addend)
meant_by (shown.Print value) arguments = Asks (Print value)
meant_by (shown.Spawn procedure target) arguments = Asks (Spawn target procedure arguments)
meant_by shown.Sync arguments = Asks Sync
meant_by shown.Call arguments = Asks Call
meant_by shown.LoopTurn arguments = Asks LoopTurn
meant_by (shown.Return value) arguments = Returns value
meant_by (shown.Trap kind) arguments = Traps kind

-- The request is served: the run stands for what the service makes of each state that it stood for.
pub record Serves (code : Code) (request : Request) (old new : Run) : Type 0 where
  pub left : new.left ≡ old.left
  pub stands : (state : State) → Stands code old state → Stands code new (served (starts code) request state)

-- a want is served, where it is a request
abbrev pub ServesWant : Code → Want → Run → Run → Type 0
ServesWant code (Asks request) old new = Serves code request old new
ServesWant code (Returns value) old new = Unit {0}
ServesWant code (Traps kind) old new = Unit {0}

-- the frame with the value of a child, where that has a target
abbrev pub with_value : Option ℕ → ℤ → Frame → Frame
with_value None value frame = frame
with_value (Some target) value frame = with_values ((Some target, value) ∷ []) frame

-- The nearest parent got the value, and runs.
pub record GoesBack (code : Code) (state : State) (value : ℤ) (new : Run) : Type 0 where
  pub waiting : service.Parent
  pub others : List service.Parent
  pub is : state.waiting ≡ waiting ∷ others
  pub stands : Stands code new (record { running = with_child waiting value; waiting = others; world = state.world })

-- There was no parent, so `main` has returned.
pub record IsDone (code : Code) (state : State) (new : Run) (end : NodeEnd) : Type 0 where
  pub finished : end ≡ Finished
  pub alone : state.waiting ≡ []
  pub stands : Stands code new state

-- With the ticks that are left the service of what the run stands for ends so; with those that were made they are the budget.
pub record LeadsTo (code : Code) (whole : End) (budget : ℕ) (run : Run) : Type 0 where
  pub state : State
  pub stands : Stands code run state
  pub ticks : length state.world.log + run.left ≡ budget
  pub serves : TakesEarly code → serve (starts code) run.left state ≡ whole

-- The run has ended so.
pub record EndsAs (code : Code) (whole : End) (budget : ℕ) (end : NodeEnd) (run : Run) : Type 0 where
  pub state : State
  pub stands : Stands code run state
  pub ticks : length state.world.log + run.left ≡ budget
  pub ends : TakesEarly code → whole ≡ record { end = end; world = state.world }
