-- How frames that run stand for the state of a service of instances.
use Rattle.std.specs.Prelude.{◌≡◌, ◌<◌, ℕ, ℤ, Option, Some, None, List, [], ◌∷◌, ◌++◌, length, reverse}
use Rattle.cilk_meaning.specs.Alone.{Block}
use Rattle.cilk_meaning.specs.Instance.{Meaning}
use Rattle.cilk_meaning.specs.Serve as service
use Rattle.cilk_meaning.specs.Serve.{Entry, State}
use Rattle.cilk_meaning.specs.Wants.{Deposit, Answer, Children}
use Rattle.elision_history.specs.Logged.{logged}
use Rattle.machine_code.specs.Early.{Event, TakesEarly, at_sync}
use Rattle.machine_code.specs.Machine.{Code, Frame, wants}
use Rattle.machine_code.specs.Valid.{words_in}
use Rattle.plain_machine.specs.Lasting.{HasLasted}
use Rattle.plain_machine.specs.Standing.{StandsIn}
use Rattle.plain_machine.specs.Starting.{IsTarget}
use Rattle.serial_run.specs.Elision.{AreWords}
use Rattle.serial_run.specs.declared.run.Parent.{Parent}
use Rattle.serial_run.specs.declared.run.Run.{Run}
use Rattle.span_tree.specs.History.{History}
use Rattle.span_tree.specs.Recording.{IsParentRow}

abbrev pub if_targeted : Option ℕ → ℤ → List Deposit → List Deposit
if_targeted None value deposits = deposits
if_targeted (Some target) value deposits = (Some target, value) ∷ deposits

-- the values that have a target
abbrev pub targeted : List Deposit → List Deposit
targeted [] = []
targeted (first ∷ rest) = if_targeted first.0 first.1 (targeted rest)

-- A value without a target changes no want.
pub record IsBlind (goes : Meaning) : Type 0 where
  pub same : (front : List Answer) (deposits : List Deposit) (back : List Answer) → goes (front ++ Children deposits ∷ back) ≡ goes (front ++ Children (targeted deposits) ∷ back)

-- The frame came to be so from some start at this depth, and the children with these targets are out.
pub record HasCome (code : Code) (depth : ℕ) (frame : Frame) (block : Block) : Type 0 where
  pub procedure : ℕ
  pub arguments : List ℤ
  pub events : List Event
  pub lasted : HasLasted code depth procedure arguments events (record { frame = frame; block = block })

-- The frame has the values of its children already, and wants what the instance wants that gets them at its next sync.
pub record GoesAs (code : Code) (frame : Frame) (entry : Entry) : Type 0 where
  pub same : (answers : List Answer) → wants code frame answers ≡ entry.goes (at_sync (targeted entry.kept) answers)
  pub blind : IsBlind entry.goes

-- A frame that waits for its child, whose value can go to its target.
pub record Waits (code : Code) (depth : ℕ) (parent : Parent) (waiting : service.Parent) : Type 0 where
  pub fine : StandsIn code parent.frame.frame
  pub block : Block
  pub come : HasCome code depth parent.frame.frame (block ++ parent.target ∷ [])
  pub target : parent.target ≡ waiting.target
  pub inside : IsTarget parent.target parent.frame.frame
  pub goes : TakesEarly code → GoesAs code parent.frame.frame waiting.entry

-- the nearest first
abbrev pub AllWait : Code → List Parent → List service.Parent → Type 0
AllWait code [] [] = Unit {0}
AllWait code [] (waiting ∷ others) = ⊥
AllWait code (parent ∷ parents) [] = ⊥
AllWait code (parent ∷ parents) (waiting ∷ others) = Waits code (length parents) parent waiting × AllWait code parents others

-- each instance that waits has the row that spawned the next one's
abbrev pub AreAbove : History → ℕ → List service.Parent → Type 0
AreAbove history row [] = Unit {0}
AreAbove history row (waiting ∷ others) = IsParentRow history row waiting.entry.row × (waiting.entry.row < row) × AreAbove history waiting.entry.row others

-- The run stands for the state. Its frames want what the instances want where values may come early in this code.
pub record Stands (code : Code) (run : Run) (state : State) : Type 0 where
  pub fine : StandsIn code run.frame.frame
  pub block : Block
  pub come : HasCome code (length run.parents.items) run.frame.frame block
  pub goes : TakesEarly code → GoesAs code run.frame.frame state.running
  pub waiting : AllWait code (reverse run.parents.items) state.waiting
  pub row : run.recording.row ≡ state.running.row
  pub inside : state.running.row < length run.recording.history
  pub above : AreAbove run.recording.history state.running.row state.waiting
  pub history : run.recording.history ≡ logged code.main state.world.log
  pub rows : state.world.rows ≡ length run.recording.history
  pub words : AreWords (words_in code.shared) state.world.memory run.words.items

abbrev pub IsStanding : Code → Run → Type 0
IsStanding code run = (state : State) × Stands code run state
