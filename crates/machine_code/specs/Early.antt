-- What may happen to a frame. A child's value may reach its target before the sync, and then no want before that sync changes.
use Rattle.std.specs.Prelude.{◌≡◌, ℕ, suc, ◌==◌, ℤ, Bool, false, ◌||◌, if◌then◌else◌, Option, Some, None, List, [], ◌∷◌, ◌++◌, drop, slice_get}
use Rattle.cilk_meaning.specs.Alone.{Block, block_after}
use Rattle.cilk_meaning.specs.Locals.{Locals, deposited}
use Rattle.cilk_meaning.specs.Wants as want
use Rattle.cilk_meaning.specs.Wants.{Request, Deposit, Answer, Value, Children, Done}
use Rattle.machine_code.specs.Machine.{Code, Activation, Frame, Move, GoesOn, Requests, Ends, Stuck, look, wants, start_frame, starts}
use Rattle.machine_code.specs.declared.code.Proc.{Proc}

-- the locals of a function, where these values go to the first of the open functions: this one, if nobody called it
abbrev pub own : List Deposit → List Activation → Locals → Locals
own deposits [] locals = deposited deposits locals
own deposits (caller ∷ callers) locals = locals

abbrev pub own_callers : List Deposit → List Activation → List Activation
own_callers deposits [] = []
own_callers deposits (caller ∷ callers) = record caller { locals = own deposits callers caller.locals } ∷ own_callers deposits callers

-- The frame with these values in the locals of its own function, also where a plain call is open in it.
abbrev pub with_values : List Deposit → Frame → Frame
with_values deposits f = record f {
  running = record f.running { locals = own deposits f.callers f.running.locals };
  callers = own_callers deposits f.callers;
}

-- What may happen to a frame: it makes an instruction that asks for nothing, its request is answered, or a child's value comes.
pub data Event : Type 0 where
  Steps : Event
  Answered : (answer : Answer) → Event
  Receives : (target : ℕ) (value : ℤ) → Event

-- a frame, and the targets of the children that it spawned since its last sync
pub record Run : Type 0 where
  pub frame : Frame
  pub block : Block

-- a child of the block has this target
abbrev pub awaits : ℕ → Block → Bool
awaits target [] = false
awaits target (None ∷ block) = awaits target block
awaits target (Some first ∷ block) = (target == first) || awaits target block

abbrev pub stepped : Move → Block → Option Run
stepped (GoesOn frame) block = Some (record { frame = frame; block = block })
stepped (Requests request follows) block = None
stepped (Ends want) block = None
stepped Stuck block = None

abbrev pub resumed_with : Option Frame → Block → Option Run
resumed_with None block = None
resumed_with (Some frame) block = Some (record { frame = frame; block = block })

abbrev pub answered : Move → Answer → Block → Option Run
answered (GoesOn frame) answer block = None
answered (Requests request follows) answer block = resumed_with (follows answer) (block_after request block)
answered (Ends want) answer block = None
answered Stuck answer block = None

-- what an event makes of a frame, where it may happen: a value comes only for a target that waits for one
abbrev pub happens : Code → Event → Run → Option Run
happens code Steps run = stepped (look code run.frame) run.block
happens code (Answered answer) run = answered (look code run.frame) answer run.block
happens code (Receives target value) run =
    if awaits target run.block then Some (record { frame = with_values ((Some target, value) ∷ []) run.frame; block = run.block }) else None

abbrev pub goes_on_with : Option Run → (Run → Option Run) → Option Run
goes_on_with None next = None
goes_on_with (Some run) next = next run

-- what events make of a frame, one after another
abbrev pub after_events : Code → List Event → Run → Option Run
after_events code [] run = Some run
after_events code (event ∷ events) run = goes_on_with (happens code event run) (after_events code events)

abbrev pub start_run : Proc → List ℤ → ℕ → Run
start_run proc arguments depth = record { frame = start_frame proc arguments depth; block = [] }

-- The frame came to be by these events from the start of this procedure, at this depth and with these arguments.
pub record HasRun (code : Code) (depth procedure : ℕ) (arguments : List ℤ) (events : List Event) (run : Run) : Type 0 where
  pub proc : Proc
  pub is : slice_get code.procs procedure ≡ Some proc
  pub comes : after_events code events (start_run proc arguments depth) ≡ Some run

-- the answers, where these values come with those of the next sync
abbrev pub at_sync : List Deposit → List Answer → List Answer
at_sync kept [] = []
at_sync kept (Value v ∷ answers) = Value v ∷ at_sync kept answers
at_sync kept (Done ∷ answers) = Done ∷ at_sync kept answers
at_sync kept (Children more ∷ answers) = Children (kept ++ more) ∷ answers

-- the answers among the events and these behind them, where each value that came is kept for the next sync
abbrev pub held : List Deposit → List Event → List Answer → List Answer
held kept [] more = at_sync kept more
held kept (Steps ∷ events) more = held kept events more
held kept (Receives target value ∷ events) more = held (kept ++ (Some target, value) ∷ []) events more
held kept (Answered (Value v) ∷ events) more = Value v ∷ held kept events more
held kept (Answered Done ∷ events) more = Done ∷ held kept events more
held kept (Answered (Children deposits) ∷ events) more = Children (kept ++ deposits) ∷ held [] events more

abbrev pub answers_in : List Event → ℕ
answers_in [] = 0
answers_in (Steps ∷ events) = answers_in events
answers_in (Receives target value ∷ events) = answers_in events
answers_in (Answered answer ∷ events) = suc (answers_in events)

-- Values may come early, whatever happens to a frame.
pub record TakesEarly (code : Code) : Type 0 where
  -- What it then wants is what it would want if each value had come at its sync.
  pub wants : (depth procedure : ℕ) (arguments : List ℤ) (events : List Event) (run : Run) → HasRun code depth procedure arguments events run →
      (answers : List Answer) → wants code run.frame answers ≡ drop (answers_in events) (starts code depth procedure arguments (held [] events answers))
  -- No target waits for two children.
  pub apart : (depth procedure : ℕ) (arguments : List ℤ) (events : List Event) (run : Run) → HasRun code depth procedure arguments events run →
      (target child : ℕ) (given : List ℤ) (follows : Answer → Option Frame) → look code run.frame ≡ Requests (want.Spawn (Some target) child given) follows →
      awaits target run.block ≡ false
