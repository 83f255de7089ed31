-- What is counted, and when two executions have one history and one memory.
use Rattle.std.specs.Prelude.{◌⊎◌, ◌≡◌, ℕ, zero, suc, ◌<◌, ℤ, Bool, true, false, cond}
use Rattle.backer_order.specs.HomeOrder.{Before}
use Rattle.backer_order.specs.Log.{Event, Acts, Tick, Events, SharedMemory}
use Rattle.backer_order.specs.Moments.{Leaves, IsLeaving}
use Rattle.determinacy.specs.Following.{Same}
use Rattle.determinacy.specs.Replies.{Trace, replies, Born}
use Rattle.page_messages.specs.declared.closure.FrameId.{FrameId}
use Rattle.span_tree.specs.Program.{Starts}

-- how often it holds below a number
unfoldable pub count : (ℕ → Bool) → ℕ → ℕ
count holds zero = 0
count holds (suc number) = cond (holds number) (suc (count holds number)) (count holds number)

-- an item of some frame
unfoldable pub is_item : Event → Bool
is_item (Acts node frame act) = true
is_item (Tick node frame) = true
is_item _ = false

-- the ticks of all nodes before `now`: each item costs one
abbrev pub all_ticks : Events → ℕ → ℕ
all_ticks events now = count (λ at. is_item (events at)) now

-- The row that corresponds to the frame, which was told the same and runs the same.
pub record ItsRow (starts : Starts) (run serial : Trace) (now finish : ℕ) (frame : FrameId) : Type 0 where
  pub row : FrameId
  pub born : Born serial.events finish row
  pub same : Same starts run serial frame row
  pub alike : replies starts run now frame ≡ replies starts serial finish row
  pub instance : run.instance frame ≡ serial.instance row

pub record ItsFrame (starts : Starts) (run serial : Trace) (now : ℕ) (row : FrameId) : Type 0 where
  pub frame : FrameId
  pub born : Born run.events now frame
  pub same : Same starts run serial frame row

-- The frames of the one are the rows of the other, one for one. They run the same and were told the same, with as many ticks.
pub record OneHistory (starts : Starts) (run serial : Trace) (now finish : ℕ) : Type 0 where
  pub rows : (frame : FrameId) → Born run.events now frame → ItsRow starts run serial now finish frame
  pub frames : (row : FrameId) → Born serial.events finish row → ItsFrame starts run serial now row
  pub one_row : (frame row other : FrameId) → Same starts run serial frame row → Same starts run serial frame other → row ≡ other
  pub one_frame : (frame other row : FrameId) → Same starts run serial frame row → Same starts run serial other row → frame ≡ other
  pub ticks : all_ticks run.events now ≡ all_ticks serial.events finish

-- This value was left by the last access in the home order of the word that leaves one.
pub record LastHome (events : Events) (memory : SharedMemory) (now word : ℕ) (value : ℤ) : Type 0 where
  pub node : ℕ
  pub at : ℕ
  pub inside : at < now
  pub leaves : Leaves events memory node word at value
  pub last : (other next : ℕ) → next < now → IsLeaving events memory other word next →
      (next ≡ at) ⊎ Before events memory now word other next node at

-- This is the start word, and no access leaves a value.
pub record NoneHome (events : Events) (memory : SharedMemory) (now word : ℕ) (value : ℤ) : Type 0 where
  pub start : value ≡ memory.start word
  pub none : (other next : ℕ) → next < now → IsLeaving events memory other word next → ⊥

-- the word at `now`, in its home order
abbrev pub MemoryOf : Events → SharedMemory → ℕ → ℕ → ℤ → Type 0
MemoryOf events memory now word value = LastHome events memory now word value ⊎ NoneHome events memory now word value
