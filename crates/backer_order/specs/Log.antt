-- A run as one line of events, with what memory they speak of.
use Rattle.std.specs.Prelude.{ℕ, ℤ, List, Bool, Option}
use Rattle.page_messages.specs.declared.closure.FrameId.{FrameId}

-- the frame of `main`
abbrev pub main_id : FrameId
main_id = record { node = 0; number = 0 }

-- What a frame does that others can see. Read and Write: the word and its value. Add: the word, its old value and the addend. Spawn: the
-- child.
pub data Act : Type 0 where
  Read : ℕ → ℤ → Act
  Write : ℕ → ℤ → Act
  Add : ℕ → ℤ → ℤ → Act
  Print : ℤ → Act
  Spawn : FrameId → Act
  Sync : Act

-- The marked words of one page; a word is named as in the whole memory.
pub record Part : Type 0 where
  pub page : ℕ
  pub mask : ℕ → Bool
  pub words : ℕ → ℤ

-- What a message says. Fetch: the page that is asked for. Page: the page and its words. Grant and Park: the frame. Done: the parent and the
-- child that returned. AddTo: the frame, the word and the addend. Added: the old value.
pub data Note : Type 0 where
  Fetch : ℕ → Note
  Page : ℕ → (ℕ → ℤ) → Note
  Reconcile : List Part → Note
  Ack : Note
  Ask : Note
  Grant : FrameId → Note
  Refuse : Note
  Done : FrameId → FrameId → Note
  Park : FrameId → Note
  AddTo : FrameId → ℕ → ℤ → Note
  Added : ℤ → Note

-- What a node does; the node comes first. Post names the receiver, Took the position at which the message was posted. Acts: an act of a
-- frame that stands on the node's stack. An Add stands where the home of its word does it, in the home's turn; its node is still that of
-- the frame, so an Add is the node's own item where the node is the home, and else one that the home owed to the node.
pub data Event : Type 0 where
  Nothing : Event
  Acts : ℕ → FrameId → Act → Event
  Tick : ℕ → FrameId → Event
  Drop : ℕ → ℕ → Event
  TakeUp : ℕ → FrameId → Event
  OwnFetch : ℕ → ℕ → (ℕ → ℤ) → Event
  OwnReconcile : ℕ → Part → Event
  Post : ℕ → ℕ → Note → Event
  Took : ℕ → ℕ → Event
  End : ℕ → Event

-- the event at each position, Nothing past the end
abbrev pub Events : Type 0
Events = ℕ → Event

-- The memory that nodes share: the page of each word, the home of each page, the word that each starts with, and the sum of two values
-- where it is in range.
pub record SharedMemory : Type 0 where
  pub page : ℕ → ℕ
  pub home : ℕ → ℕ
  pub start : ℕ → ℤ
  pub sum : ℤ → ℤ → Option ℤ
