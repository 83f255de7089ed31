-- BACKER's rules for pages, and those for adds: a page is used in the cache, comes from its home, goes back to it by a reconcile, and
-- leaves the cache clean. Each rule is asked at every position of a run.
use Rattle.std.specs.Prelude.{◌⊎◌, ◌≡◌, ◌≢◌, ℕ, ℤ, ◌<◌, List, true, Some}
use Rattle.page_messages.specs.declared.closure.FrameId.{FrameId}
use Rattle.backer_order.specs.Log.{Read, Write, Add, Print, Spawn, Sync, Part, Note, Fetch, Page, Reconcile, Ack, AddTo, Added, Event, Acts, Drop, TakeUp, OwnFetch, OwnReconcile, Post, Took, Tick, Events, SharedMemory}
use Rattle.backer_order.specs.Moments.{NoneBetween, Answers, Serves, Tells, Answered, IsWrite, HasRead, IsTouch, Resident, LastWrite, NoWrite, HasPart, Sending, Sends, Received, Settled}

-- what the node does by itself; an add is that of its node only where the node is the home
abbrev pub IsItem : SharedMemory → ℕ → Event → Type 0
IsItem memory node (Acts actor frame (Read word value)) = actor ≡ node
IsItem memory node (Acts actor frame (Write word value)) = actor ≡ node
IsItem memory node (Acts actor frame (Add word old addend)) = (actor ≡ node) × (memory.home (memory.page word) ≡ node)
IsItem memory node (Acts actor frame (Print value)) = actor ≡ node
IsItem memory node (Acts actor frame (Spawn child)) = actor ≡ node
IsItem memory node (Acts actor frame Sync) = actor ≡ node
IsItem memory node (Tick actor frame) = actor ≡ node
IsItem memory node (Drop actor page) = actor ≡ node
IsItem memory node (TakeUp actor frame) = actor ≡ node
IsItem memory node (OwnFetch actor page words) = actor ≡ node
IsItem memory node (OwnReconcile actor part) = actor ≡ node
IsItem memory node _ = ⊥

-- a message that is posted only where no answer is waited for
abbrev pub IsAlone : Note → Type 0
IsAlone (Fetch page) = Unit {0}
IsAlone (AddTo frame word addend) = Unit {0}
IsAlone _ = ⊥

-- ---- messages

-- A message that a node takes was posted to it before, and is taken once.
pub record Delivery (events : Events) : Type 0 where
  pub posted : (at node post : ℕ) → events at ≡ Took node post →
      (sender : ℕ) × (note : Note) × (events post ≡ Post sender node note) × (post < at)
  pub once : (at again node other post : ℕ) → events at ≡ Took node post → events again ≡ Took other post → at ≡ again

-- ---- the cache

-- Resident access: a node reads and writes resident pages alone. It does nothing, and neither fetches nor asks for an add, while an answer
-- is waited for. A page that it fetches is absent, and so is the page of an add, where the node asks for the add or does it.
pub record Access (events : Events) (memory : SharedMemory) : Type 0 where
  pub resident : (node word at : ℕ) → IsTouch events node word at →
      (arrival : ℕ) × (words : ℕ → ℤ) × Resident events node (memory.page word) at arrival words
  pub item : (node at post receiver : ℕ) (note : Note) → IsItem memory node (events at) → post < at →
      events post ≡ Post node receiver note →
      Answered events memory node post at note
  pub alone : (node at post receiver other : ℕ) (note later : Note) → events at ≡ Post node other later → IsAlone later → post < at →
      events post ≡ Post node receiver note → Answered events memory node post at note
  pub absent : (node page post home arrival : ℕ) (words : ℕ → ℤ) → events post ≡ Post node home (Fetch page) →
      Resident events node page post arrival words → ⊥
  pub own_absent : (node page at arrival : ℕ) (found words : ℕ → ℤ) → events at ≡ OwnFetch node page found →
      Resident events node page at arrival words → ⊥
  pub add_absent : (node : ℕ) (frame : FrameId) (word : ℕ) (addend : ℤ) (post home arrival : ℕ) (words : ℕ → ℤ) →
      events post ≡ Post node home (AddTo frame word addend) → Resident events node (memory.page word) post arrival words → ⊥
  pub own_add_absent : (node : ℕ) (frame : FrameId) (word : ℕ) (old addend : ℤ) (at arrival : ℕ) (words : ℕ → ℤ) →
      events at ≡ Acts node frame (Add word old addend) → memory.home (memory.page word) ≡ node →
      Resident events node (memory.page word) at arrival words → ⊥

-- Cached read: a read gives the node's last write of the word in this stay of its page, and where there is none, the word that arrived.
pub record Reads (events : Events) (memory : SharedMemory) : Type 0 where
  pub own : (node word at : ℕ) (value : ℤ) (arrival write : ℕ) (written : ℤ) (words : ℕ → ℤ) → HasRead events node word at value →
      Resident events node (memory.page word) at arrival words → LastWrite events node word arrival at write written → value ≡ written
  pub page : (node word at : ℕ) (value : ℤ) (arrival : ℕ) (words : ℕ → ℤ) → HasRead events node word at value →
      Resident events node (memory.page word) at arrival words → NoWrite events node word arrival at → value ≡ words word

-- Marked reconcile: what is sent is a resident page. A marked word was written in this stay and not sent since, and is sent as last
-- written; and each word that was written and not sent since is marked.
pub record Cleaning (events : Events) (memory : SharedMemory) (node post : ℕ) (part : Part) : Type 0 where
  pub arrival : ℕ
  pub found : ℕ → ℤ
  pub resident : Resident events node (part.page) post arrival found
  pub marked : (word : ℕ) → memory.page word ≡ part.page → part.mask word ≡ true →
      (write : ℕ) × LastWrite events node word arrival post write (part.words word) × NoneBetween (Sends events node (part.page)) write post
  pub all : (word write : ℕ) → memory.page word ≡ part.page → IsWrite events node word write → arrival < write → write < post →
      NoneBetween (Sends events node (part.page)) write post → part.mask word ≡ true

abbrev pub Cleans : Events → SharedMemory → Type 0
Cleans events memory = (node post : ℕ) (part : Part) → Sending events node post part → Cleaning events memory node post part

-- What was written at `write` was sent home afterwards with its word marked, and is known at `now` to be merged.
pub record Cleaned (events : Events) (node its_page word write now : ℕ) : Type 0 where
  pub post : ℕ
  pub part : Part
  pub after : write < post
  pub sends : Sending events node post part
  pub page : part.page ≡ its_page
  pub marked : part.mask word ≡ true
  pub settled : Settled events node post now

-- Clean drop: a page that is dropped is resident, and each write to it in this stay was cleaned.
pub record Dropping (events : Events) (memory : SharedMemory) (node page at : ℕ) : Type 0 where
  pub arrival : ℕ
  pub found : ℕ → ℤ
  pub resident : Resident events node page at arrival found
  pub clean : (word write : ℕ) → memory.page word ≡ page → IsWrite events node word write → arrival < write → write < at →
      Cleaned events node page word write at

abbrev pub Drops : Events → SharedMemory → Type 0
Drops events memory = (node page at : ℕ) → events at ≡ Drop node page → Dropping events memory node page at

-- ---- homes

-- The home of the word changes it to this value: it merges a part in which the word is marked, or does an add whose sum is in range.
pub data Changes (events : Events) (memory : SharedMemory) (word at : ℕ) (value : ℤ) : Type 0 where
  MergedAt : (node post : ℕ) (part : Part) → Sending events node post part → Received events post at → part.page ≡ memory.page word →
      part.mask word ≡ true → part.words word ≡ value → Changes events memory word at value
  AddedAt : (node : ℕ) (frame : FrameId) (old addend : ℤ) → events at ≡ Acts node frame (Add word old addend) →
      memory.sum old addend ≡ Some value → Changes events memory word at value

abbrev pub IsChange : Events → SharedMemory → ℕ → ℕ → Type 0
IsChange events memory word at = (value : ℤ) × Changes events memory word at value

pub record LastChange (events : Events) (memory : SharedMemory) (word now at : ℕ) (value : ℤ) : Type 0 where
  pub before : at < now
  pub changes : Changes events memory word at value
  pub none : NoneBetween (IsChange events memory word) at now

-- the word that the home has at `now`: what the last change before left, or the start word
abbrev pub HomeWord : Events → SharedMemory → ℕ → ℕ → ℤ → Type 0
HomeWord events memory word now value = ((at : ℕ) × LastChange events memory word now at value) ⊎
    (((at : ℕ) → at < now → IsChange events memory word at → ⊥) × (value ≡ memory.start word))

-- The home's reply at `reply` is that for the message posted at `post`, which it took at `taking`.
pub record Replying (events : Events) (home reply post taking : ℕ) : Type 0 where
  pub answers : Answers events home reply taking
  pub took : events taking ≡ Took home post

-- Home replies: pages are fetched from their home and parts are sent to it, by messages where it is another node. A Page answers a Fetch,
-- and has the words that the home had where it took the Fetch; an own fetch has those that the home has. An Ack answers a Reconcile.
pub record Homes (events : Events) (memory : SharedMemory) : Type 0 where
  pub fetch_to : (node receiver page post : ℕ) → events post ≡ Post node receiver (Fetch page) →
      (receiver ≡ memory.home page) × (receiver ≢ node)
  pub part_to : (node receiver post : ℕ) (part : Part) (parts : List Part) → events post ≡ Post node receiver (Reconcile parts) →
      HasPart part parts → (receiver ≡ memory.home (part.page)) × (receiver ≢ node)
  pub own_part : (node at : ℕ) (part : Part) → events at ≡ OwnReconcile node part → memory.home (part.page) ≡ node
  pub own_fetch : (node page at : ℕ) (words : ℕ → ℤ) → events at ≡ OwnFetch node page words →
      (memory.home page ≡ node) × ((word : ℕ) → memory.page word ≡ page → HomeWord events memory word at (words word))
  pub page : (home node page reply : ℕ) (words : ℕ → ℤ) → events reply ≡ Post home node (Page page words) →
      (taking post : ℕ) × Replying events home reply post taking × (events post ≡ Post node home (Fetch page)) ×
      ((word : ℕ) → memory.page word ≡ page → HomeWord events memory word taking (words word))
  pub ack : (home node reply : ℕ) → events reply ≡ Post home node Ack →
      (taking post : ℕ) × (parts : List Part) × Replying events home reply post taking × (events post ≡ Post node home (Reconcile parts))

-- ---- adds

-- The add at `at` serves the node's Add, which its home took and owes.
pub record Serving (events : Events) (memory : SharedMemory) (home node : ℕ) (frame : FrameId) (word : ℕ) (addend : ℤ) (at : ℕ) : Type 0 where
  pub taking : ℕ
  pub post : ℕ
  pub serves : Serves events memory home at taking
  pub took : events taking ≡ Took home post
  pub posted : events post ≡ Post node home (AddTo frame word addend)

-- Add at home: an add is done by the home of its word, for itself or for the node that asked for it. Its old value is the word that the
-- home has, and an Added tells it.
pub record Adds (events : Events) (memory : SharedMemory) : Type 0 where
  pub add_to : (node receiver : ℕ) (frame : FrameId) (word : ℕ) (addend : ℤ) (post : ℕ) →
      events post ≡ Post node receiver (AddTo frame word addend) → (receiver ≡ memory.home (memory.page word)) × (receiver ≢ node)
  pub served : (node : ℕ) (frame : FrameId) (word : ℕ) (old addend : ℤ) (at : ℕ) → events at ≡ Acts node frame (Add word old addend) →
      memory.home (memory.page word) ≢ node → Serving events memory (memory.home (memory.page word)) node frame word addend at
  pub old : (node : ℕ) (frame : FrameId) (word : ℕ) (old addend : ℤ) (at : ℕ) → events at ≡ Acts node frame (Add word old addend) →
      HomeWord events memory word at old
  pub added : (home node : ℕ) (value : ℤ) (reply : ℕ) → events reply ≡ Post home node (Added value) →
      (at : ℕ) × (frame : FrameId) × (word : ℕ) × (addend : ℤ) × Tells events memory home reply at ×
      (events at ≡ Acts node frame (Add word value addend))

-- All rules for pages and adds.
pub record Caching (events : Events) (memory : SharedMemory) : Type 0 where
  pub delivery : Delivery events
  pub access : Access events memory
  pub reads : Reads events memory
  pub cleans : Cleans events memory
  pub drops : Drops events memory
  pub homes : Homes events memory
  pub adds : Adds events memory
