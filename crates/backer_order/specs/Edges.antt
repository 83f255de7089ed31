-- The rules for the edges of the dag: how frames stand on the stacks, what precedes a frame's next act, and what a node does where a frame
-- goes to another node (a grant), comes back (a join) or is waited for.
use Rattle.std.specs.Prelude.{◌⊎◌, ◌≡◌, ◌≢◌, ℕ, ℤ, zero, suc, ◌<◌, List, [], ◌∷◌, ◌++◌, Bool, true}
use Rattle.page_messages.specs.declared.closure.FrameId.{FrameId}
use Rattle.backer_order.specs.Log.{main_id, Act, Read, Write, Add, Print, Spawn, Sync, Note, Fetch, Grant, Done, Park, AddTo, Event, Acts, Drop, TakeUp, OwnFetch, Post, Tick, Events, SharedMemory}
use Rattle.backer_order.specs.Moments.{NoneBetween, AddDone, IsWrite, Resident}
use Rattle.backer_order.specs.Rules.{Cleaned}

-- the stack (the deque of frames) of each node at each position, the top first
abbrev pub Stacks : Type 0
Stacks = ℕ → ℕ → List FrameId

-- whether a frame has returned, at each position
abbrev pub Returns : Type 0
Returns = ℕ → FrameId → Bool

abbrev pub IsOn : FrameId → List FrameId → Type 0
IsOn frame [] = ⊥
IsOn frame (top ∷ below) = (top ≡ frame) ⊎ IsOn frame below

abbrev pub Each : (FrameId → Type 0) → List FrameId → Type 0
Each Holds frames = (frame : FrameId) → IsOn frame frames → Holds frame

-- ---- what the acts say of the frames

-- the frame makes an act at this position
abbrev pub ActOf : Events → FrameId → ℕ → Type 0
ActOf events frame at = (node : ℕ) × (act : Act) × (events at ≡ Acts node frame act)

abbrev pub block_after : Event → (FrameId → FrameId → Type 0) → FrameId → FrameId → Type 0
block_after (Acts node parent (Spawn spawned)) IsChild frame child = IsChild frame child ⊎ ((parent ≡ frame) × (spawned ≡ child))
block_after (Acts node parent Sync) IsChild frame child = IsChild frame child × (parent ≢ frame)
block_after _ IsChild frame child = IsChild frame child

-- the frame spawned the child since its last sync
unfoldable pub BlockChild : Events → ℕ → FrameId → FrameId → Type 0
BlockChild events zero frame child = ⊥
BlockChild events (suc now) frame child = block_after (events now) (BlockChild events now) frame child

abbrev pub early_after : ℕ → Event → (FrameId → FrameId → Type 0) → (FrameId → ℕ → Type 0) → FrameId → ℕ → Type 0
early_after now (Acts node actor (Spawn child)) IsChild Precedes frame act =
    Precedes frame act ⊎ (((actor ≡ frame) × (act ≡ now)) ⊎ ((child ≡ frame) × (Precedes actor act ⊎ (act ≡ now))))
early_after now (Acts node actor Sync) IsChild Precedes frame act =
    Precedes frame act ⊎ ((actor ≡ frame) × ((act ≡ now) ⊎ ((child : FrameId) × IsChild frame child × Precedes child act)))
early_after now (Acts node actor (Read word value)) IsChild Precedes frame act = Precedes frame act ⊎ ((actor ≡ frame) × (act ≡ now))
early_after now (Acts node actor (Write word value)) IsChild Precedes frame act = Precedes frame act ⊎ ((actor ≡ frame) × (act ≡ now))
early_after now (Acts node actor (Add word old addend)) IsChild Precedes frame act = Precedes frame act ⊎ ((actor ≡ frame) × (act ≡ now))
early_after now (Acts node actor (Print value)) IsChild Precedes frame act = Precedes frame act ⊎ ((actor ≡ frame) × (act ≡ now))
early_after now _ IsChild Precedes frame act = Precedes frame act

-- The act at this position precedes in the dag what the frame does next: the frame's own acts so far do, a child has what its parent had at
-- the spawn, with the spawn itself, and a sync adds what the block's children had.
unfoldable pub Early : Events → ℕ → FrameId → ℕ → Type 0
Early events zero frame act = ⊥
Early events (suc now) frame act = early_after now (events now) (BlockChild events now) (Early events now) frame act

-- ---- stacks

-- the other nodes' stacks stay as they were
abbrev pub Others : Stacks → ℕ → ℕ → Type 0
Others stack now node = (other : ℕ) → (other ≡ node → ⊥) → stack (suc now) other ≡ stack now other

-- The returned frames above this one leave the node's stack, and those of `top` come onto it.
pub record Moves (has_returned : Returns) (stack : Stacks) (now node : ℕ) (frame : FrameId) (top : List FrameId) : Type 0 where
  pub above : List FrameId
  pub below : List FrameId
  pub old : stack now node ≡ above ++ frame ∷ below
  pub returned : Each (λ one. has_returned now one ≡ true) above
  pub new : stack (suc now) node ≡ top ++ frame ∷ below
  pub others : Others stack now node

-- Some returned frames at the top leave the node's stack.
pub record Pops (has_returned : Returns) (stack : Stacks) (now node : ℕ) : Type 0 where
  pub above : List FrameId
  pub below : List FrameId
  pub old : stack now node ≡ above ++ below
  pub returned : Each (λ one. has_returned now one ≡ true) above
  pub new : stack (suc now) node ≡ below
  pub others : Others stack now node

-- the frame is the bottom one, and the child stands directly above it
abbrev pub Bottom : List FrameId → FrameId → FrameId → List FrameId → Type 0
Bottom frames child frame front = frames ≡ front ++ child ∷ (frame ∷ [])

-- The bottom frame leaves the node's stack, on which there is another one: it is stolen.
pub record Grants (stack : Stacks) (now node : ℕ) (frame : FrameId) : Type 0 where
  pub front : List FrameId
  pub child : FrameId
  pub old : Bottom (stack now node) child frame front
  pub new : stack (suc now) node ≡ front ++ child ∷ []
  pub others : Others stack now node

-- All frames leave the node's stack, of which this is the bottom one; each other one has returned.
pub record Empties (has_returned : Returns) (stack : Stacks) (now node : ℕ) (frame : FrameId) : Type 0 where
  pub front : List FrameId
  pub old : stack now node ≡ front ++ frame ∷ []
  pub returned : Each (λ one. has_returned now one ≡ true) front
  pub new : stack (suc now) node ≡ []
  pub others : Others stack now node

-- An add of the home's own moves its stack as any act does. Where the home serves another node's Add no stack changes.
pub record AddRule (memory : SharedMemory) (has_returned : Returns) (stack : Stacks) (now node : ℕ) (frame : FrameId) (word : ℕ) : Type 0 where
  pub own : memory.home (memory.page word) ≡ node → Moves has_returned stack now node frame []
  pub other : memory.home (memory.page word) ≢ node → (any : ℕ) → stack (suc now) any ≡ stack now any

-- what an event makes of the stacks
abbrev pub StackRule : SharedMemory → Returns → Stacks → ℕ → Event → Type 0
StackRule memory has_returned stack now (Acts node frame (Spawn child)) = Moves has_returned stack now node frame (child ∷ [])
StackRule memory has_returned stack now (Acts node frame (Add word old addend)) = AddRule memory has_returned stack now node frame word
StackRule memory has_returned stack now (Acts node frame act) = Moves has_returned stack now node frame []
StackRule memory has_returned stack now (Tick node frame) = Moves has_returned stack now node frame []
StackRule memory has_returned stack now (TakeUp node frame) =
    (stack now node ≡ []) × (stack (suc now) node ≡ frame ∷ []) × Others stack now node
StackRule memory has_returned stack now (Post node receiver (Grant frame)) = Grants stack now node frame
StackRule memory has_returned stack now (Post node receiver (Done parent child)) =
    Empties has_returned stack now node child × (has_returned now child ≡ true)
StackRule memory has_returned stack now (Post node receiver (Park frame)) = Empties has_returned stack now node frame
StackRule memory has_returned stack now (Post node receiver (Fetch page)) = Pops has_returned stack now node
StackRule memory has_returned stack now (Post node receiver (AddTo frame word addend)) = Moves has_returned stack now node frame []
StackRule memory has_returned stack now (OwnFetch node page words) = Pops has_returned stack now node
StackRule memory has_returned stack now _ = (any : ℕ) → stack (suc now) any ≡ stack now any

-- `main` stands on node 0, and the other nodes are idle
abbrev pub first_stacks : ℕ → List FrameId
first_stacks zero = main_id ∷ []
first_stacks (suc node) = []

-- ---- separation

-- the child stands directly above the frame, which is the bottom one
pub record IsAbove (stack : Stacks) (now node : ℕ) (frame child : FrameId) : Type 0 where
  pub front : List FrameId
  pub is : Bottom (stack now node) child frame front

abbrev pub away_after : Stacks → ℕ → Event → (FrameId → FrameId → Type 0) → FrameId → FrameId → Type 0
away_after stack now (Post node receiver (Grant granted)) IsAway frame child =
    IsAway frame child ⊎ ((granted ≡ frame) × IsAbove stack now node frame child)
away_after stack now (Acts node parent Sync) IsAway frame child = IsAway frame child × (parent ≢ frame)
away_after stack now _ IsAway frame child = IsAway frame child

-- since the frame's last sync it was stolen from below this child, which has stayed behind
unfoldable pub Away : Events → Stacks → ℕ → FrameId → FrameId → Type 0
Away events stack zero frame child = ⊥
Away events stack (suc now) frame child = away_after stack now (events now) (Away events stack now) frame child

abbrev pub here_after : Stacks → ℕ → Event → (FrameId → FrameId → Type 0) → FrameId → FrameId → Type 0
here_after stack now (Acts node parent (Spawn spawned)) IsHere frame child = IsHere frame child ⊎ ((parent ≡ frame) × (spawned ≡ child))
here_after stack now (Acts node parent Sync) IsHere frame child = IsHere frame child × (parent ≢ frame)
here_after stack now (Post node receiver (Grant granted)) IsHere frame child =
    IsHere frame child × (granted ≡ frame → IsAbove stack now node frame child → ⊥)
here_after stack now _ IsHere frame child = IsHere frame child

-- the frame spawned the child since its last sync, and was not stolen from below it
unfoldable pub Here : Events → Stacks → ℕ → FrameId → FrameId → Type 0
Here events stack zero frame child = ⊥
Here events stack (suc now) frame child = here_after stack now (events now) (Here events stack now) frame child

-- ---- where a frame is taken up

abbrev pub TakesUp : Events → FrameId → ℕ → Type 0
TakesUp events frame at = (node : ℕ) × (events at ≡ TakeUp node frame)

-- The frame was granted to the node, and was not taken up since.
pub record FromGrant (events : Events) (now node : ℕ) (frame : FrameId) : Type 0 where
  pub post : ℕ
  pub sender : ℕ
  pub is : events post ≡ Post sender node (Grant frame)
  pub before : post < now
  pub none : NoneBetween (TakesUp events frame) post now

-- The child's return was posted to the frame's join.
pub record HasDone (events : Events) (now : ℕ) (frame child : FrameId) : Type 0 where
  pub post : ℕ
  pub sender : ℕ
  pub receiver : ℕ
  pub is : events post ≡ Post sender receiver (Done frame child)
  pub before : post < now

-- The frame was parked at its join on the node, and was not taken up since.
pub record FromPark (events : Events) (now node : ℕ) (frame : FrameId) : Type 0 where
  pub post : ℕ
  pub sender : ℕ
  pub is : events post ≡ Post sender node (Park frame)
  pub before : post < now
  pub none : NoneBetween (TakesUp events frame) post now

-- So, and the join is complete: each child that was separated from the frame in this block has returned to it.
pub record FromJoin (events : Events) (stack : Stacks) (now node : ℕ) (frame : FrameId) : Type 0 where
  pub post : ℕ
  pub sender : ℕ
  pub is : events post ≡ Post sender node (Park frame)
  pub before : post < now
  pub none : NoneBetween (TakesUp events frame) post now
  pub complete : (child : FrameId) → Away events stack now frame child → HasDone events now frame child

-- each take-up is of a frame that was granted, or comes from its completed join
abbrev pub Taken : Events → Stacks → Type 0
Taken events stack = (now node : ℕ) (frame : FrameId) → events now ≡ TakeUp node frame →
    FromGrant events now node frame ⊎ FromJoin events stack now node frame

-- The frame's last take-up was from its join.
pub record Joined (events : Events) (now : ℕ) (frame : FrameId) : Type 0 where
  pub at : ℕ
  pub before : at < now
  pub node : ℕ
  pub is : events at ≡ TakeUp node frame
  pub join : FromPark events at node frame
  pub last : NoneBetween (TakesUp events frame) at now

-- ---- the cache at an edge

-- From this position the node does nothing but drop pages until it has dropped this one.
pub record DropsAll (events : Events) (now node page : ℕ) : Type 0 where
  pub at : ℕ
  pub after : now < at
  pub is : events at ≡ Drop node page
  pub between : (any : ℕ) → now < any → any < at → (other : ℕ) × (events any ≡ Drop node other)

-- each write of the node so far was cleaned
abbrev pub AllClean : Events → SharedMemory → ℕ → ℕ → Type 0
AllClean events memory node now = (word write : ℕ) → IsWrite events node word write → write < now →
    Cleaned events node (memory.page word) word write now

-- a message by which a whole stack leaves
abbrev pub IsLeave : Note → Type 0
IsLeave (Done parent child) = Unit {0}
IsLeave (Park frame) = Unit {0}
IsLeave _ = ⊥

-- a message by which an edge of the dag goes to another node
abbrev pub IsEdge : Note → Type 0
IsEdge (Grant frame) = Unit {0}
IsEdge (Done parent child) = Unit {0}
IsEdge (Park frame) = Unit {0}
IsEdge _ = ⊥

-- ---- the rules

abbrev pub Spawned : Events → FrameId → ℕ → Type 0
Spawned events child at = (node : ℕ) × (frame : FrameId) × (events at ≡ Acts node frame (Spawn child))

-- How frames stand on the stacks, and reconcile before an edge. The stacks go by the events. No frame is spawned twice, and `main` never. A
-- stack leaves only where no add of its node is waited for. Before a Grant, a Done or a Park all that the node wrote is merged at its
-- homes.
pub record Frames (events : Events) (memory : SharedMemory) (has_returned : Returns) (stack : Stacks) : Type 0 where
  pub start : (node : ℕ) → stack 0 node ≡ first_stacks node
  pub stacks : (now : ℕ) → StackRule memory has_returned stack now (events now)
  pub fresh : (child : FrameId) (at again : ℕ) → Spawned events child at → Spawned events child again → at ≡ again
  pub not_main : (child : FrameId) (at : ℕ) → Spawned events child at → child ≢ main_id
  pub leave : (node at post home receiver : ℕ) (frame : FrameId) (word : ℕ) (addend : ℤ) (note : Note) →
      events post ≡ Post node home (AddTo frame word addend) → post < at → events at ≡ Post node receiver note → IsLeave note →
      AddDone events memory node post at
  pub clean : (at node receiver : ℕ) (note : Note) → events at ≡ Post node receiver note → IsEdge note → AllClean events memory node at

-- The rules for edges, beside those for stacks. A frame that has returned makes no act, stays so, and has no child of its block left. Empty
-- cache at take-up: a node that takes up a frame drops its resident pages before all else. Joins: where a frame syncs that was stolen from
-- below a child of the block, its last take-up was from its join. With the rules for the ready list it follows that each child of the block
-- has returned by then.
pub record Edges (events : Events) (memory : SharedMemory) (has_returned : Returns) (stack : Stacks) : Type 0 where
  pub frames : Frames events memory has_returned stack
  pub no_act : (now : ℕ) (frame : FrameId) → has_returned now frame ≡ true → ActOf events frame now → ⊥
  pub stays : (now : ℕ) (frame : FrameId) → has_returned now frame ≡ true → has_returned (suc now) frame ≡ true
  pub no_children : (now : ℕ) (frame child : FrameId) → has_returned now frame ≡ true → BlockChild events now frame child → ⊥
  pub drops : (now node : ℕ) (frame : FrameId) (page arrival : ℕ) (words : ℕ → ℤ) → events now ≡ TakeUp node frame →
      Resident events node page now arrival words → DropsAll events now node page
  pub sync_joined : (now node : ℕ) (frame child : FrameId) → events now ≡ Acts node frame Sync → Away events stack now frame child →
      Joined events now frame
