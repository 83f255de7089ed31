-- The dag of spawn and sync over the acts of a run, and location consistency: for each word there is one order of its accesses that keeps
-- the dag, and in which each read gives the last write before it.
use Rattle.std.specs.Prelude.{◌⊎◌, ◌≡◌, ℕ, ◌<◌, ◌≤◌}
use Rattle.page_messages.specs.declared.closure.FrameId.{FrameId}
use Rattle.backer_order.specs.Log.{Spawn, Sync, Acts, Events, SharedMemory}
use Rattle.backer_order.specs.Moments.{IsAccess}
use Rattle.backer_order.specs.Rules.{Caching}
use Rattle.backer_order.specs.HomeOrder.{Before, ReadsLast}
use Rattle.backer_order.specs.Edges.{ActOf, Stacks, Returns, Edges}
use Rattle.backer_order.specs.Ready.{Stages, ReadyRules}
use Rattle.backer_order.specs.HomeList.{HomeList}

-- An act is at or below an act of a frame: it is that one, or that one spawns a child below one of whose acts it is.
pub data Under (events : Events) (act : ℕ) : FrameId → ℕ → Type 0 where
  At : {frame : FrameId} {at : ℕ} → ActOf events frame at → act ≡ at → Under events act frame at
  Below : {frame : FrameId} {at : ℕ} → (node : ℕ) (child : FrameId) (next : ℕ) → events at ≡ Acts node frame (Spawn child) →
      Under events act child next → Under events act frame at

-- The frame syncs after one of its acts, and not after the other.
pub record SyncAt (events : Events) (frame : FrameId) (act later_act : ℕ) : Type 0 where
  pub at : ℕ
  pub node : ℕ
  pub after : act < at
  pub before : at ≤ later_act
  pub is : events at ≡ Acts node frame Sync

-- Two acts lie at or below two acts of one frame, in this order, and in series: the earlier one is the frame's own, or the frame syncs
-- between.
pub record Across (events : Events) (earlier later : ℕ) : Type 0 where
  pub frame : FrameId
  pub act : ℕ
  pub later_act : ℕ
  pub first : Under events earlier frame act
  pub second : Under events later frame later_act
  pub order : act < later_act
  pub serial : (earlier ≡ act) ⊎ SyncAt events frame act later_act

-- The earlier act spawns a child, and the later one is an act of that child or below one.
pub record IntoChild (events : Events) (earlier later : ℕ) : Type 0 where
  pub node : ℕ
  pub frame : FrameId
  pub child : FrameId
  pub act : ℕ
  pub is : events earlier ≡ Acts node frame (Spawn child)
  pub below : Under events later child act

-- in the dag the earlier act precedes the later one
abbrev pub Precedes : Events → ℕ → ℕ → Type 0
Precedes events earlier later = Across events earlier later ⊎ IntoChild events earlier later

-- Location consistency of what was done before `now`: each word has its list of accesses, which keeps the dag, and by which each access
-- obtains what the last one before it leaves.
pub record Consistent (events : Events) (memory : SharedMemory) (now : ℕ) : Type 0 where
  pub lists : (word : ℕ) → HomeList events memory now word
  pub dag : (node other word act later : ℕ) → later < now → IsAccess events node word act → IsAccess events other word later →
      Precedes events act later → Before events memory now word node act other later
  pub reads : ReadsLast events memory now

-- Each run under the rules for pages, edges and the ready list is location consistent, at each of its positions.
abbrev pub LocationConsistent : Type 0
LocationConsistent = (events : Events) (memory : SharedMemory) (has_returned : Returns) (stack : Stacks) (stage : Stages) (now : ℕ) →
    Caching events memory → Edges events memory has_returned stack → ReadyRules events stack stage → Consistent events memory now
