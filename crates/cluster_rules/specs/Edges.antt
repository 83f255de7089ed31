-- The edge rules: what a node sends where the dag goes on at another node, and when a run ends.
use Rattle.std.specs.Prelude.{◌≡◌, ◌≢◌, ℕ, ℤ, Bool, true, false, Option, Some, None, List, [], ◌∷◌, ◌++◌}
use Rattle.cilk_meaning.specs.Alone.{Block}
use Rattle.cilk_meaning.specs.Wants.{Want, Asks, Returns, Traps, Answer}
use Rattle.cilk_meaning.specs.declared.ends.NodeEnd.{NodeEnd}
use Rattle.cilk_meaning.specs.declared.ends.NodeEnd.TheVariants.{Finished, Trapped, Budget}
use Rattle.machine_code.specs.Early as early
use Rattle.machine_code.specs.Early.{at_sync, after_events}
use Rattle.machine_code.specs.Machine.{Frame, wants}
use Rattle.page_messages.specs.declared.closure.Closure.{Closure}
use Rattle.page_messages.specs.declared.closure.JoinId.{JoinId}
use Rattle.page_messages.specs.declared.closure.Link.TheVariants.{Root, Away}
use Rattle.plain_machine.specs.Lasting.{HasLasted}
use Rattle.cluster_rules.specs.Turns.{Past}
use Rattle.cluster_rules.specs.Node.{Node}
use Rattle.cluster_rules.specs.Sendings.{AllSettled}
use Rattle.cluster_rules.specs.Lives.{Origin, Started, Carried, Life, want_of}
use Rattle.cluster_rules.specs.Frames.{stack_of, highest, next_join, ticks_of}
use Rattle.cluster_rules.specs.Asks.{Asked, asks_of, has_frames, is_asking, next_victim}
use Rattle.cluster_rules.specs.Paging.{HasReturned, IsAtJoin}

-- Reconcile before an edge: each Write of the node was afterwards in a settled sending.
abbrev pub IsAllClean : Node → Past → Type 0
IsAllClean node past = (word : ℕ) → AllSettled node word past

-- ---- closures

-- The frame came to be by events of the code from where the node has it: from the start of its procedure, or from the frame that came in
-- a closure. Of a frame that came in a closure the block it was in is not known, so any will do; what it wants then is said by `goes` below.
abbrev pub ComesFrom : Node → Origin → ℕ → Frame → Type 0
ComesFrom node (Started procedure arguments) depth frame =
    (events : List early.Event) × (block : Block) × HasLasted node.code depth procedure arguments events (record { frame = frame; block = block })
ComesFrom node (Carried older) depth frame =
    (events : List early.Event) × (before block : Block)
    × (after_events node.code events (record { frame = older; block = before }) ≡ Some (record { frame = frame; block = block }))

-- The closure is the state of the frame as the node has it. Some values are deposited in it already, those that the node keeps for the
-- frame's next Sync: for all further answers it wants what the frame wants where that Sync gets them.
pub record IsClosure (node : Node) (life : Life) (closure : Closure) : Type 0 where
  pub id : closure.id ≡ life.id
  pub comes : ComesFrom node life.origin life.depth closure.frame.frame
  pub depth : closure.frame.frame.depth ≡ life.depth
  pub goes : (answers : List Answer) → wants node.code closure.frame.frame answers ≡ life.goes (at_sync life.kept answers)
  pub acts : closure.acts ≡ life.acts
  pub link : closure.link ≡ life.link
  pub spawned : life.link ≢ Root → closure.spawned ≡ life.spawned
  pub join : closure.join ≡ life.join
  pub away : closure.away ≡ life.away

-- ---- asks and grants

-- The oldest Ask that is not answered has this sender, and is kept or not.
abbrev pub IsOldestAsk : Node → Past → ℕ → Bool → Type 0
IsOldestAsk node past sender kept = (later : List Asked) × (asks_of node past ≡ record { sender = sender; kept = kept } ∷ later)

-- A node asks where its stack and its ready list are empty and no Ask of it is unanswered.
pub record MayAsk (node : Node) (past : Past) (receiver : ℕ) : Type 0 where
  pub idle : has_frames node past ≡ false
  pub none_out : is_asking past ≡ false
  pub to : receiver ≡ next_victim node past
  pub other : receiver ≢ node.me

-- a frame that is granted for the first time in its block gets a new join of this node
abbrev pub join_for : Node → Past → Option JoinId → Option JoinId
join_for node past (Some join) = Some join
join_for node past None = Some (record { node = node.me; number = next_join node past })

-- the parent at a Grant: it has a join, and one child more is away
abbrev pub parted : Node → Past → Life → Life → Life
parted node past child parent = record parent { join = join_for node past parent.join; away = parent.away ++ child.spawned ∷ [] }

-- A Grant answers the oldest Ask, which is kept, by the bottom frame of a stack of at least two; the child above is separated from it.
pub record MayGrant (node : Node) (past : Past) (receiver : ℕ) (closure : Closure) : Type 0 where
  pub ask : IsOldestAsk node past receiver true
  pub above : List Life
  pub child : Life
  pub parent : Life
  pub stack : stack_of node past ≡ above ++ (child ∷ (parent ∷ []))
  pub state : IsClosure node (parted node past child parent) closure
  pub clean : IsAllClean node past

-- An Ask that is not kept is refused; a kept one only where stack and ready list are empty.
pub record MayRefuse (node : Node) (past : Past) (receiver : ℕ) : Type 0 where
  pub kept : Bool
  pub ask : IsOldestAsk node past receiver kept
  pub empty : kept ≡ true → has_frames node past ≡ false

-- ---- joins

-- A Done tells the join of the parent what the bottom frame, a child that is away, returned; the whole stack has returned.
pub record MayDone (node : Node) (past : Past) (receiver : ℕ) (join : JoinId) (index : ℕ) (value : ℤ) : Type 0 where
  pub life : Life
  pub returned : HasReturned node past life
  pub link : life.link ≡ Away join
  pub place : receiver ≡ join.node
  pub index_is : index ≡ life.spawned.index
  pub value_is : want_of life ≡ Some (Returns value)
  pub clean : IsAllClean node past

-- A Park takes a frame that waits at its Sync to its join.
pub record MayPark (node : Node) (past : Past) (receiver : ℕ) (join : JoinId) (closure : Closure) : Type 0 where
  pub life : Life
  pub at_join : IsAtJoin node past life join
  pub place : receiver ≡ join.node
  pub state : IsClosure node life closure
  pub clean : IsAllClean node past

-- ---- ends

-- each request costs a tick
abbrev pub costs_tick : Option Want → Bool
costs_tick (Some (Asks request)) = true
costs_tick (Some (Returns value)) = false
costs_tick (Some (Traps kind)) = false
costs_tick None = false

-- `main` has returned, and all is clean.
pub record IsFinished (node : Node) (past : Past) : Type 0 where
  pub life : Life
  pub returned : HasReturned node past life
  pub main : life.link ≡ Root
  pub clean : IsAllClean node past

-- The highest frame that has not returned wants this, a trap.
pub record IsTrapped (node : Node) (past : Past) (want : Want) : Type 0 where
  pub life : Life
  pub is : highest node past ≡ Some life
  pub wanted : want_of life ≡ Some want

-- all ticks are made, and one more is wanted
pub record IsSpent (node : Node) (past : Past) : Type 0 where
  pub life : Life
  pub is : highest node past ≡ Some life
  pub wanted : costs_tick (want_of life) ≡ true
  pub ticks : ticks_of past ≡ node.config.budget

abbrev pub MayEnd : Node → Past → NodeEnd → Type 0
MayEnd node past Finished = IsFinished node past
MayEnd node past (Trapped kind) = IsTrapped node past (Traps kind)
MayEnd node past Budget = IsSpent node past
