-- Where the frames of a node are: on its stack, on its ready list, or parked at its joins. How many it has named, and its ticks.
use Rattle.std.specs.Prelude.{◌==◌, ◌&&◌, ◌+◌, if◌then◌else◌, ℕ, ℤ, Bool, Option, Some, None, is_some, List, [], ◌∷◌, ◌++◌}
use Rattle.std.specs.List.{list_any, list_all}
use Rattle.cilk_meaning.specs.Wants.{Deposit, Done as DoneAnswer}
use Rattle.page_messages.specs.declared.closure.JoinId.{JoinId}
use Rattle.page_messages.specs.declared.closure.Child.{Child}
use Rattle.page_messages.specs.declared.closure.Closure.{Closure}
use Rattle.page_messages.specs.declared.message.Body.{Body}
use Rattle.page_messages.specs.declared.message.Body.TheVariants.{Fetch, Grant, Done, Park, Add, Added}
use Rattle.page_messages.specs.declared.log.LoggedAct.TheVariants.{Spawn}
use Rattle.page_messages.specs.declared.log.Item.{Item}
use Rattle.page_messages.specs.declared.log.Item.TheVariants.{Act, Tick, TakeUp, OwnFetch, Served}
use Rattle.cluster_rules.specs.Walking.{given, is_empty, first_of, last_of, with_first}
use Rattle.cluster_rules.specs.Turns.{Event, Did, Sent, Took, Past}
use Rattle.cluster_rules.specs.Node.{Node}
use Rattle.cluster_rules.specs.Sendings.{adds_in}
use Rattle.cluster_rules.specs.Home.{owed_adds}
use Rattle.cluster_rules.specs.Lives.{Life, same_join, live, answered, added, after_act, main_life, without_bottom, carried}

-- ---- joins of the node

abbrev pub done_in : JoinId → ℕ → Body → Option ℤ
done_in join index (Done other child value) = if same_join other join && (child == index) then Some value else None
done_in join index _ = None

-- the value of the Done of this child that is taken
abbrev pub done_by : JoinId → ℕ → Event → Option ℤ
done_by join index (Took message) = done_in join index message.body
done_by join index _ = None

abbrev pub is_done : JoinId → Past → Child → Bool
is_done join past child = list_any (λ event. is_some (done_by join child.index event)) past

abbrev pub deposit_of : Child → Option ℤ → List Deposit
deposit_of child None = []
deposit_of child (Some value) = (child.target, value) ∷ []

-- what the Dones of these children gave back
abbrev pub done_deposits : JoinId → List Child → Past → List Deposit
done_deposits join [] past = []
done_deposits join (child ∷ children) past = deposit_of child (given (done_by join child.index) past) ++ done_deposits join children past

-- a frame that waits at its Sync for a join of this node
pub record Parked : Type 0 where
  pub join : JoinId
  pub closure : Closure

-- A join is complete where its frame is parked, and a Done was taken for each child that was separated from the frame in this block.
abbrev pub is_complete : Past → Parked → Bool
is_complete past parked = list_all (is_done parked.join past) parked.closure.away

-- the frame of a complete join
abbrev pub joined : Node → Past → Parked → Life
joined node past parked =
    record (carried node parked.closure) { join = None; away = []; kept = done_deposits parked.join parked.closure.away past }

abbrev pub all_joined : Node → Past → List Parked → List Life
all_joined node past [] = []
all_joined node past (first ∷ parked) = if is_complete past first then joined node past first ∷ all_joined node past parked else all_joined node past parked

abbrev pub still_parked : Past → List Parked → List Parked
still_parked past [] = []
still_parked past (first ∷ parked) = if is_complete past first then still_parked past parked else first ∷ still_parked past parked

-- ---- where frames are

pub record Frames : Type 0 where
  -- the top first
  pub stack : List Life
  -- the oldest first
  pub ready : List Life
  pub parked : List Parked

abbrev pub with_stack : List Life → Frames → Frames
with_stack stack frames = record frames { stack = stack }

-- the first frame of the ready list becomes the stack
abbrev pub taken_up : List Life → List Life → List Parked → Frames
taken_up stack [] parked = record { stack = stack; ready = []; parked = parked }
taken_up stack (life ∷ ready) parked = record { stack = life ∷ []; ready = ready; parked = parked }

-- A Served item is an own add where none is owed; else it changes no stack.
abbrev pub frames_item : Node → Item → Past → Frames → Frames
frames_item node (Act frame index act) past frames = with_stack (after_act node act (live frames.stack)) frames
frames_item node (Tick frame) past frames = with_stack (with_first (answered DoneAnswer) (live frames.stack)) frames
frames_item node (TakeUp frame) past frames = taken_up frames.stack frames.ready frames.parked
frames_item node (OwnFetch page words) past frames = with_stack (live frames.stack) frames
frames_item node (Served frame index word old addend) past frames =
    with_stack (if is_empty (owed_adds past) then added old (live frames.stack) else frames.stack) frames
frames_item node _ past frames = frames

abbrev pub stack_sent : Body → List Life → List Life
stack_sent (Fetch page) stack = live stack
stack_sent (Add frame index word addend) stack = live stack
stack_sent (Grant closure) stack = without_bottom closure.join stack
stack_sent (Done join index value) stack = []
stack_sent (Park join closure) stack = []
stack_sent _ stack = stack

-- the frames whose joins are complete come to the ready list
abbrev pub with_joined : Node → Past → Frames → Frames
with_joined node past frames =
    record { stack = frames.stack; ready = frames.ready ++ all_joined node past frames.parked; parked = still_parked past frames.parked }

-- As a message is taken; the past ends with that.
abbrev pub frames_took : Node → Body → Past → Frames → Frames
frames_took node (Grant closure) past frames = record frames { ready = frames.ready ++ carried node closure ∷ [] }
frames_took node (Park join closure) past frames =
    with_joined node past (record frames { parked = frames.parked ++ record { join = join; closure = closure } ∷ [] })
frames_took node (Done join index value) past frames = with_joined node past frames
-- the frame on top waited for the old value
frames_took node (Added old) past frames = with_stack (added old frames.stack) frames
frames_took node _ past frames = frames

abbrev pub frames_on : Node → Event → Past → Frames → Frames
frames_on node (Did item) past frames = frames_item node item past frames
frames_on node (Sent message) past frames = with_stack (stack_sent message.body frames.stack) frames
frames_on node (Took message) past frames = frames_took node message.body (Took message ∷ past) frames
frames_on node _ past frames = frames

-- The stack, the ready list and the parked frames of a node. At the start `main` is on the stack of node 0.
unfoldable pub frames_of : Node → Past → Frames
frames_of node [] = record { stack = if node.me == 0 then main_life node ∷ [] else []; ready = []; parked = [] }
frames_of node (event ∷ past) = frames_on node event past (frames_of node past)

abbrev pub stack_of : Node → Past → List Life
stack_of node past = (frames_of node past).stack

-- The highest frame of the stack that has not returned.
abbrev pub highest : Node → Past → Option Life
highest node past = first_of (live (stack_of node past))

-- ---- names

abbrev pub spawns_item : Item → ℕ
spawns_item (Act frame index (Spawn child procedure arguments)) = 1
spawns_item _ = 0

abbrev pub spawns_on : Event → ℕ
spawns_on (Did item) = spawns_item item
spawns_on _ = 0

-- The number of the next frame that the node names. On node 0 `main` is number 0.
unfoldable pub next_frame : Node → Past → ℕ
next_frame node [] = if node.me == 0 then 1 else 0
next_frame node (event ∷ past) = next_frame node past + spawns_on event

abbrev pub needs_join : Option Life → ℕ
needs_join None = 0
needs_join (Some life) = if is_some life.join then 0 else 1

abbrev pub joins_sent : Body → List Life → ℕ
joins_sent (Grant closure) stack = needs_join (last_of stack)
joins_sent _ stack = 0

abbrev pub joins_on : Node → Event → Past → ℕ
joins_on node (Sent message) past = joins_sent message.body (stack_of node past)
joins_on node _ past = 0

-- The number of the next join that the node names: a Grant of a frame that has none names one.
unfoldable pub next_join : Node → Past → ℕ
next_join node [] = 0
next_join node (event ∷ past) = next_join node past + joins_on node event past

-- ---- ticks

abbrev pub ticks_item : Item → Past → ℕ
ticks_item (Act frame index act) past = 1
ticks_item (Tick frame) past = 1
ticks_item (Served frame index word old addend) past = if is_empty (owed_adds past) then 1 else 0
ticks_item _ past = 0

abbrev pub ticks_on : Event → Past → ℕ
ticks_on (Did item) past = ticks_item item past
ticks_on (Sent message) past = if adds_in message.body then 1 else 0
ticks_on _ past = 0

-- The ticks of a node: its Act and Tick items, its own adds, and the Adds that it posted.
unfoldable pub ticks_of : Past → ℕ
ticks_of [] = 0
ticks_of (event ∷ past) = ticks_of past + ticks_on event past
