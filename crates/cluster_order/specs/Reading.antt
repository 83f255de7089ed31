-- What happens in a cluster, as the events of which the rules over positions speak.
use Rattle.std.specs.Prelude.{if◌then◌else◌, ℕ, ℤ, pos, Bool, false, Option, Some, None, List, [], ◌∷◌, length, slice_index_or}
use Rattle.page_messages.specs.declared.closure.FrameId.{FrameId}
use Rattle.page_messages.specs.declared.closure.JoinId.{JoinId}
use Rattle.page_messages.specs.declared.message.Msg.{Msg}
use Rattle.page_messages.specs.declared.message.Body.{Body}
use Rattle.page_messages.specs.declared.message.Body.TheVariants as body
use Rattle.page_messages.specs.declared.parts.Part as page
use Rattle.page_messages.specs.declared.log.LoggedAct.{LoggedAct}
use Rattle.page_messages.specs.declared.log.LoggedAct.TheVariants as act
use Rattle.page_messages.specs.declared.log.Item.{Item}
use Rattle.page_messages.specs.declared.log.Item.TheVariants as item
use Rattle.page_messages.specs.declared.log.PostAt.{PostAt}
use Rattle.cluster_rules.specs.Walking.{given, last_of}
use Rattle.cluster_rules.specs.Turns.{Event, Did, Sent, Took, Ended, Past, same_place}
use Rattle.cluster_rules.specs.Node.{page_of, place_of, home_of, start_word}
use Rattle.cluster_rules.specs.Sendings.{marks}
use Rattle.cluster_rules.specs.Home.{sum_in, owed_adds}
use Rattle.cluster_rules.specs.Lives.{Life, same_join, main_id}
use Rattle.cluster_rules.specs.Frames.{stack_of}
use Rattle.cluster_rules.specs.Positions.{Moved, Course, own, at, before}
use Rattle.cluster_rules.specs.Runs.{Cluster, node_at}
use Rattle.backer_order.specs.Log as log
use Rattle.backer_order.specs.Log.{Events, SharedMemory}

-- The shared memory of the cluster. It is the same for all nodes.
abbrev pub memory_of : Cluster → SharedMemory
memory_of cluster = record {
  page = page_of (node_at cluster 0);
  home = home_of (node_at cluster 0);
  start = start_word (node_at cluster 0);
  sum = sum_in;
}

-- ---- pages

-- the word of a page that has these words
abbrev pub words_of : Cluster → List ℤ → ℕ → ℤ
words_of cluster words word = slice_index_or words (place_of (node_at cluster 0) word) (pos 0)

abbrev pub part_of : Cluster → page.Part → log.Part
part_of cluster part = record {
  page = part.page;
  mask = λ word. marks part.mask (place_of (node_at cluster 0) word);
  words = words_of cluster part.words;
}

abbrev pub parts_of : Cluster → List page.Part → List log.Part
parts_of cluster [] = []
parts_of cluster (part ∷ parts) = part_of cluster part ∷ parts_of cluster parts

-- ---- frames

-- the Grant for which a join was named has the frame that waits at it
abbrev pub granted_for : JoinId → Option JoinId → FrameId → Option FrameId
granted_for join None frame = None
granted_for join (Some other) frame = if same_join other join then Some frame else None

abbrev pub grants_in : JoinId → Body → Option FrameId
grants_in join (body.Grant closure) = granted_for join closure.join closure.id
grants_in join _ = None

abbrev pub grants_by : JoinId → Event → Option FrameId
grants_by join (Sent message) = grants_in join message.body
grants_by join _ = None

-- The frame that waits at a join.
abbrev pub frame_of : JoinId → Course → FrameId
frame_of join course = elim (given (λ moved. grants_by join moved.event) course) [
  | None ↦ main_id
  | Some frame ↦ frame
]

abbrev pub id_of : Option Life → FrameId
id_of None = main_id
id_of (Some life) = life.id

-- the bottom frame of a node
abbrev pub bottom_of : Cluster → ℕ → Course → FrameId
bottom_of cluster number course = id_of (last_of (stack_of (node_at cluster number) (own number course)))

-- ---- messages

-- the post at this place, or a taking of it
abbrev pub is_at : PostAt → Option PostAt → Bool
is_at place None = false
is_at place (Some other) = same_place other place

abbrev pub posts_at : PostAt → Moved → Bool
posts_at place moved = elim moved.event [
  | Did item ↦ false
  | Sent message ↦ is_at place moved.message
  | Took message ↦ false
  | Ended end ↦ false
]

-- The position of the post at a place.
abbrev pub post_position : Course → PostAt → ℕ
post_position [] place = 0
post_position (moved ∷ course) place = if posts_at place moved then length course else post_position course place

abbrev pub taken_from : Course → Option PostAt → ℕ
taken_from course None = 0
taken_from course (Some place) = post_position course place

-- A Done names the frame that waits for it and the child, the bottom frame of its sender.
abbrev pub note_of : Cluster → ℕ → Course → Body → log.Note
note_of cluster sender course (body.Fetch page) = log.Fetch page
note_of cluster sender course (body.Page page words) = log.Page page (words_of cluster words)
note_of cluster sender course (body.Reconcile parts) = log.Reconcile (parts_of cluster parts)
note_of cluster sender course body.Ack = log.Ack
note_of cluster sender course body.Ask = log.Ask
note_of cluster sender course (body.Grant closure) = log.Grant closure.id
note_of cluster sender course body.Refuse = log.Refuse
note_of cluster sender course (body.Done join index value) = log.Done (frame_of join course) (bottom_of cluster sender course)
note_of cluster sender course (body.Park join closure) = log.Park closure.id
note_of cluster sender course (body.Add frame index word addend) = log.AddTo frame word addend
note_of cluster sender course (body.Added old) = log.Added old

-- ---- acts

abbrev pub act_of : LoggedAct → log.Act
act_of (act.Read word value) = log.Read word value
act_of (act.Write word value) = log.Write word value
act_of (act.Print value) = log.Print value
act_of (act.Spawn child procedure arguments) = log.Spawn child
act_of act.Sync = log.Sync

-- for whom an add is served: for the sender of the oldest Add that is owed; where none is, it is an own one
abbrev pub served_for : ℕ → List Msg → ℕ
served_for number [] = number
served_for number (add ∷ adds) = add.sender

abbrev pub item_of : Cluster → ℕ → Past → Item → log.Event
item_of cluster number past (item.Act frame index act) = log.Acts number frame (act_of act)
item_of cluster number past (item.Tick frame) = log.Tick number frame
item_of cluster number past (item.Drop page) = log.Drop number page
item_of cluster number past (item.TakeUp frame) = log.TakeUp number frame
item_of cluster number past (item.OwnFetch page words) = log.OwnFetch number page (words_of cluster words)
item_of cluster number past (item.OwnReconcile part) = log.OwnReconcile number (part_of cluster part)
item_of cluster number past (item.Served frame index word old addend) = log.Acts (served_for number (owed_adds past)) frame (log.Add word old addend)

-- ---- events

-- What happens behind this course.
abbrev pub happens_to : Cluster → Course → ℕ → Option PostAt → Event → log.Event
happens_to cluster course number place (Did item) = item_of cluster number (own number course) item
happens_to cluster course number place (Sent message) = log.Post number message.receiver (note_of cluster number course message.body)
happens_to cluster course number place (Took message) = log.Took number (taken_from course place)
happens_to cluster course number place (Ended end) = log.End number

abbrev pub event_of : Cluster → Course → Option Moved → log.Event
event_of cluster course None = log.Nothing
event_of cluster course (Some moved) = happens_to cluster course moved.node moved.message moved.event

-- The event at each position of a course.
abbrev pub events_of : Cluster → Course → Events
events_of cluster course position = event_of cluster (before course position) (at course position)
