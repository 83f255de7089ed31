-- What binds frames to each other across nodes: who bore whom, which frame waits at a join, which children were separated from it, which
-- of them have told their return. What each frame of a cluster keeps of that, wherever it is.
use Rattle.std.proofs.Common.{◌≡◌, ◌≢◌, ◌⊎◌, ◌<◌, ℕ, ℤ, List, [], ◌∷◌, Option, Some, false}
use Rattle.std.specs.Prelude.{map}
use Rattle.std.specs.List.{list_any}
use Rattle.page_messages.specs.declared.closure.FrameId.{FrameId}
use Rattle.page_messages.specs.declared.closure.JoinId.{JoinId}
use Rattle.page_messages.specs.declared.closure.Child.{Child}
use Rattle.page_messages.specs.declared.closure.Link.{Link}
use Rattle.page_messages.specs.declared.closure.Link.TheVariants.{Root, Away}
use Rattle.page_messages.specs.declared.closure.Closure.{Closure}
use Rattle.page_messages.specs.declared.message.Msg.{Msg}
use Rattle.page_messages.specs.declared.message.Body.{Body}
use Rattle.page_messages.specs.declared.message.Body.TheVariants as body
use Rattle.page_messages.specs.declared.log.LoggedAct.{LoggedAct}
use Rattle.page_messages.specs.declared.log.LoggedAct.TheVariants as act
use Rattle.page_messages.specs.declared.log.Item.{Item}
use Rattle.page_messages.specs.declared.log.Item.TheVariants as item
use Rattle.page_messages.specs.declared.log.PostAt.{PostAt}
use Rattle.cluster_rules.specs.Walking.{given}
use Rattle.cluster_rules.specs.Turns.{Event, Did, Sent, Took, Ended}
use Rattle.cluster_rules.specs.Lives.{Life, main_id}
use Rattle.cluster_rules.specs.Frames.{Frames, Parked, frames_of, stack_of, next_frame, next_join}
use Rattle.cluster_rules.specs.Positions.{Moved, Course, own}
use Rattle.cluster_rules.specs.Runs.{Cluster, node_at}
use Rattle.cluster_rules.proofs.Stepping.{WasPosted, takes_place}
use Rattle.backer_order.specs.Log as log
use Rattle.backer_order.specs.Edges.{Bottom}
use Rattle.cluster_order.specs.Reading.{grants_by, note_of}
use Rattle.cluster_edges.specs.Stages.{takes_up}

-- ---- lists

abbrev pub Each : {A : Type 0} → (A → Type 0) → List A → Type 0
Each Holds [] = Unit {0}
Each Holds (first ∷ rest) = Holds first × Each Holds rest

abbrev pub Among : {A : Type 0} → A → List A → Type 0
Among value [] = ⊥
Among value (first ∷ rest) = (first ≡ value) ⊎ Among value rest

-- ---- what has happened

-- the frame spawned this child by its act of this index
abbrev pub Spawns : FrameId → ℕ → FrameId → Event → Type 0
Spawns parent index child event = (procedure : ℕ) × (arguments : List ℤ) × (event ≡ Did (item.Act parent index (act.Spawn child procedure arguments)))

abbrev pub Born : FrameId → ℕ → FrameId → Course → Type 0
Born parent index child [] = ⊥
Born parent index child (moved ∷ course) = Spawns parent index child moved.event ⊎ Born parent index child course

-- the join was named for this frame, which waits at it
abbrev pub Named : JoinId → FrameId → Course → Type 0
Named join frame course = given (λ (moved : Moved). grants_by join moved.event) course ≡ Some frame

-- the node that is in the name of the frame has named it
abbrev pub Known : Cluster → FrameId → Course → Type 0
Known cluster frame course = frame.number < next_frame (node_at cluster frame.node) (own frame.node course)

-- the frames of a stack, of which this one is the bottom, and the child stands directly above it
abbrev pub Above : List Life → FrameId → FrameId → Type 0
Above stack frame child = (front : List FrameId) × Bottom (map (λ life. life.id) stack) child frame front

abbrev pub gone_body : Body → List Life → (FrameId → FrameId → Type 0) → FrameId → FrameId → Type 0
gone_body (body.Fetch page) stack IsGone frame child = IsGone frame child
gone_body (body.Page page words) stack IsGone frame child = IsGone frame child
gone_body (body.Reconcile parts) stack IsGone frame child = IsGone frame child
gone_body body.Ack stack IsGone frame child = IsGone frame child
gone_body body.Ask stack IsGone frame child = IsGone frame child
gone_body (body.Grant closure) stack IsGone frame child = IsGone frame child ⊎ ((closure.id ≡ frame) × Above stack frame child)
gone_body body.Refuse stack IsGone frame child = IsGone frame child
gone_body (body.Done join index value) stack IsGone frame child = IsGone frame child
gone_body (body.Park join closure) stack IsGone frame child = IsGone frame child
gone_body (body.Add asker index word addend) stack IsGone frame child = IsGone frame child
gone_body (body.Added old) stack IsGone frame child = IsGone frame child

abbrev pub gone_act : LoggedAct → FrameId → (FrameId → FrameId → Type 0) → FrameId → FrameId → Type 0
gone_act (act.Read word value) actor IsGone frame child = IsGone frame child
gone_act (act.Write word value) actor IsGone frame child = IsGone frame child
gone_act (act.Print value) actor IsGone frame child = IsGone frame child
gone_act (act.Spawn spawned procedure arguments) actor IsGone frame child = IsGone frame child
gone_act act.Sync actor IsGone frame child = IsGone frame child × (actor ≢ frame)

abbrev pub gone_item : Item → (FrameId → FrameId → Type 0) → FrameId → FrameId → Type 0
gone_item (item.Act actor index act) IsGone frame child = gone_act act actor IsGone frame child
gone_item (item.Tick ticking) IsGone frame child = IsGone frame child
gone_item (item.Drop page) IsGone frame child = IsGone frame child
gone_item (item.TakeUp taken) IsGone frame child = IsGone frame child
gone_item (item.OwnFetch page words) IsGone frame child = IsGone frame child
gone_item (item.OwnReconcile part) IsGone frame child = IsGone frame child
gone_item (item.Served asker index word old addend) IsGone frame child = IsGone frame child

abbrev pub gone_on : Event → List Life → (FrameId → FrameId → Type 0) → FrameId → FrameId → Type 0
gone_on (Did item) stack IsGone frame child = gone_item item IsGone frame child
gone_on (Sent message) stack IsGone frame child = gone_body message.body stack IsGone frame child
gone_on (Took message) stack IsGone frame child = IsGone frame child
gone_on (Ended end) stack IsGone frame child = IsGone frame child

-- the child was separated from the frame since its last Sync
abbrev pub Gone : Cluster → Course → FrameId → FrameId → Type 0
Gone cluster [] frame child = ⊥
Gone cluster (moved ∷ course) frame child =
    gone_on moved.event (stack_of (node_at cluster moved.node) (own moved.node course)) (Gone cluster course) frame child

-- a Done that says so is posted
abbrev pub Tells : Cluster → Course → Moved → FrameId → FrameId → Type 0
Tells cluster course moved frame child =
    (message : Msg) × (moved.event ≡ Sent message) × (note_of cluster moved.node course message.body ≡ log.Done frame child)

-- the child has told its return to the join of the frame
abbrev pub Told : Cluster → Course → FrameId → FrameId → Type 0
Told cluster [] frame child = ⊥
Told cluster (moved ∷ course) frame child = Tells cluster course moved frame child ⊎ Told cluster course frame child

abbrev pub Parks : FrameId → Event → Type 0
Parks frame event =
    (message : Msg) × (join : JoinId) × (closure : Closure) × (event ≡ Sent message) × (message.body ≡ body.Park join closure) × (closure.id ≡ frame)

-- the frame was parked, and not taken up since
abbrev pub Parking : FrameId → Course → Type 0
Parking frame [] = ⊥
Parking frame (moved ∷ course) = Parks frame moved.event ⊎ (Parking frame course × (takes_up frame moved ≡ false))

-- ---- what a frame has of its parent and its children

pub record Tie : Type 0 where
  pub id : FrameId
  pub link : Link
  pub spawned : Child
  pub join : Option JoinId
  pub away : List Child

abbrev pub tie_of : Life → Tie
tie_of life = record { id = life.id; link = life.link; spawned = life.spawned; join = life.join; away = life.away }

abbrev pub tie_in : Closure → Tie
tie_in closure = record { id = closure.id; link = closure.link; spawned = closure.spawned; join = closure.join; away = closure.away }

-- the join to which it tells its return was named for its parent, which bore it
pub record HasParent (course : Course) (id : FrameId) (index : ℕ) (join : JoinId) : Type 0 where
  pub parent : FrameId
  pub named : Named join parent course
  pub born : Born parent index id course

-- it is noted that the child is away
pub record IsNoted (course : Course) (id : FrameId) (away : List Child) (child : FrameId) : Type 0 where
  pub entry : Child
  pub among : Among entry away
  pub born : Born id entry.index child course

-- Only `main` has no parent. Each child that was separated from it has told its return, or is noted to be away.
pub record Fits (cluster : Cluster) (course : Course) (tie : Tie) : Type 0 where
  pub known : Known cluster tie.id course
  pub rooted : tie.link ≡ Root → tie.id ≡ main_id
  pub linked : (join : JoinId) → tie.link ≡ Away join → HasParent course tie.id tie.spawned.index join
  pub joined : (join : JoinId) → tie.join ≡ Some join → Named join tie.id course
  pub waits : (child : FrameId) → Gone cluster course tie.id child → Told cluster course tie.id child ⊎ IsNoted course tie.id tie.away child

-- a frame that is at work, or goes to another node by a Grant
pub record Standing (cluster : Cluster) (course : Course) (tie : Tie) : Type 0 where
  pub fits : Fits cluster course tie
  pub not_parked : Parking tie.id course → ⊥

-- a frame on a ready list: where it was parked, its join is complete
pub record Lying (cluster : Cluster) (course : Course) (tie : Tie) : Type 0 where
  pub fits : Fits cluster course tie
  pub complete : Parking tie.id course → tie.away ≡ []

-- a frame that waits at its join, or is on its way there
pub record Waiting (cluster : Cluster) (course : Course) (join : JoinId) (closure : Closure) : Type 0 where
  pub fits : Fits cluster course (tie_in closure)
  pub at_join : closure.join ≡ Some join

-- ---- where frames are

-- the frame below it on the stack bore it
abbrev pub OnTop : Course → Life → List Life → Type 0
OnTop course life [] = Unit {0}
OnTop course life (lower ∷ below) = Born lower.id life.spawned.index life.id course

abbrev pub Stacked : Cluster → Course → List Life → Type 0
Stacked cluster course [] = Unit {0}
Stacked cluster course (life ∷ below) = Standing cluster course (tie_of life) × OnTop course life below × Stacked cluster course below

abbrev pub AllLying : Cluster → Course → List Life → Type 0
AllLying cluster course lives = Each (λ life. Lying cluster course (tie_of life)) lives

abbrev pub AllWaiting : Cluster → Course → List Parked → Type 0
AllWaiting cluster course parked = Each (λ (one : Parked). Waiting cluster course one.join one.closure) parked

pub record Keeps (cluster : Cluster) (course : Course) (frames : Frames) : Type 0 where
  pub stack : Stacked cluster course frames.stack
  pub ready : AllLying cluster course frames.ready
  pub parked : AllWaiting cluster course frames.parked

-- ---- what messages say

abbrev pub Carrying : Cluster → Course → Body → Type 0
Carrying cluster course (body.Fetch page) = Unit {0}
Carrying cluster course (body.Page page words) = Unit {0}
Carrying cluster course (body.Reconcile parts) = Unit {0}
Carrying cluster course body.Ack = Unit {0}
Carrying cluster course body.Ask = Unit {0}
Carrying cluster course (body.Grant closure) = Standing cluster course (tie_in closure)
Carrying cluster course body.Refuse = Unit {0}
Carrying cluster course (body.Done join index value) = Unit {0}
Carrying cluster course (body.Park join closure) = Waiting cluster course join closure
Carrying cluster course (body.Add frame index word addend) = Unit {0}
Carrying cluster course (body.Added old) = Unit {0}

-- the child of this index has told its return to the frame for which the join was named
pub record Returned (cluster : Cluster) (course : Course) (join : JoinId) (index : ℕ) : Type 0 where
  pub parent : FrameId
  pub child : FrameId
  pub named : Named join parent course
  pub born : Born parent index child course
  pub told : Told cluster course parent child

abbrev pub Saying : Cluster → Course → Body → Type 0
Saying cluster course (body.Fetch page) = Unit {0}
Saying cluster course (body.Page page words) = Unit {0}
Saying cluster course (body.Reconcile parts) = Unit {0}
Saying cluster course body.Ack = Unit {0}
Saying cluster course body.Ask = Unit {0}
Saying cluster course (body.Grant closure) = Unit {0}
Saying cluster course body.Refuse = Unit {0}
Saying cluster course (body.Done join index value) = Returned cluster course join index
Saying cluster course (body.Park join closure) = Unit {0}
Saying cluster course (body.Add frame index word addend) = Unit {0}
Saying cluster course (body.Added old) = Unit {0}

-- ---- the whole cluster

pub record Tied (cluster : Cluster) (course : Course) : Type 0 where
  pub joins : (join : JoinId) (frame : FrameId) → Named join frame course → join.number < next_join (node_at cluster join.node) (own join.node course)
  pub gone : (frame child : FrameId) → Gone cluster course frame child → Known cluster frame course
  pub parking : (frame : FrameId) → Parking frame course → Known cluster frame course
  pub says : (place : PostAt) (message : Msg) → WasPosted course place message → Saying cluster course message.body
  pub carries : (place : PostAt) (message : Msg) → WasPosted course place message → list_any (takes_place place) course ≡ false
      → Carrying cluster course message.body
  pub nodes : (number : ℕ) → number < cluster.config.nodes → Keeps cluster course (frames_of (node_at cluster number) (own number course))
