-- Where a frame is between the message that brings it and its take-up, read off a course.
use Rattle.std.specs.Prelude.{leb, if◌then◌else◌, ℕ, Bool, true, false, Option, Some, None, List, [], ◌∷◌, length}
use Rattle.std.specs.List.{list_any}
use Rattle.page_messages.specs.declared.closure.FrameId.{FrameId}
use Rattle.page_messages.specs.declared.message.Body.{Body}
use Rattle.page_messages.specs.declared.message.Body.TheVariants as body
use Rattle.page_messages.specs.declared.log.Item.{Item}
use Rattle.page_messages.specs.declared.log.Item.TheVariants as item
use Rattle.cluster_rules.specs.Turns.{Did, Sent, Took, Ended}
use Rattle.cluster_rules.specs.Lives.{same_frame}
use Rattle.cluster_rules.specs.Frames.{frames_of}
use Rattle.cluster_rules.specs.Positions.{Moved, Course, own, at}
use Rattle.cluster_rules.specs.Runs.{Cluster, node_at}
use Rattle.cluster_order.specs.Standing.{first}
use Rattle.backer_order.specs.Ready.{Stage, Flying, Ready, Up, Stages}

-- the frame that a message brings
abbrev pub frame_in : Body → Option FrameId
frame_in (body.Grant closure) = Some closure.id
frame_in (body.Park join closure) = Some closure.id
frame_in _ = None

abbrev pub takes_up_item : FrameId → Item → Bool
takes_up_item frame (item.TakeUp other) = same_frame other frame
takes_up_item frame _ = false

-- the frame is taken up
abbrev pub takes_up : FrameId → Moved → Bool
takes_up frame moved = elim moved.event [
  | Did item ↦ takes_up_item frame item
  | Sent message ↦ false
  | Took message ↦ false
  | Ended end ↦ false
]

-- what has happened behind a position, up to another one
abbrev pub since_position : ℕ → Course → List Moved
since_position position [] = []
since_position position (moved ∷ course) = elim (leb (length course) position) [
  | true ↦ []
  | false ↦ moved ∷ since_position position course
]

abbrev pub stage_on : Bool → Bool → Stage
stage_on true ready = Up
stage_on false true = Ready
stage_on false false = Flying

-- The stage, behind this course, of the frame that a node sent to another one at a position: up, where the frame was taken up since; ready,
-- where it is on the ready list of the receiver.
abbrev pub stage_of : Cluster → Course → ℕ → ℕ → FrameId → Stage
stage_of cluster course post receiver frame =
    stage_on (list_any (takes_up frame) (since_position post course))
    (list_any (λ life. same_frame life.id frame) ((frames_of (node_at cluster receiver) (own receiver course)).ready))

abbrev pub stage_sent : Cluster → Course → ℕ → ℕ → Option FrameId → Stage
stage_sent cluster course post receiver None = Flying
stage_sent cluster course post receiver (Some frame) = stage_of cluster course post receiver frame

abbrev pub stage_by : Cluster → Course → ℕ → Option Moved → Stage
stage_by cluster course post None = Flying
stage_by cluster course post (Some moved) = elim moved.event [
  | Did item ↦ Flying
  | Sent message ↦ stage_sent cluster course post message.receiver (frame_in message.body)
  | Took message ↦ Flying
  | Ended end ↦ Flying
]

-- the stage, at each position, of what was sent at the other one; before it was sent there is none
abbrev pub stages_of : Cluster → Course → Stages
stages_of cluster course now post = if leb now post then Flying else stage_by cluster (first now course) post (at course post)
