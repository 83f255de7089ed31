-- A course as an execution: its events, and what each frame of it runs.
use Rattle.std.specs.Prelude.{suc, if◌then◌else◌, ℕ, ℤ, Option, None, Some, List, [], ◌∷◌}
use Rattle.determinacy.specs.Replies.{Instance, Trace}
use Rattle.page_messages.specs.declared.closure.FrameId.{FrameId}
use Rattle.page_messages.specs.declared.log.LoggedAct.{LoggedAct}
use Rattle.page_messages.specs.declared.log.LoggedAct.TheVariants as act
use Rattle.page_messages.specs.declared.log.Item.{Item}
use Rattle.page_messages.specs.declared.log.Item.TheVariants as item
use Rattle.cluster_rules.specs.Turns.{Event, Did, Sent, Took, Ended}
use Rattle.cluster_rules.specs.Lives.{Life, same_frame, target_in, want_of}
use Rattle.cluster_rules.specs.Frames.{highest}
use Rattle.cluster_rules.specs.Positions.{Course, own}
use Rattle.cluster_rules.specs.Runs.{Cluster, node_at}
use Rattle.cluster_order.specs.Reading.{events_of}

-- ---- what each frame runs

abbrev pub main_instance : Cluster → Instance
main_instance cluster = record { depth = 0; procedure = cluster.code.main; arguments = [] }

-- a child runs what its Spawn says, one deeper than its parent
abbrev pub child_of : ℕ → List ℤ → Instance → Instance
child_of procedure arguments parent = record { depth = suc parent.depth; procedure = procedure; arguments = arguments }

abbrev pub instance_act : LoggedAct → FrameId → (FrameId → Instance) → FrameId → Instance
instance_act (act.Read word value) parent earlier frame = earlier frame
instance_act (act.Write word value) parent earlier frame = earlier frame
instance_act (act.Print value) parent earlier frame = earlier frame
instance_act (act.Spawn child procedure arguments) parent earlier frame =
    if same_frame child frame then child_of procedure arguments (earlier parent) else earlier frame
instance_act act.Sync parent earlier frame = earlier frame

abbrev pub instance_item : Item → (FrameId → Instance) → FrameId → Instance
instance_item (item.Act parent index act) earlier frame = instance_act act parent earlier frame
instance_item (item.Tick ticking) earlier frame = earlier frame
instance_item (item.Drop page) earlier frame = earlier frame
instance_item (item.TakeUp taken) earlier frame = earlier frame
instance_item (item.OwnFetch page words) earlier frame = earlier frame
instance_item (item.OwnReconcile part) earlier frame = earlier frame
instance_item (item.Served asker index word old addend) earlier frame = earlier frame

abbrev pub instance_on : Event → (FrameId → Instance) → FrameId → Instance
instance_on (Did item) earlier frame = instance_item item earlier frame
instance_on (Sent message) earlier frame = earlier frame
instance_on (Took message) earlier frame = earlier frame
instance_on (Ended end) earlier frame = earlier frame

-- What a frame runs, by its Spawn. What was not spawned runs as `main` does.
abbrev pub instance_of : Cluster → Course → FrameId → Instance
instance_of cluster [] frame = main_instance cluster
instance_of cluster (moved ∷ course) frame = instance_on moved.event (instance_of cluster course) frame

-- ---- for which local of its parent its value is

-- what the frame that acts wants a child's value for
abbrev pub target_by : Option Life → Option ℕ
target_by None = None
target_by (Some life) = target_in (want_of life)

abbrev pub target_act : LoggedAct → Option ℕ → (FrameId → Option ℕ) → FrameId → Option ℕ
target_act (act.Read word value) wanted earlier frame = earlier frame
target_act (act.Write word value) wanted earlier frame = earlier frame
target_act (act.Print value) wanted earlier frame = earlier frame
target_act (act.Spawn child procedure arguments) wanted earlier frame = if same_frame child frame then wanted else earlier frame
target_act act.Sync wanted earlier frame = earlier frame

abbrev pub target_item : Item → Option ℕ → (FrameId → Option ℕ) → FrameId → Option ℕ
target_item (item.Act parent index act) wanted earlier frame = target_act act wanted earlier frame
target_item (item.Tick ticking) wanted earlier frame = earlier frame
target_item (item.Drop page) wanted earlier frame = earlier frame
target_item (item.TakeUp taken) wanted earlier frame = earlier frame
target_item (item.OwnFetch page words) wanted earlier frame = earlier frame
target_item (item.OwnReconcile part) wanted earlier frame = earlier frame
target_item (item.Served asker index word old addend) wanted earlier frame = earlier frame

abbrev pub target_on : Event → Option ℕ → (FrameId → Option ℕ) → FrameId → Option ℕ
target_on (Did item) wanted earlier frame = target_item item wanted earlier frame
target_on (Sent message) wanted earlier frame = earlier frame
target_on (Took message) wanted earlier frame = earlier frame
target_on (Ended end) wanted earlier frame = earlier frame

abbrev pub target_of : Cluster → Course → FrameId → Option ℕ
target_of cluster [] frame = None
target_of cluster (moved ∷ course) frame =
    target_on moved.event (target_by (highest (node_at cluster moved.node) (own moved.node course))) (target_of cluster course) frame

-- ---- the execution

-- A course of a cluster as an execution.
abbrev pub trace_of : Cluster → Course → Trace
trace_of cluster course = record { events = events_of cluster course; instance = instance_of cluster course; target = target_of cluster course }
