-- The execution that the log of a serial elision tells: all its rows are frames of node 0, and its positions the serial order.
use Rattle.std.specs.Prelude.{ℕ, zero, suc, ◌==◌, cond, Option, Some, None, List, [], ◌∷◌, length}
use Rattle.backer_order.specs.Log as log
use Rattle.backer_order.specs.Log.{Events}
use Rattle.cilk_meaning.specs.Resolved.{Program}
use Rattle.cilk_meaning.specs.Wants as wanted
use Rattle.cilk_meaning.specs.Wants.{Want, Asks, Returns, Traps}
use Rattle.cilk_meaning.specs.World as world
use Rattle.cilk_meaning.specs.World.{Event, Acts, Ticks}
use Rattle.cluster_rules.specs.Lives.{same_frame}
use Rattle.determinacy.specs.Replies.{Instance, Trace, want_at}
use Rattle.page_messages.specs.declared.closure.FrameId.{FrameId}
use Rattle.span_tree.specs.Program.{Starts}

-- the frame that a row is; that of `main` is row 0
abbrev pub frame_at : ℕ → FrameId
frame_at row = record { node = 0; number = row }

-- the frames of so many rows, from a row on
abbrev pub frames_from : ℕ → ℕ → List FrameId
frames_from start zero = []
frames_from start (suc count) = frame_at start ∷ frames_from (suc start) count

abbrev pub frames_to : ℕ → List FrameId
frames_to rows = frames_from 0 rows

abbrev pub act_of : world.Act → log.Act
act_of (world.Read word value) = log.Read word value
act_of (world.Write word value) = log.Write word value
act_of (world.Add word old addend) = log.Add word old addend
act_of (world.Print value) = log.Print value
act_of (world.Spawn child procedure arguments) = log.Spawn (frame_at child)
act_of world.Sync = log.Sync

abbrev pub event_of : Event → log.Event
event_of (Acts row act) = log.Acts 0 (frame_at row) (act_of act)
event_of (Ticks row) = log.Tick 0 (frame_at row)

-- The events of a log, whose latest comes first: each stands at the number of those before it.
abbrev pub events_in : List Event → Events
events_in [] at = log.Nothing
events_in (event ∷ log) at = cond (at == length log) (event_of event) (events_in log at)

-- what a child runs, by the act that spawned it, one deeper than its parent
abbrev pub instance_after : Event → (FrameId → Instance) → FrameId → Instance
instance_after (Acts row (world.Spawn child procedure arguments)) runs frame =
    cond (same_frame frame (frame_at child)) (record { depth = suc (runs (frame_at row)).depth; procedure = procedure; arguments = arguments }) (runs frame)
instance_after _ runs frame = runs frame

abbrev pub instance_in : ℕ → List Event → FrameId → Instance
instance_in main [] = λ frame. record { depth = 0; procedure = main; arguments = [] }
instance_in main (event ∷ log) = instance_after event (instance_in main log)

-- the local of the parent in a want that spawns
abbrev pub target_in_want : Option Want → Option ℕ
target_in_want (Some (Asks (wanted.Spawn target procedure arguments))) = target
target_in_want _ = None

-- where a child's value goes, by what its parent wanted at the spawn
abbrev pub target_after : Starts → Trace → ℕ → Event → FrameId → Option ℕ
target_after starts trace at (Acts row (world.Spawn child procedure arguments)) frame =
    cond (same_frame frame (frame_at child)) (target_in_want (want_at starts trace at (frame_at row))) (trace.target frame)
target_after starts trace at _ frame = trace.target frame

abbrev pub target_in : Starts → ℕ → List Event → FrameId → Option ℕ
target_in starts main [] = λ frame. None
target_in starts main (event ∷ log) =
    target_after starts (record { events = events_in log; instance = instance_in main log; target = target_in starts main log }) (length log) event

-- The trace of a log.
abbrev pub trace_in : Starts → ℕ → List Event → Trace
trace_in starts main log = record { events = events_in log; instance = instance_in main log; target = target_in starts main log }

-- The trace of an elision of the program.
abbrev pub trace_of : Starts → Program → world.End → Trace
trace_of starts program end = trace_in starts program.main end.world.log
