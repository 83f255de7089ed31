-- The stacks of all nodes at each position, and which frames have returned.
use Rattle.std.specs.Prelude.{◌&&◌, ◌||◌, leb, if◌then◌else◌, ℕ, Bool, List, [], ◌∷◌, length, map, is_some}
use Rattle.std.specs.List.{list_any, range_with_len}
use Rattle.page_messages.specs.declared.closure.FrameId.{FrameId}
use Rattle.cluster_rules.specs.Lives.{Life, same_frame, returned}
use Rattle.cluster_rules.specs.Frames.{stack_of}
use Rattle.cluster_rules.specs.Positions.{Course, own}
use Rattle.cluster_rules.specs.Runs.{Cluster, node_at}
use Rattle.backer_order.specs.Edges.{Stacks, Returns}

-- what has happened before a position
abbrev pub first : ℕ → Course → Course
first position [] = []
first position (moved ∷ course) = if leb position (length course) then first position course else moved ∷ course

-- the frames on the stack of a node, the top first
abbrev pub stack_in : Cluster → ℕ → Course → List FrameId
stack_in cluster number course = map (λ life. life.id) (stack_of (node_at cluster number) (own number course))

abbrev pub stacks_of : Cluster → Course → Stacks
stacks_of cluster course position number = stack_in cluster number (first position course)

-- ---- returned frames

abbrev pub is_returned : FrameId → Life → Bool
is_returned frame life = same_frame life.id frame && is_some (returned life)

-- on one of these nodes the frame is on the stack and has returned
abbrev pub stands_returned : Cluster → FrameId → Course → Bool
stands_returned cluster frame course =
    list_any (λ number. list_any (is_returned frame) (stack_of (node_at cluster number) (own number course))) (range_with_len 0 cluster.config.nodes)

-- it stood so now or before
abbrev pub has_returned : Cluster → FrameId → Course → Bool
has_returned cluster frame [] = stands_returned cluster frame []
has_returned cluster frame (moved ∷ course) = has_returned cluster frame course || stands_returned cluster frame (moved ∷ course)

abbrev pub returns_of : Cluster → Course → Returns
returns_of cluster course position frame = has_returned cluster frame (first position course)
