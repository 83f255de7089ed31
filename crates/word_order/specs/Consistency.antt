-- What location consistency of a run is: each history of it has an order for each shared word. And the home orders, as such orders.
use Rattle.std.specs.Prelude.{◌≡◌, ◌+◌, if◌then◌else◌, ℕ, Bool, false, Option, Some, None, List, [], ◌∷◌, length, map}
use Rattle.std.specs.List.{range_with_len}
use Rattle.machine_code.specs.StandsFor.{start_words_of}
use Rattle.machine_code.specs.Valid.{words_in}
use Rattle.page_messages.specs.declared.closure.FrameId.{FrameId}
use Rattle.page_messages.specs.declared.log.Item.{Item}
use Rattle.page_messages.specs.declared.log.Item.TheVariants.{Act, Served}
use Rattle.span_tree.specs.declared.act.Place.{Place}
use Rattle.span_tree.specs.History.{History}
use Rattle.span_tree.specs.Memory.{IsLocationConsistent}
use Rattle.cluster_rules.specs.Turns.{Event, Did, WholeTurn}
use Rattle.cluster_rules.specs.Lives.{same_frame}
use Rattle.cluster_rules.specs.Positions.{Moved, Course, course_of, at, before}
use Rattle.cluster_rules.specs.Moments.{Listed}
use Rattle.cluster_rules.specs.Histories.{row_number}
use Rattle.cluster_rules.specs.Runs.{Cluster}

-- For each shared word of the code there is an order of the accesses in the history, by which it is location consistent.
pub record HasOrders (cluster : Cluster) (history : History) : Type 0 where
  pub orders : List (List Place)
  pub as_many : length orders ≡ words_in cluster.code.shared
  pub is_consistent : IsLocationConsistent (start_words_of cluster.code) history orders

-- ---- the home orders

-- an act of the frame, or an add of it that was done
abbrev pub acts_in : FrameId → Item → Bool
acts_in frame (Act other index act) = same_frame other frame
acts_in frame (Served other index word old addend) = same_frame other frame
acts_in frame _ = false

abbrev pub acts : FrameId → Event → Bool
acts frame (Did item) = acts_in frame item
acts frame _ = false

-- how many acts of the frame are in the course
abbrev pub acts_of : FrameId → Course → ℕ
acts_of frame [] = 0
acts_of frame (moved ∷ course) = if acts frame moved.event then acts_of frame course + 1 else acts_of frame course

-- The place of a frame's act behind this course: in the frame's row, with the number of its earlier acts.
abbrev pub place_behind : List FrameId → Course → FrameId → Place
place_behind frames course frame = record { row = row_number frames frame; act = acts_of frame course }

abbrev pub place_of_item : List FrameId → Course → Item → Place
place_of_item frames course (Act frame index act) = place_behind frames course frame
place_of_item frames course (Served frame index word old addend) = place_behind frames course frame
place_of_item frames course _ = record { row = 0; act = 0 }

abbrev pub place_of_event : List FrameId → Course → Event → Place
place_of_event frames course (Did item) = place_of_item frames course item
place_of_event frames course _ = record { row = 0; act = 0 }

abbrev pub place_of : List FrameId → Course → Option Moved → Place
place_of frames course None = record { row = 0; act = 0 }
place_of frames course (Some moved) = place_of_event frames course moved.event

-- The place in the history of the act at a position, where these are the frames of the rows. Asked of what is no act, which has none, it is
-- that of the first act of all.
abbrev pub place_at : List FrameId → Course → ℕ → Place
place_at frames course position = place_of frames (before course position) (at course position)

-- the places of the accesses in a list
abbrev pub places_by : List FrameId → Course → List Listed → List Place
places_by frames course order = map (λ one. place_at frames course one.position) order

-- The home order of each shared word, as places of the history.
abbrev pub orders_by : Cluster → List WholeTurn → List FrameId → (ℕ → List Listed) → List (List Place)
orders_by cluster turns frames orders = map (λ word. places_by frames (course_of turns) (orders word)) (range_with_len 0 (words_in cluster.code.shared))
