-- What a run leaves in its words, as its course and as its history say it.
use Rattle.std.specs.Prelude.{ℕ, ℤ, List, length}
use Rattle.std.specs.List.{filter_map}
use Rattle.span_tree.specs.declared.act.Place.{Place}
use Rattle.span_tree.specs.History.{History, act_at}
use Rattle.span_tree.specs.Memory.{last_write}
use Rattle.cluster_order.specs.Reading.{events_of, memory_of}
use Rattle.cluster_rules.specs.Positions.{Course}
use Rattle.cluster_rules.specs.Runs.{Cluster}
use Rattle.determinacy.specs.Ending.{MemoryOf}

-- What the last write of the word in this order leaves, where the words start so. A place that has no act leaves nothing.
abbrev pub left_in_order : (ℕ → ℤ) → History → List Place → ℕ → ℤ
left_in_order start history places word = last_write word (start word) (filter_map (act_at history) places)

-- the course leaves this value in the word
abbrev pub IsLeft : Cluster → Course → ℕ → ℤ → Type 0
IsLeft cluster course word value = MemoryOf (events_of cluster course) (memory_of cluster) (length course) word value
