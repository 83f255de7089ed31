-- Laws of what is left in the words.
use Rattle.std.specs.Prelude.{◌≡◌, ◌↔◌, ℕ, ℤ, List, map, reverse}
use Rattle.cilk_meaning.specs.Parted.{IsParted}
use Rattle.cilk_meaning.specs.Resolved.{Program}
use Rattle.cluster_rules.specs.Histories.{IsHistoryOf}
use Rattle.cluster_rules.specs.Moments.{Listed, IsHomeOrder}
use Rattle.cluster_rules.specs.Positions.{course_of}
use Rattle.cluster_rules.specs.Runs.{Cluster, IsLawful, logged}
use Rattle.cluster_rules.specs.Turns.{WholeTurn}
use Rattle.machine_code.specs.StandsFor.{StandsFor, start_words_of}
use Rattle.page_messages.specs.declared.closure.FrameId.{FrameId}
use Rattle.run_memory.specs.Left.{left_in_order, IsLeft}
use Rattle.span_tree.specs.History.{History}
use Rattle.word_order.specs.Consistency.{places_by}

-- Lawful turns leave in a word what the last write in its home order leaves, and nothing else.
abbrev pub RunMemory : Type 0
RunMemory = (cluster : Cluster) (program : Program) (turns : List WholeTurn) (frames : List FrameId) (history : History) (word : ℕ) (order : List Listed) (value : ℤ) →
    StandsFor cluster.code program → IsParted program → IsLawful cluster turns → IsHistoryOf cluster.code.main (map logged (reverse turns)) frames history →
    IsHomeOrder cluster (course_of turns) word order →
    (IsLeft cluster (course_of turns) word value ↔ (left_in_order (start_words_of cluster.code) history (places_by frames (course_of turns) order) word ≡ value))

-- They leave something in each word.
abbrev pub MemoryThere : Type 0
MemoryThere = (cluster : Cluster) (turns : List WholeTurn) (word : ℕ) → IsLawful cluster turns → (value : ℤ) × IsLeft cluster (course_of turns) word value
