-- What lawful turns leave in the words is what the last writes in the home orders leave.
use Rattle.std.proofs.Common.{◌≡◌, ℕ, ℤ, List, length, map, reverse, refl, subst}
use Rattle.backer_order.proofs.HomeLists.{home_list}
use Rattle.cilk_meaning.specs.Parted.{IsParted}
use Rattle.cilk_meaning.specs.Resolved.{Program}
use Rattle.cluster_order.proofs.Caching.{keeps_the_page_rules}
use Rattle.cluster_order.proofs.HomeOrders.{home_order_is_list}
use Rattle.cluster_order.specs.Reading.{events_of, memory_of}
use Rattle.cluster_rules.specs.Histories.{IsHistoryOf}
use Rattle.cluster_rules.specs.Moments.{Listed, IsHomeOrder}
use Rattle.cluster_rules.specs.Positions.{course_of}
use Rattle.cluster_rules.specs.Runs.{Cluster, IsLawful, logged}
use Rattle.cluster_rules.specs.Turns.{WholeTurn}
use Rattle.machine_code.specs.StandsFor.{StandsFor, start_words_of}
use Rattle.page_messages.specs.declared.closure.FrameId.{FrameId}
use Rattle.run_memory.proofs.LastOnes as ones
use Rattle.run_memory.proofs.Left as left
use Rattle.run_memory.specs.Laws.{RunMemory, MemoryThere}
use Rattle.run_memory.specs.Left.{left_in_order, IsLeft}
use Rattle.span_tree.specs.declared.act.Place.{Place}
use Rattle.span_tree.specs.History.{History}
use Rattle.word_order.proofs.HomePlaces.{same_places}
use Rattle.word_order.proofs.Made.{are_rows}
use Rattle.word_order.proofs.RunsAreConsistent.{made_of}
use Rattle.word_order.specs.Consistency.{places_by}

pub memory_there : MemoryThere
memory_there cluster turns word lawful =
    let caching = keeps_the_page_rules cluster turns lawful in
    let events = events_of cluster (course_of turns) in
    let now = length (course_of turns) in
    ones.memory_there events (memory_of cluster) caching now word (home_list events (memory_of cluster) caching now word)

module _ (cluster : Cluster) (turns : List WholeTurn) (lawful : IsLawful cluster turns) (program : Program) (stands : StandsFor cluster.code program)
    (parted : IsParted program)
    (main : ℕ) (frames : List FrameId) (history : History) (is_history : IsHistoryOf main (map logged (reverse turns)) frames history)
    (word : ℕ) (order : List Listed) (is_order : IsHomeOrder cluster (course_of turns) word order) where
  -- what these places leave is what is left
  pub record LeftBy (places : List Place) : Type 0 where
    pub is_left : IsLeft cluster (course_of turns) word (left_in_order (start_words_of cluster.code) history places word)
    pub left_is : (value : ℤ) → IsLeft cluster (course_of turns) word value → left_in_order (start_words_of cluster.code) history places word ≡ value

  pub by_order : LeftBy (places_by frames (course_of turns) order)
  by_order =
      let events = events_of cluster (course_of turns) in
      let now = length (course_of turns) in
      let caching = keeps_the_page_rules cluster turns lawful in
      let rows = are_rows cluster turns main frames history is_history (made_of cluster turns lawful program stands parted) in
      let it = home_order_is_list cluster turns lawful word order is_order in
      let same = same_places cluster (course_of turns) frames word history rows it.home.list order it.same in
      subst LeftBy same (record {
        is_left = left.is_left events (memory_of cluster) caching (λ old addend. refl) now frames history rows word it.home;
        left_is = left.left_is events (memory_of cluster) caching (λ old addend. refl) now frames history rows word it.home;
      })

pub run_memory : RunMemory
run_memory cluster program turns frames history word order value stands parted lawful is_history is_order =
    let it = by_order cluster turns lawful program stands parted cluster.code.main frames history is_history word order is_order in
    (it.left_is value, λ same. subst (IsLeft cluster (course_of turns) word) same it.is_left)
