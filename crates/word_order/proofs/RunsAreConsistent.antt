-- Each history of a run of the cluster is location consistent.
use Rattle.std.proofs.Common.{ℕ, List, length, map, reverse, sym, ◌∙◌, ap, subst}
use Rattle.std.proofs.lemmas.List.{reverse-reverse}
use Rattle.machine_code.specs.Valid.{AreInOrder, words_in}
use Rattle.page_messages.specs.declared.closure.FrameId.{FrameId}
use Rattle.page_messages.specs.declared.log.Turn.{Turn}
use Rattle.span_tree.specs.History.{History}
use Rattle.cluster_rules.specs.Turns.{WholeTurn}
use Rattle.cluster_rules.specs.Positions.{course_of}
use Rattle.cluster_rules.specs.Runs.{Cluster, IsLawful, IsRun, logged}
use Rattle.cluster_rules.specs.Histories.{IsHistoryOf}
use Rattle.backer_order.specs.Dag.{Consistent}
use Rattle.backer_order.proofs.Ordered.{location_consistent}
use Rattle.backer_order.proofs.Tokens.{taken}
use Rattle.cluster_order.specs.Reading.{events_of, memory_of}
use Rattle.cluster_order.proofs.Caching.{keeps_the_page_rules}
use Rattle.cilk_meaning.specs.Parted.{IsParted}
use Rattle.cilk_meaning.specs.Resolved.{Program}
use Rattle.machine_code.specs.StandsFor.{StandsFor}
use Rattle.cluster_order.specs.Standing.{returns_of, stacks_of}
use Rattle.cluster_edges.specs.Stages.{stages_of}
use Rattle.cluster_edges.proofs.Edging.{keeps_edges}
use Rattle.cluster_edges.proofs.Readying.{keeps_ready_rules}
use Rattle.word_order.specs.Consistency.{HasOrders}
use Rattle.word_order.proofs.Born.{each_is_made}
use Rattle.word_order.proofs.Made.{EachIsMade}
use Rattle.word_order.proofs.Ordered.{EachIsShared, orders, history_is_consistent, as_many}
use Rattle.word_order.proofs.Sharing.{each_is_shared}

module _ (cluster : Cluster) (turns : List WholeTurn) (lawful : IsLawful cluster turns) (program : Program) (stands : StandsFor cluster.code program)
    (parted : IsParted program) where
  -- each frame that acts was made before
  pub made_of : EachIsMade (events_of cluster (course_of turns))
  made_of =
      let events = events_of cluster (course_of turns) in
      let memory = memory_of cluster in
      let returns = returns_of cluster (course_of turns) in
      let stacks = stacks_of cluster (course_of turns) in
      let edges = keeps_edges cluster program turns stands parted lawful in
      each_is_made events memory (keeps_the_page_rules cluster turns lawful) returns stacks edges.frames
      (taken events memory returns stacks edges.frames (stages_of cluster (course_of turns)) (keeps_ready_rules cluster turns lawful))

  -- what was done is consistent, by some lists
  pub consistent_of : Consistent (events_of cluster (course_of turns)) (memory_of cluster) (length (course_of turns))
  consistent_of =
      location_consistent (events_of cluster (course_of turns)) (memory_of cluster) (returns_of cluster (course_of turns)) (stacks_of cluster (course_of turns))
      (stages_of cluster (course_of turns)) (length (course_of turns))
      (keeps_the_page_rules cluster turns lawful) (keeps_edges cluster program turns stands parted lawful) (keeps_ready_rules cluster turns lawful)

-- of turns, the latest first
pub turns_are_consistent : (cluster : Cluster) (turns : List WholeTurn) → IsLawful cluster turns → AreInOrder 0 cluster.code.shared
    → (program : Program) → StandsFor cluster.code program → IsParted program
    → (main : ℕ) (frames : List FrameId) (history : History) → IsHistoryOf main (map logged (reverse turns)) frames history → HasOrders cluster history
turns_are_consistent cluster turns lawful order program stands parted main frames history is_history =
    let made = made_of cluster turns lawful program stands parted in
    let consistent = consistent_of cluster turns lawful program stands parted in
    let shared : EachIsShared (events_of cluster (course_of turns)) (length (course_of turns)) (words_in cluster.code.shared) =
    each_is_shared cluster turns lawful order in
    record {
      orders = orders cluster turns lawful main frames history is_history made consistent (words_in cluster.code.shared) shared;
      is_consistent = history_is_consistent cluster turns lawful main frames history is_history made consistent (words_in cluster.code.shared) shared;
      as_many = as_many cluster turns lawful main frames history is_history made consistent (words_in cluster.code.shared) shared;
    }

-- and of the log of a run
pub runs_are_consistent : (cluster : Cluster) (log : List Turn) (run : IsRun cluster log) → AreInOrder 0 cluster.code.shared → (program : Program)
    → StandsFor cluster.code program → IsParted program
    → (main : ℕ) (frames : List FrameId) (history : History) → IsHistoryOf main log frames history → HasOrders cluster history
runs_are_consistent cluster log run order program stands parted main frames history is_history =
    turns_are_consistent cluster (reverse run.turns) run.lawful order program stands parted main frames history
    (subst (λ it. IsHistoryOf main it frames history) (run.log_is ∙ ap (λ turns. map logged turns) (sym (reverse-reverse run.turns))) is_history)
