-- Each history of lawful turns is location consistent by the home orders of its words.
use Rattle.std.proofs.Common.{◌≡◌, ℕ, List, [], ◌∷◌, length, map, reverse, refl, ◌∙◌, ap, subst}
use Rattle.std.specs.List.{range_with_len}
use Rattle.machine_code.specs.StandsFor.{StandsFor, start_words_of}
use Rattle.machine_code.specs.Valid.{AreInOrder, words_in}
use Rattle.page_messages.specs.declared.closure.FrameId.{FrameId}
use Rattle.span_tree.specs.History.{History}
use Rattle.span_tree.specs.Memory.{IsLocationConsistent}
use Rattle.cilk_meaning.specs.Parted.{IsParted}
use Rattle.cilk_meaning.specs.Resolved.{Program}
use Rattle.cluster_rules.specs.Turns.{WholeTurn}
use Rattle.cluster_rules.specs.Positions.{course_of}
use Rattle.cluster_rules.specs.Moments.{Listed, IsHomeOrder}
use Rattle.cluster_rules.specs.Runs.{Cluster, IsLawful, logged}
use Rattle.cluster_rules.specs.Histories.{IsHistoryOf}
use Rattle.backer_order.specs.Dag.{Consistent}
use Rattle.cluster_order.specs.Reading.{events_of, memory_of}
use Rattle.cluster_order.proofs.Caching.{keeps_the_page_rules}
use Rattle.cluster_order.proofs.HomeOrders.{IsHomeList, home_order_is_list}
use Rattle.word_order.specs.Consistency.{places_by, orders_by}
use Rattle.word_order.proofs.HomePlaces.{same_places}
use Rattle.word_order.proofs.Made.{EachIsMade, are_rows}
use Rattle.word_order.proofs.Ordered.{orders, order_of, history_is_consistent}
use Rattle.word_order.proofs.RunsAreConsistent.{made_of, consistent_of}
use Rattle.word_order.proofs.Sharing.{each_is_shared}

same_map : {A B : Type 0} (first second : A → B) (same : (one : A) → first one ≡ second one) (list : List A) → map first list ≡ map second list
same_map first second same [] = refl
same_map first second same (one ∷ list) = ap (λ it. it ∷ map first list) (same one) ∙ ap (λ rest. second one ∷ rest) (same_map first second same list)

module _ (cluster : Cluster) (turns : List WholeTurn) (lawful : IsLawful cluster turns) (in_order : AreInOrder 0 cluster.code.shared)
    (program : Program) (stands : StandsFor cluster.code program) (parted : IsParted program)
    (main : ℕ) (frames : List FrameId) (history : History) (is_history : IsHistoryOf main (map logged (reverse turns)) frames history)
    (homes : ℕ → List Listed) (are_homes : (word : ℕ) → IsHomeOrder cluster (course_of turns) word (homes word)) where
  made : EachIsMade (events_of cluster (course_of turns))
  made = made_of cluster turns lawful program stands parted

  abbrev home_of : (word : ℕ) → IsHomeList cluster turns lawful word (homes word)
  home_of word = home_order_is_list cluster turns lawful word (homes word) (are_homes word)

  -- consistent by the lists that the home orders are
  abbrev consistent : Consistent (events_of cluster (course_of turns)) (memory_of cluster) (length (course_of turns))
  consistent =
      let any = consistent_of cluster turns lawful program stands parted in
      record { lists = λ word. (home_of word).home; dag = any.dag; reads = any.reads }

  same_orders : orders cluster turns lawful main frames history is_history made consistent (words_in cluster.code.shared)
      (each_is_shared cluster turns lawful in_order)
      ≡ orders_by cluster turns frames homes
  same_orders =
      same_map
      (order_of (events_of cluster (course_of turns)) (memory_of cluster) (keeps_the_page_rules cluster turns lawful) (λ old addend. refl)
      (length (course_of turns)) frames history
      (are_rows cluster turns main frames history is_history made) consistent)
      (λ word. places_by frames (course_of turns) (homes word))
      (λ word. same_places cluster (course_of turns) frames word history (are_rows cluster turns main frames history is_history made) ((home_of word).home.list)
      (homes word) ((home_of word).same))
      (range_with_len 0 (words_in cluster.code.shared))

  pub home_orders_are_consistent : IsLocationConsistent (start_words_of cluster.code) history (orders_by cluster turns frames homes)
  home_orders_are_consistent =
      subst (IsLocationConsistent (start_words_of cluster.code) history) same_orders
      (history_is_consistent cluster turns lawful main frames history is_history made consistent (words_in cluster.code.shared)
      (each_is_shared cluster turns lawful in_order))
