-- A history of a lawful course is location consistent where the events of the course are.
use Rattle.std.proofs.Common.{◌≡◌, ℕ, ◌<◌, List, length, map, reverse, refl, sym, ◌∙◌, subst, arith}
use Rattle.std.proofs.lemmas.List.FromFn.{get_or-map-range_with_len, length-map-range_with_len}
use Rattle.std.proofs.lemmas.Option.{slice_get_within, get_or_from_slice_get}
use Rattle.std.specs.List.{range_with_len}
use Rattle.std.specs.Prelude.{Some, slice_get}
use Rattle.machine_code.specs.StandsFor.{start_words_of}
use Rattle.page_messages.specs.declared.closure.FrameId.{FrameId}
use Rattle.span_tree.specs.declared.act.Place.{Place}
use Rattle.span_tree.specs.History.{History}
use Rattle.span_tree.specs.Memory.{IsWordOrder, IsLocationConsistent}
use Rattle.cluster_rules.specs.Turns.{WholeTurn}
use Rattle.cluster_rules.specs.Positions.{course_of}
use Rattle.cluster_rules.specs.Runs.{Cluster, IsLawful, logged}
use Rattle.cluster_rules.specs.Histories.{IsHistoryOf}
use Rattle.backer_order.specs.Log.{Events, SharedMemory}
use Rattle.backer_order.specs.Moments.{IsAccess}
use Rattle.backer_order.specs.Rules.{Caching}
use Rattle.backer_order.specs.Dag.{Consistent}
use Rattle.cluster_order.specs.Reading.{events_of, memory_of}
use Rattle.cluster_order.proofs.Caching.{keeps_the_page_rules}
use Rattle.word_order.proofs.Places.{AreRows}
use Rattle.word_order.proofs.Entries.{entry_for}
use Rattle.word_order.proofs.Lists.{places_of, only_accesses, stands_once, keeps_the_dag, all_accesses}
use Rattle.word_order.proofs.Answered.{AddsUp}
use Rattle.word_order.proofs.Obtained.{reads_last_writes}
use Rattle.word_order.proofs.Made.{EachIsMade, are_rows}

-- each word that is accessed before a position is one of so many
abbrev pub EachIsShared : Events → ℕ → ℕ → Type 0
EachIsShared events now words = (node word at : ℕ) → at < now → IsAccess events node word at → word < words

module _ (events : Events) (memory : SharedMemory) (caching : Caching events memory) (sums : AddsUp memory) (now : ℕ) (frames : List FrameId)
    (history : History)
    (rows : AreRows events now frames history) (consistent : Consistent events memory now) where
  -- the list of a word
  abbrev pub order_of : ℕ → List Place
  order_of word = places_of events now frames word history rows (consistent.lists word).list

  pub is_word_order : (word : ℕ) → IsWordOrder memory.start history word (order_of word)
  is_word_order word =
      let list = consistent.lists word in
      record {
        accesses = λ place is. all_accesses events now frames word memory history rows list place is;
        only = λ place is. only_accesses events now frames word history rows list.list place is;
        once = λ place stands. stands_once events now frames word history rows memory caching list.list list.sorted place stands;
        dag = λ x y is_x is_y before. keeps_the_dag events now frames word history rows memory caching list.list list.sorted
            (λ node other act later inside is is' precedes. consistent.dag node other word act later inside is is' precedes) x y is_x is_y before;
        reads = reads_last_writes events memory caching sums now frames history rows word list consistent.reads;
      }

  abbrev pub orders_of : ℕ → List (List Place)
  orders_of words = map order_of (range_with_len 0 words)

  order_there : (words word : ℕ) (places : List Place) → slice_get (orders_of words) word ≡ Some places → order_of word ≡ places
  order_there words word places is =
      let count : length (orders_of words) ≡ words = length-map-range_with_len order_of 0 words in
      let within = slice_get_within (orders_of words) word places is in
      sym (get_or-map-range_with_len order_of 0 words word word places (omega (arith, count, within)) (omega arith))
      ∙ get_or_from_slice_get (orders_of words) word places places is

  pub is_location_consistent : (words : ℕ) → EachIsShared events now words → IsLocationConsistent memory.start history (orders_of words)
  is_location_consistent words shared = record {
    lists = λ word places is. subst (IsWordOrder memory.start history word) (order_there words word places is) (is_word_order word);
    shared = λ word place is.
        let it = entry_for events now frames word history rows place is in
        let entry = it.0 in
        let less = shared entry.node word entry.at entry.inside entry.is in
        let count : length (orders_of words) ≡ words = length-map-range_with_len order_of 0 words in
        omega (arith, less, count);
  }

-- Each history of lawful turns is location consistent, where what was done in their course is.
module _ (cluster : Cluster) (turns : List WholeTurn) (lawful : IsLawful cluster turns) (main : ℕ) (frames : List FrameId) (history : History)
    (is_history : IsHistoryOf main (map logged (reverse turns)) frames history)
    (made : EachIsMade (events_of cluster (course_of turns)))
    (consistent : Consistent (events_of cluster (course_of turns)) (memory_of cluster) (length (course_of turns)))
    (words : ℕ) (shared : EachIsShared (events_of cluster (course_of turns)) (length (course_of turns)) words) where
  abbrev pub orders : List (List Place)
  orders =
      orders_of (events_of cluster (course_of turns)) (memory_of cluster) (keeps_the_page_rules cluster turns lawful) (λ old addend. refl)
      (length (course_of turns)) frames history
      (are_rows cluster turns main frames history is_history made) consistent words

  pub history_is_consistent : IsLocationConsistent (start_words_of cluster.code) history orders
  history_is_consistent =
      is_location_consistent (events_of cluster (course_of turns)) (memory_of cluster) (keeps_the_page_rules cluster turns lawful) (λ old addend. refl)
      (length (course_of turns)) frames history
      (are_rows cluster turns main frames history is_history made) consistent words shared

  -- with a list for each of so many words
  pub as_many : length orders ≡ words
  as_many =
      length-map-range_with_len (order_of (events_of cluster (course_of turns)) (memory_of cluster) (keeps_the_page_rules cluster turns lawful)
      (λ old addend. refl)
      (length (course_of turns)) frames history (are_rows cluster turns main frames history is_history made) consistent) 0 words
