-- What is left in a word is what the last write of its list leaves.
use Rattle.std.proofs.Common.{◌≡◌, inl, inr, ℕ, ℤ, List, map, sym, ◌∙◌, ap, subst}
use Rattle.std.specs.List.{filter_map}
use Rattle.backer_order.specs.HomeList.{Entry, HomeList}
use Rattle.backer_order.specs.Log.{Events, SharedMemory}
use Rattle.backer_order.specs.Rules.{Caching}
use Rattle.determinacy.specs.Ending.{LastHome, NoneHome, MemoryOf}
use Rattle.page_messages.specs.declared.closure.FrameId.{FrameId}
use Rattle.run_memory.proofs.LastOnes.{memory_there}
use Rattle.span_tree.specs.History.{History, act_at}
use Rattle.span_tree.specs.Memory.{last_write}
use Rattle.word_order.proofs.Answered.{AddsUp, acts_are, leaves_of, none_left}
use Rattle.word_order.proofs.Entries.{shown_at}
use Rattle.word_order.proofs.Lists.{places_of}
use Rattle.word_order.proofs.Obtained.{last_left, leaving_is_access}
use Rattle.word_order.proofs.Places.{AreRows}

module _ (events : Events) (memory : SharedMemory) (caching : Caching events memory) (sums : AddsUp memory) (now : ℕ) (frames : List FrameId)
    (history : History)
    (rows : AreRows events now frames history) (word : ℕ) (home : HomeList events memory now word) where
  -- by the accesses of the list
  abbrev left : ℤ
  left = last_write word (memory.start word) (map (shown_at events now frames word history rows) home.list)

  -- by their places in the history
  abbrev pub left_there : ℤ
  left_there = last_write word (memory.start word) (filter_map (act_at history) (places_of events now frames word history rows home.list))

  last_is : (value : ℤ) → LastHome events memory now word value → left ≡ value
  last_is value last =
      last_left events memory caching sums now frames history rows word home.list home.sorted leaver
      (home.all last.node last.at last.inside leaver.is) last.node value last.leaves
      (λ other has leaves. last.last other.node other.at other.inside leaves)
    where
      leaver : Entry events now word
      leaver = record {
        node = last.node;
        at = last.at;
        inside = last.inside;
        is = leaving_is_access events memory caching sums now frames history rows word last.node last.at value last.leaves;
      }

  none_is : (value : ℤ) → NoneHome events memory now word value → left ≡ value
  none_is value none =
      none_left events memory caching sums now frames history rows word (memory.start word) home.list
      (λ other has value is. none.none other.node other.at other.inside
      (value, leaves_of events memory caching sums now frames history rows word other value is))
      ∙ sym none.start

  pub left_is : (value : ℤ) → MemoryOf events memory now word value → left_there ≡ value
  left_is value (inl last) = ap (last_write word (memory.start word)) (acts_are events memory caching sums now frames history rows word home.list)
      ∙ last_is value last
  left_is value (inr none) = ap (last_write word (memory.start word)) (acts_are events memory caching sums now frames history rows word home.list)
      ∙ none_is value none

  pub is_left : MemoryOf events memory now word left_there
  is_left = let it = memory_there events memory caching now word home in subst (λ value. MemoryOf events memory now word value) (sym (left_is it.0 it.1)) it.1
