-- Each read, and each add, obtains what the last act before it in the list of its word leaves.
use Rattle.std.proofs.Common.{◌≡◌, ◌⊎◌, inl, inr, ℕ, ℤ, ◌<◌, List, ◌∷◌, ◌++◌, map, refl, sym, ◌∙◌, ap, subst, arith}
use Rattle.std.proofs.lemmas.List.{map-append}
use Rattle.std.specs.Prelude.{Some, unwrap_or}
use Rattle.std.specs.List.{filter_map}
use Rattle.page_messages.specs.declared.closure.FrameId.{FrameId}
use Rattle.span_tree.specs.declared.act.Act.{Act}
use Rattle.span_tree.specs.History.{History, act_at}
use Rattle.span_tree.specs.Memory.{left_in, last_write, IsAnsweredFrom, ReadsLastWrites}
use Rattle.backer_order.specs.Log.{Events, SharedMemory}
use Rattle.backer_order.specs.Moments.{IsAccess, Obtains, Leaves, OfWrite, OfAdd, IsLeaving}
use Rattle.backer_order.specs.Rules.{Caching}
use Rattle.backer_order.specs.HomeOrder.{LastIn, NoneIn, ReadsLast}
use Rattle.backer_order.specs.HomeList.{Entry, Has, Sorted, HomeList}
use Rattle.word_order.proofs.Rows.{shown}
use Rattle.word_order.proofs.Places.{AreRows}
use Rattle.word_order.proofs.Entries.{act_in, shown_at, Earlier, earlier_on, not_earlier, earlier_as}
use Rattle.word_order.proofs.Lists.{places_of, has_back}
use Rattle.word_order.proofs.Answered.{AddsUp, Cut, cut_at, acts_are, last_of_both, leaves_of, left_of, none_left, split_at, sorted_front, sorted_back, in_front, stands_in_front}

module _ (events : Events) (memory : SharedMemory) (caching : Caching events memory) (sums : AddsUp memory) (now : ℕ) (frames : List FrameId)
    (history : History)
    (rows : AreRows events now frames history) (word : ℕ) where
  abbrev Access : Type 0
  Access = Entry events now word

  abbrev IsEarlier : Access → Access → Type 0
  IsEarlier first second = Earlier events now frames word memory caching first second

  abbrev shown_by : Access → Act
  shown_by entry = shown_at events now frames word history rows entry

  abbrev IsSorted : List Access → Type 0
  IsSorted list = Sorted events memory now word list

  pub leaving_is_access : (node at : ℕ) (value : ℤ) → Leaves events memory node word at value → IsAccess events node word at
  leaving_is_access node at value (OfWrite wrote) = inl (inl (value, wrote))
  leaving_is_access node at value (OfAdd frame old addend is sum) = inr (old, record { frame = frame; addend = addend; is = is })

  -- Where one of a list leaves a value, and each other that leaves one is earlier, this is the last write.
  pub last_left : (list : List Access) → IsSorted list → (leaver : Access) → Has leaver.at list → (node : ℕ) (value : ℤ)
      → Leaves events memory node word leaver.at value
      → ((other : Access) → Has other.at list → IsLeaving events memory other.node word other.at → (other.at ≡ leaver.at) ⊎ IsEarlier other leaver)
      → last_write word (memory.start word) (map shown_by list) ≡ value
  last_left list sorted leaver has node value leaves last = by (split_at events memory caching sums now frames history rows word list leaver.at has)
    where
      by : (front : List Access) × (one : Access) × (back : List Access) × (list ≡ front ++ one ∷ back) × (one.at ≡ leaver.at)
          → last_write word (memory.start word) (map shown_by list) ≡ value
      by (front, one, back, parts, same) =
          ap (λ list. last_write word (memory.start word) (map shown_by list)) parts
          ∙ ap (last_write word (memory.start word)) (map-append shown_by front (one ∷ back))
          ∙ last_of_both word (memory.start word) (map shown_by front) (map shown_by (one ∷ back))
          ∙ ap (λ left. last_write word (unwrap_or left (last_write word (memory.start word) (map shown_by front))) (map shown_by back)) left
          ∙ none_left events memory caching sums now frames history rows word value back none
        where
          left : left_in word (shown_by one) ≡ Some value
          left =
              left_of events memory caching sums now frames history rows word one node value
              (subst (λ at. Leaves events memory node word at value) (sym same) leaves)

          none : (other : Access) → Has other.at back → (left : ℤ) → left_in word (shown_by other) ≡ Some left → ⊥
          none other has_other left is =
              let behind_one : IsEarlier one other =
              (sorted_back events memory caching sums now frames history rows word front (one ∷ back) (subst IsSorted parts sorted)).0 other has_other in
              let in_list : Has other.at list =
              subst (λ list. Has other.at list) (sym parts) (has_back events now frames word front (one ∷ back) other.at (inr has_other)) in
              elim (last other in_list (left, leaves_of events memory caching sums now frames history rows word other left is)) [
                | inl here ↦ not_earlier events now frames word memory caching one
                    (earlier_as events now frames word memory caching one other one one refl (here ∙ sym same) behind_one)
                | inr front_of ↦ not_earlier events now frames word memory caching one
                    (earlier_on events now frames word memory caching one other one behind_one
                    (earlier_as events now frames word memory caching other leaver other one refl (sym same) front_of))
              ]

  module _ (list : HomeList events memory now word) (reads : ReadsLast events memory now) where
    module _ (before : List Access) (entry : Access) (behind : List Access) (sorted : IsSorted (before ++ entry ∷ behind))
        (all : (node at : ℕ) → at < now → IsAccess events node word at → Has at (before ++ entry ∷ behind)) where
      -- one that left a value is the last that did
      last_is : (value : ℤ) → LastIn events memory now word entry.node entry.at value → last_write word (memory.start word) (map shown_by before) ≡ value
      last_is value last =
          last_left before (sorted_front events memory caching sums now frames history rows word before (entry ∷ behind) sorted) leaver
          (stands_in_front events memory caching sums now frames history rows word before entry behind sorted leaver
          (all last.node last.at inside leaver.is) last.before)
          last.node value last.leaves
          (λ other has left. last.last other.node other.at other.inside left
          (in_front events memory caching sums now frames history rows word before entry behind sorted other has))
        where
          inside : last.at < now
          inside = let one = last.earlier in let two = entry.inside in omega (arith, one, two)

          leaver : Access
          leaver = record { node = last.node; at = last.at; inside = inside; is = leaving_is_access last.node last.at value last.leaves }

      none_is : (value : ℤ) → NoneIn events memory now word entry.node entry.at value → last_write word (memory.start word) (map shown_by before) ≡ value
      none_is value none =
          none_left events memory caching sums now frames history rows word (memory.start word) before
          (λ other has left is. none.none other.node other.at other.inside
          (left, leaves_of events memory caching sums now frames history rows word other left is)
          (in_front events memory caching sums now frames history rows word before entry behind sorted other has))
          ∙ sym (none.start)

      obtained : (value : ℤ) → Obtains events entry.node word entry.at value → value ≡ last_write word (memory.start word) (map shown_by before)
      obtained value obtains =
          elim (reads word entry.node entry.at value entry.inside obtains) [ inl last ↦ sym (last_is value last) | inr none ↦ sym (none_is value none) ]

      answered : (is : IsAccess events entry.node word entry.at) → entry.is ≡ is
          → IsAnsweredFrom (λ one. last_write one (memory.start one) (map shown_by before)) (shown_by entry)
      answered (inl (inl write)) same =
          subst (λ is. IsAnsweredFrom (λ one. last_write one (memory.start one) (map shown_by before))
          (shown frames (act_in events now frames word entry.node entry.at is).done)) (sym same) tt
      answered (inl (inr read)) same =
          subst (λ is. IsAnsweredFrom (λ one. last_write one (memory.start one) (map shown_by before))
          (shown frames (act_in events now frames word entry.node entry.at is).done)) (sym same)
          (obtained (read.0) (inl (read.1)))
      answered (inr add) same =
          subst (λ is. IsAnsweredFrom (λ one. last_write one (memory.start one) (map shown_by before))
          (shown frames (act_in events now frames word entry.node entry.at is).done)) (sym same)
          (obtained (add.0) (inr (add.1)))

    -- In the list of the word each is answered by the last write before it.
    pub reads_last_writes : ReadsLastWrites memory.start (filter_map (act_at history) (places_of events now frames word history rows list.list))
    reads_last_writes front back act is =
        on (cut_at events memory caching sums now frames history rows word list.list front back act
        (sym (acts_are events memory caching sums now frames history rows word list.list) ∙ is))
      where
        on : Cut events memory caching sums now frames history rows word list.list front act
            → IsAnsweredFrom (λ one. last_write one (memory.start one) front) act
        on cut =
            let it = answered cut.before cut.entry cut.behind (subst IsSorted cut.parts list.sorted)
            (λ node at inside is. subst (λ one. Has at one) cut.parts (list.all node at inside is)) cut.entry.is refl in
            subst (λ one. IsAnsweredFrom (λ word. last_write word (memory.start word) front) one) cut.act_is
            (subst (λ list. IsAnsweredFrom (λ word. last_write word (memory.start word) list) (shown_by cut.entry)) cut.front_is it)
