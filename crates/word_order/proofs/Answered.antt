-- By its list each access of a word obtains what the last write before it leaves.
use Rattle.std.proofs.Common.{◌≡◌, ◌⊎◌, inl, inr, ℕ, ℤ, List, [], ◌∷◌, ◌++◌, Option, Some, None, Bool, true, false, cond, map, eqb, refl, sym, ◌∙◌, ap}
use Rattle.std.specs.Prelude.{◌+ℤ◌, if◌then◌else◌, unwrap_or}
use Rattle.std.specs.List.{filter_map, cons_option}
use Rattle.cilk_meaning.specs.Values.{fits}
use Rattle.page_messages.specs.declared.closure.FrameId.{FrameId}
use Rattle.span_tree.specs.declared.act.Act.{Act}
use Rattle.span_tree.specs.History.{History, act_at}
use Rattle.span_tree.specs.Memory.{left_in, last_write}
use Rattle.backer_order.specs.Log as log
use Rattle.backer_order.specs.Log.{Events, SharedMemory}
use Rattle.backer_order.specs.Moments.{Leaves, OfWrite, OfAdd}
use Rattle.backer_order.specs.Rules.{Caching}
use Rattle.backer_order.specs.HomeList.{Entry, Has, Sorted}
use Rattle.word_order.proofs.Rows.{shown}
use Rattle.word_order.proofs.Places.{AreRows}
use Rattle.word_order.proofs.Entries.{Accesses, act_of, act_is, shown_at, word_test, word_is, Earlier, earlier_on, not_earlier, earlier_as}
use Rattle.word_order.proofs.Lists.{places_of, has_front, has_back, has_either}

-- ---- last writes in a list of acts

pub last_of_both : (word : ℕ) (value : ℤ) (front back : List Act) → last_write word value (front ++ back) ≡ last_write word (last_write word value front) back
last_of_both word value [] back = refl
last_of_both word value (act ∷ front) back = last_of_both word (unwrap_or (left_in word act) value) front back

-- the sum that an add leaves
abbrev pub AddsUp : SharedMemory → Type 0
AddsUp memory = (old addend : ℤ) → memory.sum old addend ≡ (if fits (old +ℤ addend) then Some (old +ℤ addend) else None)

module _ (events : Events) (memory : SharedMemory) (caching : Caching events memory) (sums : AddsUp memory) (now : ℕ) (frames : List FrameId)
    (history : History)
    (rows : AreRows events now frames history) (word : ℕ) where
  abbrev Access : Type 0
  Access = Entry events now word

  abbrev IsEarlier : Access → Access → Type 0
  IsEarlier first second = Earlier events now frames word memory caching first second

  abbrev shown_by : Access → Act
  shown_by entry = shown_at events now frames word history rows entry

  -- ---- what an act leaves

  leaves_on : (node at : ℕ) (frame : FrameId) (done : log.Act) (value : ℤ) → events at ≡ log.Acts node frame done
      → left_in word (shown frames done) ≡ Some value
      → Leaves events memory node word at value
  leaves_on node at frame (log.Read other value') value is left = absurd cc
  leaves_on node at frame (log.Write other value') value is left = on (eqb word other) refl left
    where
      on : (b : Bool) → eqb word other ≡ b → cond b (Some value') None ≡ Some value → Leaves events memory node word at value
      on true same left =
          let value_is : value' ≡ value = cc in
          OfWrite (record {
            frame = frame;
            is =
                is ∙ ap (λ one. log.Acts node frame (log.Write one value')) (sym (word_is word other same))
                ∙ ap (λ one. log.Acts node frame (log.Write word one)) value_is;
          })
      on false same left = absurd cc
  leaves_on node at frame (log.Add other old addend) value is left = on (eqb word other) refl left
    where
      on : (b : Bool) → eqb word other ≡ b → cond b (if fits (old +ℤ addend) then Some (old +ℤ addend) else None) None ≡ Some value
          → Leaves events memory node word at value
      on true same left =
          OfAdd frame old addend (is ∙ ap (λ one. log.Acts node frame (log.Add one old addend)) (sym (word_is word other same))) (sums old addend ∙ left)
      on false same left = absurd cc
  leaves_on node at frame (log.Print value') value is left = absurd cc
  leaves_on node at frame (log.Spawn child) value is left = absurd cc
  leaves_on node at frame log.Sync value is left = absurd cc

  left_on : (node at : ℕ) (frame : FrameId) (done : log.Act) (value : ℤ) → events at ≡ log.Acts node frame done → (other : ℕ)
      → Leaves events memory other word at value
      → left_in word (shown frames done) ≡ Some value
  left_on node at frame done value is other (OfWrite wrote) =
      let two = wrote.is in
      let done_is : done ≡ log.Write word value = cc in
      ap (λ one. left_in word (shown frames one)) done_is ∙ ap (λ b. cond b (Some value) None) (word_test word)
  left_on node at frame done value is other (OfAdd frame' old addend two sum) =
      let done_is : done ≡ log.Add word old addend = cc in
      ap (λ one. left_in word (shown frames one)) done_is ∙ ap (λ b. cond b (if fits (old +ℤ addend) then Some (old +ℤ addend) else None) None) (word_test word)
      ∙ sym (sums old addend) ∙ sum

  pub leaves_of : (entry : Access) (value : ℤ) → left_in word (shown_by entry) ≡ Some value → Leaves events memory entry.node word entry.at value
  leaves_of entry value left = by (act_of events now frames word entry) left
    where
      by : (one : Accesses events now frames word entry.node entry.at) → left_in word (shown frames one.done) ≡ Some value
          → Leaves events memory entry.node word entry.at value
      by one left = leaves_on entry.node entry.at one.frame one.done value one.is left

  pub left_of : (entry : Access) (node : ℕ) (value : ℤ) → Leaves events memory node word entry.at value → left_in word (shown_by entry) ≡ Some value
  left_of entry node value leaves = by (act_of events now frames word entry)
    where
      by : (one : Accesses events now frames word entry.node entry.at) → left_in word (shown frames one.done) ≡ Some value
      by one = left_on entry.node entry.at one.frame one.done value one.is node leaves

  left_or_none : (entry : Access) → ((value : ℤ) × (left_in word (shown_by entry) ≡ Some value)) ⊎ (left_in word (shown_by entry) ≡ None)
  left_or_none entry = on (left_in word (shown_by entry)) refl
    where
      on : (left : Option ℤ) → left_in word (shown_by entry) ≡ left
          → ((value : ℤ) × (left_in word (shown_by entry) ≡ Some value)) ⊎ (left_in word (shown_by entry) ≡ None)
      on None is = inr is
      on (Some value) is = inl (value, is)

  -- where none of these leaves anything, the word stays
  pub none_left : (value : ℤ) (list : List Access)
      → ((entry : Access) → Has entry.at list → (left : ℤ) → left_in word (shown_by entry) ≡ Some left → ⊥) → last_write word value (map shown_by list) ≡ value
  none_left value [] none = refl
  none_left value (first ∷ list) none = elim (left_or_none first) [
    | inl left ↦ absurd (none first (inl refl) (left.0) (left.1))
    | inr nothing ↦ ap (λ left. last_write word (unwrap_or left value) (map shown_by list)) nothing ∙ none_left value list (λ entry has. none entry (inr has))
  ]

  -- ---- the entries before one

  -- the entries in front of one in the list
  pub record Cut (list : List Access) (front : List Act) (act : Act) : Type 0 where
    pub before : List Access
    pub entry : Access
    pub behind : List Access
    pub parts : list ≡ before ++ entry ∷ behind
    pub front_is : map shown_by before ≡ front
    pub act_is : shown_by entry ≡ act

  pub cut_at : (list : List Access) (front back : List Act) (act : Act) → map shown_by list ≡ front ++ act ∷ back → Cut list front act
  cut_at [] [] back act is = absurd cc
  cut_at [] (one ∷ front) back act is = absurd cc
  cut_at (first ∷ list) [] back act is =
      let same : shown_by first ≡ act = cc in record { before = []; entry = first; behind = list; parts = refl; front_is = refl; act_is = same }
  cut_at (first ∷ list) (one ∷ front) back act is =
      let same : shown_by first ≡ one = cc in
      let rest : map shown_by list ≡ front ++ act ∷ back = cc in
      let it = cut_at list front back act rest in
      record {
        before = first ∷ it.before;
        entry = it.entry;
        behind = it.behind;
        parts = ap (λ list. first ∷ list) {y = it.before ++ it.entry ∷ it.behind} it.parts;
        front_is = ap (λ one. one ∷ map shown_by it.before) same ∙ ap (λ front. one ∷ front) it.front_is;
        act_is = it.act_is;
      }

  -- what the history has at the places of a list are the acts of its entries
  pub acts_are : (list : List Access) → filter_map (act_at history) (places_of events now frames word history rows list) ≡ map shown_by list
  acts_are [] = refl
  acts_are (first ∷ list) =
      ap (λ act. cons_option act (filter_map (act_at history) (places_of events now frames word history rows list)))
      (act_is events now frames word history rows first)
      ∙ ap (λ list. shown_by first ∷ list) (acts_are list)

  pub split_at : (list : List Access) (at : ℕ) → Has at list
      → (before : List Access) × (entry : Access) × (behind : List Access) × (list ≡ before ++ entry ∷ behind) × (entry.at ≡ at)
  split_at [] at has = absurd has
  split_at (first ∷ list) at (inl same) = ([], first, list, refl, same)
  split_at (first ∷ list) at (inr has) = let it = split_at list at has in (first ∷ it.0, it.1, it.2, ap (λ list. first ∷ list) (it.3), it.4)

  abbrev IsSorted : List Access → Type 0
  IsSorted list = Sorted events memory now word list

  pub sorted_front : (front back : List Access) → IsSorted (front ++ back) → IsSorted front
  sorted_front [] back sorted = tt
  sorted_front (first ∷ front) back sorted =
      ((λ later has. sorted.0 later (has_front events now frames word front back later.at has)), sorted_front front back (sorted.1))

  pub sorted_back : (front back : List Access) → IsSorted (front ++ back) → IsSorted back
  sorted_back [] back sorted = sorted
  sorted_back (first ∷ front) back sorted = sorted_back front back (sorted.1)

  -- what stands in front of an entry is earlier
  pub in_front : (front : List Access) (entry : Access) (back : List Access) → IsSorted (front ++ entry ∷ back) → (one : Access) → Has one.at front
      → IsEarlier one entry
  in_front [] entry back sorted one has = absurd has
  in_front (first ∷ front) entry back sorted one (inl same) =
      earlier_as events now frames word memory caching first entry one entry same refl
      (sorted.0 entry (has_back events now frames word front (entry ∷ back) entry.at (inl refl)))
  in_front (first ∷ front) entry back sorted one (inr has) = in_front front entry back (sorted.1) one has

  -- what is earlier stands in front
  pub stands_in_front : (front : List Access) (entry : Access) (back : List Access) → IsSorted (front ++ entry ∷ back)
      → (one : Access) → Has one.at (front ++ entry ∷ back) → IsEarlier one entry → Has one.at front
  stands_in_front front entry back sorted one has earlier = elim (has_either events now frames word front (entry ∷ back) one.at has) [
    | inl here ↦ here
    | inr (inl same) ↦ absurd (not_earlier events now frames word memory caching entry
        (earlier_as events now frames word memory caching one entry entry entry (sym same) refl earlier))
    | inr (inr later) ↦ absurd (
        let behind = (sorted_back front (entry ∷ back) sorted).0 one later in
        not_earlier events now frames word memory caching entry (earlier_on events now frames word memory caching entry one entry behind earlier))
  ]
