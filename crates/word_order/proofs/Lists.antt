-- The list of a word: the places of its accesses in the home order, each once, in an order that keeps the dag.
use Rattle.std.proofs.Common.{◌≡◌, ◌⊎◌, inl, inr, ℕ, ◌<◌, List, [], ◌∷◌, ◌++◌, true, map, refl, sym, ◌∙◌, ap, subst}
use Rattle.std.specs.List.{Contains}
use Rattle.page_messages.specs.declared.closure.FrameId.{FrameId}
use Rattle.span_tree.specs.declared.act.Place.{Place}
use Rattle.span_tree.specs.Dag as dag
use Rattle.span_tree.specs.Dag.{StandsBefore}
use Rattle.span_tree.specs.History.{History}
use Rattle.span_tree.specs.Memory.{is_access}
use Rattle.span_tree.proofs.Orders.{first_or_later, is_first, is_later, nothing_in_none, one_stands_first}
use Rattle.backer_order.specs.Log.{Events, SharedMemory}
use Rattle.backer_order.specs.Moments.{IsAccess}
use Rattle.backer_order.specs.Rules.{Caching}
use Rattle.backer_order.specs.HomeOrder.{Before}
use Rattle.backer_order.specs.HomeList.{Entry, Has, Sorted, HomeList}
use Rattle.backer_order.specs.Dag.{Precedes}
use Rattle.word_order.proofs.Places.{AreRows}
use Rattle.word_order.proofs.Entries.{place_at, is_place, stands_at, is_accessed, one_access, one_place, entry_for, Earlier, earlier_on, not_earlier, earlier_as}
use Rattle.word_order.proofs.Lines.{precedes}

module _ (events : Events) (now : ℕ) (frames : List FrameId) (word : ℕ) where
  pub has_front : (front back : List (Entry events now word)) (at : ℕ) → Has at front → Has at (front ++ back)
  has_front [] back at has = absurd has
  has_front (first ∷ front) back at (inl same) = inl same
  has_front (first ∷ front) back at (inr has) = inr (has_front front back at has)

  pub has_back : (front back : List (Entry events now word)) (at : ℕ) → Has at back → Has at (front ++ back)
  has_back [] back at has = has
  has_back (first ∷ front) back at has = inr (has_back front back at has)

  pub has_either : (front back : List (Entry events now word)) (at : ℕ) → Has at (front ++ back) → Has at front ⊎ Has at back
  has_either [] back at has = inr has
  has_either (first ∷ front) back at (inl same) = inl (inl same)
  has_either (first ∷ front) back at (inr has) = elim (has_either front back at has) [ inl one ↦ inl (inr one) | inr other ↦ inr other ]

  module _ (history : History) (rows : AreRows events now frames history) where
    abbrev pub places_of : List (Entry events now word) → List Place
    places_of list = map (place_at events now frames word history rows) list

    abbrev its_place : Entry events now word → Place
    its_place entry = place_at events now frames word history rows entry

    -- a place of the list is that of an entry
    pub entry_in : (list : List (Entry events now word)) (place : Place) → Contains (places_of list) place
        → (entry : Entry events now word) × Has entry.at list × (place ≡ its_place entry)
    entry_in [] place is = absurd (nothing_in_none place is)
    entry_in (first ∷ list) place is = elim (first_or_later (its_place first) (places_of list) place is) [
      | inl same ↦ (first, inl refl, sym same)
      | inr later ↦ (let it = entry_in list place later in (it.0, inr (it.1), it.2))
    ]

    pub place_in : (list : List (Entry events now word)) (entry : Entry events now word) → Has entry.at list → Contains (places_of list) (its_place entry)
    place_in [] entry has = absurd has
    place_in (first ∷ list) entry (inl same) =
        subst (λ place. Contains (places_of (first ∷ list)) place) (one_place events now frames word history rows first entry same)
        (is_first (its_place first) (places_of list))
    place_in (first ∷ list) entry (inr has) = is_later (its_place first) (places_of list) (its_place entry) (place_in list entry has)

    pub only_accesses : (list : List (Entry events now word)) (place : Place) → Contains (places_of list) place → is_access history word place ≡ true
    only_accesses list place is = let it = entry_in list place is in ap (is_access history word) (it.2) ∙ is_accessed events now frames word history rows (it.0)

    module _ (memory : SharedMemory) (caching : Caching events memory) where
      abbrev IsEarlier : Entry events now word → Entry events now word → Type 0
      IsEarlier first second = Earlier events now frames word memory caching first second

      -- what stands before another place in the list is earlier in the home order
      pub stands_earlier : (list : List (Entry events now word)) → Sorted events memory now word list → (x y : Place) → StandsBefore (places_of list) x y
          → (first second : Entry events now word) × (x ≡ its_place first) × (y ≡ its_place second) × IsEarlier first second
      stands_earlier [] sorted x y stands = absurd stands
      stands_earlier (first ∷ list) sorted x y (inl stands) = let it = entry_in list y (stands.1) in (first, it.0, sym (stands.0), it.2, sorted.0 (it.0) (it.1))
      stands_earlier (first ∷ list) sorted x y (inr stands) = stands_earlier list (sorted.1) x y stands

      pub stands_once : (list : List (Entry events now word)) → Sorted events memory now word list → (place : Place)
          → StandsBefore (places_of list) place place → ⊥
      stands_once list sorted place stands =
          let it = stands_earlier list sorted place place stands in
          let same = one_access events now frames word history rows (it.0) (it.1) (sym (it.2) ∙ it.3) in
          not_earlier events now frames word memory caching (it.1)
          (earlier_as events now frames word memory caching (it.0) (it.1) (it.1) (it.1) same refl (it.4))

      -- what the home order has first stands first
      pub stands_as : (list : List (Entry events now word)) → Sorted events memory now word list
          → (first second : Entry events now word) → Has first.at list → Has second.at list → IsEarlier first second
          → StandsBefore (places_of list) (its_place first) (its_place second)
      stands_as list sorted first second has has' earlier =
          elim (one_stands_first (places_of list) (its_place first) (its_place second) (place_in list first has) (place_in list second has')) [
            | inl same ↦ absurd (not_earlier events now frames word memory caching second
                (earlier_as events now frames word memory caching first second second second
                (one_access events now frames word history rows first second same) refl earlier))
            | inr (inl stands) ↦ stands
            | inr (inr stands) ↦ absurd (
                let it = stands_earlier list sorted (its_place second) (its_place first) stands in
                let one = one_access events now frames word history rows (it.0) second (sym (it.2)) in
                let two = one_access events now frames word history rows (it.1) first (sym (it.3)) in
                let back = earlier_as events now frames word memory caching (it.0) (it.1) second first one two (it.4) in
                not_earlier events now frames word memory caching first (earlier_on events now frames word memory caching first second first earlier back))
          ]

      pub keeps_the_dag : (list : List (Entry events now word)) → Sorted events memory now word list
          → ((node other act later : ℕ) → later < now → IsAccess events node word act → IsAccess events other word later
          → Precedes events act later → Before events memory now word node act other later)
          → (x y : Place) → Contains (places_of list) x → Contains (places_of list) y → dag.Precedes history x y → StandsBefore (places_of list) x y
      keeps_the_dag list sorted keeps x y is_x is_y before =
          let one = entry_in list x is_x in
          let two = entry_in list y is_y in
          let first = one.0 in
          let second = two.0 in
          let here : dag.Precedes history (its_place first) (its_place second) =
          subst (λ place. dag.Precedes history place (its_place second)) (one.2) (subst (λ place. dag.Precedes history x place) (two.2) before) in
          let in_events = precedes events now frames history rows (its_place first) (its_place second) first.at second.at
          (stands_at events now frames word history rows first) (stands_at events now frames word history rows second)
          (is_place events now frames word history rows first) (is_place events now frames word history rows second) here in
          let earlier : IsEarlier first second = keeps first.node second.node first.at second.at second.inside first.is second.is in_events in
          subst (λ place. StandsBefore (places_of list) place y) (sym (one.2))
          (subst (λ place. StandsBefore (places_of list) (its_place first) place) (sym (two.2)) (stands_as list sorted first second (one.1) (two.1) earlier))

  -- the list of the word has each of its accesses
  pub all_accesses : (memory : SharedMemory) (history : History) (rows : AreRows events now frames history) (list : HomeList events memory now word)
      (place : Place) → is_access history word place ≡ true
      → Contains (places_of history rows list.list) place
  all_accesses memory history rows list place is =
      let it = entry_for events now frames word history rows place is in
      let entry = it.0 in
      subst (λ one. Contains (places_of history rows list.list) one) (sym (it.1))
      (place_in history rows list.list entry (list.all entry.node entry.at entry.inside entry.is))
