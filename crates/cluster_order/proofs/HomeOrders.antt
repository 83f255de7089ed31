-- The home order of a word is the list of its accesses over positions: each once, in the order of which consistency is proved.
use Rattle.std.proofs.Common.{◌≡◌, ◌⊎◌, inl, inr, ℕ, zero, suc, ◌<◌, List, [], ◌∷◌, Option, Some, None, Bool, true, false, ◌||◌, length, map, refl, sym, ◌∙◌, ap, subst, arith}
use Rattle.std.specs.List.{Contains}
use Rattle.cluster_rules.specs.Turns.{WholeTurn, Event}
use Rattle.cluster_rules.specs.Positions.{Course, course_of, Happens}
use Rattle.cluster_rules.specs.Moments.{touches, adds, IsMoment, IsReceipt, Taken, AtOnce, IsSource, Answered, Loaded, Listed, EarlierBy, IsEarlier, IsListed, InOrder, IsHomeOrder}
use Rattle.cluster_rules.specs.Runs.{Cluster, IsLawful, node_at}
use Rattle.backer_order.specs.Log as log
use Rattle.backer_order.specs.Moments.{Moment, IsAccess}
use Rattle.backer_order.specs.Rules.{Caching}
use Rattle.backer_order.specs.HomeOrder.{HasNone, Before}
use Rattle.backer_order.specs.HomeList.{Entry, Has, Sorted, HomeList}
use Rattle.backer_order.proofs.HomeLists as lists
use Rattle.backer_order.proofs.ReadsLast as last
use Rattle.cluster_order.specs.Reading.{memory_of}
use Rattle.cluster_order.proofs.Growing.{within}
use Rattle.cluster_order.proofs.Accesses.{ev}
use Rattle.cluster_order.proofs.Caching.{keeps_the_page_rules}
use Rattle.cluster_order.proofs.Touching.{AccessThere, access_there, AccessAt, access_at}
use Rattle.cluster_order.proofs.Meeting.{one_owner, moment_at, moment_there}

-- ---- lists

pub first_in : (first : Listed) (order : List Listed) → Contains (first ∷ order) first
first_in first order = (0, omega (arith), refl)

pub later_in : (first : Listed) (order : List Listed) (one : Listed) → Contains order one → Contains (first ∷ order) one
later_in first order one is = let less = is.1 in (suc (is.0), omega (arith, less), is.2)

-- no number is there twice
abbrev pub IsAmong : ℕ → List ℕ → Type 0
IsAmong number [] = ⊥
IsAmong number (first ∷ rest) = (first ≡ number) ⊎ IsAmong number rest

abbrev pub EachOnce : List ℕ → Type 0
EachOnce [] = Unit {0}
EachOnce (first ∷ rest) = (IsAmong first rest → ⊥) × EachOnce rest

abbrev pub positions_in : List Listed → List ℕ
positions_in order = map (λ one. one.position) order

module _ (cluster : Cluster) (turns : List WholeTurn) (lawful : IsLawful cluster turns) (word : ℕ) where
  abbrev course : Course
  course = course_of turns

  abbrev events : ℕ → log.Event
  events = ev cluster turns lawful

  abbrev now : ℕ
  now = length course

  caching : Caching events (memory_of cluster)
  caching = keeps_the_page_rules cluster turns lawful

  abbrev pub Earlier : ℕ → ℕ → ℕ → ℕ → Type 0
  Earlier node access other next = Before events (memory_of cluster) now word node access other next

  -- ---- moments

  happens_within : (node position : ℕ) (event : Event) → Happens course node position event → position < now
  happens_within node position event it = within course position (it.moved) (it.is)

  receipt_within : (sending moment : ℕ) → IsReceipt course sending moment → moment < now
  receipt_within sending moment (Taken taking it) = within course taking (it.receiver) (it.taken)
  receipt_within sending moment (AtOnce node done it) = happens_within node sending _ it

  source_within : (arrival moment : ℕ) → IsSource course arrival moment → moment < now
  source_within arrival moment (Answered home reply taking taken answer) = happens_within home taking (answer.taken) (answer.taking_is)
  source_within arrival moment (Loaded node page words it) = happens_within node arrival _ it

  pub moment_within : (node access moment : ℕ) → IsMoment (node_at cluster node) course word access moment → moment < now
  moment_within node access moment (inl it) = receipt_within (it.sending) moment (it.received)
  moment_within node access moment (inr (inl it)) = source_within (it.arrival) moment (it.source)
  moment_within node access moment (inr (inr it)) =
      let less = happens_within node access (it.event) (it.is) in let same = it.at_once in omega (arith, less, same)

  -- ---- an access of the list

  abbrev pub access_of : (one : Listed) (it : IsListed cluster course word one) → AccessAt cluster turns lawful (one.node) word (one.position) (it.event)
  access_of one it = access_at cluster turns lawful (one.node) word (one.position) (it.event) (it.is) (it.accesses)

  abbrev pub owner_of : (one : Listed) → IsListed cluster course word one → ℕ
  owner_of one it = (access_of one it).owner

  abbrev entry_of : (one : Listed) → IsListed cluster course word one → Entry events now word
  entry_of one it =
      record { node = owner_of one it; at = one.position; inside = happens_within (one.node) (one.position) (it.event) (it.is); is = (access_of one it).is }

  -- one that has a moment has it over positions too, before the end
  has_moment : (one : Listed) (it : IsListed cluster course word one) (moment : ℕ) → one.moment ≡ Some moment
      → Moment events (memory_of cluster) (owner_of one it) word (one.position) moment ×
      (moment < now)
  has_moment one it moment is =
      let there = (it.moments moment).1 is in (
        moment_at cluster turns lawful (owner_of one it) (one.node) word (one.position) (it.event) (it.is) ((access_of one it).is) moment there,
        moment_within (one.node) (one.position) moment there,
      )

  -- one that has none has none there
  has_no_moment : (one : Listed) (it : IsListed cluster course word one) → one.moment ≡ None
      → HasNone events (memory_of cluster) now (owner_of one it) word (one.position)
  has_no_moment one it none = λ moment less there.
      let some = (it.moments moment).0 (moment_there cluster turns lawful (owner_of one it) (one.node) word (one.position) (it.event) (it.is)
      ((access_of one it).is) moment there) in
      let both : None ≡ Some moment = sym none ∙ some in
      absurd (cc)

  -- and is a read or a write, since an add is at its own moment
  pub own_of_none : (one : Listed) (it : IsListed cluster course word one) → one.moment ≡ None → owner_of one it ≡ one.node
  own_of_none one it none = on (touches word (it.event)) refl (it.accesses)
    where
      on : (b : Bool) → touches word (it.event) ≡ b → b || adds word (it.event) ≡ true → owner_of one it ≡ one.node
      on true is any = (access_of one it).of_touch is
      on false is any =
          let add : IsMoment (node_at cluster (one.node)) course word (one.position) (one.position) =
          inr (inr (record { event = it.event; is = it.is; adds_word = any; at_once = refl })) in
          let both : None ≡ Some (one.position) = sym none ∙ (it.moments (one.position)).0 add in
          absurd (cc)

  -- ---- the order

  earlier_on : (first second : Listed) (one : IsListed cluster course word first) (other : IsListed cluster course word second) → (m n : Option ℕ)
      → first.moment ≡ m → second.moment ≡ n
      → EarlierBy m n first second
      → Earlier (owner_of first one) (first.position) (owner_of second other) (second.position)
  earlier_on first second one other (Some m) (Some n) is is' order =
      let here = has_moment first one m is in
      let there = has_moment second other n is' in
      inl (inl (record { first = m; second = n; first_is = here.0; second_is = there.0; first_in = here.1; second_in = there.1; order = order }))
  earlier_on first second one other (Some m) None is is' order =
      let here = has_moment first one m is in
      inl (inr (record { first = m; first_is = here.0; first_in = here.1; second_is = has_no_moment second other is' }))
  earlier_on first second one other None (Some n) is is' order = absurd order
  earlier_on first second one other None None is is' order =
      inr (record {
        first_is = has_no_moment first one is;
        second_is = has_no_moment second other is';
        order =
            subst (λ it. (it < owner_of second other) ⊎ ((it ≡ owner_of second other) × (first.position < second.position))) (sym (own_of_none first one is))
            (subst (λ it. (first.node < it) ⊎ ((first.node ≡ it) × (first.position < second.position))) (sym (own_of_none second other is')) order);
      })

  -- What is earlier in the home order of the cluster is so over positions.
  pub earlier_before : (first second : Listed) (one : IsListed cluster course word first) (other : IsListed cluster course word second) → IsEarlier first second
      → Earlier (owner_of first one) (first.position) (owner_of second other) (second.position)
  earlier_before first second one other order = earlier_on first second one other (first.moment) (second.moment) refl refl order

  -- no access is before itself
  pub not_before_itself : (node access : ℕ) → Earlier node access node access → ⊥
  not_before_itself node access (inl (inl both)) =
      let same = last.moment_unique events (memory_of cluster) caching node word access (both.first) (both.second) (both.first_is) (both.second_is) in
      on (both.order) same
    where
      on : (both.first < both.second) ⊎ ((both.first ≡ both.second) × (access < access)) → both.first ≡ both.second → ⊥
      on (inl less) same = absurd (omega (arith, less, same))
      on (inr equal) same = let less = equal.1 in absurd (omega (arith, less))
  not_before_itself node access (inl (inr one)) = one.second_is (one.first) (one.first_in) (one.first_is)
  not_before_itself node access (inr none) = on (none.order)
    where
      on : (node < node) ⊎ ((node ≡ node) × (access < access)) → ⊥
      on (inl less) = absurd (omega (arith, less))
      on (inr equal) = let less = equal.1 in absurd (omega (arith, less))

  -- ---- a list of entries in which each stands before the next one

  abbrev Linked : List (Entry events now word) → Type 0
  Linked [] = Unit {0}
  Linked (first ∷ []) = Unit {0}
  Linked (first ∷ (second ∷ rest)) = Earlier (first.node) (first.at) (second.node) (second.at) × Linked (second ∷ rest)

  before_at : (first second later : Entry events now word) → second.at ≡ later.at → Earlier (first.node) (first.at) (second.node) (second.at)
      → Earlier (first.node) (first.at) (later.node) (later.at)
  before_at first second later same before =
      let node_same =
      one_owner events (later.at) word (second.node) (later.node) (subst (λ i. IsAccess events (second.node) word i) same (second.is)) (later.is) in
      subst (λ it. Earlier (first.node) (first.at) it (later.at)) node_same (subst (λ it. Earlier (first.node) (first.at) (second.node) it) same before)

  sorted_of : (list : List (Entry events now word)) → Linked list → Sorted events (memory_of cluster) now word list
  sorted_of [] linked = tt
  sorted_of (first ∷ []) linked = (λ later has. absurd has, tt)
  sorted_of (first ∷ (second ∷ rest)) linked = let sorted = sorted_of (second ∷ rest) (linked.1) in (λ later has. on later has sorted, sorted)
    where
      on : (later : Entry events now word) → Has (later.at) (second ∷ rest) → Sorted events (memory_of cluster) now word (second ∷ rest)
          → Earlier (first.node) (first.at) (later.node) (later.at)
      on later (inl same) sorted = before_at first second later same (linked.0)
      on later (inr has) sorted =
          lists.trans events (memory_of cluster) caching now word (first.node) (first.at) (second.node) (second.at) (later.node) (later.at) (linked.0)
          (sorted.0 later has)

  -- the positions of entries
  abbrev pub positions_of : List (Entry events now word) → List ℕ
  positions_of list = map (λ one. one.at) list

  has_position : (at : ℕ) (list : List (Entry events now word)) → IsAmong at (positions_of list) → Has at list
  has_position at [] among = among
  has_position at (first ∷ list) (inl same) = inl same
  has_position at (first ∷ list) (inr among) = inr (has_position at list among)

  once_of : (list : List (Entry events now word)) → Sorted events (memory_of cluster) now word list → EachOnce (positions_of list)
  once_of [] sorted = tt
  once_of (first ∷ list) sorted =
      (λ among. not_before_itself (first.node) (first.at) (sorted.0 first (has_position (first.at) list among)), once_of list (sorted.1))

  -- ---- the list of an order

  abbrev AllListed : List Listed → Type 0
  AllListed order = (one : Listed) → Contains order one → IsListed cluster course word one

  abbrev entries : (order : List Listed) → AllListed order → List (Entry events now word)
  entries [] listed = []
  entries (first ∷ rest) listed = entry_of first (listed first (first_in first rest)) ∷ entries rest (λ one is. listed one (later_in first rest one is))

  same_positions : (order : List Listed) (listed : AllListed order) → positions_of (entries order listed) ≡ positions_in order
  same_positions [] listed = refl
  same_positions (first ∷ rest) listed = ap (λ it. first.position ∷ it) (same_positions rest (λ one is. listed one (later_in first rest one is)))

  linked_of : (order : List Listed) (listed : AllListed order) → InOrder order → Linked (entries order listed)
  linked_of [] listed in_order = tt
  linked_of (first ∷ []) listed in_order = tt
  linked_of (first ∷ (second ∷ rest)) listed in_order =
      let others : AllListed (second ∷ rest) = λ one is. listed one (later_in first (second ∷ rest) one is) in (
        earlier_before first second (listed first (first_in first (second ∷ rest))) (others second (first_in second rest)) (in_order.0),
        linked_of (second ∷ rest) others (in_order.1),
      )

  among_positions : (order : List Listed) (one : Listed) → Contains order one → IsAmong (one.position) (positions_in order)
  among_positions [] one is = let less = is.1 in absurd (omega (arith, less))
  among_positions (first ∷ rest) one (zero, less, same) = inl (ap (λ it. it.position) same)
  among_positions (first ∷ rest) one (suc place, less, same) = inr (among_positions rest one (place, omega (arith, less), same))

  -- ---- each access is listed

  listed_by : (owner at : ℕ) → at < now → IsAccess events owner word at → (there : AccessThere cluster turns lawful owner word at)
      → ((moment : ℕ) × (moment < now) × Moment events (memory_of cluster) owner word at moment) ⊎ HasNone events (memory_of cluster) now owner word at
      → (one : Listed) × (one.position ≡ at) × IsListed cluster course word one
  listed_by owner at inside access there (inl (first, less, is)) = (
    record { position = at; node = there.node; moment = Some first },
    refl,
    record { event = there.event; is = there.is; accesses = there.accesses; moments = λ moment. (one_moment moment, of_some moment) },
  )
    where
      one_moment : (moment : ℕ) → IsMoment (node_at cluster (there.node)) course word at moment → Some first ≡ Some moment
      one_moment moment it =
          ap Some (last.moment_unique events (memory_of cluster) caching owner word at first moment is
          (moment_at cluster turns lawful owner (there.node) word at (there.event) (there.is) access moment it))

      of_some : (moment : ℕ) → Some first ≡ Some moment → IsMoment (node_at cluster (there.node)) course word at moment
      of_some moment some =
          let same : first ≡ moment = cc in
          moment_there cluster turns lawful owner (there.node) word at (there.event) (there.is) access moment
          (subst (λ it. Moment events (memory_of cluster) owner word at it) same is)
  listed_by owner at inside access there (inr none) = (
    record { position = at; node = there.node; moment = None },
    refl,
    record { event = there.event; is = there.is; accesses = there.accesses; moments = λ moment. (no_moment moment, of_none moment) },
  )
    where
      no_moment : (moment : ℕ) → IsMoment (node_at cluster (there.node)) course word at moment → None ≡ Some moment
      no_moment moment it =
          absurd (none moment (moment_within (there.node) at moment it)
          (moment_at cluster turns lawful owner (there.node) word at (there.event) (there.is) access moment it))

      of_none : (moment : ℕ) → None ≡ Some moment → IsMoment (node_at cluster (there.node)) course word at moment
      of_none moment some = absurd (cc)

  -- Each access over positions is one of the course, with its moment or without one.
  pub listed_there : (owner at : ℕ) → at < now → IsAccess events owner word at → (one : Listed) × (one.position ≡ at) × IsListed cluster course word one
  listed_there owner at inside access =
      listed_by owner at inside access (access_there cluster turns lawful owner word at access)
      (last.decide_moment events (memory_of cluster) caching now owner word at inside access)

  -- ---- the law

  -- The order of a word is its list over positions, in which each access stands, none twice.
  pub record IsHomeList (order : List Listed) : Type 0 where
    pub home : HomeList events (memory_of cluster) now word
    pub same : positions_of (home.list) ≡ positions_in order
    pub all : (owner at : ℕ) → at < now → IsAccess events owner word at → IsAmong at (positions_in order)
    pub once : EachOnce (positions_in order)

  pub home_order_is_list : (order : List Listed) → IsHomeOrder cluster course word order → IsHomeList order
  home_order_is_list order it =
      let list = entries order (it.listed) in
      let sorted = sorted_of list (linked_of order (it.listed) (it.in_order)) in
      let same = same_positions order (it.listed) in
      record {
        home = record {
          list = list;
          all = λ owner at inside access. has_position at list (subst (IsAmong at) (sym same) (among owner at inside access));
          sorted = sorted;
        };
        same = same;
        all = among;
        once = subst EachOnce same (once_of list sorted);
      }
    where
      among : (owner at : ℕ) → at < now → IsAccess events owner word at → IsAmong at (positions_in order)
      among owner at inside access =
          let one = listed_there owner at inside access in
          subst (λ i. IsAmong i (positions_in order)) (one.1) (among_positions order (one.0) (it.all (one.0) (one.2)))
