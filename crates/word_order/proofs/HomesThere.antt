-- Each word has a home order in lawful turns: the list of its accesses over positions, each with its moment in the course.
use Rattle.std.proofs.Common.{◌≡◌, ◌⊎◌, inl, inr, ℕ, zero, suc, ◌<◌, List, [], ◌∷◌, Option, Some, None, length, refl, sym, ◌∙◌, ap, subst, arith}
use Rattle.std.specs.List.{Contains}
use Rattle.cluster_rules.specs.Turns.{WholeTurn}
use Rattle.cluster_rules.specs.Positions.{course_of, Happens}
use Rattle.cluster_rules.specs.Moments.{IsMoment, Listed, EarlierBy, IsEarlier, IsListed, InOrder, IsHomeOrder}
use Rattle.cluster_rules.specs.Runs.{Cluster, IsLawful, node_at}
use Rattle.backer_order.specs.Log.{Events}
use Rattle.backer_order.specs.Moments.{Moment, IsAccess}
use Rattle.backer_order.specs.HomeOrder.{HasNone, Before}
use Rattle.backer_order.specs.HomeList.{Entry, Has, Sorted, HomeList}
use Rattle.backer_order.proofs.HomeLists.{home_list}
use Rattle.cluster_order.specs.Reading.{events_of, memory_of}
use Rattle.cluster_order.proofs.Caching.{keeps_the_page_rules}
use Rattle.cluster_order.proofs.Growing.{within}
use Rattle.cluster_order.proofs.HomeOrders.{first_in, later_in, owner_of, access_of, own_of_none, listed_there, moment_within}
use Rattle.cluster_order.proofs.Meeting.{one_owner, moment_at, moment_there}
use Rattle.cluster_order.proofs.Touching.{same_happening}

-- what is alike for each moment is one
same_option : (one other : Option ℕ) → ((moment : ℕ) → one ≡ Some moment → other ≡ Some moment) → ((moment : ℕ) → other ≡ Some moment → one ≡ Some moment)
    → one ≡ other
same_option None None there back = refl
same_option None (Some moment) there back = back moment refl
same_option (Some moment) other there back = sym (there moment refl)

module _ (cluster : Cluster) (turns : List WholeTurn) (lawful : IsLawful cluster turns) (word : ℕ) where
  abbrev events : Events
  events = events_of cluster (course_of turns)

  abbrev now : ℕ
  now = length (course_of turns)

  abbrev Known : Listed → Type 0
  Known one = IsListed cluster (course_of turns) word one

  abbrev owner : (one : Listed) → Known one → ℕ
  owner one it = owner_of cluster turns lawful word one it

  -- ---- one access at a position

  same_node : (one other : Listed) → Known one → Known other → one.position ≡ other.position → one.node ≡ other.node
  same_node one other it that same =
      (same_happening (course_of turns) one.node other.node other.position it.event that.event
      (subst (λ at. Happens (course_of turns) one.node at it.event) same it.is) that.is).0

  same_moment : (one other : Listed) → Known one → Known other → one.position ≡ other.position → one.moment ≡ other.moment
  same_moment one other it that same =
      let node = same_node one other it that same in
      same_option one.moment other.moment
      (λ moment is. (that.moments moment).0 (subst (λ n. IsMoment (node_at cluster n) (course_of turns) word other.position moment) node
      (subst (λ at. IsMoment (node_at cluster one.node) (course_of turns) word at moment) same ((it.moments moment).1 is))))
      (λ moment is. (it.moments moment).0 (subst (λ at. IsMoment (node_at cluster one.node) (course_of turns) word at moment) (sym same)
      (subst (λ n. IsMoment (node_at cluster n) (course_of turns) word other.position moment) (sym node) ((that.moments moment).1 is))))

  same_listed : (one other : Listed) → Known one → Known other → one.position ≡ other.position → one ≡ other
  same_listed one other it that same =
      ap (λ at. record { position = at; node = one.node; moment = one.moment }) same
      ∙ ap (λ node. record { position = other.position; node = node; moment = one.moment }) (same_node one other it that same)
      ∙ ap (λ moment. record { position = other.position; node = other.node; moment = moment }) (same_moment one other it that same)

  -- ---- the order

  moment_of : (one : Listed) (it : Known one) (moment : ℕ) → Moment events (memory_of cluster) (owner one it) word one.position moment
      → one.moment ≡ Some moment
  moment_of one it moment is =
      (it.moments moment).0 (moment_there cluster turns lawful (owner one it) one.node word one.position it.event it.is
      (access_of cluster turns lawful word one it).is moment is)

  none_of : (one : Listed) (it : Known one) → HasNone events (memory_of cluster) now (owner one it) word one.position → one.moment ≡ None
  none_of one it none = on one.moment refl
    where
      on : (moment : Option ℕ) → one.moment ≡ moment → one.moment ≡ None
      on None is = is
      on (Some moment) is =
          let there = (it.moments moment).1 is in
          absurd (none moment (moment_within cluster turns lawful word one.node one.position moment there)
          (moment_at cluster turns lawful (owner one it) one.node word one.position it.event it.is
          (access_of cluster turns lawful word one it).is moment there))

  by_moments : (first second : Listed) (one other : Option ℕ) → first.moment ≡ one → second.moment ≡ other → EarlierBy one other first second
      → IsEarlier first second
  by_moments first second one other is is' earlier =
      subst (λ it. EarlierBy it second.moment first second) (sym is) (subst (λ it. EarlierBy one it first second) (sym is') earlier)

  -- What is earlier over positions is so in the home order.
  before_earlier : (first second : Listed) (one : Known first) (other : Known second)
      → Before events (memory_of cluster) now word (owner first one) first.position (owner second other) second.position → IsEarlier first second
  before_earlier first second one other (inl (inl both)) =
      by_moments first second (Some both.first) (Some both.second) (moment_of first one both.first both.first_is)
      (moment_of second other both.second both.second_is) both.order
  before_earlier first second one other (inl (inr it)) =
      by_moments first second (Some it.first) None (moment_of first one it.first it.first_is) (none_of second other it.second_is) tt
  before_earlier first second one other (inr none) =
      let none_here = none_of first one none.first_is in
      let none_there = none_of second other none.second_is in
      by_moments first second None None none_here none_there
      (subst (λ it. (it < second.node) ⊎ ((it ≡ second.node) × (first.position < second.position))) (own_of_none cluster turns lawful word first one none_here)
      (subst (λ it. (owner first one < it) ⊎ ((owner first one ≡ it) × (first.position < second.position)))
      (own_of_none cluster turns lawful word second other none_there) none.order))

  -- ---- the list

  abbrev Listing : Entry events now word → Type 0
  Listing entry = (one : Listed) × (one.position ≡ entry.at) × Known one

  listing : (entry : Entry events now word) → Listing entry
  listing entry = listed_there cluster turns lawful word entry.node entry.at entry.inside entry.is

  abbrev listed : List (Entry events now word) → List Listed
  listed [] = []
  listed (entry ∷ list) = (listing entry).0 ∷ listed list

  each_known : (list : List (Entry events now word)) (one : Listed) → Contains (listed list) one → Known one
  each_known [] one (place, less, same) = absurd (omega (arith, less))
  each_known (entry ∷ list) one (zero, less, same) = subst Known same (listing entry).2
  each_known (entry ∷ list) one (suc place, less, same) = each_known list one (place, omega (arith, less), same)

  each_there : (list : List (Entry events now word)) (one : Listed) → Known one → Has one.position list → Contains (listed list) one
  each_there [] one it has = absurd has
  each_there (entry ∷ list) one it (inl same) =
      subst (λ other. Contains (listed (entry ∷ list)) other)
      (same_listed (listing entry).0 one (listing entry).2 it ((listing entry).1 ∙ same))
      (first_in (listing entry).0 (listed list))
  each_there (entry ∷ list) one it (inr has) = later_in (listing entry).0 (listed list) one (each_there list one it has)

  -- the node of an entry is the owner of its access
  earlier_entries : (first second : Entry events now word) → Before events (memory_of cluster) now word first.node first.at second.node second.at
      → IsEarlier (listing first).0 (listing second).0
  earlier_entries first second before = on (listing first) (listing second)
    where
      owned : (entry : Entry events now word) (one : Listing entry) → entry.node ≡ owner one.0 one.2
      owned entry one =
          one_owner events entry.at word entry.node (owner one.0 one.2) entry.is
          (subst (λ at. IsAccess events (owner one.0 one.2) word at) one.1 (access_of cluster turns lawful word one.0 one.2).is)

      on : (one : Listing first) (other : Listing second) → IsEarlier one.0 other.0
      on one other =
          before_earlier one.0 other.0 one.2 other.2
          (subst (λ node. Before events (memory_of cluster) now word node one.0.position (owner other.0 other.2) other.0.position) (owned first one)
          (subst (λ node. Before events (memory_of cluster) now word first.node one.0.position node other.0.position) (owned second other)
          (subst (λ at. Before events (memory_of cluster) now word first.node at second.node other.0.position) (sym one.1)
          (subst (λ at. Before events (memory_of cluster) now word first.node first.at second.node at) (sym other.1) before))))

  in_order_of : (list : List (Entry events now word)) → Sorted events (memory_of cluster) now word list → InOrder (listed list)
  in_order_of [] sorted = tt
  in_order_of (first ∷ []) sorted = tt
  in_order_of (first ∷ (second ∷ list)) sorted = (earlier_entries first second (sorted.0 second (inl refl)), in_order_of (second ∷ list) sorted.1)

  pub each_word_has_a_home_order : (order : List Listed) × IsHomeOrder cluster (course_of turns) word order
  each_word_has_a_home_order =
      let home = home_list events (memory_of cluster) (keeps_the_page_rules cluster turns lawful) now word in (
        listed home.list,
        record {
          listed = each_known home.list;
          all = λ one it. each_there home.list one it (all_has home one it);
          in_order = in_order_of home.list home.sorted;
        },
      )
    where
      all_has : (home : HomeList events (memory_of cluster) now word) (one : Listed) → Known one → Has one.position home.list
      all_has home one it =
          home.all (owner one it) one.position (within (course_of turns) one.position it.is.moved it.is.is) (access_of cluster turns lawful word one it).is
