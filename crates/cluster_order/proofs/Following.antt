-- An item at a position, with the items behind it in its turn, which stand at the next positions.
use Rattle.std.proofs.Common.{◌≡◌, ◌⊎◌, inl, inr, ℕ, suc, ◌+◌, List, [], ◌∷◌, Option, Some, None, Bool, true, false, cond, eqb, length, refl, sym, ◌∙◌, ap, subst, arith}
use Rattle.std.proofs.lemmas.Bool.Decides.{nat_tests}
use Rattle.cilk_meaning.specs.declared.ends.NodeEnd.{NodeEnd}
use Rattle.page_messages.specs.declared.message.Msg.{Msg}
use Rattle.page_messages.specs.declared.log.Item.{Item}
use Rattle.page_messages.specs.declared.log.PostAt.{PostAt}
use Rattle.cluster_rules.specs.Turns.{WholeTurn, Did, Sent, Took, Ended, posted_at, past_of}
use Rattle.cluster_rules.specs.Positions.{Moved, Course, with_items, with_posts, with_taking, with_end, with_turn, course_of, own, at, before, Happens}
use Rattle.cluster_rules.specs.Runs.{Cluster, IsLawful, IsNext, node_at, IsOwed, IsFree, MayDo, MayDoAll, deeds_of, no_deeds, Moves}
use Rattle.cluster_rules.proofs.Coursing.{own_course}
use Rattle.cluster_order.proofs.Growing.{Grown, grown_items, grown_posts, grown_taking, grown_end, grown_twice, grown_turn, at_grown, before_grown, at_last, before_last}
use Rattle.cluster_order.proofs.Between.{own_first}

-- the node does these items at this position and the next ones
abbrev pub Follow : Course → ℕ → ℕ → List Item → Type 0
Follow course number position [] = Unit {0}
Follow course number position (item ∷ rest) = Happens course number position (Did item) × Follow course number (suc position) rest

-- what the node did at the length of a course, which grew since
here : (number : ℕ) (item : Item) (course more : Course) → Grown (record { node = number; event = Did item; message = None } ∷ course) more
    → Happens more number (length course) (Did item)
here number item course more grown =
    let moved : Moved = record { node = number; event = Did item; message = None } in
    record { moved = moved; is = at_grown (moved ∷ course) more grown (length course) (omega (arith)) ∙ at_last moved course; by = refl; event_is = refl }

pub follow_items : (number : ℕ) (items : List Item) (course more : Course) → Grown (with_items number items course) more
    → Follow more number (length course) items
follow_items number [] course more grown = tt
follow_items number (item ∷ items) course more grown =
    let moved : Moved = record { node = number; event = Did item; message = None } in (
      here number item course more
          (grown_twice (moved ∷ course) (with_items number items (moved ∷ course)) more (grown_items number items (moved ∷ course)) grown),
      follow_items number items (moved ∷ course) more grown,
    )

-- The item is owed, or may be done before the rest of its turn, which follows.
pub record Doing (cluster : Cluster) (number : ℕ) (course : Course) (position : ℕ) (item : Item) : Type 0 where
  pub rest : List Item
  pub posts : List Msg
  pub may : IsOwed (node_at cluster number) (own number (before course position)) item
      ⊎ (IsFree (own number (before course position)) × MayDo (node_at cluster number) (own number (before course position)) item rest posts)
  pub follow : Follow course number (suc position) rest

-- it is one of these items, done by the node of the turn
abbrev DoneBy : Cluster → ℕ → Course → ℕ → Moved → Type 0
DoneBy cluster number more position moved = (moved.node ≡ number) × (item : Item) × (moved.event ≡ Did item) × Doing cluster number more position item

in_items : (cluster : Cluster) (number : ℕ) (posts : List Msg) (items : List Item) (course more : Course)
    → MayDoAll (node_at cluster number) posts (own number course) items
    → Grown (with_items number items course) more → (position : ℕ) (moved : Moved) → at (with_items number items course) position ≡ Some moved
    → (at course position ≡ Some moved) ⊎ DoneBy cluster number more position moved
in_items cluster number posts [] course more may grown position moved found = inl found
in_items cluster number posts (item ∷ items) course more may grown position moved found =
    on (in_items cluster number posts items (first ∷ course) more later_may grown position moved found)
  where
    first : Moved
    first = record { node = number; event = Did item; message = None }

    later_may : MayDoAll (node_at cluster number) posts (own number (first ∷ course)) items
    later_may = subst (λ past. MayDoAll (node_at cluster number) posts past items) (sym (own_first number first course refl)) (may.1)

    first_grown : Grown (first ∷ course) more
    first_grown = grown_twice (first ∷ course) (with_items number items (first ∷ course)) more (grown_items number items (first ∷ course)) grown

    by_place : (b : Bool) → eqb position (length course) ≡ b → cond b (Some first) (at course position) ≡ Some moved
        → (at course position ≡ Some moved) ⊎ DoneBy cluster number more position moved
    by_place true is found_here =
        let same : first ≡ moved = cc in
        let place : position ≡ length course = grind (arith, nat_tests) in
        let past_is : own number (before more (length course)) ≡ own number course =
        ap (own number) (before_grown (first ∷ course) more first_grown (length course) (omega (arith)) ∙ before_last first course) in
        let doing : Doing cluster number more (length course) item = record {
          rest = items;
          posts = posts;
          may =
              subst (λ past. IsOwed (node_at cluster number) past item ⊎ (IsFree past × MayDo (node_at cluster number) past item items posts))
              (sym past_is) (may.0);
          follow = follow_items number items (first ∷ course) more grown;
        } in
        inr (ap (λ it. it.node) (sym same), item, ap (λ it. it.event) (sym same), subst (λ it. Doing cluster number more it item) (sym place) doing)
    by_place false is found_here = inl found_here

    on : (at (first ∷ course) position ≡ Some moved) ⊎ DoneBy cluster number more position moved
        → (at course position ≡ Some moved) ⊎ DoneBy cluster number more position moved
    on (inl found_here) = by_place (eqb position (length course)) refl found_here
    on (inr done) = inr done

-- ---- an item stands before what else its turn holds

skipped : (first moved : Moved) (course : Course) (position : ℕ) → (first ≡ moved → ⊥) → at (first ∷ course) position ≡ Some moved
    → at course position ≡ Some moved
skipped first moved course position other found = on (eqb position (length course)) found
  where
    on : (b : Bool) → cond b (Some first) (at course position) ≡ Some moved → at course position ≡ Some moved
    on true here = let same : first ≡ moved = cc in absurd (other same)
    on false here = here

before_posts : (number : ℕ) (place : PostAt) (messages : List Msg) (course : Course) (position : ℕ) (moved : Moved) (item : Item) → moved.event ≡ Did item
    → at (with_posts number place messages course) position ≡ Some moved → at course position ≡ Some moved
before_posts number place [] course position moved item did found = found
before_posts number place (message ∷ messages) course position moved item did found =
    let first : Moved = record { node = number; event = Sent message; message = Some place } in
    skipped first moved course position (λ same. let is : Sent message ≡ Did item = ap (λ it. it.event) same ∙ did in absurd (cc))
    (before_posts number (record place { index = place.index + 1 }) messages (first ∷ course) position moved item did found)

before_taking : (number : ℕ) (place : Option PostAt) (message : Option Msg) (course : Course) (position : ℕ) (moved : Moved) (item : Item)
    → moved.event ≡ Did item
    → at (with_taking number place message course) position ≡ Some moved → at course position ≡ Some moved
before_taking number place None course position moved item did found = found
before_taking number place (Some message) course position moved item did found =
    skipped (record { node = number; event = Took message; message = place }) moved course position
    (λ same. let is : Took message ≡ Did item = ap (λ it. it.event) same ∙ did in absurd (cc)) found

before_end : (number : ℕ) (end : Option NodeEnd) (course : Course) (position : ℕ) (moved : Moved) (item : Item) → moved.event ≡ Did item
    → at (with_end number end course) position ≡ Some moved → at course position ≡ Some moved
before_end number None course position moved item did found = found
before_end number (Some end) course position moved item did found =
    skipped (record { node = number; event = Ended end; message = None }) moved course position
    (λ same. let is : Ended end ≡ Did item = ap (λ it. it.event) same ∙ did in absurd (cc)) found

-- ---- in lawful turns

next_may : (cluster : Cluster) (older : List WholeTurn) (turn : WholeTurn) → IsNext cluster older turn
    → (turn.items ≡ []) ⊎ MayDoAll (node_at cluster turn.node) turn.posts (own turn.node (course_of older)) turn.items
next_may cluster older turn next = on (next.allows.step)
  where
    on : (deeds_of turn ≡ no_deeds) ⊎ Moves (node_at cluster turn.node) (past_of turn.node older) (deeds_of turn)
        → (turn.items ≡ []) ⊎ MayDoAll (node_at cluster turn.node) turn.posts (own turn.node (course_of older)) turn.items
    on (inl none) = inl (ap (λ deeds. deeds.items) none)
    on (inr moves) = inr (subst (λ past. MayDoAll (node_at cluster turn.node) turn.posts past turn.items) (sym (own_course turn.node older)) (moves.items))

followed_in : (cluster : Cluster) (turns : List WholeTurn) → IsLawful cluster turns → (more : Course) → Grown (course_of turns) more
    → (position : ℕ) (moved : Moved) (item : Item)
    → moved.event ≡ Did item → at (course_of turns) position ≡ Some moved → Doing cluster moved.node more position item
unfolding course_of
followed_in cluster [] lawful more grown position moved item did found = absurd (cc)
followed_in cluster (turn ∷ older) lawful more grown position moved item did found =
    on (next_may cluster older turn (lawful.1)) (followed_in cluster older (lawful.0) more older_grown position moved item did)
  where
    taken : Option Msg
    taken = posted_at older turn.took

    place : PostAt
    place = record { turn = length older; index = 0 }

    items : Course
    items = with_items turn.node turn.items (course_of older)

    posts : Course
    posts = with_posts turn.node place turn.posts items

    taking : Course
    taking = with_taking turn.node turn.took taken posts

    whole : Course
    whole = with_turn (length older) turn taken (course_of older)

    older_grown : Grown (course_of older) more
    older_grown = grown_twice (course_of older) whole more (grown_turn (length older) turn taken (course_of older)) grown

    items_grown : Grown items more
    items_grown =
        grown_twice items posts more (grown_posts turn.node place turn.posts items)
        (grown_twice posts taking more (grown_taking turn.node turn.took taken posts)
        (grown_twice taking whole more (grown_end turn.node turn.end taking) grown))

    in_course : at items position ≡ Some moved
    in_course =
        before_posts turn.node place turn.posts items position moved item did
        (before_taking turn.node turn.took taken posts position moved item did (before_end turn.node turn.end taking position moved item did found))

    mine : (moved.node ≡ turn.node) × (one : Item) × (moved.event ≡ Did one) × Doing cluster turn.node more position one
        → Doing cluster moved.node more position item
    mine done =
        let both : Did (done.1) ≡ Did item = sym (done.2) ∙ did in
        let same : done.1 ≡ item = cc in
        subst (λ it. Doing cluster it more position item) (sym (done.0)) (subst (λ it. Doing cluster turn.node more position it) same (done.3))

    on : (turn.items ≡ []) ⊎ MayDoAll (node_at cluster turn.node) turn.posts (own turn.node (course_of older)) turn.items
        → (at (course_of older) position ≡ Some moved → Doing cluster moved.node more position item) → Doing cluster moved.node more position item
    on (inl none) rest = rest (subst (λ all. at (with_items turn.node all (course_of older)) position ≡ Some moved) none in_course)
    on (inr may) rest = elim (in_items cluster turn.node turn.posts turn.items (course_of older) more may items_grown position moved in_course) [
      | inl old ↦ rest old
      | inr done ↦ mine done
    ]

-- Each item of lawful turns is owed, or may be done before the items that follow it.
pub followed : (cluster : Cluster) (turns : List WholeTurn) → IsLawful cluster turns → (number position : ℕ) (item : Item)
    → Happens (course_of turns) number position (Did item)
    → Doing cluster number (course_of turns) position item
followed cluster turns lawful number position item happens =
    subst (λ it. Doing cluster it (course_of turns) position item) (happens.by)
    (followed_in cluster turns lawful (course_of turns) ([], refl) position (happens.moved) item (happens.event_is) (happens.is))
