-- Each place of a message is that of one post, so what is posted at a position and taken at another is told by the place.
use Rattle.std.proofs.Common.{◌≡◌, ◌⊎◌, inl, inr, ℕ, ◌+◌, ◌<◌, List, [], ◌∷◌, Option, Some, None, Bool, true, false, cond, ◌&&◌, eqb, length, refl, sym, ◌∙◌, ap, subst, arith}
use Rattle.std.proofs.lemmas.Bool.Decides.{nat_tests}
use Rattle.cilk_meaning.specs.declared.ends.NodeEnd.{NodeEnd}
use Rattle.page_messages.specs.declared.message.Msg.{Msg}
use Rattle.page_messages.specs.declared.log.Item.{Item}
use Rattle.page_messages.specs.declared.log.PostAt.{PostAt}
use Rattle.cluster_rules.specs.Turns.{WholeTurn, Did, Sent, Took, Ended, same_place, posted_at}
use Rattle.cluster_rules.specs.Positions.{Moved, Course, with_items, with_posts, with_taking, with_end, course_of, at, before}
use Rattle.cluster_rules.specs.Moments.{IsTakenAt}
use Rattle.cluster_rules.specs.Runs.{Cluster, IsLawful}
use Rattle.cluster_order.specs.Reading.{posts_at, post_position, taken_from}
use Rattle.cluster_order.proofs.Messages.{Taking, taking_found}

-- ---- the places of posts go up

abbrev EarlierPlace : PostAt → PostAt → Type 0
EarlierPlace place here = (place.turn < here.turn) ⊎ ((place.turn ≡ here.turn) × (place.index < here.index))

-- a message stands at the position, with this place
abbrev pub PostedAt : Course → PostAt → ℕ → Type 0
PostedAt course place position =
    (moved : Moved) × (message : Msg) × (at course position ≡ Some moved) × (moved.event ≡ Sent message) × (moved.message ≡ Some place)

-- Each post has its place before this one, and is found by it.
abbrev Placed : Course → PostAt → Type 0
Placed course here = (place : PostAt) (position : ℕ) → PostedAt course place position → EarlierPlace place here × (post_position course place ≡ position)

not_here : (place here : PostAt) → EarlierPlace place here → same_place here place ≡ false
not_here place here (inl less) = let other : eqb (here.turn) (place.turn) ≡ false = grind (arith, nat_tests) in rw other refl
not_here place here (inr both) =
    let other : eqb (here.index) (place.index) ≡ false = let less = both.1 in grind (arith, nat_tests) in on (eqb (here.turn) (place.turn)) other
  where
    on : (b : Bool) → eqb (here.index) (place.index) ≡ false → b && eqb (here.index) (place.index) ≡ false
    on true other = other
    on false other = refl

same_here : (place : PostAt) → same_place place place ≡ true
same_here place = grind (arith, nat_tests)

earlier_next : (place here : PostAt) → EarlierPlace place here → EarlierPlace place (record here { index = here.index + 1 })
earlier_next place here (inl less) = inl less
earlier_next place here (inr both) = let less = both.1 in inr (both.0, omega (arith, less))

earlier_turn : (place here : PostAt) (turn : ℕ) → here.turn < turn → EarlierPlace place here → EarlierPlace place (record { turn = turn; index = 0 })
earlier_turn place here turn less (inl smaller) = inl (omega (arith, smaller, less))
earlier_turn place here turn less (inr both) = let same = both.0 in inl (omega (arith, same, less))

-- ---- one more

-- what is no post leaves the places as they are
no_post : (course : Course) (here : PostAt) (first : Moved) → ((message : Msg) → first.event ≡ Sent message → ⊥)
    → ((place : PostAt) → posts_at place first ≡ false) → Placed course here
    → Placed (first ∷ course) here
no_post course here first none passes placed = λ place position posted. on place position posted (eqb position (length course)) refl (posted.2)
  where
    on : (place : PostAt) (position : ℕ) (posted : PostedAt (first ∷ course) place position) (b : Bool) → eqb position (length course) ≡ b
        → cond b (Some first) (at course position) ≡ Some (posted.0)
        → EarlierPlace place here × (post_position (first ∷ course) place ≡ position)
    on place position posted true is found =
        let same : first ≡ posted.0 = cc in
        absurd (none (posted.1) (ap (λ it. it.event) same ∙ posted.3))
    on place position posted false is found =
        let old = placed place position (posted.0, posted.1, found, posted.3, posted.4) in
        (old.0, rw (passes place) (old.1))

one_post : (course : Course) (here : PostAt) (node : ℕ) (message : Msg) → Placed course here
    → Placed (record { node = node; event = Sent message; message = Some here } ∷ course) (record here { index = here.index + 1 })
one_post course here node message placed = λ place position posted. on place position posted (eqb position (length course)) refl (posted.2)
  where
    first : Moved
    first = record { node = node; event = Sent message; message = Some here }

    on : (place : PostAt) (position : ℕ) (posted : PostedAt (first ∷ course) place position) (b : Bool) → eqb position (length course) ≡ b
        → cond b (Some first) (at course position) ≡ Some (posted.0)
        → EarlierPlace place (record here { index = here.index + 1 }) × (post_position (first ∷ course) place ≡ position)
    on place position posted true is found =
        let same : first ≡ posted.0 = cc in
        let some : Some here ≡ Some place = ap (λ it. it.message) same ∙ posted.4 in
        let place_is : here ≡ place = cc in
        let there : position ≡ length course = grind (arith, nat_tests) in
        subst (λ it. EarlierPlace it (record here { index = here.index + 1 }) × (post_position (first ∷ course) it ≡ position)) place_is
        (inr (refl, omega (arith)), rw (same_here here) (sym there))
    on place position posted false is found =
        let old = placed place position (posted.0, posted.1, found, posted.3, posted.4) in
        (earlier_next place here (old.0), rw (not_here place here (old.0)) (old.1))

-- ---- a turn

placed_items : (node : ℕ) (items : List Item) (course : Course) (here : PostAt) → Placed course here → Placed (with_items node items course) here
placed_items node [] course here placed = placed
placed_items node (item ∷ items) course here placed =
    let moved : Moved = record { node = node; event = Did item; message = None } in
    placed_items node items (moved ∷ course) here (no_post course here moved (λ message is. absurd (cc)) (λ place. refl) placed)

-- the place behind these posts is in the same turn
placed_posts : (node : ℕ) (here : PostAt) (messages : List Msg) (course : Course) → Placed course here
    → (last : PostAt) × (last.turn ≡ here.turn) × Placed (with_posts node here messages course) last
placed_posts node here [] course placed = (here, refl, placed)
placed_posts node here (message ∷ messages) course placed =
    let moved : Moved = record { node = node; event = Sent message; message = Some here } in
    placed_posts node (record here { index = here.index + 1 }) messages (moved ∷ course) (one_post course here node message placed)

placed_taking : (node : ℕ) (taken : Option PostAt) (message : Option Msg) (course : Course) (here : PostAt) → Placed course here
    → Placed (with_taking node taken message course) here
placed_taking node taken None course here placed = placed
placed_taking node taken (Some message) course here placed =
    no_post course here (record { node = node; event = Took message; message = taken }) (λ said is. absurd (cc)) (λ place. refl) placed

placed_end : (node : ℕ) (end : Option NodeEnd) (course : Course) (here : PostAt) → Placed course here → Placed (with_end node end course) here
placed_end node None course here placed = placed
placed_end node (Some end) course here placed =
    no_post course here (record { node = node; event = Ended end; message = None }) (λ said is. absurd (cc)) (λ place. refl) placed

placed_all : (turns : List WholeTurn) → Placed (course_of turns) (record { turn = length turns; index = 0 })
unfolding course_of
placed_all [] = λ place position posted. let found = posted.2 in absurd (cc)
placed_all (turn ∷ older) =
    let here : PostAt = record { turn = length older; index = 0 } in
    let items = with_items turn.node turn.items (course_of older) in
    let posts = with_posts turn.node here turn.posts items in
    let taking = with_taking turn.node turn.took (posted_at older turn.took) posts in
    let behind = placed_posts turn.node here turn.posts items (placed_items turn.node turn.items (course_of older) here (placed_all older)) in
    let all = placed_end turn.node turn.end taking (behind.0) (placed_taking turn.node turn.took (posted_at older turn.took) posts (behind.0) (behind.2)) in
    let same = behind.1 in
    λ place position posted.
    let it = all place position posted in (earlier_turn place (behind.0) (length (turn ∷ older)) (omega (arith, same)) (it.0), it.1)

-- A place is that of one post at most.
pub posted_once : (turns : List WholeTurn) (place : PostAt) (one other : ℕ) → PostedAt (course_of turns) place one → PostedAt (course_of turns) place other
    → one ≡ other
posted_once turns place one other first second = sym ((placed_all turns place one first).1) ∙ (placed_all turns place other second).1

-- ---- takings

module _ (cluster : Cluster) (turns : List WholeTurn) (lawful : IsLawful cluster turns) where
  -- what is taken by its place
  pub taking_of : (post taking : ℕ) → (it : IsTakenAt (course_of turns) post taking) → Taking cluster turns lawful (it.receiver.node) post taking (it.message)
  taking_of post taking it =
      let found = taking_found cluster turns lawful (it.receiver.node) taking (Some (it.place)) (it.message)
      (record { moved = it.receiver; is = it.taken; by = refl; place_is = it.took_place; event_is = it.took }) in
      let from = taken_from (before (course_of turns) taking) (Some (it.place)) in
      let some : Some (found.place) ≡ Some (it.place) =
      sym (found.taken.place_is) ∙ ap (λ one. one.message) (same_moved (found.taken.moved) (it.receiver) (sym (found.taken.is) ∙ it.taken))
      ∙ it.took_place in
      let place_is : found.place ≡ it.place = cc in
      let first : PostedAt (course_of turns) (it.place) from =
      (found.posted.moved, it.message, found.posted.is, found.posted.event_is, found.posted.place_is ∙ ap Some place_is) in
      let second : PostedAt (course_of turns) (it.place) post = (it.sender, it.message, it.posted, it.sent, it.sent_place) in
      subst (λ one. Taking cluster turns lawful (it.receiver.node) one taking (it.message)) (posted_once turns (it.place) from post first second) found
    where
      same_moved : (one other : Moved) → Some one ≡ Some other → one ≡ other
      same_moved one other is = cc

  pub taken_of : (receiver post taking : ℕ) (message : Msg) → Taking cluster turns lawful receiver post taking message → IsTakenAt (course_of turns) post taking
  taken_of receiver post taking message it = record {
    sender = it.posted.moved;
    receiver = it.taken.moved;
    message = message;
    place = it.place;
    posted = it.posted.is;
    taken = it.taken.is;
    sent = it.posted.event_is;
    took = it.taken.event_is;
    sent_place = it.posted.place_is;
    took_place = it.taken.place_is;
  }
