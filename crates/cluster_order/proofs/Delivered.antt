-- Each message that is taken in lawful turns stands where its place says, and is taken once.
use Rattle.std.proofs.Common.{◌≡◌, ◌≢◌, ◌⊎◌, inl, inr, ℕ, zero, suc, ◌+◌, ◌<◌, List, [], ◌∷◌, Option, Some, None, Bool, true, false, cond, ◌&&◌, ◌||◌, eqb, length, refl, sym, ◌∙◌, ap, subst, arith}
use Rattle.std.proofs.lemmas.Bool.Decides.{nat_tests}
use Rattle.std.specs.Prelude.{slice_get}
use Rattle.std.specs.List.{list_any}
use Rattle.cilk_meaning.specs.declared.ends.NodeEnd.{NodeEnd}
use Rattle.page_messages.specs.declared.message.Msg.{Msg}
use Rattle.page_messages.specs.declared.log.Item.{Item}
use Rattle.page_messages.specs.declared.log.PostAt.{PostAt}
use Rattle.cluster_rules.specs.Turns.{WholeTurn, Did, Sent, Took, Ended, posted, posted_at, same_place, takes_at, IsDelivered}
use Rattle.cluster_rules.specs.Positions.{Moved, Course, with_items, with_posts, with_taking, with_end, with_turn, course_of, at, before}
use Rattle.cluster_rules.specs.Runs.{Cluster, IsLawful, IsNext}
use Rattle.cluster_order.specs.Reading.{post_position}
use Rattle.cluster_order.proofs.Growing.{grown_items, grown_posts, grown_taking, grown_end, grown_turn, within, at_grown, before_grown, at_last}

-- ---- where a place is found

items_pass : (node : ℕ) (items : List Item) (course : Course) (place : PostAt) → post_position (with_items node items course) place ≡ post_position course place
items_pass node [] course place = refl
items_pass node (item ∷ items) course place = items_pass node items (record { node = node; event = Did item; message = None } ∷ course) place

-- the place is none of the posts from here on
abbrev Misses : PostAt → PostAt → Type 0
Misses place here = (here.turn ≢ place.turn) ⊎ (place.index < here.index)

missed : (place here : PostAt) → Misses place here → same_place here place ≡ false
missed place here (inl other) = let no_turn : eqb (here.turn) (place.turn) ≡ false = grind (arith, nat_tests) in rw no_turn refl
missed place here (inr less) = on (eqb (here.turn) (place.turn))
  where
    on : (b : Bool) → b && eqb (here.index) (place.index) ≡ false
    on true = grind (arith, nat_tests)
    on false = refl

misses_next : (place here : PostAt) → Misses place here → Misses place (record here { index = here.index + 1 })
misses_next place here (inl other) = inl other
misses_next place here (inr less) = inr (omega (arith, less))

posts_pass : (node : ℕ) (here : PostAt) (messages : List Msg) (course : Course) (place : PostAt) → Misses place here
    → post_position (with_posts node here messages course) place ≡ post_position course place
posts_pass node here [] course place misses = refl
posts_pass node here (message ∷ messages) course place misses =
    let moved : Moved = record { node = node; event = Sent message; message = Some here } in
    posts_pass node (record here { index = here.index + 1 }) messages (moved ∷ course) place (misses_next place here misses)
    ∙ rw (missed place here misses) refl

taking_pass : (node : ℕ) (taken : Option PostAt) (message : Option Msg) (course : Course) (place : PostAt)
    → post_position (with_taking node taken message course) place ≡ post_position course place
taking_pass node taken None course place = refl
taking_pass node taken (Some message) course place = refl

end_pass : (node : ℕ) (end : Option NodeEnd) (course : Course) (place : PostAt) → post_position (with_end node end course) place ≡ post_position course place
end_pass node None course place = refl
end_pass node (Some end) course place = refl

-- ---- a posted message

abbrev at_place : ℕ → ℕ → PostAt
at_place turn index = record { turn = turn; index = index }

-- The message stands at this position, with this place.
pub record Posted (course : Course) (place : PostAt) (message : Msg) (position : ℕ) : Type 0 where
  pub sender : ℕ
  pub is : at course position ≡ Some (record { node = sender; event = Sent message; message = Some place })

posted_more : (course more : Course) → ((position : ℕ) → position < length course → at more position ≡ at course position)
    → (place : PostAt) (message : Msg) (position : ℕ)
    → Posted course place message position → Posted more place message position
posted_more course more same place message position found = record { sender = found.sender; is = same position (within course position _ found.is) ∙ found.is }

same_here : (place : PostAt) → same_place place place ≡ true
same_here place = grind (arith, nat_tests)

found_in : (node turn start index : ℕ) (messages : List Msg) (course : Course) (message : Msg) → slice_get messages index ≡ Some message
    → Posted (with_posts node (at_place turn start) messages course) (at_place turn (start + index)) message
    (post_position (with_posts node (at_place turn start) messages course) (at_place turn (start + index)))
found_in node turn start index [] course message found = absurd (cc)
found_in node turn start zero (first ∷ messages) course message found =
    let same : first ≡ message = cc in
    let moved : Moved = record { node = node; event = Sent message; message = Some (at_place turn start) } in
    let here : start + 0 ≡ start = omega (arith) in
    let where_is : post_position (with_posts node (at_place turn (start + 1)) messages (moved ∷ course)) (at_place turn start) ≡ length course =
    posts_pass node (at_place turn (start + 1)) messages (moved ∷ course) (at_place turn start) (inr (omega (arith)))
    ∙ rw (same_here (at_place turn start)) refl in
    let is : Posted (with_posts node (at_place turn (start + 1)) messages (moved ∷ course)) (at_place turn start) message
    (post_position (with_posts node (at_place turn (start + 1)) messages (moved ∷ course)) (at_place turn start)) =
    subst (Posted (with_posts node (at_place turn (start + 1)) messages (moved ∷ course)) (at_place turn start) message) (sym where_is)
    (posted_more (moved ∷ course) (with_posts node (at_place turn (start + 1)) messages (moved ∷ course))
    (at_grown (moved ∷ course) _ (grown_posts node (at_place turn (start + 1)) messages (moved ∷ course)))
    (at_place turn start) message (length course) (record { sender = node; is = at_last moved course })) in
    subst (λ it. Posted (with_posts node (at_place turn (start + 1)) messages
    (record { node = node; event = Sent it; message = Some (at_place turn start) } ∷ course)) (at_place turn (start + 0)) message
    (post_position (with_posts node (at_place turn (start + 1)) messages
    (record { node = node; event = Sent it; message = Some (at_place turn start) } ∷ course)) (at_place turn (start + 0)))) (sym same)
    (subst (λ it. Posted (with_posts node (at_place turn (start + 1)) messages (moved ∷ course)) (at_place turn it) message
    (post_position (with_posts node (at_place turn (start + 1)) messages (moved ∷ course)) (at_place turn it))) (sym here) is)
found_in node turn start (suc index) (first ∷ messages) course message found =
    let moved : Moved = record { node = node; event = Sent first; message = Some (at_place turn start) } in
    let next : (start + 1) + index ≡ start + suc index = omega (arith) in
    subst (λ it. Posted (with_posts node (at_place turn (start + 1)) messages (moved ∷ course)) (at_place turn it) message
    (post_position (with_posts node (at_place turn (start + 1)) messages (moved ∷ course)) (at_place turn it))) next
    (found_in node turn (start + 1) index messages (moved ∷ course) message found)

turn_pass : (number : ℕ) (turn : WholeTurn) (message : Option Msg) (course : Course) (place : PostAt) → place.turn ≢ number
    → post_position (with_turn number turn message course) place ≡ post_position course place
turn_pass number turn message course place other =
    let items = with_items turn.node turn.items course in
    let posts = with_posts turn.node (at_place number 0) turn.posts items in
    let taking = with_taking turn.node turn.took message posts in
    end_pass turn.node turn.end taking place ∙ taking_pass turn.node turn.took message posts place
    ∙ posts_pass turn.node (at_place number 0) turn.posts items place (inl (λ same. other (sym same))) ∙ items_pass turn.node turn.items course place

-- The posts of older turns have smaller numbers.
pub posted_earlier : (older : List WholeTurn) (place : PostAt) (message : Msg) → posted older place ≡ Some message → place.turn < length older
unfolding posted
posted_earlier [] place message found = absurd (cc)
posted_earlier (turn ∷ older) place message found = on (eqb (place.turn) (length older)) refl found (posted_earlier older place message)
  where
    on : (b : Bool) → eqb (place.turn) (length older) ≡ b → cond b (slice_get turn.posts place.index) (posted older place) ≡ Some message
        → (posted older place ≡ Some message → place.turn < length older) → place.turn < length (turn ∷ older)
    on true is found rest = let same : place.turn ≡ length older = grind (arith, nat_tests) in omega (arith, same)
    on false is found rest = let less = rest found in omega (arith, less)

-- A message that was posted stands where its place is found.
pub posted_stands : (older : List WholeTurn) (place : PostAt) (message : Msg) → posted older place ≡ Some message
    → Posted (course_of older) place message (post_position (course_of older) place)
unfolding posted course_of
posted_stands [] place message found = absurd (cc)
posted_stands (turn ∷ older) place message found = on (eqb (place.turn) (length older)) refl found (posted_stands older place message)
  where
    message_taken : Option Msg
    message_taken = posted_at older turn.took

    items : Course
    items = with_items turn.node turn.items (course_of older)

    posts : Course
    posts = with_posts turn.node (at_place (length older) 0) turn.posts items

    taking : Course
    taking = with_taking turn.node turn.took message_taken posts

    whole : Course
    whole = with_turn (length older) turn message_taken (course_of older)

    on : (b : Bool) → eqb (place.turn) (length older) ≡ b → cond b (slice_get turn.posts place.index) (posted older place) ≡ Some message
        → (posted older place ≡ Some message → Posted (course_of older) place message (post_position (course_of older) place))
        → Posted whole place message (post_position whole place)
    on true is found rest =
        let same : place.turn ≡ length older = grind (arith, nat_tests) in
        let none : place.index ≡ 0 + place.index = omega (arith) in
        let place_is : place ≡ at_place (length older) (0 + place.index) = ap (λ it. at_place it (place.index)) same ∙ ap (at_place (length older)) none in
        let found_there = found_in turn.node (length older) 0 (place.index) turn.posts items message found in
        let in_posts : Posted posts place message (post_position posts place) =
        subst (λ it. Posted posts it message (post_position posts it)) (sym place_is) found_there in
        let passed : post_position whole place ≡ post_position posts place =
        end_pass turn.node turn.end taking place ∙ taking_pass turn.node turn.took message_taken posts place in
        let in_taking = posted_more posts taking (at_grown posts taking (grown_taking turn.node turn.took message_taken posts)) place message
        (post_position posts place) in_posts in
        subst (Posted whole place message) (sym passed)
        (posted_more taking whole (at_grown taking whole (grown_end turn.node turn.end taking)) place message (post_position posts place) in_taking)
    on false is found rest =
        let other : place.turn ≢ length older = λ same. grind (arith, nat_tests) in
        let before = rest found in
        subst (Posted whole place message) (sym (turn_pass (length older) turn message_taken (course_of older) place other))
        (posted_more (course_of older) whole (at_grown (course_of older) whole (grown_turn (length older) turn message_taken (course_of older))) place message
        (post_position (course_of older) place) before)

-- ---- takings

pub not_first : (first moved : Moved) (course : Course) (position : ℕ) → (first ≡ moved → ⊥) → at (first ∷ course) position ≡ Some moved
    → at course position ≡ Some moved
not_first first moved course position other found = on (eqb position (length course)) found
  where
    on : (b : Bool) → cond b (Some first) (at course position) ≡ Some moved → at course position ≡ Some moved
    on true found = let same : first ≡ moved = cc in absurd (other same)
    on false found = found

old_items : (node : ℕ) (items : List Item) (course : Course) (position : ℕ) (moved : Moved) (message : Msg)
    → at (with_items node items course) position ≡ Some moved → moved.event ≡ Took message
    → at course position ≡ Some moved
old_items node [] course position moved message found took = found
old_items node (item ∷ items) course position moved message found took =
    let first : Moved = record { node = node; event = Did item; message = None } in
    not_first first moved course position (λ same. let is : Did item ≡ Took message = ap (λ it. it.event) same ∙ took in absurd (cc))
    (old_items node items (first ∷ course) position moved message found took)

old_posts : (node : ℕ) (place : PostAt) (messages : List Msg) (course : Course) (position : ℕ) (moved : Moved) (message : Msg)
    → at (with_posts node place messages course) position ≡ Some moved
    → moved.event ≡ Took message → at course position ≡ Some moved
old_posts node place [] course position moved message found took = found
old_posts node place (sent ∷ messages) course position moved message found took =
    let first : Moved = record { node = node; event = Sent sent; message = Some place } in
    not_first first moved course position (λ same. let is : Sent sent ≡ Took message = ap (λ it. it.event) same ∙ took in absurd (cc))
    (old_posts node (record place { index = place.index + 1 }) messages (first ∷ course) position moved message found took)

old_end : (node : ℕ) (end : Option NodeEnd) (course : Course) (position : ℕ) (moved : Moved) (message : Msg)
    → at (with_end node end course) position ≡ Some moved → moved.event ≡ Took message
    → at course position ≡ Some moved
old_end node None course position moved message found took = found
old_end node (Some end) course position moved message found took =
    not_first (record { node = node; event = Ended end; message = None }) moved course position
    (λ same. let is : Ended end ≡ Took message = ap (λ it. it.event) same ∙ took in absurd (cc)) found

-- the taking of this turn stands behind its posts
record Top (turn : WholeTurn) (taken : Option Msg) (posts whole : Course) (position : ℕ) (moved : Moved) (message : Msg) : Type 0 where
  pub taken_is : taken ≡ Some message
  pub moved_is : moved ≡ record { node = turn.node; event = Took message; message = turn.took }
  pub place : position ≡ length posts
  pub before : before whole position ≡ posts

taking_in : (turn : WholeTurn) (taken : Option Msg) (posts : Course) (position : ℕ) (moved : Moved) (message : Msg)
    → at (with_taking turn.node turn.took taken posts) position ≡ Some moved
    → moved.event ≡ Took message → (at posts position ≡ Some moved) ⊎ Top turn taken posts (with_taking turn.node turn.took taken posts) position moved message
taking_in turn None posts position moved message found took = inl found
taking_in turn (Some other) posts position moved message found took = on (eqb position (length posts)) refl found
  where
    first : Moved
    first = record { node = turn.node; event = Took other; message = turn.took }

    on : (b : Bool) → eqb position (length posts) ≡ b → cond b (Some first) (at posts position) ≡ Some moved
        → (at posts position ≡ Some moved) ⊎ Top turn (Some other) posts (first ∷ posts) position moved message
    on true is found =
        let same : first ≡ moved = cc in
        let took_is : Took other ≡ Took message = ap (λ it. it.event) same ∙ took in
        let message_is : other ≡ message = cc in
        inr (record {
          taken_is = ap Some message_is;
          moved_is = sym same ∙ ap (λ it. record { node = turn.node; event = Took it; message = turn.took }) message_is;
          place = grind (arith, nat_tests);
          before = rw is refl;
        })
    on false is found = inl found

turn_in : (number : ℕ) (turn : WholeTurn) (taken : Option Msg) (course : Course) (position : ℕ) (moved : Moved) (message : Msg)
    → at (with_turn number turn taken course) position ≡ Some moved
    → moved.event ≡ Took message
    → (at course position ≡ Some moved)
    ⊎ Top turn taken (with_posts turn.node (at_place number 0) turn.posts (with_items turn.node turn.items course))
    (with_turn number turn taken course) position moved message
turn_in number turn taken course position moved message found took =
    on (taking_in turn taken posts position moved message in_taking took)
  where
    items : Course
    items = with_items turn.node turn.items course

    posts : Course
    posts = with_posts turn.node (at_place number 0) turn.posts items

    taking : Course
    taking = with_taking turn.node turn.took taken posts

    whole : Course
    whole = with_turn number turn taken course

    in_taking : at taking position ≡ Some moved
    in_taking = old_end turn.node turn.end taking position moved message found took

    on : (at posts position ≡ Some moved) ⊎ Top turn taken posts taking position moved message
        → (at course position ≡ Some moved) ⊎ Top turn taken posts whole position moved message
    on (inl in_posts) =
        inl (old_items turn.node turn.items course position moved message
        (old_posts turn.node (at_place number 0) turn.posts items position moved message in_posts took) took)
    on (inr top) = inr (record {
      taken_is = top.taken_is;
      moved_is = top.moved_is;
      place = top.place;
      before = before_grown taking whole (grown_end turn.node turn.end taking) position (within taking position moved in_taking) ∙ top.before;
    })

-- The message that is taken at a position, with its place, stands where the place is found among what happened before.
pub record Delivered (course : Course) (position : ℕ) (moved : Moved) (message : Msg) : Type 0 where
  pub place : PostAt
  pub place_is : moved.message ≡ Some place
  pub posted : Posted (before course position) place message (post_position (before course position) place)
  pub to : message.receiver ≡ moved.node

delivered_top : (cluster : Cluster) (turn : WholeTurn) (older : List WholeTurn) (position : ℕ) (moved : Moved) (message : Msg) (took : Option PostAt)
    → turn.took ≡ took
    → IsDelivered older turn.node took (posted_at older took)
    → Top turn (posted_at older took) (with_posts turn.node (at_place (length older) 0) turn.posts (with_items turn.node turn.items (course_of older)))
    (with_turn (length older) turn (posted_at older took) (course_of older)) position moved message
    → Delivered (with_turn (length older) turn (posted_at older took) (course_of older)) position moved message
delivered_top cluster turn older position moved message None is delivered top = let none = top.taken_is in absurd (cc)
delivered_top cluster turn older position moved message (Some place) is delivered top =
    let items = with_items turn.node turn.items (course_of older) in
    let posts = with_posts turn.node (at_place (length older) 0) turn.posts items in
    let waits = delivered.2 in
    let message_is : delivered.0 ≡ message = let one = delivered.1 in let two = top.taken_is in cc in
    let found : posted older place ≡ Some message = top.taken_is in
    let less = posted_earlier older place message found in
    let old = posted_stands older place message found in
    let other : place.turn ≢ length older = λ same. omega (arith, less, same) in
    let passed : post_position posts place ≡ post_position (course_of older) place =
    posts_pass turn.node (at_place (length older) 0) turn.posts items place (inl (λ same. other (sym same)))
    ∙ items_pass turn.node turn.items (course_of older) place in
    let in_items = posted_more (course_of older) items (at_grown (course_of older) items (grown_items turn.node turn.items (course_of older))) place message
    (post_position (course_of older) place) old in
    let in_posts = posted_more items posts (at_grown items posts (grown_posts turn.node (at_place (length older) 0) turn.posts items)) place message
    (post_position (course_of older) place) in_items in
    record {
      place = place;
      place_is = ap (λ it. it.message) (top.moved_is) ∙ is;
      posted = subst (λ it. Posted it place message (post_position it place)) (sym top.before) (subst (Posted posts place message) (sym passed) in_posts);
      to = ap (λ it. it.receiver) (sym message_is) ∙ waits.to ∙ sym (ap (λ it. it.node) (top.moved_is));
    }

delivered_more : (course more : Course) (position : ℕ) (moved : Moved) (message : Msg) → before more position ≡ before course position
    → Delivered course position moved message → Delivered more position moved message
delivered_more course more position moved message same d =
    record {
      place = d.place;
      place_is = d.place_is;
      posted = subst (λ it. Posted it (d.place) message (post_position it (d.place))) (sym same) (d.posted);
      to = d.to;
    }

pub delivered : (cluster : Cluster) (turns : List WholeTurn) (position : ℕ) (moved : Moved) (message : Msg) → IsLawful cluster turns
    → at (course_of turns) position ≡ Some moved → moved.event ≡ Took message
    → Delivered (course_of turns) position moved message
unfolding course_of
delivered cluster [] position moved message lawful found took = absurd (cc)
delivered cluster (turn ∷ older) position moved message lawful found took =
    on (turn_in (length older) turn (posted_at older turn.took) (course_of older) position moved message found took)
    (λ old. delivered cluster older position moved message (lawful.0) old took)
  where
    whole : Course
    whole = with_turn (length older) turn (posted_at older turn.took) (course_of older)

    on : (at (course_of older) position ≡ Some moved)
        ⊎ Top turn (posted_at older turn.took) (with_posts turn.node (at_place (length older) 0) turn.posts (with_items turn.node turn.items (course_of older)))
        whole position moved message
        → (at (course_of older) position ≡ Some moved → Delivered (course_of older) position moved message) → Delivered whole position moved message
    on (inl old) rest =
        delivered_more (course_of older) whole position moved message
        (before_grown (course_of older) whole (grown_turn (length older) turn (posted_at older turn.took) (course_of older)) position
        (within (course_of older) position moved old))
        (rest old)
    on (inr top) rest = delivered_top cluster turn older position moved message turn.took refl (lawful.1.delivered) top

-- ---- once

any_takes : (place : PostAt) (turn : WholeTurn) (older : List WholeTurn) → turn.took ≡ Some place
    → list_any (λ turn. takes_at place turn.took) (turn ∷ older) ≡ true
any_takes place turn older is = rw (is, same_here place) refl

any_later : (place : PostAt) (turn : WholeTurn) (older : List WholeTurn) → list_any (λ turn. takes_at place turn.took) older ≡ true
    → list_any (λ turn. takes_at place turn.took) (turn ∷ older) ≡ true
any_later place turn older any = on (takes_at place turn.took)
  where
    on : (b : Bool) → b || list_any (λ turn. takes_at place turn.took) older ≡ true
    on true = refl
    on false = any

taken_before : (turns : List WholeTurn) (position : ℕ) (moved : Moved) (message : Msg) (place : PostAt) → at (course_of turns) position ≡ Some moved
    → moved.event ≡ Took message → moved.message ≡ Some place
    → list_any (λ turn. takes_at place turn.took) turns ≡ true
unfolding course_of
taken_before [] position moved message place found took is = absurd (cc)
taken_before (turn ∷ older) position moved message place found took is =
    on (turn_in (length older) turn (posted_at older turn.took) (course_of older) position moved message found took)
    (λ old. taken_before older position moved message place old took is)
  where
    on : (at (course_of older) position ≡ Some moved)
        ⊎ Top turn (posted_at older turn.took) (with_posts turn.node (at_place (length older) 0) turn.posts (with_items turn.node turn.items (course_of older)))
        (with_turn (length older) turn (posted_at older turn.took) (course_of older)) position moved message
        → (at (course_of older) position ≡ Some moved → list_any (λ turn. takes_at place turn.took) older ≡ true)
        → list_any (λ turn. takes_at place turn.took) (turn ∷ older) ≡ true
    on (inl old) rest = any_later place turn older (rest old)
    on (inr top) rest = any_takes place turn older (sym (ap (λ it. it.message) (top.moved_is)) ∙ is)

not_taken : (older : List WholeTurn) (receiver : ℕ) (took : Option PostAt) (message : Option Msg) (place : PostAt) → IsDelivered older receiver took message
    → took ≡ Some place
    → list_any (λ turn. takes_at place turn.took) older ≡ false
not_taken older receiver None message place delivered is = absurd (cc)
not_taken older receiver (Some other) message place delivered is =
    let same : other ≡ place = cc in subst (λ it. list_any (λ turn. takes_at it turn.took) older ≡ false) same (delivered.2.not_taken)

top_and_old : (cluster : Cluster) (turn : WholeTurn) (older : List WholeTurn) → IsNext cluster older turn
    → (posts whole : Course) (position other : ℕ) (moved second : Moved) (message said : Msg) (place : PostAt)
    → Top turn (posted_at older turn.took) posts whole position moved message → at (course_of older) other ≡ Some second → second.event ≡ Took said
    → moved.message ≡ Some place → second.message ≡ Some place → ⊥
top_and_old cluster turn older next posts whole position other moved second message said place top old took is same =
    let some = taken_before older other second said place old took same in
    let none = not_taken older turn.node turn.took (posted_at older turn.took) place (next.delivered) (sym (ap (λ it. it.message) (top.moved_is)) ∙ is) in
    absurd (cc)

-- A place is taken at one position at most.
pub taken_once : (cluster : Cluster) (turns : List WholeTurn) (position other : ℕ) (moved second : Moved) (message said : Msg) (place : PostAt)
    → IsLawful cluster turns
    → at (course_of turns) position ≡ Some moved → moved.event ≡ Took message → moved.message ≡ Some place
    → at (course_of turns) other ≡ Some second → second.event ≡ Took said → second.message ≡ Some place → position ≡ other
unfolding course_of
taken_once cluster [] position other moved second message said place lawful found took is found' took' is' = absurd (cc)
taken_once cluster (turn ∷ older) position other moved second message said place lawful found took is found' took' is' =
    on (turn_in (length older) turn (posted_at older turn.took) (course_of older) position moved message found took)
    (turn_in (length older) turn (posted_at older turn.took) (course_of older) other second said found' took')
    (λ old old'. taken_once cluster older position other moved second message said place (lawful.0) old took is old' took' is')
  where
    posts : Course
    posts = with_posts turn.node (at_place (length older) 0) turn.posts (with_items turn.node turn.items (course_of older))

    whole : Course
    whole = with_turn (length older) turn (posted_at older turn.took) (course_of older)

    on : (at (course_of older) position ≡ Some moved) ⊎ Top turn (posted_at older turn.took) posts whole position moved message
        → (at (course_of older) other ≡ Some second) ⊎ Top turn (posted_at older turn.took) posts whole other second said
        → (at (course_of older) position ≡ Some moved → at (course_of older) other ≡ Some second → position ≡ other) → position ≡ other
    on (inl old) (inl old') rest = rest old old'
    on (inl old) (inr top) rest =
        absurd (top_and_old cluster turn older (lawful.1) posts whole other position second moved said message place top old took is' is)
    on (inr top) (inl old) rest =
        absurd (top_and_old cluster turn older (lawful.1) posts whole position other moved second message said place top old took' is is')
    on (inr top) (inr top') rest = top.place ∙ sym top'.place
