-- Lawful turns one event at a time: what is known of each event from those before it.
use Rattle.std.proofs.Common.{◌≡◌, ◌≢◌, ◌⊎◌, inl, inr, ℕ, zero, suc, ◌+◌, ◌<◌, ◌≤◌, List, [], ◌∷◌, Option, Some, None}
use Rattle.std.proofs.Common.{Bool, true, false, cond, ◌&&◌, eqb, length, refl, sym, ◌∙◌, ap, subst, arith}
use Rattle.std.proofs.lemmas.Bool.Decides.{nat_tests}
use Rattle.std.specs.Prelude.{slice_get}
use Rattle.std.specs.List.{list_any}
use Rattle.cilk_meaning.specs.declared.ends.NodeEnd.{NodeEnd}
use Rattle.page_messages.specs.declared.message.Msg.{Msg}
use Rattle.page_messages.specs.declared.log.Item.{Item}
use Rattle.page_messages.specs.declared.log.PostAt.{PostAt}
use Rattle.cluster_rules.specs.Turns.{WholeTurn, Event, Did, Sent, Took, Ended, Past, did, sent, posted, posted_at, past_of, same_place, takes_at, IsDelivered}
use Rattle.cluster_rules.specs.Node.{Node}
use Rattle.cluster_rules.specs.Runs.{Cluster, node_at, Deeds, deeds_of, MayDoAll, MaySendAll, MayEndSo, MayTake, IsStep, IsNext, IsLawful}
use Rattle.cluster_rules.specs.Allowed.{IsAllowed}
use Rattle.cluster_rules.specs.Positions.{Moved, Course, with_items, with_posts, with_taking, with_end, with_turn, course_of, own, before}
use Rattle.cluster_rules.proofs.Coursing.{own_course}
use Rattle.cluster_rules.proofs.Senders.{sends_from}
use Rattle.cluster_rules.proofs.Testing.{own_number, other_number, neither}

-- ---- messages in a course

-- the message is posted there, at this place
abbrev pub IsPost : PostAt → Msg → Moved → Type 0
IsPost place message moved = (moved.event ≡ Sent message) × (moved.message ≡ Some place)

-- it was posted at this place
abbrev pub WasPosted : Course → PostAt → Msg → Type 0
WasPosted [] place message = ⊥
WasPosted (moved ∷ course) place message = IsPost place message moved ⊎ WasPosted course place message

abbrev pub posts_event : Event → Bool
posts_event (Did item) = false
posts_event (Sent message) = true
posts_event (Took message) = false
posts_event (Ended end) = false

abbrev pub takes_event : Event → Bool
takes_event (Did item) = false
takes_event (Sent message) = false
takes_event (Took message) = true
takes_event (Ended end) = false

-- a message is posted at this place, or one of this place is taken
abbrev pub posts_place : PostAt → Moved → Bool
posts_place place moved = posts_event moved.event && takes_at place moved.message

abbrev pub takes_place : PostAt → Moved → Bool
takes_place place moved = takes_event moved.event && takes_at place moved.message

-- Each message is posted by its sender at a place of its own.
pub record Posts (course : Course) (node : ℕ) (here : Option PostAt) (message : Msg) : Type 0 where
  pub place : PostAt
  pub place_is : here ≡ Some place
  pub sender : message.sender ≡ node
  pub fresh : list_any (posts_place place) course ≡ false

-- It was posted before it is taken, it is taken once, and by its receiver.
pub record Takes (course : Course) (node : ℕ) (here : Option PostAt) (message : Msg) : Type 0 where
  pub place : PostAt
  pub place_is : here ≡ Some place
  pub receiver : message.receiver ≡ node
  pub was_posted : WasPosted course place message
  pub not_taken : list_any (takes_place place) course ≡ false

abbrev pub Carries : Course → ℕ → Option PostAt → Event → Type 0
Carries course node here (Did item) = Unit {0}
Carries course node here (Sent message) = Posts course node here message
Carries course node here (Took message) = Takes course node here message
Carries course node here (Ended end) = Unit {0}

-- ---- one event

pub record Step (cluster : Cluster) (course : Course) (moved : Moved) : Type 0 where
  pub within : moved.node < cluster.config.nodes
  pub allowed : IsAllowed (node_at cluster moved.node) (own moved.node course) moved.event
  pub carries : Carries course moved.node moved.message moved.event

-- Each event of the course may come behind those before it.
abbrev pub Stepped : Cluster → Course → Type 0
Stepped cluster [] = Unit {0}
Stepped cluster (moved ∷ course) = Stepped cluster course × Step cluster course moved

stepped_on : (cluster : Cluster) (moved : Moved) (course : Course) (position : ℕ) (b : Bool) → Stepped cluster course → Stepped cluster (before course position)
    → Stepped cluster (cond b course (before course position))
stepped_on cluster moved course position true stepped earlier = stepped
stepped_on cluster moved course position false stepped earlier = earlier

-- So it is before each position.
pub stepped_before : (cluster : Cluster) (course : Course) → Stepped cluster course → (position : ℕ) → Stepped cluster (before course position)
stepped_before cluster [] stepped position = tt
stepped_before cluster (moved ∷ course) stepped position =
    stepped_on cluster moved course position (eqb position (length course)) stepped.0 (stepped_before cluster course stepped.0 position)

-- ---- places

-- the latest event of a node is the first of its past
pub own_now : (number : ℕ) (event : Event) (here : Option PostAt) (course : Course)
    → own number (record { node = number; event = event; message = here } ∷ course) ≡ event ∷ own number course
own_now number event here course = rw (own_number number) refl

own_did : (number : ℕ) (items : List Item) (course : Course) → own number (with_items number items course) ≡ did items (own number course)
own_did number [] course = refl
own_did number (item ∷ items) course =
    own_did number items (record { node = number; event = Did item; message = None } ∷ course) ∙ ap (did items) (own_now number (Did item) None course)

own_sent : (number : ℕ) (place : PostAt) (messages : List Msg) (course : Course)
    → own number (with_posts number place messages course) ≡ sent messages (own number course)
own_sent number place [] course = refl
own_sent number place (message ∷ messages) course =
    own_sent number (record place { index = place.index + 1 }) messages (record { node = number; event = Sent message; message = Some place } ∷ course)
    ∙ ap (sent messages) (own_now number (Sent message) (Some place) course)

-- Items post nothing and take nothing.
items_post : (place : PostAt) (number : ℕ) (items : List Item) (course : Course)
    → list_any (posts_place place) (with_items number items course) ≡ list_any (posts_place place) course
items_post place number [] course = refl
items_post place number (item ∷ items) course = items_post place number items (record { node = number; event = Did item; message = None } ∷ course)

items_take : (place : PostAt) (number : ℕ) (items : List Item) (course : Course)
    → list_any (takes_place place) (with_items number items course) ≡ list_any (takes_place place) course
items_take place number [] course = refl
items_take place number (item ∷ items) course = items_take place number items (record { node = number; event = Did item; message = None } ∷ course)

posts_take : (place : PostAt) (number : ℕ) (here : PostAt) (messages : List Msg) (course : Course)
    → list_any (takes_place place) (with_posts number here messages course) ≡ list_any (takes_place place) course
posts_take place number here [] course = refl
posts_take place number here (message ∷ messages) course =
    posts_take place number (record here { index = here.index + 1 }) messages (record { node = number; event = Sent message; message = Some here } ∷ course)

other_turn : (place here : PostAt) → here.turn ≢ place.turn → same_place here place ≡ false
other_turn place here other = rw (other_number here.turn place.turn other) refl

other_index : (place here : PostAt) → here.index < place.index → same_place here place ≡ false
other_index place here less = on (eqb here.turn place.turn)
  where
    on : (b : Bool) → b && eqb here.index place.index ≡ false
    on true = grind (arith, nat_tests)
    on false = refl

-- the posts of a turn have its number
posts_other : (place : PostAt) (number : ℕ) (here : PostAt) (messages : List Msg) (course : Course) → here.turn ≢ place.turn
    → list_any (posts_place place) (with_posts number here messages course) ≡ list_any (posts_place place) course
posts_other place number here [] course other = refl
posts_other place number here (message ∷ messages) course other =
    posts_other place number (record here { index = here.index + 1 }) messages
    (record { node = number; event = Sent message; message = Some here } ∷ course) other
    ∙ rw (other_turn place here other) refl

taking_posts : (place : PostAt) (number : ℕ) (here : Option PostAt) (message : Option Msg) (course : Course)
    → list_any (posts_place place) (with_taking number here message course) ≡ list_any (posts_place place) course
taking_posts place number here None course = refl
taking_posts place number here (Some message) course = refl

end_posts : (place : PostAt) (number : ℕ) (end : Option NodeEnd) (course : Course)
    → list_any (posts_place place) (with_end number end course) ≡ list_any (posts_place place) course
end_posts place number None course = refl
end_posts place number (Some end) course = refl

-- No turn has posts of a later one.
none_later : (older : List WholeTurn) (place : PostAt) → length older ≤ place.turn → list_any (posts_place place) (course_of older) ≡ false
unfolding course_of
none_later [] place less = refl
none_later (turn ∷ older) place less =
    let message = posted_at older turn.took in
    let here : PostAt = record { turn = length older; index = 0 } in
    let items = with_items turn.node turn.items (course_of older) in
    let posts = with_posts turn.node here turn.posts items in
    let other : length older ≢ place.turn = λ same. omega (arith, less, same) in
    end_posts place turn.node turn.end (with_taking turn.node turn.took message posts) ∙ taking_posts place turn.node turn.took message posts
    ∙ posts_other place turn.node here turn.posts items other ∙ items_post place turn.node turn.items (course_of older)
    ∙ none_later older place (omega (arith, less))

-- ---- what was posted stays so

more_items : (place : PostAt) (message : Msg) (number : ℕ) (items : List Item) (course : Course) → WasPosted course place message
    → WasPosted (with_items number items course) place message
more_items place message number [] course was = was
more_items place message number (item ∷ items) course was =
    more_items place message number items (record { node = number; event = Did item; message = None } ∷ course) (inr was)

more_posts : (place : PostAt) (message : Msg) (number : ℕ) (here : PostAt) (messages : List Msg) (course : Course) → WasPosted course place message
    → WasPosted (with_posts number here messages course) place message
more_posts place message number here [] course was = was
more_posts place message number here (first ∷ messages) course was =
    more_posts place message number (record here { index = here.index + 1 }) messages
    (record { node = number; event = Sent first; message = Some here } ∷ course) (inr was)

more_taking : (place : PostAt) (message : Msg) (number : ℕ) (here : Option PostAt) (taken : Option Msg) (course : Course) → WasPosted course place message
    → WasPosted (with_taking number here taken course) place message
more_taking place message number here None course was = was
more_taking place message number here (Some taken) course was = inr was

more_end : (place : PostAt) (message : Msg) (number : ℕ) (end : Option NodeEnd) (course : Course) → WasPosted course place message
    → WasPosted (with_end number end course) place message
more_end place message number None course was = was
more_end place message number (Some end) course was = inr was

posted_in : (number turn start index : ℕ) (messages : List Msg) (course : Course) (message : Msg) → slice_get messages index ≡ Some message
    → WasPosted (with_posts number (record { turn = turn; index = start }) messages course) (record { turn = turn; index = start + index }) message
posted_in number turn start index [] course message found = absurd (cc)
posted_in number turn start zero (first ∷ messages) course message found =
    let same : first ≡ message = cc in
    let here : start ≡ start + 0 = omega (arith) in
    more_posts (record { turn = turn; index = start + 0 }) message number (record { turn = turn; index = start + 1 }) messages
    (record { node = number; event = Sent first; message = Some (record { turn = turn; index = start }) } ∷ course)
    (inl (ap Sent same, ap (λ it. Some (record { turn = turn; index = it })) here))
posted_in number turn start (suc index) (first ∷ messages) course message found =
    let next : (start + 1) + index ≡ start + suc index = omega (arith) in
    let moved : Moved = record { node = number; event = Sent first; message = Some (record { turn = turn; index = start }) } in
    subst (λ it. WasPosted (with_posts number (record { turn = turn; index = start + 1 }) messages (moved ∷ course))
    (record { turn = turn; index = it }) message) next
    (posted_in number turn (start + 1) index messages (moved ∷ course) message found)

posted_here : (number turn : ℕ) (place : PostAt) (messages : List Msg) (course : Course) (message : Msg) → place.turn ≡ turn
    → slice_get messages place.index ≡ Some message
    → WasPosted (with_posts number (record { turn = turn; index = 0 }) messages course) place message
posted_here number turn place messages course message same found =
    let from_zero : 0 + place.index ≡ place.index = omega (arith) in
    let is : record { turn = turn; index = 0 + place.index } ≡ place = λ i. record { turn = sym same i; index = from_zero i } in
    subst (λ it. WasPosted (with_posts number (record { turn = turn; index = 0 }) messages course) it message) is
    (posted_in number turn 0 place.index messages course message found)

more_turn : (place : PostAt) (message : Msg) (count : ℕ) (turn : WholeTurn) (taken : Option Msg) (course : Course)
    → WasPosted (with_posts turn.node (record { turn = count; index = 0 }) turn.posts (with_items turn.node turn.items course)) place message
    → WasPosted (with_turn count turn taken course) place message
more_turn place message count turn taken course was =
    let posts = with_posts turn.node (record { turn = count; index = 0 }) turn.posts (with_items turn.node turn.items course) in
    more_end place message turn.node turn.end (with_taking turn.node turn.took taken posts) (more_taking place message turn.node turn.took taken posts was)

-- What older turns posted stands in their course.
posted_there : (older : List WholeTurn) (place : PostAt) (message : Msg) → posted older place ≡ Some message → WasPosted (course_of older) place message
unfolding posted course_of
posted_there [] place message found = absurd (cc)
posted_there (turn ∷ older) place message found = on (eqb place.turn (length older)) refl found (posted_there older place message)
  where
    items : Course
    items = with_items turn.node turn.items (course_of older)

    on : (b : Bool) → eqb place.turn (length older) ≡ b → cond b (slice_get turn.posts place.index) (posted older place) ≡ Some message
        → (posted older place ≡ Some message → WasPosted (course_of older) place message)
        → WasPosted (with_turn (length older) turn (posted_at older turn.took) (course_of older)) place message
    on true is found rest =
        let same : place.turn ≡ length older = grind (arith, nat_tests) in
        more_turn place message (length older) turn (posted_at older turn.took) (course_of older)
        (posted_here turn.node (length older) place turn.posts items message same found)
    on false is found rest =
        more_turn place message (length older) turn (posted_at older turn.took) (course_of older)
        (more_posts place message turn.node (record { turn = length older; index = 0 }) turn.posts items
        (more_items place message turn.node turn.items (course_of older) (rest found)))

-- ---- what was not taken

taking_takes : (place : PostAt) (number : ℕ) (here : Option PostAt) (message : Option Msg) (course : Course) → takes_at place here ≡ false
    → list_any (takes_place place) (with_taking number here message course) ≡ list_any (takes_place place) course
taking_takes place number here None course other = refl
taking_takes place number here (Some message) course other = rw other refl

end_takes : (place : PostAt) (number : ℕ) (end : Option NodeEnd) (course : Course)
    → list_any (takes_place place) (with_end number end course) ≡ list_any (takes_place place) course
end_takes place number None course = refl
end_takes place number (Some end) course = refl

untaken : (older : List WholeTurn) (place : PostAt) → list_any (λ turn. takes_at place turn.took) older ≡ false
    → list_any (takes_place place) (course_of older) ≡ false
unfolding course_of
untaken [] place none = refl
untaken (turn ∷ older) place none =
    let both = neither (takes_at place turn.took) (list_any (λ turn. takes_at place turn.took) older) none in
    let message = posted_at older turn.took in
    let here : PostAt = record { turn = length older; index = 0 } in
    let items = with_items turn.node turn.items (course_of older) in
    let posts = with_posts turn.node here turn.posts items in
    end_takes place turn.node turn.end (with_taking turn.node turn.took message posts) ∙ taking_takes place turn.node turn.took message posts both.0
    ∙ posts_take place turn.node here turn.posts items ∙ items_take place turn.node turn.items (course_of older) ∙ untaken older place both.1

-- ---- the parts of a turn

-- none of the places from here on is posted at
abbrev FreeFrom : Course → PostAt → Type 0
FreeFrom course here = (index : ℕ) → here.index ≤ index → list_any (posts_place (record { turn = here.turn; index = index })) course ≡ false

module _ (cluster : Cluster) (number : ℕ) (within : number < cluster.config.nodes) where
  items_stepped : (posts : List Msg) (items : List Item) (course : Course) → Stepped cluster course
      → MayDoAll (node_at cluster number) posts (own number course) items
      → Stepped cluster (with_items number items course)
  items_stepped posts [] course stepped may = stepped
  items_stepped posts (item ∷ items) course stepped may =
      let moved : Moved = record { node = number; event = Did item; message = None } in
      items_stepped posts items (moved ∷ course) (
        stepped,
        record { within = within; allowed = record { rest = items; posts = posts; may = may.0 }; carries = tt },
      )
      (subst (λ past. MayDoAll (node_at cluster number) posts past items) (sym (own_now number (Did item) None course)) may.1)

  free_next : (here : PostAt) (message : Msg) (course : Course) → FreeFrom course here
      → FreeFrom (record { node = number; event = Sent message; message = Some here } ∷ course) (record here { index = here.index + 1 })
  free_next here message course free = λ index less.
      rw (other_index (record { turn = here.turn; index = index }) here (omega (arith, less))) (free index (omega (arith, less)))

  posts_stepped : (here : PostAt) (messages : List Msg) (course : Course) → Stepped cluster course → FreeFrom course here
      → MaySendAll (node_at cluster number) (own number course) messages → Stepped cluster (with_posts number here messages course)
  posts_stepped here [] course stepped free may = stepped
  posts_stepped here (message ∷ messages) course stepped free may =
      let moved : Moved = record { node = number; event = Sent message; message = Some here } in
      posts_stepped (record here { index = here.index + 1 }) messages (moved ∷ course) (
        stepped,
        record {
          within = within;
          allowed = may.0;
          carries = record {
            place = here;
            place_is = refl;
            sender = sends_from (node_at cluster number) (own number course) message may.0;
            fresh = free here.index (omega (arith));
          };
        },
      ) (free_next here message course free)
      (subst (λ past. MaySendAll (node_at cluster number) past messages) (sym (own_now number (Sent message) (Some here) course)) may.1)

  -- the taken message and the end
  rest_stepped : (end : Option NodeEnd) (here : Option PostAt) (message : Option Msg) (course : Course) → Stepped cluster course
      → ((taken : Msg) → message ≡ Some taken → Takes course number here taken)
      → MayTake (node_at cluster number) (own number course) end message → MayEndSo (node_at cluster number) (own number course) end
      → Stepped cluster (with_end number end (with_taking number here message course))
  rest_stepped None here None course stepped takes may ends = stepped
  rest_stepped (Some end) here None course stepped takes may ends = (stepped, record { within = within; allowed = ends; carries = tt })
  rest_stepped None here (Some message) course stepped takes may ends =
      let taking = takes message refl in (stepped, record { within = within; allowed = (taking.receiver, may.1); carries = taking })
  rest_stepped (Some end) here (Some message) course stepped takes may ends = let none : Some end ≡ None = may.0 in absurd (cc)

-- ---- a turn

delivered_takes : (older : List WholeTurn) (course : Course) (number : ℕ) (here : Option PostAt) (message : Option Msg) → IsDelivered older number here message
    → ((place : PostAt) (said : Msg) → WasPosted (course_of older) place said → WasPosted course place said)
    → ((place : PostAt) → list_any (takes_place place) course ≡ list_any (takes_place place) (course_of older))
    → (taken : Msg) → message ≡ Some taken → Takes course number here taken
delivered_takes older course number None message delivered more same taken is = let none : Some taken ≡ None = sym is ∙ delivered in absurd (cc)
delivered_takes older course number (Some place) message delivered more same taken is =
    let some : Some delivered.0 ≡ Some taken = sym delivered.1 ∙ is in
    let one : delivered.0 ≡ taken = cc in
    subst (λ (it : Msg). Takes course number (Some place) it) one
    (record {
      place = place;
      place_is = refl;
      receiver = delivered.2.to;
      was_posted = more place delivered.0 (posted_there older place delivered.0 delivered.2.was_posted);
      not_taken = same place ∙ untaken older place delivered.2.not_taken;
    })

-- items and posts
abbrev with_deeds : ℕ → ℕ → Deeds → Course → Course
with_deeds count number deeds course = with_posts number (record { turn = count; index = 0 }) deeds.posts (with_items number deeds.items course)

deeds_stepped : (cluster : Cluster) (number : ℕ) (older : List WholeTurn) (deeds : Deeds) → number < cluster.config.nodes → Stepped cluster (course_of older)
    → IsStep (node_at cluster number) (own number (course_of older)) deeds → Stepped cluster (with_deeds (length older) number deeds (course_of older))
deeds_stepped cluster number older deeds within stepped (inl none) =
    subst (λ it. Stepped cluster (with_deeds (length older) number it (course_of older))) (sym none) stepped
deeds_stepped cluster number older deeds within stepped (inr moves) =
    let items = with_items number deeds.items (course_of older) in
    let here : PostAt = record { turn = length older; index = 0 } in
    let free : FreeFrom items here = λ index less.
    items_post (record { turn = length older; index = index }) number deeds.items (course_of older)
    ∙ none_later older (record { turn = length older; index = index }) (omega (arith)) in
    posts_stepped cluster number within here deeds.posts items
    (items_stepped cluster number within deeds.posts deeds.items (course_of older) stepped moves.items)
    free (subst (λ past. MaySendAll (node_at cluster number) past deeds.posts) (sym (own_did number deeds.items (course_of older))) moves.posts)

step_ends : (node : Node) (past : Past) (deeds : Deeds) → IsStep node past deeds → MayEndSo node (sent deeds.posts (did deeds.items past)) deeds.end
step_ends node past deeds (inl none) = subst (λ it. MayEndSo node (sent it.posts (did it.items past)) it.end) (sym none) tt
step_ends node past deeds (inr moves) = moves.end

turn_stepped : (cluster : Cluster) (older : List WholeTurn) (turn : WholeTurn) → Stepped cluster (course_of older) → IsNext cluster older turn
    → Stepped cluster (with_turn (length older) turn (posted_at older turn.took) (course_of older))
turn_stepped cluster older turn stepped next =
    let node = node_at cluster turn.node in
    let deeds = deeds_of turn in
    let here : PostAt = record { turn = length older; index = 0 } in
    let items = with_items turn.node turn.items (course_of older) in
    let course = with_posts turn.node here turn.posts items in
    let past_is : own turn.node (course_of older) ≡ past_of turn.node older = own_course turn.node older in
    let step : IsStep node (own turn.node (course_of older)) deeds = subst (λ past. IsStep node past deeds) (sym past_is) next.allows.step in
    let behind_is : own turn.node course ≡ sent turn.posts (did turn.items (own turn.node (course_of older))) =
    own_sent turn.node here turn.posts items ∙ ap (sent turn.posts) (own_did turn.node turn.items (course_of older)) in
    let takes : MayTake node (own turn.node course) turn.end (posted_at older turn.took) =
    subst (λ past. MayTake node past turn.end (posted_at older turn.took))
    (sym (behind_is ∙ ap (λ past. sent turn.posts (did turn.items past)) past_is)) next.allows.takes in
    let ends : MayEndSo node (own turn.node course) turn.end =
    subst (λ past. MayEndSo node past turn.end) (sym behind_is) (step_ends node (own turn.node (course_of older)) deeds step) in
    rest_stepped cluster turn.node next.node turn.end turn.took (posted_at older turn.took) course
    (deeds_stepped cluster turn.node older deeds next.node stepped step)
    (delivered_takes older course turn.node turn.took (posted_at older turn.took) next.delivered
    (λ place said was. more_posts place said turn.node here turn.posts items (more_items place said turn.node turn.items (course_of older) was))
    (λ place. posts_take place turn.node here turn.posts items ∙ items_take place turn.node turn.items (course_of older)))
    takes ends

-- Lawful turns are so, one event at a time.
pub lawful_stepped : (cluster : Cluster) (turns : List WholeTurn) → IsLawful cluster turns → Stepped cluster (course_of turns)
unfolding course_of
lawful_stepped cluster [] lawful = tt
lawful_stepped cluster (turn ∷ older) lawful = turn_stepped cluster older turn (lawful_stepped cluster older lawful.0) lawful.1
