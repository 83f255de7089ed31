-- What stands before a position, and messages from post to taking.
use Rattle.std.proofs.Common.{◌≡◌, ℕ, suc, ◌<◌, List, [], ◌∷◌, ◌++◌, Option, Some, Bool, true, false, length, refl, sym, ◌∙◌, ap, subst, append_assoc, arith}
use Rattle.page_messages.specs.declared.message.Msg.{Msg}
use Rattle.page_messages.specs.declared.log.PostAt.{PostAt}
use Rattle.cluster_rules.specs.Turns.{WholeTurn, Event, Sent, Took}
use Rattle.cluster_rules.specs.Positions.{Moved, Course, course_of, own, at, before, Happens}
use Rattle.cluster_rules.specs.Runs.{Cluster, IsLawful, node_at}
use Rattle.cluster_rules.specs.Allowed.{IsAllowed}
use Rattle.cluster_rules.proofs.Coursing.{at_splits, lawful_at}
use Rattle.backer_order.specs.Log as log
use Rattle.backer_order.specs.Rules.{Delivery}
use Rattle.backer_order.specs.Moments.{NoneBetween}
use Rattle.cluster_order.specs.Reading.{note_of, taken_from, post_position, happens_to, events_of}
use Rattle.cluster_order.proofs.Growing.{within, at_behind, before_behind}
use Rattle.cluster_order.proofs.Delivered.{delivered, taken_once}
use Rattle.cluster_order.proofs.Events.{Found, happens, event_at, taken_is}
use Rattle.cluster_order.proofs.Between.{NoneFrom}

-- ---- what happened before a position

module _ (course : Course) (position : ℕ) (moved : Moved) (found : at course position ≡ Some moved) where
  front_of : course ≡ ((at_splits course position moved found).later ++ moved ∷ []) ++ before course position
  front_of = let split = at_splits course position moved found in split.parts ∙ sym (append_assoc (split.later) (moved ∷ []) (before course position))

  pub length_before : length (before course position) ≡ position
  length_before = (at_splits course position moved found).count

  pub at_before : (earlier : ℕ) → earlier < position → at (before course position) earlier ≡ at course earlier
  at_before earlier less =
      let count = length_before in let split = at_splits course position moved found in
      sym (ap (λ it. at it earlier) front_of ∙ at_behind (split.later ++ moved ∷ []) (before course position) earlier (omega (arith, less, count)))

  pub before_before : (earlier : ℕ) → earlier < position → before (before course position) earlier ≡ before course earlier
  before_before earlier less =
      let count = length_before in let split = at_splits course position moved found in
      sym (ap (λ it. before it earlier) front_of ∙ before_behind (split.later ++ moved ∷ []) (before course position) earlier (omega (arith, less, count)))

  pub happens_before : (number earlier : ℕ) (event : Event) → earlier < position → Happens course number earlier event
      → Happens (before course position) number earlier event
  happens_before number earlier event less it = record { moved = it.moved; is = at_before earlier less ∙ it.is; by = it.by; event_is = it.event_is }

  pub happened_before : (number earlier : ℕ) (event : Event) → Happens (before course position) number earlier event → Happens course number earlier event
  happened_before number earlier event it =
      let count = length_before in let inside = within (before course position) earlier (it.moved) (it.is) in
      record { moved = it.moved; is = sym (at_before earlier (omega (arith, inside, count))) ∙ it.is; by = it.by; event_is = it.event_is }

  -- what stands nowhere behind an earlier position, in the past of a node, stands nowhere between
  pub none_between : (number : ℕ) (such : Event → Bool) (P : ℕ → Type 0) (start : ℕ)
      → ((i : ℕ) → P i → (event : Event) × Happens course number i event × (such event ≡ true))
      → NoneFrom (before course position) number such (suc start) → NoneBetween P start position
  none_between number such P start stands none = λ i behind less holds.
      let it = stands i holds in
      let not = none i (it.1.moved) (omega (arith, behind)) (at_before i less ∙ it.1.is) (it.1.by) in
      let is : such (it.1.moved.event) ≡ true = ap such (it.1.event_is) ∙ it.2 in
      absurd (cc)

  pub none_from : (number : ℕ) (such : Event → Bool) (P : ℕ → Type 0) (start : ℕ)
      → ((i : ℕ) (event : Event) → Happens course number i event → such event ≡ true → P i)
      → NoneBetween P start position → NoneFrom (before course position) number such (suc start)
  none_from number such P start holds none = λ i moved behind here by.
      let count = length_before in let inside = within (before course position) i moved here in
      let less : i < position = omega (arith, inside, count) in
      on (such moved.event) refl (λ is. none i (omega (arith, behind)) less
      (holds i moved.event (record { moved = moved; is = sym (at_before i less) ∙ here; by = by; event_is = refl }) is))
    where
      on : {b : Bool} (c : Bool) → b ≡ c → (b ≡ true → ⊥) → b ≡ false
      on true is no_such = absurd (no_such is)
      on false is no_such = is

-- ---- lawful turns

module _ (cluster : Cluster) (turns : List WholeTurn) (lawful : IsLawful cluster turns) where
  pub allowed : (number position : ℕ) (event : Event) → Happens (course_of turns) number position event
      → IsAllowed (node_at cluster number) (own number (before (course_of turns) position)) event
  allowed number position event happens =
      subst (λ it. IsAllowed (node_at cluster number) (own number (before (course_of turns) position)) it) (happens.event_is)
      (subst (λ it. IsAllowed (node_at cluster it) (own it (before (course_of turns) position)) (happens.moved.event)) (happens.by)
      (lawful_at cluster turns position (happens.moved) lawful (happens.is)))

  pub taken_event : (receiver position : ℕ) (place : Option PostAt) (message : Msg) → Found cluster (course_of turns) position receiver place (Took message)
      → events_of cluster (course_of turns) position ≡ log.Took receiver (taken_from (before (course_of turns) position) place)
  taken_event receiver position place message found =
      event_at cluster (course_of turns) position (found.moved) (found.is)
      ∙ ap (λ number. happens_to cluster (before (course_of turns) position) number (found.moved.message) (found.moved.event)) (found.by)
      ∙ ap (λ it. happens_to cluster (before (course_of turns) position) receiver it (found.moved.event)) (found.place_is)
      ∙ ap (λ event. happens_to cluster (before (course_of turns) position) receiver place event) (found.event_is)

  -- A message that was posted at one position and taken at another.
  pub record Taking (receiver post position : ℕ) (message : Msg) : Type 0 where
    pub sender : ℕ
    pub place : PostAt
    pub taken : Found cluster (course_of turns) position receiver (Some place) (Took message)
    pub posted : Found cluster (course_of turns) post sender (Some place) (Sent message)
    pub before : post < position
    pub to : message.receiver ≡ receiver
    pub event : events_of cluster (course_of turns) position ≡ log.Took receiver post

  pub taking_found : (receiver position : ℕ) (place : Option PostAt) (message : Msg) → Found cluster (course_of turns) position receiver place (Took message)
      → Taking receiver (taken_from (before (course_of turns) position) place) position message
  taking_found receiver position place message found =
      let it = delivered cluster turns position (found.moved) message lawful (found.is) (found.event_is) in
      let earlier = before (course_of turns) position in
      let same : place ≡ Some (it.place) = sym (found.place_is) ∙ it.place_is in
      let post = post_position earlier (it.place) in
      let less : post < position =
      let inside = within earlier post _ (it.posted.is) in
      let count = length_before (course_of turns) position (found.moved) (found.is) in omega (arith, inside, count) in
      subst (λ at_place. Taking receiver (taken_from earlier at_place) position message) (sym same) (record {
        sender = it.posted.sender;
        place = it.place;
        taken = record { moved = found.moved; is = found.is; by = found.by; place_is = it.place_is; event_is = found.event_is };
        posted = record {
          moved = record { node = it.posted.sender; event = Sent message; message = Some (it.place) };
          is = sym (at_before (course_of turns) position (found.moved) (found.is) post less) ∙ it.posted.is;
          by = refl;
          place_is = refl;
          event_is = refl;
        };
        before = less;
        to = it.to ∙ found.by;
        event = taken_event receiver position place message found ∙ ap (λ at_place. log.Took receiver (taken_from earlier at_place)) same;
      })

  -- an event in which a node takes what was posted at a position
  pub taking_at : (receiver post position : ℕ) → events_of cluster (course_of turns) position ≡ log.Took receiver post
      → (message : Msg) × Taking receiver post position message
  taking_at receiver post position is =
      let found = taken_is cluster (course_of turns) position receiver post is in
      (found.1, subst (λ it. Taking receiver it position (found.1)) (found.3) (taking_found receiver position (found.0) (found.1) (found.2)))

  pub posted_event : (receiver post position : ℕ) (message : Msg) (it : Taking receiver post position message)
      → events_of cluster (course_of turns) post ≡ log.Post (it.sender) receiver (note_of cluster (it.sender) (before (course_of turns) post) message.body)
  posted_event receiver post position message it =
      let moved = it.posted.moved in
      event_at cluster (course_of turns) post moved (it.posted.is)
      ∙ ap (λ number. happens_to cluster (before (course_of turns) post) number moved.message moved.event) (it.posted.by)
      ∙ ap (λ event. happens_to cluster (before (course_of turns) post) (it.sender) moved.message event) (it.posted.event_is)
      ∙ ap (λ to. log.Post (it.sender) to (note_of cluster (it.sender) (before (course_of turns) post) message.body)) (it.to)

  -- what stands at one position is one thing
  pub same_message : (first second : Msg) (number other post : ℕ) (place place' : Option PostAt)
      → Found cluster (course_of turns) post number place (Sent first) → Found cluster (course_of turns) post other place' (Sent second)
      → (first ≡ second) × (number ≡ other) × (place ≡ place')
  same_message first second number other post place place' one two =
      let some : Some (one.moved) ≡ Some (two.moved) = sym (one.is) ∙ two.is in
      let same : one.moved ≡ two.moved = cc in
      let event_same : Sent first ≡ Sent second = sym (one.event_is) ∙ ap (λ it. it.event) same ∙ two.event_is in
      let message_same : first ≡ second = cc in
      (message_same, sym (one.by) ∙ ap (λ it. it.node) same ∙ two.by, sym (one.place_is) ∙ ap (λ it. it.message) same ∙ two.place_is)

  pub delivery : Delivery (events_of cluster (course_of turns))
  delivery = record {
    posted = λ position receiver post is.
        let it = taking_at receiver post position is in (
          it.1.sender,
          note_of cluster (it.1.sender) (before (course_of turns) post) (it.0.body),
          posted_event receiver post position (it.0) (it.1),
          it.1.before,
        );
    once = λ position other receiver another post is is'.
        let one = taking_at receiver post position is in
        let two = taking_at another post other is' in
        let same = same_message (one.0) (two.0) (one.1.sender) (two.1.sender) post (Some (one.1.place)) (Some (two.1.place)) (one.1.posted) (two.1.posted) in
        taken_once cluster turns position other (one.1.taken.moved) (two.1.taken.moved) (one.0) (two.0) (one.1.place) lawful
        (one.1.taken.is) (one.1.taken.event_is) (one.1.taken.place_is) (two.1.taken.is) (two.1.taken.event_is) (two.1.taken.place_is ∙ sym same.2);
  }
