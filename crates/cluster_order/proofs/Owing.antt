-- What a home owes, by the queues of positions.
use Rattle.std.proofs.Common.{◌≡◌, ℕ, ℤ, suc, List, [], ◌∷◌, ◌++◌, Option, Some, None, Bool, true, false, cond, ◌&&◌, eqb, refl, sym, ◌∙◌, ap, subst, arith}
use Rattle.std.proofs.lemmas.Bool.Decides.{nat_tests}
use Rattle.std.proofs.lemmas.List.{append-nil}
use Rattle.page_messages.specs.declared.closure.FrameId.{FrameId}
use Rattle.page_messages.specs.declared.message.Msg.{Msg}
use Rattle.page_messages.specs.declared.message.Body.{Body}
use Rattle.page_messages.specs.declared.message.Body.TheVariants as body
use Rattle.page_messages.specs.declared.parts.Part.{Part}
use Rattle.page_messages.specs.declared.log.LoggedAct.TheVariants as act
use Rattle.page_messages.specs.declared.log.Item.{Item}
use Rattle.page_messages.specs.declared.log.Item.TheVariants as item
use Rattle.page_messages.specs.declared.log.PostAt.{PostAt}
use Rattle.cluster_rules.specs.Turns.{WholeTurn, Event, Did, Sent, Took, Ended, Past}
use Rattle.cluster_rules.specs.Node.{Node}
use Rattle.cluster_rules.specs.Walking as walking
use Rattle.cluster_rules.specs.Sendings.{tells_in}
use Rattle.cluster_rules.specs.Home.{reply, replies_in, from_me, stored_page, owed_home_replies}
use Rattle.cluster_rules.specs.Positions.{Moved, Course, course_of, own, at, before, Happens}
use Rattle.cluster_rules.specs.Runs.{Cluster, IsLawful, node_at}
use Rattle.backer_order.specs.Log as log
use Rattle.backer_order.specs.Moments.{queue, is_request, is_add, is_reply, takes_request, gives_reply, takes_add, serves, gives_added, Answers}
use Rattle.cluster_order.specs.Reading.{memory_of, note_of, item_of, happens_to, taken_from}
use Rattle.cluster_order.specs.Standing.{first}
use Rattle.cluster_order.proofs.Between.{own_first, own_other}
use Rattle.cluster_order.proofs.Messages.{Taking, taking_found, posted_event}
use Rattle.cluster_order.proofs.Accesses.{ev, event_there}
use Rattle.cluster_order.proofs.Fronts.{first_none, first_next, first_same, first_at}
use Rattle.cluster_order.proofs.Queues.{Matched, Step, Popped, Pushed, Kept, matched, head_of}
use Rattle.cluster_order.proofs.Lawful.{reply_owed}

-- ---- which events are such

abbrev pub asks_home_in : Body → Bool
asks_home_in (body.Fetch page) = true
asks_home_in (body.Page page words) = false
asks_home_in (body.Reconcile parts) = true
asks_home_in body.Ack = false
asks_home_in body.Ask = false
asks_home_in (body.Grant closure) = false
asks_home_in body.Refuse = false
asks_home_in (body.Done join index value) = false
asks_home_in (body.Park join closure) = false
asks_home_in (body.Add frame index word addend) = false
asks_home_in (body.Added old) = false

abbrev pub adds_in_body : Body → Bool
adds_in_body (body.Fetch page) = false
adds_in_body (body.Page page words) = false
adds_in_body (body.Reconcile parts) = false
adds_in_body body.Ack = false
adds_in_body body.Ask = false
adds_in_body (body.Grant closure) = false
adds_in_body body.Refuse = false
adds_in_body (body.Done join index value) = false
adds_in_body (body.Park join closure) = false
adds_in_body (body.Add frame index word addend) = true
adds_in_body (body.Added old) = false

pub request_same : (cluster : Cluster) (number receiver : ℕ) (course : Course) (said : Body)
    → is_request (log.Post number receiver (note_of cluster number course said)) ≡ asks_home_in said
request_same cluster number receiver course (body.Fetch page) = refl
request_same cluster number receiver course (body.Page page words) = refl
request_same cluster number receiver course (body.Reconcile parts) = refl
request_same cluster number receiver course body.Ack = refl
request_same cluster number receiver course body.Ask = refl
request_same cluster number receiver course (body.Grant closure) = refl
request_same cluster number receiver course body.Refuse = refl
request_same cluster number receiver course (body.Done join index value) = refl
request_same cluster number receiver course (body.Park join closure) = refl
request_same cluster number receiver course (body.Add frame index word addend) = refl
request_same cluster number receiver course (body.Added old) = refl

pub add_same : (cluster : Cluster) (number receiver : ℕ) (course : Course) (said : Body)
    → is_add (log.Post number receiver (note_of cluster number course said)) ≡ adds_in_body said
add_same cluster number receiver course (body.Fetch page) = refl
add_same cluster number receiver course (body.Page page words) = refl
add_same cluster number receiver course (body.Reconcile parts) = refl
add_same cluster number receiver course body.Ack = refl
add_same cluster number receiver course body.Ask = refl
add_same cluster number receiver course (body.Grant closure) = refl
add_same cluster number receiver course body.Refuse = refl
add_same cluster number receiver course (body.Done join index value) = refl
add_same cluster number receiver course (body.Park join closure) = refl
add_same cluster number receiver course (body.Add frame index word addend) = refl
add_same cluster number receiver course (body.Added old) = refl

pub reply_same : (cluster : Cluster) (number receiver : ℕ) (course : Course) (said : Body) → is_reply (note_of cluster number course said) ≡ replies_in said
reply_same cluster number receiver course (body.Fetch page) = refl
reply_same cluster number receiver course (body.Page page words) = refl
reply_same cluster number receiver course (body.Reconcile parts) = refl
reply_same cluster number receiver course body.Ack = refl
reply_same cluster number receiver course body.Ask = refl
reply_same cluster number receiver course (body.Grant closure) = refl
reply_same cluster number receiver course body.Refuse = refl
reply_same cluster number receiver course (body.Done join index value) = refl
reply_same cluster number receiver course (body.Park join closure) = refl
reply_same cluster number receiver course (body.Add frame index word addend) = refl
reply_same cluster number receiver course (body.Added old) = refl

pub tells_same : (cluster : Cluster) (home number receiver : ℕ) (course : Course) (said : Body)
    → gives_added home (log.Post number receiver (note_of cluster number course said)) ≡ tells_in said && eqb number home
tells_same cluster home number receiver course (body.Fetch page) = refl
tells_same cluster home number receiver course (body.Page page words) = refl
tells_same cluster home number receiver course (body.Reconcile parts) = refl
tells_same cluster home number receiver course body.Ack = refl
tells_same cluster home number receiver course body.Ask = refl
tells_same cluster home number receiver course (body.Grant closure) = refl
tells_same cluster home number receiver course body.Refuse = refl
tells_same cluster home number receiver course (body.Done join index value) = refl
tells_same cluster home number receiver course (body.Park join closure) = refl
tells_same cluster home number receiver course (body.Add frame index word addend) = refl
tells_same cluster home number receiver course (body.Added old) = refl

-- an item is no message
pub record NoMessage (home : ℕ) (events : ℕ → log.Event) (event : log.Event) : Type 0 where
  pub no_request : takes_request events home event ≡ false
  pub no_reply : gives_reply home event ≡ false
  pub no_add : takes_add events home event ≡ false
  pub no_added : gives_added home event ≡ false

pub item_no_message : (cluster : Cluster) (home number : ℕ) (events : ℕ → log.Event) (past : Past) (done : Item)
    → NoMessage home events (item_of cluster number past done)
item_no_message cluster home number events past (item.Act frame index act) = record { no_request = refl; no_reply = refl; no_add = refl; no_added = refl }
item_no_message cluster home number events past (item.Tick frame) = record { no_request = refl; no_reply = refl; no_add = refl; no_added = refl }
item_no_message cluster home number events past (item.Drop page) = record { no_request = refl; no_reply = refl; no_add = refl; no_added = refl }
item_no_message cluster home number events past (item.TakeUp frame) = record { no_request = refl; no_reply = refl; no_add = refl; no_added = refl }
item_no_message cluster home number events past (item.OwnFetch page words) = record { no_request = refl; no_reply = refl; no_add = refl; no_added = refl }
item_no_message cluster home number events past (item.OwnReconcile part) = record { no_request = refl; no_reply = refl; no_add = refl; no_added = refl }
item_no_message cluster home number events past (item.Served frame index word old addend) =
    record { no_request = refl; no_reply = refl; no_add = refl; no_added = refl }

pub other_no_message : (cluster : Cluster) (home number : ℕ) (events : ℕ → log.Event) (course : Course) (place : Option PostAt) (event : Event)
    → eqb number home ≡ false
    → NoMessage home events (happens_to cluster course number place event)
other_no_message cluster home number events course place (Did done) other = item_no_message cluster home number events (own number course) done
other_no_message cluster home number events course place (Sent message) other =
    record {
      no_request = refl;
      no_reply = rw other refl;
      no_add = refl;
      no_added = tells_same cluster home number message.receiver course message.body ∙ on (tells_in message.body);
    }
  where
    on : (b : Bool) → b && eqb number home ≡ false
    on true = other
    on false = refl
other_no_message cluster home number events course place (Took message) other =
    record { no_request = rw other refl; no_reply = refl; no_add = rw other refl; no_added = refl }
other_no_message cluster home number events course place (Ended end) other = record { no_request = refl; no_reply = refl; no_add = refl; no_added = refl }

-- what serves an add
pub served_here : (cluster : Cluster) (home number : ℕ) (past : Past) (done : Item)
    → ((frame : FrameId) (index word : ℕ) (old addend : ℤ) → done ≡ item.Served frame index word old addend → ⊥)
    → serves (memory_of cluster) home (item_of cluster number past done) ≡ false
served_here cluster home number past (item.Act frame index (act.Read word value)) none = refl
served_here cluster home number past (item.Act frame index (act.Write word value)) none = refl
served_here cluster home number past (item.Act frame index (act.Print value)) none = refl
served_here cluster home number past (item.Act frame index (act.Spawn child procedure arguments)) none = refl
served_here cluster home number past (item.Act frame index act.Sync) none = refl
served_here cluster home number past (item.Tick frame) none = refl
served_here cluster home number past (item.Drop page) none = refl
served_here cluster home number past (item.TakeUp frame) none = refl
served_here cluster home number past (item.OwnFetch page words) none = refl
served_here cluster home number past (item.OwnReconcile part) none = refl
served_here cluster home number past (item.Served frame index word old addend) none = absurd (none frame index word old addend refl)

pub same_number : (number : ℕ) → eqb number number ≡ true
same_number number = grind (arith, nat_tests)

module _ (cluster : Cluster) (turns : List WholeTurn) (lawful : IsLawful cluster turns) (home : ℕ) where
  abbrev node : Node
  node = node_at cluster home

  abbrev course : Course
  course = course_of turns

  abbrev events : ℕ → log.Event
  events = ev cluster turns lawful

  pub event_of_moved : (position : ℕ) (moved : Moved) → at course position ≡ Some moved
      → events position ≡ happens_to cluster (before course position) moved.node moved.message moved.event
  event_of_moved position moved found =
      event_there cluster turns lawful moved.node position moved.event (record { moved = moved; is = found; by = refl; event_is = refl })

  pub nothing_there : (position : ℕ) → at course position ≡ None → events position ≡ log.Nothing
  nothing_there position none = rw none refl

  abbrev pub here : (position : ℕ) (moved : Moved) (event : Event) → at course position ≡ Some moved → moved.node ≡ home → moved.event ≡ event
      → Happens course home position event
  here position moved event found by is = record { moved = moved; is = found; by = by; event_is = is }

  -- the event, told by the home
  pub event_here : (position : ℕ) (moved : Moved) (event : Event) → at course position ≡ Some moved → moved.node ≡ home → moved.event ≡ event
      → events position ≡ happens_to cluster (before course position) home moved.message event
  event_here position moved event found by is = event_there cluster turns lawful home position event (here position moved event found by is)

  -- the past of the home at a position, and behind what it does there
  pub past_same : (position : ℕ) → at course position ≡ None → own home (first (suc position) course) ≡ own home (first position course)
  past_same position none = ap (own home) (first_same position course none)

  pub past_now : (position : ℕ) (moved : Moved) → at course position ≡ Some moved → own home (first position course) ≡ own home (before course position)
  past_now position moved found = ap (own home) (first_at position course moved found)

  pub past_other : (position : ℕ) (moved : Moved) → at course position ≡ Some moved → eqb moved.node home ≡ false
      → own home (first (suc position) course) ≡ own home (first position course)
  past_other position moved found other =
      ap (own home) (first_next position course moved found) ∙ own_other home moved (before course position) other ∙ sym (past_now position moved found)

  pub past_next : (position : ℕ) (moved : Moved) → at course position ≡ Some moved → moved.node ≡ home
      → own home (first (suc position) course) ≡ moved.event ∷ own home (first position course)
  past_next position moved found by =
      ap (own home) (first_next position course moved found) ∙ own_first home moved (before course position) by
      ∙ ap (λ it. moved.event ∷ it) (sym (past_now position moved found))

  pub taken_message : (position : ℕ) (moved : Moved) (message : Msg) → at course position ≡ Some moved → moved.node ≡ home → moved.event ≡ Took message
      → Taking cluster turns lawful home (taken_from (before course position) moved.message) position message
  taken_message position moved message found by is =
      taking_found cluster turns lawful home position moved.message message (record { moved = moved; is = found; by = by; place_is = refl; event_is = is })

  -- ---- Pages and Acks

  -- the reply that is owed for what was taken at a position
  pub data OwesFor (due : Msg) (taking : ℕ) : Type 0 where
    PageFor : (post page : ℕ) (message : Msg) → Taking cluster turns lawful home post taking message → message.body ≡ body.Fetch page
        → due ≡ from_me node message.sender (body.Page page (stored_page node page (own home (before course taking)))) → OwesFor due taking
    AckFor : (post : ℕ) (parts : List Part) (message : Msg) → Taking cluster turns lawful home post taking message → message.body ≡ body.Reconcile parts
        → due ≡ from_me node message.sender body.Ack → OwesFor due taking

  abbrev owed : ℕ → List Msg
  owed position = owed_home_replies node (own home (first position course))

  abbrev push_reply : ℕ → Bool
  push_reply position = takes_request events home (events position)

  abbrev pop_reply : ℕ → Bool
  pop_reply position = gives_reply home (events position)

  abbrev ReplyStep : ℕ → Type 0
  ReplyStep = Step OwesFor push_reply pop_reply owed

  reply_kept : (position : ℕ) → NoMessage home events (events position) → owed (suc position) ≡ owed position → ReplyStep position
  reply_kept position none same = Kept (none.no_reply) (none.no_request) same

  -- the home takes a message
  reply_took : (position : ℕ) (moved : Moved) (message : Msg) → at course position ≡ Some moved → moved.node ≡ home → moved.event ≡ Took message
      → ReplyStep position
  unfolding owed_home_replies
  reply_took position moved message found by is =
      on (message.body) refl
    where
      post : ℕ
      post = taken_from (before course position) moved.message

      it : Taking cluster turns lawful home post position message
      it = taken_message position moved message found by is

      event_is : events position ≡ log.Took home post
      event_is = event_here position moved (Took message) found by is

      asked : push_reply position ≡ asks_home_in message.body
      asked =
          rw (event_is, posted_event cluster turns lawful home post position message it, same_number home)
          (request_same cluster (it.sender) home (before course post) message.body)

      no_reply : pop_reply position ≡ false
      no_reply = rw event_is refl

      grown : owed (suc position) ≡ owed position ++ reply node message.sender message.body (own home (first position course))
      grown = ap (owed_home_replies node) (past_next position moved found by ∙ ap (λ event. event ∷ own home (first position course)) is)

      kept : (said : Body) → message.body ≡ said → asks_home_in said ≡ false → reply node message.sender said (own home (first position course)) ≡ []
          → ReplyStep position
      kept said says not_asked none = Kept no_reply (asked ∙ ap asks_home_in says ∙ not_asked)
          (grown ∙ ap (λ said. owed position ++ reply node message.sender said (own home (first position course))) says ∙ ap (λ it. owed position ++ it) none
          ∙ append-nil (owed position))

      on : (said : Body) → message.body ≡ said → ReplyStep position
      on (body.Fetch page) says =
          let due = from_me node message.sender (body.Page page (stored_page node page (own home (first position course)))) in
          Pushed due no_reply (asked ∙ ap asks_home_in says)
          (grown ∙ ap (λ said. owed position ++ reply node message.sender said (own home (first position course))) says)
          (PageFor post page message it says (ap (λ past. from_me node message.sender (body.Page page (stored_page node page past)))
          (past_now position moved found)))
      on (body.Page page words) says = kept (body.Page page words) says refl refl
      on (body.Reconcile parts) says =
          Pushed (from_me node message.sender body.Ack) no_reply (asked ∙ ap asks_home_in says)
          (grown ∙ ap (λ said. owed position ++ reply node message.sender said (own home (first position course))) says)
          (AckFor post parts message it says refl)
      on body.Ack says = kept body.Ack says refl refl
      on body.Ask says = kept body.Ask says refl refl
      on (body.Grant closure) says = kept (body.Grant closure) says refl refl
      on body.Refuse says = kept body.Refuse says refl refl
      on (body.Done join index value) says = kept (body.Done join index value) says refl refl
      on (body.Park join closure) says = kept (body.Park join closure) says refl refl
      on (body.Add frame index word addend) says = kept (body.Add frame index word addend) says refl refl
      on (body.Added old) says = kept (body.Added old) says refl refl

  -- the home posts a message
  reply_sent : (position : ℕ) (moved : Moved) (message : Msg) → at course position ≡ Some moved → moved.node ≡ home → moved.event ≡ Sent message
      → ReplyStep position
  unfolding owed_home_replies
  reply_sent position moved message found by is = on (replies_in message.body) refl
    where
      event_is : events position ≡ log.Post home message.receiver (note_of cluster home (before course position) message.body)
      event_is = event_here position moved (Sent message) found by is

      popped : pop_reply position ≡ replies_in message.body
      popped = rw (event_is, same_number home) (reply_same cluster home message.receiver (before course position) message.body)

      next : owed (suc position) ≡ cond (replies_in message.body) (walking.rest_of (owed position)) (owed position)
      next = ap (owed_home_replies node) (past_next position moved found by ∙ ap (λ event. event ∷ own home (first position course)) is)

      on : (b : Bool) → replies_in message.body ≡ b → ReplyStep position
      on true replies = Popped (popped ∙ replies) (next ∙ ap (λ b. cond b (walking.rest_of (owed position)) (owed position)) replies)
      on false none = Kept (popped ∙ none) (rw event_is refl) (next ∙ ap (λ b. cond b (walking.rest_of (owed position)) (owed position)) none)

  reply_step : (position : ℕ) → Matched OwesFor (owed position) (queue push_reply pop_reply position) → ReplyStep position
  unfolding owed_home_replies
  reply_step position before_is = on (at course position) refl
    where
      no_message : events position ≡ log.Nothing → NoMessage home events (events position)
      no_message is = subst (NoMessage home events) (sym is) (record { no_request = refl; no_reply = refl; no_add = refl; no_added = refl })

      mine : (moved : Moved) → at course position ≡ Some moved → moved.node ≡ home → (event : Event) → moved.event ≡ event → ReplyStep position
      mine moved found by (Did done) is =
          reply_kept position (subst (NoMessage home events) (sym (event_here position moved (Did done) found by is))
          (item_no_message cluster home home events (own home (before course position)) done))
          (ap (owed_home_replies node) (past_next position moved found by ∙ ap (λ event. event ∷ own home (first position course)) is))
      mine moved found by (Sent message) is = reply_sent position moved message found by is
      mine moved found by (Took message) is = reply_took position moved message found by is
      mine moved found by (Ended end) is =
          reply_kept position (subst (NoMessage home events) (sym (event_here position moved (Ended end) found by is))
          (record { no_request = refl; no_reply = refl; no_add = refl; no_added = refl }))
          (ap (owed_home_replies node) (past_next position moved found by ∙ ap (λ event. event ∷ own home (first position course)) is))

      whose : (moved : Moved) → at course position ≡ Some moved → (b : Bool) → eqb moved.node home ≡ b → ReplyStep position
      whose moved found true by = mine moved found (grind (arith, nat_tests)) moved.event refl
      whose moved found false other =
          reply_kept position (subst (NoMessage home events) (sym (event_of_moved position moved found))
          (other_no_message cluster home moved.node events (before course position) moved.message moved.event other))
          (ap (owed_home_replies node) (past_other position moved found other))

      on : (option : Option Moved) → at course position ≡ option → ReplyStep position
      on None none = reply_kept position (no_message (nothing_there position none)) (ap (owed_home_replies node) (past_same position none))
      on (Some moved) found = whose moved found (eqb moved.node home) refl

  replies_matched : (position : ℕ) → Matched OwesFor (owed position) (queue push_reply pop_reply position)
  unfolding owed_home_replies
  replies_matched position =
      matched OwesFor push_reply pop_reply owed (ap (λ course. owed_home_replies node (own home course)) (first_none course)) reply_step position

  -- A Page or an Ack that is posted is the one for what was taken at this position.
  pub reply_for : (position : ℕ) (message : Msg) → Happens course home position (Sent message) → replies_in message.body ≡ true
      → (taking : ℕ) × Answers events home position taking × OwesFor message taking
  reply_for position message happens replies =
      let due = reply_owed cluster turns lawful home position message happens replies in
      let same : owed position ≡ message ∷ due.0 = ap (owed_home_replies node) (past_now position (happens.moved) (happens.is)) ∙ due.1 in
      head_of OwesFor push_reply pop_reply owed position (owed position) message (due.0) (replies_matched position) same
