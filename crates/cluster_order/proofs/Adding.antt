-- The adds that a home owes, and the old values that it has to tell, by the queues of positions.
use Rattle.std.proofs.Common.{◌≡◌, ◌≢◌, ◌⊎◌, inl, inr, ℕ, ℤ, suc, List, [], ◌∷◌, ◌++◌, Option, Some, None, Bool, true, false, cond, ◌&&◌, eqb, refl, sym, ◌∙◌, ap, subst, arith}
use Rattle.std.proofs.lemmas.Bool.Decides.{nat_tests}
use Rattle.std.proofs.lemmas.List.{append-nil}
use Rattle.page_messages.specs.declared.closure.FrameId.{FrameId}
use Rattle.page_messages.specs.declared.message.Msg.{Msg}
use Rattle.page_messages.specs.declared.message.Body.{Body}
use Rattle.page_messages.specs.declared.message.Body.TheVariants as body
use Rattle.page_messages.specs.declared.log.Item.{Item}
use Rattle.page_messages.specs.declared.log.Item.TheVariants as item
use Rattle.cluster_rules.specs.Turns.{WholeTurn, Event, Did, Sent, Took, Ended}
use Rattle.cluster_rules.specs.Node.{Node, page_of, home_of}
use Rattle.cluster_rules.specs.Walking as walking
use Rattle.cluster_rules.specs.Sendings.{tells_in}
use Rattle.cluster_rules.specs.Home.{from_me, owed_adds, with_add, after_served, told_by, owed_olds}
use Rattle.cluster_rules.specs.Positions.{Moved, Course, course_of, own, at, before, Happens}
use Rattle.cluster_rules.specs.Runs.{Cluster, IsLawful, node_at}
use Rattle.backer_order.specs.Log as log
use Rattle.backer_order.specs.Moments.{queue, Head, takes_add, serves, gives_added, Serves, Tells}
use Rattle.cluster_order.specs.Reading.{memory_of, note_of, item_of, happens_to, served_for, taken_from}
use Rattle.cluster_order.specs.Standing.{first}
use Rattle.cluster_order.proofs.Messages.{Taking, posted_event}
use Rattle.cluster_order.proofs.Accesses.{ev, event_there}
use Rattle.cluster_order.proofs.Fronts.{first_none}
use Rattle.cluster_order.proofs.Queues.{Matched, Step, Popped, Pushed, Kept, matched, head_of}
use Rattle.cluster_order.proofs.Lawful.{sent_by, added_allowed, add_allowed, home_served}
use Rattle.cluster_order.proofs.Owing.{adds_in_body, add_same, tells_same, item_no_message, other_no_message, served_here, same_number, event_of_moved, nothing_there, here, event_here, past_same, past_now, past_other, past_next, taken_message}

-- ---- what an item makes of the adds

serving_item : (home : ℕ) (done : Item) → ((frame : FrameId) × (index word : ℕ) × (old addend : ℤ) × (done ≡ item.Served frame index word old addend))
    ⊎ ((frame : FrameId) (index word : ℕ) (old addend : ℤ) → done ≡ item.Served frame index word old addend → ⊥)
serving_item home (item.Act frame index act) = inr (λ f i w o d is. absurd (cc))
serving_item home (item.Tick frame) = inr (λ f i w o d is. absurd (cc))
serving_item home (item.Drop page) = inr (λ f i w o d is. absurd (cc))
serving_item home (item.TakeUp frame) = inr (λ f i w o d is. absurd (cc))
serving_item home (item.OwnFetch page words) = inr (λ f i w o d is. absurd (cc))
serving_item home (item.OwnReconcile part) = inr (λ f i w o d is. absurd (cc))
serving_item home (item.Served frame index word old addend) = inl (frame, index, word, old, addend, refl)

adds_left : (done : Item) (adds : List Msg) → ((frame : FrameId) (index word : ℕ) (old addend : ℤ) → done ≡ item.Served frame index word old addend → ⊥)
    → after_served done adds ≡ adds
adds_left (item.Act frame index act) adds none = refl
adds_left (item.Tick frame) adds none = refl
adds_left (item.Drop page) adds none = refl
adds_left (item.TakeUp frame) adds none = refl
adds_left (item.OwnFetch page words) adds none = refl
adds_left (item.OwnReconcile part) adds none = refl
adds_left (item.Served frame index word old addend) adds none = absurd (none frame index word old addend refl)

olds_left : (node : Node) (done : Item) (adds : List Msg)
    → ((frame : FrameId) (index word : ℕ) (old addend : ℤ) → done ≡ item.Served frame index word old addend → ⊥) → told_by node done adds ≡ []
olds_left node (item.Act frame index act) adds none = refl
olds_left node (item.Tick frame) adds none = refl
olds_left node (item.Drop page) adds none = refl
olds_left node (item.TakeUp frame) adds none = refl
olds_left node (item.OwnFetch page words) adds none = refl
olds_left node (item.OwnReconcile part) adds none = refl
olds_left node (item.Served frame index word old addend) adds none = absurd (none frame index word old addend refl)

-- whose adds an item of this node serves
abbrev pub serves_other : ℕ → List Msg → Bool
serves_other home adds = cond (eqb (served_for home adds) home) false true

module _ (cluster : Cluster) (turns : List WholeTurn) (lawful : IsLawful cluster turns) (home : ℕ) where
  abbrev node : Node
  node = node_at cluster home

  abbrev course : Course
  course = course_of turns

  abbrev events : ℕ → log.Event
  events = ev cluster turns lawful

  -- ---- adds

  -- the Add that was taken at a position
  pub record AddTaken (add : Msg) (taking : ℕ) : Type 0 where
    pub post : ℕ
    pub frame : FrameId
    pub index : ℕ
    pub word : ℕ
    pub addend : ℤ
    pub taken : Taking cluster turns lawful home post taking add
    pub asked : add.body ≡ body.Add frame index word addend

  -- it came from another node
  pub add_other : (add : Msg) (taking : ℕ) → AddTaken add taking → add.sender ≢ home
  add_other add taking it =
      let posted = it.taken.posted in
      let happens : Happens course (it.taken.sender) (it.post) (Sent add) =
      record { moved = posted.moved; is = posted.is; by = posted.by; event_is = posted.event_is } in
      let may = add_allowed cluster turns lawful (it.taken.sender) (it.post) add (it.frame) (it.index) (it.word) (it.addend) happens (it.asked) in
      λ same. may.other (it.taken.to ∙ sym same ∙ sent_by cluster turns lawful (it.taken.sender) (it.post) add happens)

  abbrev adds : ℕ → List Msg
  adds position = owed_adds (own home (first position course))

  abbrev push_add : ℕ → Bool
  push_add position = takes_add events home (events position)

  abbrev pop_add : ℕ → Bool
  pop_add position = serves (memory_of cluster) home (events position)

  abbrev AddStep : ℕ → Type 0
  AddStep = Step AddTaken push_add pop_add adds

  abbrev AddsMatched : ℕ → Type 0
  AddsMatched position = Matched AddTaken (adds position) (queue push_add pop_add position)

  -- an item of another node serves no add of this home
  served_elsewhere : (position : ℕ) (moved : Moved) → at course position ≡ Some moved → eqb moved.node home ≡ false → (event : Event) → moved.event ≡ event
      → serves (memory_of cluster) home (events position) ≡ false
  served_elsewhere position moved found other event is =
      ap (serves (memory_of cluster) home) (event_of_moved cluster turns lawful home position moved found
      ∙ ap (happens_to cluster (before course position) moved.node moved.message) is) ∙ by_event event is
    where
      by_item : (done : Item) → moved.event ≡ Did done
          → ((frame : FrameId) × (index word : ℕ) × (old addend : ℤ) × (done ≡ item.Served frame index word old addend))
          ⊎ ((frame : FrameId) (index word : ℕ) (old addend : ℤ) → done ≡ item.Served frame index word old addend → ⊥)
          → serves (memory_of cluster) home (item_of cluster moved.node (own moved.node (before course position)) done) ≡ false
      by_item done is (inl served) =
          let happens : Happens course moved.node position (Did (item.Served (served.0) (served.1) (served.2) (served.3) (served.4))) =
          record { moved = moved; is = found; by = refl; event_is = is ∙ ap Did (served.5) } in
          let at_home = home_served cluster turns lawful moved.node position (served.0) (served.1) (served.2) (served.3) (served.4) happens in
          let not : eqb (home_of (node_at cluster 0) (page_of (node_at cluster 0) (served.2))) home ≡ false = ap (λ it. eqb it home) at_home ∙ other in
          ap (λ it. serves (memory_of cluster) home (item_of cluster moved.node (own moved.node (before course position)) it)) (served.5) ∙ rw not refl
      by_item done is (inr none) = served_here cluster home moved.node (own moved.node (before course position)) done none

      by_event : (event : Event) → moved.event ≡ event
          → serves (memory_of cluster) home (happens_to cluster (before course position) moved.node moved.message event) ≡ false
      by_event (Did done) is = by_item done is (serving_item home done)
      by_event (Sent message) is = refl
      by_event (Took message) is = refl
      by_event (Ended end) is = refl

  -- an item of the home serves an add of another node where one is owed
  pub served_at_home : (position : ℕ) (frame : FrameId) (index word : ℕ) (old addend : ℤ)
      → Happens course home position (Did (item.Served frame index word old addend))
      → serves (memory_of cluster) home (events position) ≡ serves_other home (owed_adds (own home (before course position)))
  served_at_home position frame index word old addend happens =
      let at_home = home_served cluster turns lawful home position frame index word old addend happens in
      let is : eqb (home_of (node_at cluster 0) (page_of (node_at cluster 0) word)) home ≡ true = ap (λ it. eqb it home) at_home ∙ same_number home in
      ap (serves (memory_of cluster) home) (event_there cluster turns lawful home position (Did (item.Served frame index word old addend)) happens) ∙ rw is refl

  own_add : serves_other home [] ≡ false
  own_add = rw (same_number home) refl

  owed_other : (add : Msg) (later : List Msg) → add.sender ≢ home → serves_other home (add ∷ later) ≡ true
  owed_other add later other = let not : eqb (add.sender) home ≡ false = grind (arith, nat_tests) in rw not refl

  head_taken : (position : ℕ) (add : Msg) (later : List Msg) → adds position ≡ add ∷ later → AddsMatched position
      → (taking : ℕ) × Head push_add pop_add position taking × AddTaken add taking
  head_taken position add later is matched = head_of AddTaken push_add pop_add adds position (adds position) add later matched is

  add_took : (position : ℕ) (moved : Moved) (message : Msg) → at course position ≡ Some moved → moved.node ≡ home → moved.event ≡ Took message
      → AddStep position
  unfolding owed_adds
  add_took position moved message found by is = on (message.body) refl
    where
      post : ℕ
      post = taken_from (before course position) moved.message

      it : Taking cluster turns lawful home post position message
      it = taken_message cluster turns lawful home position moved message found by is

      event_is : events position ≡ log.Took home post
      event_is = event_here cluster turns lawful home position moved (Took message) found by is

      asked : push_add position ≡ adds_in_body message.body
      asked =
          rw (event_is, posted_event cluster turns lawful home post position message it, same_number home)
          (add_same cluster (it.sender) home (before course post) message.body)

      no_pop : pop_add position ≡ false
      no_pop = rw event_is refl

      grown : adds (suc position) ≡ with_add message.body message (adds position)
      grown = ap owed_adds (past_next cluster turns lawful home position moved found by ∙ ap (λ event. event ∷ own home (first position course)) is)

      kept : (said : Body) → message.body ≡ said → adds_in_body said ≡ false → with_add said message (adds position) ≡ adds position → AddStep position
      kept said says not_asked same =
          Kept no_pop (asked ∙ ap adds_in_body says ∙ not_asked) (grown ∙ ap (λ said. with_add said message (adds position)) says ∙ same)

      on : (said : Body) → message.body ≡ said → AddStep position
      on (body.Fetch page) says = kept (body.Fetch page) says refl refl
      on (body.Page page words) says = kept (body.Page page words) says refl refl
      on (body.Reconcile parts) says = kept (body.Reconcile parts) says refl refl
      on body.Ack says = kept body.Ack says refl refl
      on body.Ask says = kept body.Ask says refl refl
      on (body.Grant closure) says = kept (body.Grant closure) says refl refl
      on body.Refuse says = kept body.Refuse says refl refl
      on (body.Done join index value) says = kept (body.Done join index value) says refl refl
      on (body.Park join closure) says = kept (body.Park join closure) says refl refl
      on (body.Add frame index word addend) says =
          Pushed message no_pop (asked ∙ ap adds_in_body says) (grown ∙ ap (λ said. with_add said message (adds position)) says)
          (record { post = post; frame = frame; index = index; word = word; addend = addend; taken = it; asked = says })
      on (body.Added old) says = kept (body.Added old) says refl refl

  add_did : (position : ℕ) (moved : Moved) (done : Item) → at course position ≡ Some moved → moved.node ≡ home → moved.event ≡ Did done → AddsMatched position
      → AddStep position
  unfolding owed_adds
  add_did position moved done found by is before_matched = on (serving_item home done)
    where
      next : adds (suc position) ≡ after_served done (adds position)
      next = ap owed_adds (past_next cluster turns lawful home position moved found by ∙ ap (λ event. event ∷ own home (first position course)) is)

      event_is : events position ≡ item_of cluster home (own home (before course position)) done
      event_is = event_here cluster turns lawful home position moved (Did done) found by is

      no_push : push_add position ≡ false
      no_push =
          subst (λ event. takes_add events home event ≡ false) (sym event_is)
          ((item_no_message cluster home home events (own home (before course position)) done).no_add)

      by_adds : (frame : FrameId) (index word : ℕ) (old addend : ℤ) → done ≡ item.Served frame index word old addend → (owed : List Msg) → adds position ≡ owed
          → AddStep position
      by_adds frame index word old addend served [] none =
          let popped = served_at_home position frame index word old addend
          (here cluster turns lawful home position moved (Did (item.Served frame index word old addend)) found by (is ∙ ap Did served)) in
          Kept (popped ∙ ap (serves_other home) (sym (ap owed_adds (past_now cluster turns lawful home position moved found)) ∙ none) ∙ own_add) no_push
          (next ∙ ap (λ it. after_served it (adds position)) served ∙ ap walking.rest_of none ∙ sym none)
      by_adds frame index word old addend served (add ∷ later) some =
          let popped = served_at_home position frame index word old addend
          (here cluster turns lawful home position moved (Did (item.Served frame index word old addend)) found by (is ∙ ap Did served)) in
          let taken = head_taken position add later some before_matched in
          Popped (popped ∙ ap (serves_other home) (sym (ap owed_adds (past_now cluster turns lawful home position moved found)) ∙ some)
          ∙ owed_other add later (add_other add (taken.0) (taken.2)))
          (next ∙ ap (λ it. after_served it (adds position)) served)

      on : ((frame : FrameId) × (index word : ℕ) × (old addend : ℤ) × (done ≡ item.Served frame index word old addend))
          ⊎ ((frame : FrameId) (index word : ℕ) (old addend : ℤ) → done ≡ item.Served frame index word old addend → ⊥) → AddStep position
      on (inl served) = by_adds (served.0) (served.1) (served.2) (served.3) (served.4) (served.5) (adds position) refl
      on (inr none) =
          Kept (ap (serves (memory_of cluster) home) event_is ∙ served_here cluster home home (own home (before course position)) done none) no_push
          (next ∙ adds_left done (adds position) none)

  no_add_push : (event : log.Event) (position : ℕ) → events position ≡ event → takes_add events home event ≡ false → push_add position ≡ false
  no_add_push event position is none = ap (takes_add events home) is ∙ none

  no_add_pop : (event : log.Event) (position : ℕ) → events position ≡ event → serves (memory_of cluster) home event ≡ false → pop_add position ≡ false
  no_add_pop event position is none = ap (serves (memory_of cluster) home) is ∙ none

  add_step : (position : ℕ) → AddsMatched position → AddStep position
  unfolding owed_adds
  add_step position before_matched = on (at course position) refl
    where
      mine : (moved : Moved) → at course position ≡ Some moved → moved.node ≡ home → (event : Event) → moved.event ≡ event → AddStep position
      mine moved found by (Did done) is = add_did position moved done found by is before_matched
      mine moved found by (Sent message) is =
          let event_is = event_here cluster turns lawful home position moved (Sent message) found by is in
          Kept (no_add_pop _ position event_is refl) (no_add_push _ position event_is refl)
          (ap owed_adds (past_next cluster turns lawful home position moved found by ∙ ap (λ event. event ∷ own home (first position course)) is))
      mine moved found by (Took message) is = add_took position moved message found by is
      mine moved found by (Ended end) is =
          let event_is = event_here cluster turns lawful home position moved (Ended end) found by is in
          Kept (no_add_pop _ position event_is refl) (no_add_push _ position event_is refl)
          (ap owed_adds (past_next cluster turns lawful home position moved found by ∙ ap (λ event. event ∷ own home (first position course)) is))

      whose : (moved : Moved) → at course position ≡ Some moved → (b : Bool) → eqb moved.node home ≡ b → AddStep position
      whose moved found true by = mine moved found (grind (arith, nat_tests)) moved.event refl
      whose moved found false other =
          Kept (served_elsewhere position moved found other moved.event refl)
          (ap (takes_add events home) (event_of_moved cluster turns lawful home position moved found)
          ∙ (other_no_message cluster home moved.node events (before course position) moved.message moved.event other).no_add)
          (ap owed_adds (past_other cluster turns lawful home position moved found other))

      on : (option : Option Moved) → at course position ≡ option → AddStep position
      on None none =
          let event_is = nothing_there cluster turns lawful home position none in
          Kept (no_add_pop _ position event_is refl) (no_add_push _ position event_is refl) (ap owed_adds (past_same cluster turns lawful home position none))
      on (Some moved) found = whose moved found (eqb moved.node home) refl

  adds_matched : (position : ℕ) → AddsMatched position
  unfolding owed_adds
  adds_matched position = matched AddTaken push_add pop_add adds (ap (λ course. owed_adds (own home course)) (first_none course)) add_step position

  -- The oldest Add that the home owes is the one that it took at this position.
  pub add_for : (position : ℕ) (moved : Moved) → at course position ≡ Some moved → (add : Msg) (later : List Msg)
      → owed_adds (own home (before course position)) ≡ add ∷ later
      → (taking : ℕ) × Serves events (memory_of cluster) home position taking × AddTaken add taking
  add_for position moved found add later is =
      head_taken position add later (ap owed_adds (past_now cluster turns lawful home position moved found) ∙ is) (adds_matched position)

  -- ---- old values

  -- the old value of the add that was served at a position
  pub record OldOf (due : Msg) (item_at : ℕ) : Type 0 where
    pub add : Msg
    pub later : List Msg
    pub frame : FrameId
    pub index : ℕ
    pub word : ℕ
    pub old : ℤ
    pub addend : ℤ
    pub done : Happens course home item_at (Did (item.Served frame index word old addend))
    pub oldest : owed_adds (own home (before course item_at)) ≡ add ∷ later
    pub served : events item_at ≡ log.Acts (add.sender) frame (log.Add word old addend)
    pub due_is : due ≡ from_me node (add.sender) (body.Added old)

  abbrev olds : ℕ → List Msg
  olds position = owed_olds node (own home (first position course))

  abbrev pop_old : ℕ → Bool
  pop_old position = gives_added home (events position)

  abbrev OldStep : ℕ → Type 0
  OldStep = Step OldOf pop_add pop_old olds

  old_did : (position : ℕ) (moved : Moved) (done : Item) → at course position ≡ Some moved → moved.node ≡ home → moved.event ≡ Did done → OldStep position
  unfolding owed_olds
  old_did position moved done found by is = on (serving_item home done)
    where
      next : olds (suc position) ≡ olds position ++ told_by node done (adds position)
      next = ap (owed_olds node) (past_next cluster turns lawful home position moved found by ∙ ap (λ event. event ∷ own home (first position course)) is)

      event_is : events position ≡ item_of cluster home (own home (before course position)) done
      event_is = event_here cluster turns lawful home position moved (Did done) found by is

      no_pop : pop_old position ≡ false
      no_pop = ap (gives_added home) event_is ∙ (item_no_message cluster home home events (own home (before course position)) done).no_added

      adds_now : adds position ≡ owed_adds (own home (before course position))
      adds_now = ap owed_adds (past_now cluster turns lawful home position moved found)

      by_adds : (frame : FrameId) (index word : ℕ) (old addend : ℤ) → done ≡ item.Served frame index word old addend → (owed : List Msg) → adds position ≡ owed
          → OldStep position
      by_adds frame index word old addend served [] none =
          let pushed = served_at_home position frame index word old addend
          (here cluster turns lawful home position moved (Did (item.Served frame index word old addend)) found by (is ∙ ap Did served)) in
          Kept no_pop (pushed ∙ ap (serves_other home) (sym adds_now ∙ none) ∙ own_add)
          (next ∙ ap (λ it. olds position ++ told_by node done it) none ∙ ap (λ it. olds position ++ told_by node it []) served ∙ append-nil (olds position))
      by_adds frame index word old addend served (add ∷ later) some =
          let pushed = served_at_home position frame index word old addend
          (here cluster turns lawful home position moved (Did (item.Served frame index word old addend)) found by (is ∙ ap Did served)) in
          let taken = head_taken position add later some (adds_matched position) in
          Pushed (from_me node (add.sender) (body.Added old)) no_pop
          (pushed ∙ ap (serves_other home) (sym adds_now ∙ some) ∙ owed_other add later (add_other add (taken.0) (taken.2)))
          (next ∙ ap (λ it. olds position ++ told_by node done it) some ∙ ap (λ it. olds position ++ told_by node it (add ∷ later)) served)
          (record {
            add = add;
            later = later;
            frame = frame;
            index = index;
            word = word;
            old = old;
            addend = addend;
            done = here cluster turns lawful home position moved (Did (item.Served frame index word old addend)) found by (is ∙ ap Did served);
            oldest = sym adds_now ∙ some;
            served =
                event_is ∙ ap (item_of cluster home (own home (before course position))) served
                ∙ ap (λ it. log.Acts (served_for home it) frame (log.Add word old addend)) (sym adds_now ∙ some);
            due_is = refl;
          })

      on : ((frame : FrameId) × (index word : ℕ) × (old addend : ℤ) × (done ≡ item.Served frame index word old addend))
          ⊎ ((frame : FrameId) (index word : ℕ) (old addend : ℤ) → done ≡ item.Served frame index word old addend → ⊥) → OldStep position
      on (inl served) = by_adds (served.0) (served.1) (served.2) (served.3) (served.4) (served.5) (adds position) refl
      on (inr none) =
          Kept no_pop (ap (serves (memory_of cluster) home) event_is ∙ served_here cluster home home (own home (before course position)) done none)
          (next ∙ ap (λ it. olds position ++ it) (olds_left node done (adds position) none) ∙ append-nil (olds position))

  old_sent : (position : ℕ) (moved : Moved) (message : Msg) → at course position ≡ Some moved → moved.node ≡ home → moved.event ≡ Sent message
      → OldStep position
  unfolding owed_olds
  old_sent position moved message found by is = on (tells_in message.body) refl
    where
      event_is : events position ≡ log.Post home message.receiver (note_of cluster home (before course position) message.body)
      event_is = event_here cluster turns lawful home position moved (Sent message) found by is

      popped : pop_old position ≡ tells_in message.body && eqb home home
      popped = ap (gives_added home) event_is ∙ tells_same cluster home home message.receiver (before course position) message.body

      next : olds (suc position) ≡ cond (tells_in message.body) (walking.rest_of (olds position)) (olds position)
      next = ap (owed_olds node) (past_next cluster turns lawful home position moved found by ∙ ap (λ event. event ∷ own home (first position course)) is)

      on : (b : Bool) → tells_in message.body ≡ b → OldStep position
      on true tells =
          Popped (popped ∙ ap (λ it. it && eqb home home) tells ∙ same_number home)
          (next ∙ ap (λ b. cond b (walking.rest_of (olds position)) (olds position)) tells)
      on false none =
          Kept (popped ∙ ap (λ it. it && eqb home home) none) (no_add_pop _ position event_is refl)
          (next ∙ ap (λ b. cond b (walking.rest_of (olds position)) (olds position)) none)

  old_step : (position : ℕ) → Matched OldOf (olds position) (queue pop_add pop_old position) → OldStep position
  unfolding owed_olds
  old_step position before_matched = on (at course position) refl
    where
      mine : (moved : Moved) → at course position ≡ Some moved → moved.node ≡ home → (event : Event) → moved.event ≡ event → OldStep position
      mine moved found by (Did done) is = old_did position moved done found by is
      mine moved found by (Sent message) is = old_sent position moved message found by is
      mine moved found by (Took message) is =
          let event_is = event_here cluster turns lawful home position moved (Took message) found by is in
          Kept (ap (gives_added home) event_is) (no_add_pop _ position event_is refl)
          (ap (owed_olds node) (past_next cluster turns lawful home position moved found by ∙ ap (λ event. event ∷ own home (first position course)) is))
      mine moved found by (Ended end) is =
          let event_is = event_here cluster turns lawful home position moved (Ended end) found by is in
          Kept (ap (gives_added home) event_is) (no_add_pop _ position event_is refl)
          (ap (owed_olds node) (past_next cluster turns lawful home position moved found by ∙ ap (λ event. event ∷ own home (first position course)) is))

      whose : (moved : Moved) → at course position ≡ Some moved → (b : Bool) → eqb moved.node home ≡ b → OldStep position
      whose moved found true by = mine moved found (grind (arith, nat_tests)) moved.event refl
      whose moved found false other =
          Kept (ap (gives_added home) (event_of_moved cluster turns lawful home position moved found)
          ∙ (other_no_message cluster home moved.node events (before course position) moved.message moved.event other).no_added)
          (served_elsewhere position moved found other moved.event refl)
          (ap (owed_olds node) (past_other cluster turns lawful home position moved found other))

      on : (option : Option Moved) → at course position ≡ option → OldStep position
      on None none =
          let event_is = nothing_there cluster turns lawful home position none in
          Kept (ap (gives_added home) event_is) (no_add_pop _ position event_is refl) (ap (owed_olds node) (past_same cluster turns lawful home position none))
      on (Some moved) found = whose moved found (eqb moved.node home) refl

  -- An old value that is told is that of the add that was served at this position.
  pub old_for : (position : ℕ) (message : Msg) (old : ℤ) → Happens course home position (Sent message) → message.body ≡ body.Added old
      → (item_at : ℕ) × Tells events (memory_of cluster) home position item_at × OldOf (from_me node message.receiver (body.Added old)) item_at
  unfolding owed_olds
  old_for position message old happens is =
      let may = added_allowed cluster turns lawful home position message old happens is in
      let all = matched OldOf pop_add pop_old olds (ap (λ course. owed_olds node (own home course)) (first_none course)) old_step position in
      let same : olds position ≡ from_me node message.receiver (body.Added old) ∷ may.later =
      ap (owed_olds node) (past_now cluster turns lawful home position (happens.moved) (happens.is)) ∙ may.oldest in
      head_of OldOf pop_add pop_old olds position (olds position) (from_me node message.receiver (body.Added old)) (may.later) all same
