-- A parked frame becomes ready only where each child that was separated from it has told its return to its join.
use Rattle.std.proofs.Common.{◌≡◌, ◌≢◌, ◌⊎◌, inl, inr, ◌<◌, ◌≤◌, ℕ, zero, suc, List, [], ◌∷◌, Option, Some, None, Bool, true, false, cond, eqb, leb, ◌||◌, length, refl, sym, ◌∙◌, ap, subst, arith}
use Rattle.std.proofs.lemmas.Bool.Decides.{nat_tests}
use Rattle.std.specs.List.{list_any}
use Rattle.page_messages.specs.declared.closure.FrameId.{FrameId}
use Rattle.page_messages.specs.declared.message.Msg.{Msg}
use Rattle.page_messages.specs.declared.message.Body.{Body}
use Rattle.page_messages.specs.declared.message.Body.TheVariants as body
use Rattle.page_messages.specs.declared.log.LoggedAct.{LoggedAct}
use Rattle.page_messages.specs.declared.log.LoggedAct.TheVariants as act
use Rattle.page_messages.specs.declared.log.Item.{Item}
use Rattle.page_messages.specs.declared.log.Item.TheVariants as item
use Rattle.page_messages.specs.declared.log.PostAt.{PostAt}
use Rattle.cluster_rules.specs.Turns.{Event, Did, Sent, Took, Ended}
use Rattle.cluster_rules.specs.Lives.{Life, same_frame}
use Rattle.cluster_rules.specs.Frames.{frames_of, stack_of}
use Rattle.cluster_rules.specs.Positions.{Moved, Course, own, at, before}
use Rattle.cluster_rules.specs.Runs.{Cluster, node_at}
use Rattle.cluster_rules.proofs.Marks.{same_name}
use Rattle.cluster_rules.proofs.Stepping.{Stepped}
use Rattle.backer_order.specs.Log as log
use Rattle.backer_order.specs.Log.{Events, Post, Park}
use Rattle.backer_order.specs.Edges as edge
use Rattle.backer_order.specs.Edges.{Stacks, away_after, HasDone}
use Rattle.backer_order.specs.Ready.{Stage, Flying, Ready, Stages}
use Rattle.cluster_order.specs.Reading.{note_of, happens_to, event_of, events_of}
use Rattle.cluster_order.specs.Standing.{first, stacks_of}
use Rattle.cluster_order.proofs.Growing.{within, before_grown, before_last, before_behind, at_behind, at_last}
use Rattle.cluster_order.proofs.Events.{event_at, posted_is, park_is}
use Rattle.cluster_edges.specs.Stages.{frame_in, takes_up, since_position, stage_on, stage_of, stage_sent, stage_by, stages_of}
use Rattle.cluster_edges.proofs.Firsts.{first_next, first_stays, first_grown, at_first, at_whole, before_position, stepped_first}
use Rattle.cluster_edges.proofs.OnePlace.{no_past, less_or_not}
use Rattle.cluster_edges.proofs.Ties.{Among, gone_on, gone_item, gone_body, Gone, Tells, Told, Parks, Parking, tie_of, IsNoted, Lying, AllLying, Tied}
use Rattle.cluster_edges.proofs.Tying.{tied_all}
use Rattle.cluster_edges.proofs.Births.{bears_once}
use Rattle.cluster_edges.proofs.Alone.{lonely}

-- ---- frames and what they keep, in every run

pub tied : (cluster : Cluster) (course : Course) → Stepped cluster course → Tied cluster course
tied cluster course stepped = tied_all cluster (bears_once cluster) (lonely cluster) course stepped

-- ---- separated children

module _ (cluster : Cluster) (stack : Stacks) (now : ℕ) (course earlier : Course) (node : ℕ) (IsAway IsGone : FrameId → FrameId → Type 0)
    (frame child : FrameId)
    (so : IsAway frame child → IsGone frame child) (stack_is : stack now node ≡ stacks_of cluster course now node) where
  gone_act : (done : LoggedAct) (actor : FrameId) (index : ℕ)
      → away_after stack now (happens_to cluster earlier node None (Did (item.Act actor index done))) IsAway frame child
      → gone_item (item.Act actor index done) IsGone frame child
  gone_act (act.Read word value) actor index away = so away
  gone_act (act.Write word value) actor index away = so away
  gone_act (act.Print value) actor index away = so away
  gone_act (act.Spawn spawned procedure arguments) actor index away = so away
  gone_act act.Sync actor index away = (so away.0, away.1)

  gone_did : (done : Item) → away_after stack now (happens_to cluster earlier node None (Did done)) IsAway frame child → gone_item done IsGone frame child
  gone_did (item.Act actor index act) away = gone_act act actor index away
  gone_did (item.Tick other) away = so away
  gone_did (item.Drop page) away = so away
  gone_did (item.TakeUp other) away = so away
  gone_did (item.OwnFetch page words) away = so away
  gone_did (item.OwnReconcile part) away = so away
  gone_did (item.Served other index word old addend) away = so away

  gone_sent : (receiver : ℕ) (said : Body) → away_after stack now (Post node receiver (note_of cluster node earlier said)) IsAway frame child
      → gone_body said (stack_of (node_at cluster node) (own node (first now course))) IsGone frame child
  gone_sent receiver (body.Fetch page) away = so away
  gone_sent receiver (body.Page page words) away = so away
  gone_sent receiver (body.Reconcile parts) away = so away
  gone_sent receiver body.Ack away = so away
  gone_sent receiver body.Ask away = so away
  gone_sent receiver (body.Grant closure) (inl away) = inl (so away)
  gone_sent receiver (body.Grant closure) (inr both) = inr (both.0, (both.1.front, sym stack_is ∙ both.1.is))
  gone_sent receiver body.Refuse away = so away
  gone_sent receiver (body.Done join index value) away = so away
  gone_sent receiver (body.Park join closure) away = so away
  gone_sent receiver (body.Add asker index word addend) away = so away
  gone_sent receiver (body.Added old) away = so away

  gone_event : (event : Event) (place : Option PostAt) → away_after stack now (happens_to cluster earlier node place event) IsAway frame child
      → gone_on event (stack_of (node_at cluster node) (own node (first now course))) IsGone frame child
  gone_event (Did item) place away = gone_did item away
  gone_event (Sent message) place away = gone_sent message.receiver message.body away
  gone_event (Took message) place away = so away
  gone_event (Ended end) place away = so away

pub away_gone : (cluster : Cluster) (course : Course) (now : ℕ) (frame child : FrameId)
    → edge.Away (events_of cluster course) (stacks_of cluster course) now frame child
    → Gone cluster (first now course) frame child
unfolding edge.Away
away_gone cluster course zero frame child away = absurd away
away_gone cluster course (suc now) frame child away = on (at course now) refl (away_gone cluster course now frame child)
  where
    on : (here : Option Moved) → at course now ≡ here
        → (edge.Away (events_of cluster course) (stacks_of cluster course) now frame child → Gone cluster (first now course) frame child)
        → Gone cluster (first (suc now) course) frame child
    on None none so =
        let nothing : events_of cluster course now ≡ log.Nothing = ap (event_of cluster (before course now)) none in
        let older =
        subst (λ event. away_after (stacks_of cluster course) now event (edge.Away (events_of cluster course) (stacks_of cluster course) now) frame child)
        nothing away in
        subst (λ it. Gone cluster it frame child) (sym (first_stays course now none)) (so older)
    on (Some moved) found so =
        let is = event_at cluster course now moved found in
        let after = subst (λ event. away_after (stacks_of cluster course) now event
        (edge.Away (events_of cluster course) (stacks_of cluster course) now) frame child) is away in
        subst (λ it. Gone cluster it frame child) (sym (first_next course now moved found))
        (gone_event cluster (stacks_of cluster course) now course (before course now) moved.node
        (edge.Away (events_of cluster course) (stacks_of cluster course) now) (Gone cluster (first now course))
        frame child so refl moved.event moved.message after)

-- ---- told returns

pub record TellsAt (cluster : Cluster) (course : Course) (frame child : FrameId) : Type 0 where
  pub position : ℕ
  pub moved : Moved
  pub found : at course position ≡ Some moved
  pub tells : Tells cluster (before course position) moved frame child

told_at : (cluster : Cluster) (course : Course) (frame child : FrameId) → Told cluster course frame child → TellsAt cluster course frame child
told_at cluster [] frame child told = absurd told
told_at cluster (moved ∷ course) frame child (inl tells) = record {
  position = length course;
  moved = moved;
  found = at_last moved course;
  tells = subst (λ it. Tells cluster it moved frame child) (sym (before_last moved course)) tells;
}
told_at cluster (moved ∷ course) frame child (inr told) =
    let it = told_at cluster course frame child told in
    let less = within course it.position it.moved it.found in
    record {
      position = it.position;
      moved = it.moved;
      found = at_behind (moved ∷ []) course it.position less ∙ it.found;
      tells = subst (λ earlier. Tells cluster earlier it.moved frame child) (sym (before_behind (moved ∷ []) course it.position less)) it.tells;
    }

told_done : (cluster : Cluster) (course : Course) (now : ℕ) (frame child : FrameId) → Told cluster (first now course) frame child
    → HasDone (events_of cluster course) now frame child
told_done cluster course now frame child told =
    let it = told_at cluster (first now course) frame child told in
    let found = at_whole course now it.position it.moved it.found in
    let less = within (first now course) it.position it.moved it.found in
    let earlier : before course it.position ≡ before (first now course) it.position =
    before_grown (first now course) course (first_grown now course) it.position less in
    let tells : Tells cluster (before course it.position) it.moved frame child =
    subst (λ past. Tells cluster past it.moved frame child) (sym earlier) it.tells in
    record {
      post = it.position;
      sender = it.moved.node;
      receiver = tells.0.receiver;
      is =
          event_at cluster course it.position it.moved found
          ∙ ap (λ event. happens_to cluster (before course it.position) it.moved.node it.moved.message event) tells.1
          ∙ ap (Post it.moved.node tells.0.receiver) tells.2;
      before = before_position course now it.position it.moved it.found;
    }

-- ---- the stage of a parked frame

either : (first second : Bool) → first || second ≡ false → (first ≡ false) × (second ≡ false)
either true second none = absurd (cc)
either false second none = (refl, none)

parking_on : (frame : FrameId) (post : ℕ) (moved top : Moved) (course : Course) (b : Bool) → eqb post (length course) ≡ b
    → cond b (Some top) (at course post) ≡ Some moved → Parks frame moved.event
    → list_any (takes_up frame) (since_position post (top ∷ course)) ≡ false
    → (at course post ≡ Some moved → list_any (takes_up frame) (since_position post course) ≡ false → Parking frame course) → Parking frame (top ∷ course)
parking_on frame post moved top course true is found parks none rest =
    let same : top ≡ moved = cc in inl (subst (λ (it : Moved). Parks frame it.event) (sym same) parks)
parking_on frame post moved top course false is found parks none rest =
    let less = within course post moved found in
    let not : leb (length course) post ≡ false = grind (arith, nat_tests) in
    let since : since_position post (top ∷ course) ≡ top ∷ since_position post course = rw (not, since_position) refl in
    let both = either (takes_up frame top) (list_any (takes_up frame) (since_position post course)) (sym (ap (list_any (takes_up frame)) since) ∙ none) in
    inr (rest found both.1, both.0)

-- parked, and not taken up since
parking_since : (frame : FrameId) (post : ℕ) (moved : Moved) (course : Course) → at course post ≡ Some moved → Parks frame moved.event
    → list_any (takes_up frame) (since_position post course) ≡ false → Parking frame course
parking_since frame post moved [] found parks none = absurd (cc)
parking_since frame post moved (top ∷ course) found parks none =
    parking_on frame post moved top course (eqb post (length course)) refl found parks none
    (λ older since. parking_since frame post moved course older parks since)

any_lies : (cluster : Cluster) (course : Course) (frame : FrameId) (lives : List Life) → AllLying cluster course lives
    → list_any (λ life. same_frame life.id frame) lives ≡ true
    → (life : Life) × (life.id ≡ frame) × Lying cluster course (tie_of life)
any_lies cluster course frame [] all any = absurd (cc)
any_lies cluster course frame (life ∷ lives) all any = on (same_frame life.id frame) refl any (any_lies cluster course frame lives all.1)
  where
    on : (b : Bool) → same_frame life.id frame ≡ b → b || list_any (λ life. same_frame life.id frame) lives ≡ true
        → (list_any (λ life. same_frame life.id frame) lives ≡ true → (life : Life) × (life.id ≡ frame) × Lying cluster course (tie_of life))
        → (life : Life) × (life.id ≡ frame) × Lying cluster course (tie_of life)
    on true is any rest = (life, same_name life.id frame is, all.0)
    on false is any rest = rest any

ready_on : (up ready : Bool) → stage_on up ready ≡ Ready → (up ≡ false) × (ready ≡ true)
ready_on true ready is = absurd (cc)
ready_on false true is = (refl, refl)
ready_on false false is = absurd (cc)

later_on : (now post : ℕ) (stage : Stage) (b : Bool) → leb now post ≡ b → cond b Flying stage ≡ Ready → stage ≡ Ready
later_on now post stage true less is = absurd (cc)
later_on now post stage false less is = is

idle_ready : (cluster : Cluster) (number : ℕ) → (frames_of (node_at cluster number) []).ready ≡ []
unfolding frames_of
idle_ready cluster number = refl

-- ---- every run

module _ (cluster : Cluster) (course : Course) (stepped : Stepped cluster course) where
  abbrev events : Events
  events = events_of cluster course

  abbrev stack : Stacks
  stack = stacks_of cluster course

  abbrev stage : Stages
  stage = stages_of cluster course

  stepped_now : (now : ℕ) → Stepped cluster (first now course)
  stepped_now now = stepped_first cluster course now stepped

  -- a frame on the ready list of a node
  ready_lies : (now node : ℕ) (frame : FrameId)
      → list_any (λ (life : Life). same_frame life.id frame) ((frames_of (node_at cluster node) (own node (first now course))).ready) ≡ true
      → (life : Life) × (life.id ≡ frame) × Lying cluster (first now course) (tie_of life)
  ready_lies now node frame any = on (less_or_not node cluster.config.nodes)
    where
      on : (node < cluster.config.nodes) ⊎ (cluster.config.nodes ≤ node) → (life : Life) × (life.id ≡ frame) × Lying cluster (first now course) (tie_of life)
      on (inl less) =
          let keeps = (tied cluster (first now course) (stepped_now now)).nodes node less in
          any_lies cluster (first now course) frame ((frames_of (node_at cluster node) (own node (first now course))).ready) keeps.ready any
      on (inr more) =
          let none : (frames_of (node_at cluster node) (own node (first now course))).ready ≡ [] =
          ap (λ past. (frames_of (node_at cluster node) past).ready) (no_past cluster (first now course) (stepped_now now) node more)
          ∙ idle_ready cluster node in
          let never : list_any (λ (life : Life). same_frame life.id frame) [] ≡ true =
          subst (λ lives. list_any (λ (life : Life). same_frame life.id frame) lives ≡ true) none any in
          absurd (cc)

  ready_told : (now node : ℕ) (frame child : FrameId) → Parking frame (first now course)
      → (life : Life) × (life.id ≡ frame) × Lying cluster (first now course) (tie_of life) → Gone cluster (first now course) frame child
      → Told cluster (first now course) frame child
  ready_told now node frame child parking it gone =
      let none : it.0.away ≡ [] = it.2.complete (subst (λ id. Parking id (first now course)) (sym it.1) parking) in
      on none (it.2.fits.waits child (subst (λ id. Gone cluster (first now course) id child) (sym it.1) gone))
    where
      on : it.0.away ≡ [] → Told cluster (first now course) it.0.id child ⊎ IsNoted (first now course) it.0.id it.0.away child
          → Told cluster (first now course) frame child
      on none (inl told) = subst (λ id. Told cluster (first now course) id child) it.1 told
      on none (inr noted) = absurd (subst (Among noted.entry) none noted.among)

  -- Where a frame that was parked is ready, each child that was separated from it has told its return.
  pub ready_complete : (now post node sender : ℕ) (frame child : FrameId) → events post ≡ Post sender node (Park frame) → stage now post ≡ Ready
      → edge.Away events stack now frame child → HasDone events now frame child
  ready_complete now post node sender frame child is ready away =
      let posted = posted_is cluster course post sender node (Park frame) is in
      let message = posted.1 in
      let found = posted.2 in
      let park = park_is cluster sender (before course post) frame message.body posted.4 in
      let brings : frame_in message.body ≡ Some frame = ap frame_in park.2 ∙ ap Some park.3 in
      let later = later_on now post (stage_by cluster (first now course) post (at course post)) (leb now post) refl ready in
      let staged : stage_by cluster (first now course) post (at course post) ≡ stage_of cluster (first now course) post node frame =
      ap (stage_by cluster (first now course) post) found.is ∙ stage_sends (first now course) post found.moved message node found.event_is posted.3 brings in
      let both = ready_on _ _ (sym staged ∙ later) in
      let parks : Parks frame found.moved.event = (message, park.0, park.1, found.event_is, park.2, park.3) in
      let parking = parking_since frame post found.moved (first now course)
      (at_first course now post found.moved (before_now now post (leb now post) refl ready) found.is) parks both.0 in
      told_done cluster course now frame child
      (ready_told now node frame child parking (ready_lies now node frame both.1) (away_gone cluster course now frame child away))
    where
      stage_sends : (earlier : Course) (post : ℕ) (moved : Moved) (message : Msg) (node : ℕ) → moved.event ≡ Sent message → message.receiver ≡ node
          → frame_in message.body ≡ Some frame
          → stage_by cluster earlier post (Some moved) ≡ stage_of cluster earlier post node frame
      stage_sends earlier post moved message node is to brings =
          rw is (ap (stage_sent cluster earlier post message.receiver) brings ∙ ap (λ it. stage_of cluster earlier post it frame) to)

      before_now : (now post : ℕ) (b : Bool) → leb now post ≡ b → cond b Flying (stage_by cluster (first now course) post (at course post)) ≡ Ready → post < now
      before_now now post true less is = absurd (cc)
      before_now now post false less is = grind (arith, nat_tests)

  -- So where it becomes ready.
  pub complete : (now post node sender : ℕ) (frame child : FrameId) → events post ≡ Post sender node (Park frame) → stage now post ≢ Ready
      → stage (suc now) post ≡ Ready → edge.Away events stack (suc now) frame child → HasDone events (suc now) frame child
  complete now post node sender frame child is not ready away = ready_complete (suc now) post node sender frame child is ready away
