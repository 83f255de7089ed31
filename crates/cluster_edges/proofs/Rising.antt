-- The rules for the ready list: what is taken up was ready, and is up from then on; what is parked is not ready at once.
use Rattle.std.proofs.Common.{◌≡◌, ◌≢◌, ◌⊎◌, inl, inr, ℕ, suc, ◌<◌, List, ◌∷◌, Option, Some, None, is_some, Bool, true, false, cond, leb, length, refl, sym, ◌∙◌, ap, subst, arith}
use Rattle.std.proofs.lemmas.Bool.Decides.{nat_tests}
use Rattle.std.specs.List.{list_any}
use Rattle.page_messages.specs.declared.closure.FrameId.{FrameId}
use Rattle.page_messages.specs.declared.closure.JoinId.{JoinId}
use Rattle.page_messages.specs.declared.closure.Closure.{Closure}
use Rattle.page_messages.specs.declared.message.Msg.{Msg}
use Rattle.page_messages.specs.declared.message.Body.TheVariants as body
use Rattle.page_messages.specs.declared.log.Item.{Item}
use Rattle.page_messages.specs.declared.log.Item.TheVariants as item
use Rattle.page_messages.specs.declared.log.PostAt.{PostAt}
use Rattle.cluster_rules.specs.Turns.{Event, Did, Sent, Took, Ended, Past}
use Rattle.cluster_rules.specs.Node.{Node}
use Rattle.cluster_rules.specs.Lives.{Life, same_frame}
use Rattle.cluster_rules.specs.Frames.{frames_of}
use Rattle.cluster_rules.specs.Paging.{MayTakeUp}
use Rattle.cluster_rules.specs.Positions.{Moved, Course, own, at, before}
use Rattle.cluster_rules.specs.Runs.{Cluster, node_at, IsFree, IsOwed, MayDo}
use Rattle.cluster_rules.specs.Allowed.{IsAllowed, DoesItem}
use Rattle.cluster_rules.proofs.Stepping.{Stepped}
use Rattle.cluster_rules.proofs.Marks.{same_self}
use Rattle.cluster_rules.proofs.Holding.{own_first, own_other}
use Rattle.cluster_rules.proofs.Summing.{one_or_two}
use Rattle.backer_order.specs.Log.{Events, Post, TakeUp, Grant, Park}
use Rattle.backer_order.specs.Ready.{Flying, Ready, Up, Stages, Rises}
use Rattle.cluster_order.specs.Reading.{events_of}
use Rattle.cluster_order.specs.Standing.{first}
use Rattle.cluster_order.proofs.Events.{took_up_is, posted_is, park_is}
use Rattle.cluster_edges.specs.Stages.{frame_in, takes_up, since_position, stage_on, stage_of, stage_sent, stage_by, stages_of}
use Rattle.cluster_edges.proofs.News.{News, ByGrant, ByPark, IsUp, news_on, last_news}
use Rattle.cluster_edges.proofs.Through.{EachLife}
use Rattle.cluster_edges.proofs.Placed.{OnStack, OnReady}
use Rattle.cluster_edges.proofs.Counted.{counted_some}
use Rattle.cluster_edges.proofs.Bringing.{brought}
use Rattle.cluster_edges.proofs.OnePlace.{one_place}
use Rattle.cluster_edges.proofs.Moving.{may_post}
use Rattle.cluster_edges.proofs.Sending.{park_count}
use Rattle.cluster_edges.proofs.Firsts.{first_count, first_next, first_stays, at_whole, before_position, stepped_first, step_at}
use Rattle.cluster_edges.proofs.Saying.{Says, SaysPark, says, Said, said, grant_event, park_event}
use Rattle.cluster_edges.proofs.Staging.{any_life, since_next, since_none, untaken, any_first, any_rest_on, grant_stage, park_stage, stage_later}

taken_item : (node : Node) (past : Past) (frame : FrameId) (rest : List Item) (posts : List Msg)
    → IsOwed node past (item.TakeUp frame) ⊎ (IsFree past × MayDo node past (item.TakeUp frame) rest posts)
    → MayTakeUp node past frame rest
taken_item node past frame rest posts (inl owed) = absurd owed
taken_item node past frame rest posts (inr both) = both.1

takes_itself : (frame : FrameId) (moved : Moved) → moved.event ≡ Did (item.TakeUp frame) → takes_up frame moved ≡ true
takes_itself frame moved is = rw (is, same_self frame) refl

-- ---- stages that stay

up_on : (taken ready : Bool) → stage_on taken ready ≡ Up → taken ≡ true
up_on true ready is = refl
up_on false true is = absurd (cc)
up_on false false is = absurd (cc)

module _ (cluster : Cluster) (course : Course) (post : ℕ) (less : post < length course) (moved : Moved) where
  -- what was taken up stays so
  of_stays : (receiver : ℕ) (frame : FrameId) → stage_of cluster course post receiver frame ≡ Up → stage_of cluster (moved ∷ course) post receiver frame ≡ Up
  of_stays receiver frame is =
      let taken = up_on (list_any (takes_up frame) (since_position post course))
      (list_any (λ life. same_frame life.id frame) ((frames_of (node_at cluster receiver) (own receiver course)).ready)) is in
      let still : list_any (takes_up frame) (since_position post (moved ∷ course)) ≡ true =
      ap (list_any (takes_up frame)) (since_next post moved course less)
      ∙ any_rest_on (takes_up frame moved) (list_any (takes_up frame) (since_position post course)) taken in
      ap (λ b. stage_on b (list_any (λ life. same_frame life.id frame) ((frames_of (node_at cluster receiver) (own receiver (moved ∷ course))).ready))) still

  -- it is up where it is taken up
  pub of_up : (receiver : ℕ) (frame : FrameId) → moved.event ≡ Did (item.TakeUp frame) → stage_of cluster (moved ∷ course) post receiver frame ≡ Up
  of_up receiver frame is =
      let still : list_any (takes_up frame) (since_position post (moved ∷ course)) ≡ true =
      ap (list_any (takes_up frame)) (since_next post moved course less)
      ∙ any_first (takes_up frame) moved (since_position post course) (takes_itself frame moved is) in
      ap (λ b. stage_on b (list_any (λ life. same_frame life.id frame) ((frames_of (node_at cluster receiver) (own receiver (moved ∷ course))).ready))) still

  sent_stays : (receiver : ℕ) (frame : Option FrameId) → stage_sent cluster course post receiver frame ≡ Up
      → stage_sent cluster (moved ∷ course) post receiver frame ≡ Up
  sent_stays receiver None is = absurd (cc)
  sent_stays receiver (Some frame) is = of_stays receiver frame is

  event_stays : (number : ℕ) (event : Event) (here : Option PostAt)
      → stage_by cluster course post (Some (record { node = number; event = event; message = here })) ≡ Up
      → stage_by cluster (moved ∷ course) post (Some (record { node = number; event = event; message = here })) ≡ Up
  event_stays number (Did done) here is = absurd (cc)
  event_stays number (Sent message) here is = sent_stays message.receiver (frame_in message.body) is
  event_stays number (Took message) here is = absurd (cc)
  event_stays number (Ended end) here is = absurd (cc)

  pub by_stays : (sent : Option Moved) → stage_by cluster course post sent ≡ Up → stage_by cluster (moved ∷ course) post sent ≡ Up
  by_stays None is = absurd (cc)
  by_stays (Some sent) is = event_stays sent.node sent.event sent.message is

-- ---- lawful turns

module _ (cluster : Cluster) (course : Course) (stepped : Stepped cluster course) where
  abbrev events : Events
  events = events_of cluster course

  abbrev stage : Stages
  stage = stages_of cluster course

  stays_on : (now post : ℕ) (here : Option Moved) → at course now ≡ here → (b : Bool) → leb now post ≡ b
      → cond b Flying (stage_by cluster (first now course) post (at course post)) ≡ Up → stage (suc now) post ≡ Up
  stays_on now post here found true is up = absurd (cc)
  stays_on now post None found false is up =
      let not : leb (suc now) post ≡ false = grind (arith, nat_tests) in
      rw not (ap (λ it. stage_by cluster it post (at course post)) (first_stays course now found) ∙ up)
  stays_on now post (Some moved) found false is up =
      let not : leb (suc now) post ≡ false = grind (arith, nat_tests) in
      let count = first_count course now moved found in
      let less : post < length (first now course) = grind (arith, nat_tests) in
      rw not (ap (λ it. stage_by cluster it post (at course post)) (first_next course now moved found)
      ∙ by_stays cluster (first now course) post less moved (at course post) up)

  -- what is up stays so
  pub stays_up : (now post : ℕ) → stage now post ≡ Up → stage (suc now) post ≡ Up
  stays_up now post up = stays_on now post (at course now) refl (leb now post) refl up

  -- ---- take-ups

  -- what is on the ready list was sent to the node
  sent_news : (node : ℕ) (frame : FrameId) (join : Option JoinId) (earlier : Course) → OnReady cluster node earlier frame join
      → (last_news frame earlier ≡ Some (ByGrant node)) ⊎ (last_news frame earlier ≡ Some (ByPark node))
  sent_news node frame join earlier ready = on ready.news
    where
      on : ((join ≡ None) × (last_news frame earlier ≡ Some (ByPark node))) ⊎ ((is_some join ≡ true) × (last_news frame earlier ≡ Some (ByGrant node)))
          → (last_news frame earlier ≡ Some (ByGrant node)) ⊎ (last_news frame earlier ≡ Some (ByPark node))
      on (inl both) = inr both.1
      on (inr both) = inl both.1

  -- The first frame of the ready list is taken up.
  record Takes (now node : ℕ) (frame : FrameId) : Type 0 where
    pub moved : Moved
    pub is : at course now ≡ Some moved
    pub event_is : moved.event ≡ Did (item.TakeUp frame)
    pub life : Life
    pub younger : List Life
    pub oldest : (frames_of (node_at cluster node) (own node (first now course))).ready ≡ life ∷ younger
    pub named : frame ≡ life.id

  takes_on : (now node : ℕ) (frame : FrameId) (moved : Moved) → at course now ≡ Some moved → moved.event ≡ Did (item.TakeUp frame)
      → DoesItem (node_at cluster node) (own node (first now course)) (item.TakeUp frame) → Takes now node frame
  takes_on now node frame moved found event_is does =
      let may = taken_item (node_at cluster node) (own node (first now course)) frame does.rest does.posts does.may in
      record { moved = moved; is = found; event_is = event_is; life = may.life; younger = may.younger; oldest = may.oldest; named = may.named }

  takes_at : (now node : ℕ) (frame : FrameId) → events now ≡ TakeUp node frame → Takes now node frame
  takes_at now node frame is =
      let happens = took_up_is cluster course now node frame is in
      let step = step_at cluster course now happens.moved stepped happens.is in
      takes_on now node frame happens.moved happens.is happens.event_is
      (subst (λ event. IsAllowed (node_at cluster node) (own node (first now course)) event) happens.event_is
      (subst (λ it. IsAllowed (node_at cluster it) (own it (first now course)) happens.moved.event) happens.by step.allowed))

  ready_stage : (now post node : ℕ) (frame : FrameId) (takes : Takes now node frame)
      → ((later : ℕ) (other : Moved) → post < later → at (first now course) later ≡ Some other → news_on frame other ≡ None)
      → stage_of cluster (first now course) post node frame ≡ Ready
  ready_stage now post node frame takes none =
      let untaken_since : list_any (takes_up frame) (since_position post (first now course)) ≡ false =
      since_none frame post (first now course) (λ later other behind found. untaken frame other (none later other behind found)) in
      let here : list_any (λ life. same_frame life.id frame) ((frames_of (node_at cluster node) (own node (first now course))).ready) ≡ true =
      ap (list_any (λ life. same_frame life.id frame)) takes.oldest
      ∙ any_first (λ life. same_frame life.id frame) takes.life takes.younger
      (subst (λ it. same_frame takes.life.id it ≡ true) (sym takes.named) (same_self takes.life.id)) in
      rw (untaken_since, here) refl

  rises_by : (now node : ℕ) (frame : FrameId) (news : News) (takes : Takes now node frame) (it : Said frame news (first now course))
      → (events it.post ≡ Post it.moved.node node (Grant frame)) ⊎ (events it.post ≡ Post it.moved.node node (Park frame))
      → ((later : Course) → stage_by cluster later it.post (Some it.moved) ≡ stage_of cluster later it.post node frame)
      → Rises events stage now node frame
  rises_by now node frame news takes it sends stage_is =
      let less = before_position course now it.post it.moved it.is in
      let found = at_whole course now it.post it.moved it.is in
      let count = first_count course now takes.moved takes.is in
      let inside : it.post < length (first now course) = omega (arith, less, count) in
      record {
        post = it.post;
        before = less;
        sends = (it.moved.node, sends);
        ready = stage_later cluster course now it.post it.moved less found ∙ stage_is (first now course) ∙ ready_stage now it.post node frame takes it.none;
        up = stage_later cluster course (suc now) it.post it.moved (omega (arith, less)) found ∙ stage_is (first (suc now) course)
            ∙ ap (λ later. stage_of cluster later it.post node frame) (first_next course now takes.moved takes.is)
            ∙ of_up cluster (first now course) it.post inside takes.moved node frame takes.event_is;
      }

  rises_on : (now node : ℕ) (frame : FrameId) → Takes now node frame
      → (last_news frame (first now course) ≡ Some (ByGrant node)) ⊎ (last_news frame (first now course) ≡ Some (ByPark node))
      → Rises events stage now node frame
  rises_on now node frame takes (inl is) =
      let it = said frame (ByGrant node) (first now course) is in
      let sent = says frame it.moved (ByGrant node) it.says in
      rises_by now node frame (ByGrant node) takes it
      (inl (grant_event cluster course it.post it.moved frame node (at_whole course now it.post it.moved it.is) sent))
      (λ later. grant_stage cluster later it.post it.moved frame node sent)
  rises_on now node frame takes (inr is) =
      let it = said frame (ByPark node) (first now course) is in
      let sent = says frame it.moved (ByPark node) it.says in
      rises_by now node frame (ByPark node) takes it
      (inr (park_event cluster course it.post it.moved frame node (at_whole course now it.post it.moved it.is) sent))
      (λ later. park_stage cluster later it.post it.moved frame node sent)

  -- what is taken up was sent to the node, and was ready
  pub up : (now node : ℕ) (frame : FrameId) → events now ≡ TakeUp node frame → Rises events stage now node frame
  up now node frame is =
      let takes = takes_at now node frame is in
      let before = (brought cluster (first now course) (stepped_first cluster course now stepped)).frames node in
      let all : EachLife (OnReady cluster node (first now course)) (takes.life ∷ takes.younger) =
      subst (EachLife (OnReady cluster node (first now course))) takes.oldest before.ready in
      rises_on now node frame takes (sent_news node frame takes.life.join (first now course)
      (subst (λ it. OnReady cluster node (first now course) it takes.life.join) (sym takes.named) all.0))

  -- ---- Parks

  ready_on : (cluster : Cluster) (node : Node) (message : Msg) (past : Past) → (frames_of node (Sent message ∷ past)).ready ≡ (frames_of node past).ready
  unfolding frames_of
  ready_on cluster node message past = refl

  ready_kept : (earlier : Course) (moved : Moved) (message : Msg) → moved.event ≡ Sent message → (number : ℕ) → (moved.node ≡ number) ⊎ (moved.node ≢ number)
      → (frames_of (node_at cluster number) (own number (moved ∷ earlier))).ready ≡ (frames_of (node_at cluster number) (own number earlier)).ready
  ready_kept earlier moved message is number (inl same) =
      subst (λ it. (frames_of (node_at cluster it) (own it (moved ∷ earlier))).ready ≡ (frames_of (node_at cluster it) (own it earlier)).ready) same
      (ap (λ past. (frames_of (node_at cluster moved.node) past).ready) (own_first moved earlier ∙ ap (λ event. event ∷ own moved.node earlier) is)
      ∙ ready_on cluster (node_at cluster moved.node) message (own moved.node earlier))
  ready_kept earlier moved message is number (inr other) =
      ap (λ past. (frames_of (node_at cluster number) past).ready) (own_other number moved earlier (λ same. other (sym same)))

  not_both : (frame : FrameId) (node sender : ℕ) (earlier : Course) → (last_news frame earlier ≡ None) ⊎ (last_news frame earlier ≡ Some (IsUp sender))
      → (last_news frame earlier ≡ Some (ByGrant node)) ⊎ (last_news frame earlier ≡ Some (ByPark node)) → ⊥
  not_both frame node sender earlier (inl one) (inl two) = absurd (cc)
  not_both frame node sender earlier (inl one) (inr two) = absurd (cc)
  not_both frame node sender earlier (inr one) (inl two) = absurd (cc)
  not_both frame node sender earlier (inr one) (inr two) = absurd (cc)

  -- a frame that is parked is not ready then
  not_listed : (post node sender : ℕ) (closure : Closure) (join : JoinId) (moved : Moved) (message : Msg) → at course post ≡ Some moved → moved.node ≡ sender
      → moved.event ≡ Sent message
      → message.body ≡ body.Park join closure
      → list_any (λ life. same_frame life.id closure.id) ((frames_of (node_at cluster node) (own node (moved ∷ first post course))).ready) ≡ true → ⊥
  not_listed post node sender closure join moved message found by is body_is any =
      let earlier = first post course in
      let whole = stepped_first cluster course post stepped in
      let before = brought cluster earlier whole in
      let step = step_at cluster course post moved stepped found in
      let may = may_post (node_at cluster moved.node) (own moved.node earlier) message (body.Park join closure) body_is refl
      (subst (λ event. IsAllowed (node_at cluster moved.node) (own moved.node earlier) event) is step.allowed) in
      let once = one_place cluster earlier whole in
      let some = park_count cluster earlier moved.node moved.message (before.frames moved.node)
      (once.within moved.node step.within) message.receiver join closure may in
      let up = (counted_some (OnStack cluster moved.node earlier) closure.id ((frames_of (node_at cluster moved.node) (own moved.node earlier)).stack)
      (before.frames moved.node).stack some).1.news in
      let still = ready_kept earlier moved message is node (one_or_two moved.node node) in
      let listed = any_life (OnReady cluster node earlier) closure.id ((frames_of (node_at cluster node) (own node earlier)).ready) (before.frames node).ready
      (sym (ap (list_any (λ life. same_frame life.id closure.id)) still) ∙ any) in
      not_both closure.id node moved.node earlier up (sent_news node closure.id listed.0 earlier listed.1)

  stage_ready : (taken listed : Bool) → stage_on taken listed ≡ Ready → listed ≡ true
  stage_ready true listed is = absurd (cc)
  stage_ready false true is = refl
  stage_ready false false is = absurd (cc)

  -- what is parked is not ready at once
  pub not_at_once : (post node sender : ℕ) (frame : FrameId) → events post ≡ Post sender node (Park frame) → stage (suc post) post ≢ Ready
  not_at_once post node sender frame is ready =
      let it = posted_is cluster course post sender node (Park frame) is in
      let found = it.2 in
      let park = park_is cluster sender (before course post) frame (it.1.body) it.4 in
      let sent : Says frame found.moved (ByPark node) = SaysPark it.1 park.0 park.1 found.event_is park.2 park.3 (ap ByPark (sym it.3)) in
      let stage_is : stage_of cluster (found.moved ∷ first post course) post node frame ≡ Ready =
      sym (stage_later cluster course (suc post) post found.moved (omega arith) found.is
      ∙ park_stage cluster (first (suc post) course) post found.moved frame node sent
      ∙ ap (λ later. stage_of cluster later post node frame) (first_next course post found.moved found.is)) ∙ ready in
      let listed = stage_ready _ _ stage_is in
      not_listed post node sender park.1 park.0 found.moved it.1 found.is found.by found.event_is park.2
      (subst (λ it. list_any (λ life. same_frame life.id it) ((frames_of (node_at cluster node) (own node (found.moved ∷ first post course))).ready) ≡ true)
      (sym park.3) listed)
