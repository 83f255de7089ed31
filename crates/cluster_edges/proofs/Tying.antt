-- What frames keep of their parents and children, through all events of a cluster.
use Rattle.std.proofs.Common.{◌≡◌, ◌⊎◌, inl, inr, ◌<◌, ℕ, List, [], ◌∷◌, ◌++◌, Option, Some, None, Bool, true, false, cond, eqb, refl, sym, ◌∙◌, ap, subst, arith}
use Rattle.std.proofs.lemmas.Bool.Decides.{nat_tests}
use Rattle.std.specs.List.{list_any}
use Rattle.page_messages.specs.declared.closure.FrameId.{FrameId}
use Rattle.page_messages.specs.declared.message.Msg.{Msg}
use Rattle.page_messages.specs.declared.message.Body.{Body}
use Rattle.page_messages.specs.declared.message.Body.TheVariants as body
use Rattle.page_messages.specs.declared.log.PostAt.{PostAt}
use Rattle.cluster_rules.specs.Turns.{Event, Did, Sent, Took, Ended, Past}
use Rattle.cluster_rules.specs.Node.{Node}
use Rattle.cluster_rules.specs.Lives.{Life, same_frame, main_life, live, without_bottom, carried}
use Rattle.cluster_rules.specs.Frames.{Frames, Parked, with_stack, stack_sent, with_joined, frames_took, frames_on, frames_of, next_frame}
use Rattle.cluster_rules.specs.Positions.{Moved, Course, own}
use Rattle.cluster_rules.specs.Runs.{Cluster, node_at}
use Rattle.cluster_rules.specs.Allowed.{IsAllowed, DoesItem}
use Rattle.cluster_rules.proofs.Marks.{same_self, same_name}
use Rattle.cluster_rules.proofs.Stepping.{WasPosted, takes_place, Carries, Takes, Stepped}
use Rattle.cluster_order.proofs.Between.{own_first, own_other}
use Rattle.cluster_edges.specs.Stages.{frame_in}
use Rattle.cluster_edges.proofs.Ties.{Each, Known, Gone, Parking, tie_of, tie_in, Standing, Waiting, Stacked, AllWaiting, Keeps, Carrying, Saying, Tied}
use Rattle.cluster_edges.proofs.Longer.{leaves, known_more, Apart, apart_if, StaysNamed, standing_more, waiting_more, stacked_more, all_lying_more, all_waiting_more, saying_more, each_all, each_so}
use Rattle.cluster_edges.proofs.Granting.{granted, named_stays, joins_more}
use Rattle.cluster_edges.proofs.Stacks.{live_stacked, added_stacked, lying_append, standing_lies}
use Rattle.cluster_edges.proofs.Completing.{BearsOnce, joined_keeps}
use Rattle.cluster_edges.proofs.Doing.{item_keeps}
use Rattle.cluster_edges.proofs.Leaving.{NoneLeaves, grant_stands, grant_stacked, park_waits, done_returns, grant_known, park_known}
use Rattle.cluster_rules.proofs.Testing.{neither}

-- ---- the frame that leaves is nowhere else

abbrev pub NoneParkedLeaves : Moved → List Parked → Type 0
NoneParkedLeaves moved parked = Each (λ (one : Parked). leaves moved.event ≡ Some one.closure.id → ⊥) parked

pub record LonelyAt (moved : Moved) (frames : Frames) : Type 0 where
  pub stack : NoneLeaves moved frames.stack
  pub ready : NoneLeaves moved frames.ready
  pub parked : NoneParkedLeaves moved frames.parked

-- A frame that leaves its node is then on no node, and in no other message that was posted and not taken.
pub record Lonely (cluster : Cluster) (moved : Moved) (course : Course) : Type 0 where
  pub nodes : (number : ℕ) → number < cluster.config.nodes → LonelyAt moved (frames_of (node_at cluster number) (own number (moved ∷ course)))
  pub letters : (place : PostAt) (message : Msg) → WasPosted course place message → list_any (takes_place place) course ≡ false →
      (frame : FrameId) → frame_in message.body ≡ Some frame → leaves moved.event ≡ Some frame → ⊥

some_or_not : (leaving : Option FrameId) (frame : FrameId) → (leaving ≡ Some frame) ⊎ (leaving ≡ Some frame → ⊥)
some_or_not None frame = inr (λ is. absurd (cc))
some_or_not (Some other) frame = on (same_frame other frame) refl
  where
    on : (b : Bool) → same_frame other frame ≡ b → (Some other ≡ Some frame) ⊎ (Some other ≡ Some frame → ⊥)
    on true is = inl (ap Some (same_name other frame is))
    on false is =
        inr (λ some.
        let same : other ≡ frame = cc in
        let is_same : same_frame other frame ≡ true = ap (λ it. same_frame it frame) same ∙ same_self frame in absurd (cc))

-- ---- one event

module _ (cluster : Cluster) (moved : Moved) (course : Course) (stepped : Stepped cluster (moved ∷ course)) (tied : Tied cluster course) where
  abbrev node : Node
  node = node_at cluster moved.node

  abbrev past : Past
  past = own moved.node course

  abbrev frames : Frames
  frames = frames_of node past

  stays : StaysNamed moved course
  stays = named_stays cluster moved course stepped.1 tied

  apart_lives : (lives : List Life) → NoneLeaves moved lives → Each (λ (life : Life). Apart cluster moved course life.id) lives
  apart_lives lives none =
      each_so (λ (life : Life). leaves moved.event ≡ Some life.id → ⊥) (λ (life : Life). Apart cluster moved course life.id)
      (λ life not. apart_if cluster moved course life.id not) lives none

  apart_parked : (parked : List Parked) → NoneParkedLeaves moved parked → Each (λ (one : Parked). Apart cluster moved course one.closure.id) parked
  apart_parked parked none =
      each_so (λ (one : Parked). leaves moved.event ≡ Some one.closure.id → ⊥) (λ (one : Parked). Apart cluster moved course one.closure.id)
      (λ one not. apart_if cluster moved course one.closure.id not) parked none

  keeps_more : (any : Frames) → LonelyAt moved any → Keeps cluster course any → Keeps cluster (moved ∷ course) any
  keeps_more any lonely keeps = record {
    stack = stacked_more cluster moved course stays any.stack (apart_lives any.stack lonely.stack) keeps.stack;
    ready = all_lying_more cluster moved course stays any.ready (apart_lives any.ready lonely.ready) keeps.ready;
    parked = all_waiting_more cluster moved course stays any.parked (apart_parked any.parked lonely.parked) keeps.parked;
  }

  -- where no frame leaves
  none_leaves : leaves moved.event ≡ None → (frame : FrameId) → leaves moved.event ≡ Some frame → ⊥
  none_leaves none frame left = let same : None ≡ Some frame = sym none ∙ left in absurd (cc)

  lonely_all : leaves moved.event ≡ None → (any : Frames) → LonelyAt moved any
  lonely_all none any = record {
    stack = each_all (λ (life : Life). leaves moved.event ≡ Some life.id → ⊥) (λ life. none_leaves none life.id) any.stack;
    ready = each_all (λ (life : Life). leaves moved.event ≡ Some life.id → ⊥) (λ life. none_leaves none life.id) any.ready;
    parked = each_all (λ (one : Parked). leaves moved.event ≡ Some one.closure.id → ⊥) (λ one. none_leaves none one.closure.id) any.parked;
  }

  -- the frames of its node, still as they were
  still_keeps : leaves moved.event ≡ None → Keeps cluster (moved ∷ course) frames
  still_keeps none = keeps_more frames (lonely_all none frames) (tied.nodes moved.node stepped.1.within)

  restacked : (stack : List Life) → Keeps cluster (moved ∷ course) frames → Stacked cluster (moved ∷ course) stack
      → Keeps cluster (moved ∷ course) (with_stack stack frames)
  restacked stack keeps stacked = record { stack = stacked; ready = keeps.ready; parked = keeps.parked }

  -- ---- messages

  carrying_more : (said : Body) → ((frame : FrameId) → frame_in said ≡ Some frame → leaves moved.event ≡ Some frame → ⊥) → Carrying cluster course said
      → Carrying cluster (moved ∷ course) said
  carrying_more (body.Fetch page) not it = tt
  carrying_more (body.Page page words) not it = tt
  carrying_more (body.Reconcile parts) not it = tt
  carrying_more body.Ack not it = tt
  carrying_more body.Ask not it = tt
  carrying_more (body.Grant closure) not it =
      standing_more cluster moved course stays (tie_in closure) (apart_if cluster moved course closure.id (not closure.id refl)) it
  carrying_more body.Refuse not it = tt
  carrying_more (body.Done join index value) not it = tt
  carrying_more (body.Park join closure) not it =
      waiting_more cluster moved course stays (record { join = join; closure = closure }) (apart_if cluster moved course closure.id (not closure.id refl)) it
  carrying_more (body.Add frame index word addend) not it = tt
  carrying_more (body.Added old) not it = tt

  carrying_new : (message : Msg) (said : Body) → moved.event ≡ Sent message → message.body ≡ said → Carrying cluster (moved ∷ course) said
  carrying_new message (body.Fetch page) is says = tt
  carrying_new message (body.Page page words) is says = tt
  carrying_new message (body.Reconcile parts) is says = tt
  carrying_new message body.Ack is says = tt
  carrying_new message body.Ask is says = tt
  carrying_new message (body.Grant closure) is says =
      grant_stands cluster moved course stepped.1 tied message closure is says (granted cluster moved course stepped.1 tied message closure is says)
  carrying_new message body.Refuse is says = tt
  carrying_new message (body.Done join index value) is says = tt
  carrying_new message (body.Park join closure) is says = park_waits cluster moved course stepped.1 tied message is join closure says
  carrying_new message (body.Add frame index word addend) is says = tt
  carrying_new message (body.Added old) is says = tt

  saying_new : (message : Msg) (said : Body) → moved.event ≡ Sent message → message.body ≡ said → Saying cluster (moved ∷ course) said
  saying_new message (body.Fetch page) is says = tt
  saying_new message (body.Page page words) is says = tt
  saying_new message (body.Reconcile parts) is says = tt
  saying_new message body.Ack is says = tt
  saying_new message body.Ask is says = tt
  saying_new message (body.Grant closure) is says = tt
  saying_new message body.Refuse is says = tt
  saying_new message (body.Done join index value) is says = done_returns cluster moved course stepped.1 tied message is join index value says
  saying_new message (body.Park join closure) is says = tt
  saying_new message (body.Add frame index word addend) is says = tt
  saying_new message (body.Added old) is says = tt

  says_more : (place : PostAt) (message : Msg) → WasPosted (moved ∷ course) place message → Saying cluster (moved ∷ course) message.body
  says_more place message (inl post) = saying_new message message.body post.0 refl
  says_more place message (inr was) = saying_more cluster moved course stays message.body (tied.says place message was)

  -- ---- frames that leave are known

  sent_known : (message : Msg) (said : Body) (frame : FrameId) → moved.event ≡ Sent message → message.body ≡ said → frame_in said ≡ Some frame
      → Known cluster frame course
  sent_known message (body.Fetch page) frame is says left = absurd (cc)
  sent_known message (body.Page page words) frame is says left = absurd (cc)
  sent_known message (body.Reconcile parts) frame is says left = absurd (cc)
  sent_known message body.Ack frame is says left = absurd (cc)
  sent_known message body.Ask frame is says left = absurd (cc)
  sent_known message (body.Grant closure) frame is says left =
      let same : closure.id ≡ frame = cc in subst (λ id. Known cluster id course) same (grant_known cluster moved course stepped.1 tied message is closure says)
  sent_known message body.Refuse frame is says left = absurd (cc)
  sent_known message (body.Done join index value) frame is says left = absurd (cc)
  sent_known message (body.Park join closure) frame is says left =
      let same : closure.id ≡ frame = cc in
      subst (λ id. Known cluster id course) same (park_known cluster moved course stepped.1 tied message is join closure says)
  sent_known message (body.Add asker index word addend) frame is says left = absurd (cc)
  sent_known message (body.Added old) frame is says left = absurd (cc)

  left_known : (event : Event) (frame : FrameId) → moved.event ≡ event → leaves event ≡ Some frame → Known cluster frame course
  left_known (Did item) frame is left = absurd (cc)
  left_known (Sent message) frame is left = sent_known message message.body frame is refl left
  left_known (Took message) frame is left = absurd (cc)
  left_known (Ended end) frame is left = absurd (cc)

  gone_more : (frame child : FrameId) → Gone cluster (moved ∷ course) frame child → Known cluster frame (moved ∷ course)
  gone_more frame child gone = known_more cluster moved course frame (on (some_or_not (leaves moved.event) frame))
    where
      on : (leaves moved.event ≡ Some frame) ⊎ (leaves moved.event ≡ Some frame → ⊥) → Known cluster frame course
      on (inl left) = left_known moved.event frame refl left
      on (inr not) = tied.gone frame child ((apart_if cluster moved course frame not).gone child gone)

  parking_more : (frame : FrameId) → Parking frame (moved ∷ course) → Known cluster frame (moved ∷ course)
  parking_more frame parking = known_more cluster moved course frame (on (some_or_not (leaves moved.event) frame))
    where
      on : (leaves moved.event ≡ Some frame) ⊎ (leaves moved.event ≡ Some frame → ⊥) → Known cluster frame course
      on (inl left) = left_known moved.event frame refl left
      on (inr not) = tied.parking frame ((apart_if cluster moved course frame not).parking parking)

  -- ---- the node of the event

  module _ (once : BearsOnce (moved ∷ course)) where
    all_joined_keeps : (message : Msg) → moved.event ≡ Took message → (any : Frames) → Keeps cluster (moved ∷ course) any
        → Keeps cluster (moved ∷ course) (with_joined node (Took message ∷ past) any)
    all_joined_keeps message is any keeps =
        let all : own moved.node (moved ∷ course) ≡ Took message ∷ past = own_first moved.node moved course refl ∙ ap (λ event. event ∷ past) is in
        subst (λ it. Keeps cluster (moved ∷ course) (with_joined node it any)) all
        (joined_keeps cluster (moved ∷ course) stepped once says_more moved.node any keeps)

    waiting_append : (parked : List Parked) (one : Parked) → AllWaiting cluster (moved ∷ course) parked → Waiting cluster (moved ∷ course) one.join one.closure
        → AllWaiting cluster (moved ∷ course) (parked ++ one ∷ [])
    waiting_append [] one all waits = (waits, tt)
    waiting_append (first ∷ parked) one all waits = (all.0, waiting_append parked one all.1 waits)

    took_keeps : (message : Msg) (said : Body) → moved.event ≡ Took message → Carrying cluster (moved ∷ course) said → Keeps cluster (moved ∷ course) frames
        → Keeps cluster (moved ∷ course) (frames_took node said (Took message ∷ past) frames)
    took_keeps message (body.Fetch page) is carrying keeps = keeps
    took_keeps message (body.Page page words) is carrying keeps = keeps
    took_keeps message (body.Reconcile parts) is carrying keeps = keeps
    took_keeps message body.Ack is carrying keeps = keeps
    took_keeps message body.Ask is carrying keeps = keeps
    took_keeps message (body.Grant closure) is carrying keeps = record {
      stack = keeps.stack;
      ready =
          lying_append cluster (moved ∷ course) frames.ready (carried node closure ∷ []) keeps.ready
          (standing_lies cluster (moved ∷ course) (tie_in closure) carrying, tt);
      parked = keeps.parked;
    }
    took_keeps message body.Refuse is carrying keeps = keeps
    took_keeps message (body.Done join index value) is carrying keeps = all_joined_keeps message is frames keeps
    took_keeps message (body.Park join closure) is carrying keeps =
        let one : Parked = record { join = join; closure = closure } in
        all_joined_keeps message is (record frames { parked = frames.parked ++ one ∷ [] })
        (record { stack = keeps.stack; ready = keeps.ready; parked = waiting_append frames.parked one keeps.parked carrying })
    took_keeps message (body.Add frame index word addend) is carrying keeps = keeps
    took_keeps message (body.Added old) is carrying keeps = restacked _ keeps (added_stacked cluster (moved ∷ course) old frames.stack keeps.stack)

    taken_carrying : (message : Msg) → moved.event ≡ Took message → Carrying cluster (moved ∷ course) message.body
    taken_carrying message is =
        let taking : Takes course moved.node moved.message message = subst (Carries course moved.node moved.message) is stepped.1.carries in
        carrying_more message.body (λ frame inside. none_leaves (ap leaves is) frame) (tied.carries taking.place message taking.was_posted taking.not_taken)

    sent_keeps : (message : Msg) (said : Body) → moved.event ≡ Sent message → message.body ≡ said
        → LonelyAt moved (with_stack (stack_sent said frames.stack) frames)
        → Keeps cluster (moved ∷ course) (with_stack (stack_sent said frames.stack) frames)
    sent_keeps message (body.Fetch page) is says lonely =
        let keeps = still_keeps (ap leaves is ∙ ap frame_in says) in
        restacked (live frames.stack) keeps (live_stacked cluster (moved ∷ course) frames.stack keeps.stack)
    sent_keeps message (body.Page page words) is says lonely = still_keeps (ap leaves is ∙ ap frame_in says)
    sent_keeps message (body.Reconcile parts) is says lonely = still_keeps (ap leaves is ∙ ap frame_in says)
    sent_keeps message body.Ack is says lonely = still_keeps (ap leaves is ∙ ap frame_in says)
    sent_keeps message body.Ask is says lonely = still_keeps (ap leaves is ∙ ap frame_in says)
    sent_keeps message (body.Grant closure) is says lonely =
        let stacked = grant_stacked cluster moved course stepped.1 tied message closure is says
        (granted cluster moved course stepped.1 tied message closure is says) lonely.stack in
        let keeps = tied.nodes moved.node stepped.1.within in
        keeps_left (without_bottom closure.join frames.stack) lonely stacked keeps
      where
        keeps_left : (stack : List Life) → LonelyAt moved (with_stack stack frames) → Stacked cluster (moved ∷ course) stack
            → Keeps cluster course frames → Keeps cluster (moved ∷ course) (with_stack stack frames)
        keeps_left stack lonely stacked keeps =
            let others = keeps_more (with_stack [] frames) (record { stack = tt; ready = lonely.ready; parked = lonely.parked })
            (record { stack = tt; ready = keeps.ready; parked = keeps.parked }) in
            record { stack = stacked; ready = others.ready; parked = others.parked }
    sent_keeps message body.Refuse is says lonely = still_keeps (ap leaves is ∙ ap frame_in says)
    sent_keeps message (body.Done join index value) is says lonely = restacked [] (still_keeps (ap leaves is ∙ ap frame_in says)) tt
    sent_keeps message (body.Park join closure) is says lonely =
        let keeps = tied.nodes moved.node stepped.1.within in
        keeps_more (with_stack [] frames) lonely (record { stack = tt; ready = keeps.ready; parked = keeps.parked })
    sent_keeps message (body.Add frame index word addend) is says lonely =
        let keeps = still_keeps (ap leaves is ∙ ap frame_in says) in
        restacked (live frames.stack) keeps (live_stacked cluster (moved ∷ course) frames.stack keeps.stack)
    sent_keeps message (body.Added old) is says lonely = still_keeps (ap leaves is ∙ ap frame_in says)

    event_keeps : (event : Event) → moved.event ≡ event → LonelyAt moved (frames_on node event past frames)
        → Keeps cluster (moved ∷ course) (frames_on node event past frames)
    event_keeps (Did item) is lonely =
        let does : DoesItem node past item = subst (IsAllowed node past) is stepped.1.allowed in
        item_keeps cluster moved course tied item is does.rest does.posts does.may (still_keeps (ap leaves is))
    event_keeps (Sent message) is lonely = sent_keeps message message.body is refl lonely
    event_keeps (Took message) is lonely = took_keeps message message.body is (taken_carrying message is) (still_keeps (ap leaves is))
    event_keeps (Ended end) is lonely = still_keeps (ap leaves is)

    module _ (lonely : Lonely cluster moved course) where
      carries_more : (place : PostAt) (message : Msg) → WasPosted (moved ∷ course) place message → list_any (takes_place place) (moved ∷ course) ≡ false
          → Carrying cluster (moved ∷ course) message.body
      carries_more place message (inl post) none = carrying_new message message.body post.0 refl
      carries_more place message (inr was) none =
          let rest = (neither (takes_place place moved) (list_any (takes_place place) course) none).1 in
          carrying_more message.body (lonely.letters place message was rest) (tied.carries place message was rest)

      frames_now : frames_of node (own moved.node (moved ∷ course)) ≡ frames_on node moved.event past frames
      unfolding frames_of
      frames_now = ap (frames_of node) (own_first moved.node moved course refl)

      own_keeps : Keeps cluster (moved ∷ course) (frames_of node (own moved.node (moved ∷ course)))
      own_keeps =
          subst (Keeps cluster (moved ∷ course)) (sym frames_now)
          (event_keeps moved.event refl (subst (LonelyAt moved) frames_now (lonely.nodes moved.node stepped.1.within)))

      other_keeps : (number : ℕ) → number < cluster.config.nodes → eqb moved.node number ≡ false
          → Keeps cluster (moved ∷ course) (frames_of (node_at cluster number) (own number (moved ∷ course)))
      other_keeps number less other =
          let same = own_other number moved course other in
          keeps_more (frames_of (node_at cluster number) (own number (moved ∷ course))) (lonely.nodes number less)
          (subst (λ past. Keeps cluster course (frames_of (node_at cluster number) past)) (sym same) (tied.nodes number less))

      node_keeps : (number : ℕ) → number < cluster.config.nodes
          → Keeps cluster (moved ∷ course) (frames_of (node_at cluster number) (own number (moved ∷ course)))
      node_keeps number less = on (eqb moved.node number) refl
        where
          on : (b : Bool) → eqb moved.node number ≡ b → Keeps cluster (moved ∷ course) (frames_of (node_at cluster number) (own number (moved ∷ course)))
          on true is =
              let same : moved.node ≡ number = grind (arith, nat_tests) in
              subst (λ it. Keeps cluster (moved ∷ course) (frames_of (node_at cluster it) (own it (moved ∷ course)))) same own_keeps
          on false is = other_keeps number less is

      tied_more : Tied cluster (moved ∷ course)
      tied_more = record {
        joins = joins_more cluster moved course stepped.1 tied;
        gone = gone_more;
        parking = parking_more;
        says = says_more;
        carries = carries_more;
        nodes = node_keeps;
      }

-- ---- at the start

main_stands : (cluster : Cluster) (node : Node) → Standing cluster [] (tie_of (main_life node))
unfolding next_frame
main_stands cluster node = record {
  fits = record {
    known = omega (arith);
    rooted = λ root. refl;
    linked = λ join is. absurd (cc);
    joined = λ join is. absurd (cc);
    waits = λ child gone. absurd gone;
  };
  not_parked = λ parking. parking;
}

keeps_first : (cluster : Cluster) (number : ℕ) → Keeps cluster [] (frames_of (node_at cluster number) [])
unfolding frames_of
keeps_first cluster number = record { stack = on (eqb number 0); ready = tt; parked = tt }
  where
    on : (b : Bool) → Stacked cluster [] (cond b (main_life (node_at cluster number) ∷ []) [])
    on true = (main_stands cluster (node_at cluster number), tt, tt)
    on false = tt

tied_first : (cluster : Cluster) → Tied cluster []
tied_first cluster = record {
  joins = λ join frame named. absurd (cc);
  gone = λ frame child gone. absurd gone;
  parking = λ frame parking. absurd parking;
  says = λ place message was. absurd was;
  carries = λ place message was none. absurd was;
  nodes = λ number less. keeps_first cluster number;
}

-- So it is all along, where an act bears one child, and each frame is in one place.
pub tied_all : (cluster : Cluster) → ((course : Course) → Stepped cluster course → BearsOnce course)
    → ((moved : Moved) (course : Course) → Stepped cluster (moved ∷ course) → Lonely cluster moved course)
    → (course : Course) → Stepped cluster course → Tied cluster course
tied_all cluster once lonely [] stepped = tied_first cluster
tied_all cluster once lonely (moved ∷ course) stepped =
    tied_more cluster moved course stepped (tied_all cluster once lonely course stepped.0) (once (moved ∷ course) stepped) (lonely moved course stepped)
