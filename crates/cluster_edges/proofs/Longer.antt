-- What is known of frames stays so behind one event more.
use Rattle.std.proofs.Common.{◌≡◌, ◌⊎◌, inl, inr, ◌<◌, ◌≤◌, ℕ, List, [], ◌∷◌, Option, Some, None, Bool, true, false, cond, eqb, refl, ◌∙◌, ap, arith}
use Rattle.page_messages.specs.declared.closure.FrameId.{FrameId}
use Rattle.page_messages.specs.declared.closure.JoinId.{JoinId}
use Rattle.page_messages.specs.declared.closure.Child.{Child}
use Rattle.page_messages.specs.declared.closure.Closure.{Closure}
use Rattle.page_messages.specs.declared.message.Msg.{Msg}
use Rattle.page_messages.specs.declared.message.Body.{Body}
use Rattle.page_messages.specs.declared.message.Body.TheVariants as body
use Rattle.page_messages.specs.declared.log.LoggedAct.{LoggedAct}
use Rattle.page_messages.specs.declared.log.LoggedAct.TheVariants as act
use Rattle.page_messages.specs.declared.log.Item.{Item}
use Rattle.page_messages.specs.declared.log.Item.TheVariants as item
use Rattle.cluster_rules.specs.Turns.{Event, Did, Sent, Took, Ended, Past}
use Rattle.cluster_rules.specs.Node.{Node}
use Rattle.cluster_rules.specs.Lives.{Life}
use Rattle.cluster_rules.specs.Frames.{Parked, stack_of, next_frame, next_join}
use Rattle.cluster_rules.specs.Positions.{Moved, Course, own}
use Rattle.cluster_rules.specs.Runs.{Cluster, node_at}
use Rattle.cluster_edges.specs.Stages.{frame_in}
use Rattle.cluster_edges.proofs.Ties.{Each, Named, Known, Above, gone_body, gone_act, gone_item, gone_on, Gone, Told, Parking, Tie, tie_of}
use Rattle.cluster_edges.proofs.Ties.{tie_in, HasParent, IsNoted, Fits, Standing, Lying, Waiting, OnTop, Stacked, AllLying, AllWaiting, Returned, Saying}

-- ---- names

next_frame_more : (node : Node) (event : Event) (past : Past) (b : Bool) → next_frame node past ≤ next_frame node (cond b (event ∷ past) past)
unfolding next_frame
next_frame_more node event past true = omega arith
next_frame_more node event past false = omega arith

next_join_more : (node : Node) (event : Event) (past : Past) (b : Bool) → next_join node past ≤ next_join node (cond b (event ∷ past) past)
unfolding next_join
next_join_more node event past true = omega arith
next_join_more node event past false = omega arith

pub known_more : (cluster : Cluster) (moved : Moved) (course : Course) (frame : FrameId) → Known cluster frame course → Known cluster frame (moved ∷ course)
known_more cluster moved course frame known =
    let more = next_frame_more (node_at cluster frame.node) moved.event (own frame.node course) (eqb moved.node frame.node) in omega (arith, known, more)

pub join_more : (cluster : Cluster) (moved : Moved) (course : Course) (join : JoinId)
    → join.number < next_join (node_at cluster join.node) (own join.node course)
    → join.number < next_join (node_at cluster join.node) (own join.node (moved ∷ course))
join_more cluster moved course join less =
    let more = next_join_more (node_at cluster join.node) moved.event (own join.node course) (eqb moved.node join.node) in omega (arith, less, more)

-- ---- frames that an event leaves where they are

-- the frame that leaves its node, by a Grant or a Park
abbrev pub leaves : Event → Option FrameId
leaves (Did item) = None
leaves (Sent message) = frame_in message.body
leaves (Took message) = None
leaves (Ended end) = None

-- it is the Grant of this frame, from below this child
pub record Separates (event : Event) (stack : List Life) (frame child : FrameId) : Type 0 where
  pub message : Msg
  pub closure : Closure
  pub is : event ≡ Sent message
  pub says : message.body ≡ body.Grant closure
  pub id_is : closure.id ≡ frame
  pub above : Above stack frame child

gone_body_or : (message : Msg) (said : Body) (stack : List Life) (IsGone : FrameId → FrameId → Type 0) (frame child : FrameId) → message.body ≡ said
    → gone_body said stack IsGone frame child → IsGone frame child ⊎ Separates (Sent message) stack frame child
gone_body_or message (body.Fetch page) stack IsGone frame child says gone = inl gone
gone_body_or message (body.Page page words) stack IsGone frame child says gone = inl gone
gone_body_or message (body.Reconcile parts) stack IsGone frame child says gone = inl gone
gone_body_or message body.Ack stack IsGone frame child says gone = inl gone
gone_body_or message body.Ask stack IsGone frame child says gone = inl gone
gone_body_or message (body.Grant closure) stack IsGone frame child says (inl gone) = inl gone
gone_body_or message (body.Grant closure) stack IsGone frame child says (inr both) =
    inr (record { message = message; closure = closure; is = refl; says = says; id_is = both.0; above = both.1 })
gone_body_or message body.Refuse stack IsGone frame child says gone = inl gone
gone_body_or message (body.Done join index value) stack IsGone frame child says gone = inl gone
gone_body_or message (body.Park join closure) stack IsGone frame child says gone = inl gone
gone_body_or message (body.Add asker index word addend) stack IsGone frame child says gone = inl gone
gone_body_or message (body.Added old) stack IsGone frame child says gone = inl gone

gone_act_back : (done : LoggedAct) (actor : FrameId) (IsGone : FrameId → FrameId → Type 0) (frame child : FrameId) → gone_act done actor IsGone frame child
    → IsGone frame child
gone_act_back (act.Read word value) actor IsGone frame child gone = gone
gone_act_back (act.Write word value) actor IsGone frame child gone = gone
gone_act_back (act.Print value) actor IsGone frame child gone = gone
gone_act_back (act.Spawn spawned procedure arguments) actor IsGone frame child gone = gone
gone_act_back act.Sync actor IsGone frame child gone = gone.0

gone_item_back : (done : Item) (IsGone : FrameId → FrameId → Type 0) (frame child : FrameId) → gone_item done IsGone frame child → IsGone frame child
gone_item_back (item.Act actor index act) IsGone frame child gone = gone_act_back act actor IsGone frame child gone
gone_item_back (item.Tick ticking) IsGone frame child gone = gone
gone_item_back (item.Drop page) IsGone frame child gone = gone
gone_item_back (item.TakeUp taken) IsGone frame child gone = gone
gone_item_back (item.OwnFetch page words) IsGone frame child gone = gone
gone_item_back (item.OwnReconcile part) IsGone frame child gone = gone
gone_item_back (item.Served asker index word old addend) IsGone frame child gone = gone

-- Who is separated behind an event was so before, or is so by this event.
pub gone_or : (event : Event) (stack : List Life) (IsGone : FrameId → FrameId → Type 0) (frame child : FrameId) → gone_on event stack IsGone frame child
    → IsGone frame child ⊎ Separates event stack frame child
gone_or (Did item) stack IsGone frame child gone = inl (gone_item_back item IsGone frame child gone)
gone_or (Sent message) stack IsGone frame child gone = gone_body_or message message.body stack IsGone frame child refl gone
gone_or (Took message) stack IsGone frame child gone = inl gone
gone_or (Ended end) stack IsGone frame child gone = inl gone

gone_back : (event : Event) (stack : List Life) (IsGone : FrameId → FrameId → Type 0) (frame child : FrameId) → (leaves event ≡ Some frame → ⊥)
    → IsGone frame child ⊎ Separates event stack frame child → IsGone frame child
gone_back event stack IsGone frame child not (inl gone) = gone
gone_back event stack IsGone frame child not (inr by) = absurd (not (ap leaves by.is ∙ ap frame_in by.says ∙ ap Some by.id_is))

-- no child of the frame is separated by this event, and it is not parked
pub record Apart (cluster : Cluster) (moved : Moved) (course : Course) (frame : FrameId) : Type 0 where
  pub gone : (child : FrameId) → Gone cluster (moved ∷ course) frame child → Gone cluster course frame child
  pub parking : Parking frame (moved ∷ course) → Parking frame course

parking_back : (moved : Moved) (course : Course) (frame : FrameId) → (leaves moved.event ≡ Some frame → ⊥) → Parking frame (moved ∷ course)
    → Parking frame course
parking_back moved course frame not (inl parks) = absurd (not (ap leaves parks.3 ∙ ap frame_in parks.4 ∙ ap Some parks.5))
parking_back moved course frame not (inr both) = both.0

pub apart_if : (cluster : Cluster) (moved : Moved) (course : Course) (frame : FrameId) → (leaves moved.event ≡ Some frame → ⊥)
    → Apart cluster moved course frame
apart_if cluster moved course frame not = record {
  gone = λ child gone.
      let stack = stack_of (node_at cluster moved.node) (own moved.node course) in
      gone_back moved.event stack (Gone cluster course) frame child not (gone_or moved.event stack (Gone cluster course) frame child gone);
  parking = parking_back moved course frame not;
}

-- ---- what each frame keeps

-- a join stays the one that was named for its frame
abbrev pub StaysNamed : Moved → Course → Type 0
StaysNamed moved course = (join : JoinId) (frame : FrameId) → Named join frame course → Named join frame (moved ∷ course)

module _ (cluster : Cluster) (moved : Moved) (course : Course) (stays : StaysNamed moved course) where
  pub parent_more : (id : FrameId) (index : ℕ) (join : JoinId) → HasParent course id index join → HasParent (moved ∷ course) id index join
  parent_more id index join has = record { parent = has.parent; named = stays join has.parent has.named; born = inr has.born }

  pub noted_more : (id : FrameId) (away : List Child) (child : FrameId) → IsNoted course id away child → IsNoted (moved ∷ course) id away child
  noted_more id away child noted = record { entry = noted.entry; among = noted.among; born = inr noted.born }

  pub waits_more : (id : FrameId) (away : List Child) (child : FrameId) → Told cluster course id child ⊎ IsNoted course id away child
      → Told cluster (moved ∷ course) id child ⊎ IsNoted (moved ∷ course) id away child
  waits_more id away child (inl told) = inl (inr told)
  waits_more id away child (inr noted) = inr (noted_more id away child noted)

  pub fits_more : (tie : Tie) → ((child : FrameId) → Gone cluster (moved ∷ course) tie.id child → Gone cluster course tie.id child) → Fits cluster course tie
      → Fits cluster (moved ∷ course) tie
  fits_more tie back fits = record {
    known = known_more cluster moved course tie.id fits.known;
    rooted = fits.rooted;
    linked = λ join is. parent_more tie.id tie.spawned.index join (fits.linked join is);
    joined = λ join is. stays join tie.id (fits.joined join is);
    waits = λ child gone. waits_more tie.id tie.away child (fits.waits child (back child gone));
  }

  pub standing_more : (tie : Tie) → Apart cluster moved course tie.id → Standing cluster course tie → Standing cluster (moved ∷ course) tie
  standing_more tie apart standing =
      record { fits = fits_more tie apart.gone standing.fits; not_parked = λ parking. standing.not_parked (apart.parking parking) }

  pub lying_more : (tie : Tie) → Apart cluster moved course tie.id → Lying cluster course tie → Lying cluster (moved ∷ course) tie
  lying_more tie apart lying = record { fits = fits_more tie apart.gone lying.fits; complete = λ parking. lying.complete (apart.parking parking) }

  pub waiting_more : (one : Parked) → Apart cluster moved course one.closure.id → Waiting cluster course one.join one.closure
      → Waiting cluster (moved ∷ course) one.join one.closure
  waiting_more one apart waiting = record { fits = fits_more (tie_in one.closure) apart.gone waiting.fits; at_join = waiting.at_join }

  pub on_top_more : (life : Life) (below : List Life) → OnTop course life below → OnTop (moved ∷ course) life below
  on_top_more life [] top = tt
  on_top_more life (lower ∷ below) top = inr top

  pub stacked_more : (stack : List Life) → Each (λ (life : Life). Apart cluster moved course life.id) stack → Stacked cluster course stack
      → Stacked cluster (moved ∷ course) stack
  stacked_more [] apart stacked = tt
  stacked_more (life ∷ below) apart stacked =
      (standing_more (tie_of life) apart.0 stacked.0, on_top_more life below stacked.1, stacked_more below apart.1 stacked.2)

  pub all_lying_more : (lives : List Life) → Each (λ (life : Life). Apart cluster moved course life.id) lives → AllLying cluster course lives
      → AllLying cluster (moved ∷ course) lives
  all_lying_more [] apart all = tt
  all_lying_more (life ∷ lives) apart all = (lying_more (tie_of life) apart.0 all.0, all_lying_more lives apart.1 all.1)

  pub all_waiting_more : (parked : List Parked) → Each (λ (one : Parked). Apart cluster moved course one.closure.id) parked → AllWaiting cluster course parked
      → AllWaiting cluster (moved ∷ course) parked
  all_waiting_more [] apart all = tt
  all_waiting_more (one ∷ parked) apart all = (waiting_more one apart.0 all.0, all_waiting_more parked apart.1 all.1)

  pub returned_more : (join : JoinId) (index : ℕ) → Returned cluster course join index → Returned cluster (moved ∷ course) join index
  returned_more join index it = record { parent = it.parent; child = it.child; named = stays join it.parent it.named; born = inr it.born; told = inr it.told }

  pub saying_more : (said : Body) → Saying cluster course said → Saying cluster (moved ∷ course) said
  saying_more (body.Fetch page) it = tt
  saying_more (body.Page page words) it = tt
  saying_more (body.Reconcile parts) it = tt
  saying_more body.Ack it = tt
  saying_more body.Ask it = tt
  saying_more (body.Grant closure) it = tt
  saying_more body.Refuse it = tt
  saying_more (body.Done join index value) it = returned_more join index it
  saying_more (body.Park join closure) it = tt
  saying_more (body.Add frame index word addend) it = tt
  saying_more (body.Added old) it = tt

-- ---- where it holds of all in a list

pub each_all : {A : Type 0} (Holds : A → Type 0) → ((value : A) → Holds value) → (values : List A) → Each Holds values
each_all Holds all [] = tt
each_all Holds all (first ∷ rest) = (all first, each_all Holds all rest)

pub each_so : {A : Type 0} (Holds More : A → Type 0) → ((value : A) → Holds value → More value) → (values : List A) → Each Holds values → Each More values
each_so Holds More so [] each = tt
each_so Holds More so (first ∷ rest) each = (so first each.0, each_so Holds More so rest each.1)
