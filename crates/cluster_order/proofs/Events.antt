-- What stands at a position of a course, where the event there is known.
use Rattle.std.proofs.Common.{◌≡◌, ◌⊎◌, inl, inr, ℕ, ℤ, List, Option, Some, None, refl, sym, ◌∙◌, ap, subst}
use Rattle.page_messages.specs.declared.closure.FrameId.{FrameId}
use Rattle.page_messages.specs.declared.closure.JoinId.{JoinId}
use Rattle.page_messages.specs.declared.closure.Closure.{Closure}
use Rattle.page_messages.specs.declared.message.Msg.{Msg}
use Rattle.page_messages.specs.declared.message.Body.{Body}
use Rattle.page_messages.specs.declared.message.Body.TheVariants as body
use Rattle.page_messages.specs.declared.parts.Part as page
use Rattle.page_messages.specs.declared.log.LoggedAct.{LoggedAct}
use Rattle.page_messages.specs.declared.log.LoggedAct.TheVariants as act
use Rattle.page_messages.specs.declared.log.Item.TheVariants as item
use Rattle.page_messages.specs.declared.log.PostAt.{PostAt}
use Rattle.cluster_rules.specs.Turns.{Event, Did, Sent, Took, Ended}
use Rattle.cluster_rules.specs.Home.{owed_adds}
use Rattle.cluster_rules.specs.Positions.{Moved, Course, own, at, before, Happens}
use Rattle.cluster_rules.specs.Runs.{Cluster}
use Rattle.backer_order.specs.Log as log
use Rattle.cluster_order.specs.Reading.{words_of, part_of, parts_of, note_of, act_of, frame_of, bottom_of, taken_from, served_for, happens_to, event_of, events_of}

-- the event at a position where something is known to stand
pub event_at : (cluster : Cluster) (course : Course) (position : ℕ) (moved : Moved) → at course position ≡ Some moved
    → events_of cluster course position ≡ happens_to cluster (before course position) moved.node moved.message moved.event
event_at cluster course position moved found = rw found refl

module _ (cluster : Cluster) (course : Course) (position : ℕ) where
  -- a node, the place of a message, and an event stand there
  pub record Found (node : ℕ) (place : Option PostAt) (event : Event) : Type 0 where
    pub moved : Moved
    pub is : at course position ≡ Some moved
    pub by : moved.node ≡ node
    pub place_is : moved.message ≡ place
    pub event_is : moved.event ≡ event

  pub happens : (node : ℕ) (place : Option PostAt) (event : Event) → Found node place event → Happens course node position event
  happens node place event found = record { moved = found.moved; is = found.is; by = found.by; event_is = found.event_is }

  found_on : (event : log.Event) (moved : Option Moved) → at course position ≡ moved → event_of cluster (before course position) moved ≡ event
      → (event ≡ log.Nothing → ⊥)
      → (node : ℕ) × (place : Option PostAt) × (inner : Event) × Found node place inner × (happens_to cluster (before course position) node place inner ≡ event)
  found_on event None found is some = absurd (some (sym is))
  found_on event (Some moved) found is some =
      (moved.node, moved.message, moved.event, record { moved = moved; is = found; by = refl; place_is = refl; event_is = refl }, is)

  -- where the event is not nothing, something stands there
  pub found_at : (event : log.Event) → events_of cluster course position ≡ event → (event ≡ log.Nothing → ⊥)
      → (node : ℕ) × (place : Option PostAt) × (inner : Event) × Found node place inner × (happens_to cluster (before course position) node place inner ≡ event)
  found_at event is some = found_on event (at course position) refl is some

  posted_is_on : (p q : ℕ) (note : log.Note) (node : ℕ) (place : Option PostAt) (event : Event) → Found node place event
      → happens_to cluster (before course position) node place event ≡ log.Post p q note
      → (place : Option PostAt) × (message : Msg) × Found p place (Sent message) × (message.receiver ≡ q)
      × (note_of cluster p (before course position) message.body ≡ note)
  posted_is_on p q note node place (Did (item.Act frame index act)) found is = absurd (cc)
  posted_is_on p q note node place (Did (item.Tick frame)) found is = absurd (cc)
  posted_is_on p q note node place (Did (item.Drop page)) found is = absurd (cc)
  posted_is_on p q note node place (Did (item.TakeUp frame)) found is = absurd (cc)
  posted_is_on p q note node place (Did (item.OwnFetch page words)) found is = absurd (cc)
  posted_is_on p q note node place (Did (item.OwnReconcile part)) found is = absurd (cc)
  posted_is_on p q note node place (Did (item.Served frame index word old addend)) found is = absurd (cc)
  posted_is_on p q note node place (Sent message) found is =
      let by : node ≡ p = cc in let to : message.receiver ≡ q = cc in let says : note_of cluster node (before course position) message.body ≡ note = cc in (
        place,
        message,
        subst (λ it. Found it place (Sent message)) by found,
        to,
        subst (λ it. note_of cluster it (before course position) message.body ≡ note) by says,
      )
  posted_is_on p q note node place (Took message) found is = absurd (cc)
  posted_is_on p q note node place (Ended end) found is = absurd (cc)

  -- a node posted a message
  pub posted_is : (p q : ℕ) (note : log.Note) → events_of cluster course position ≡ log.Post p q note → (place : Option PostAt) × (message : Msg)
      × Found p place (Sent message) × (message.receiver ≡ q) × (note_of cluster p (before course position) message.body ≡ note)
  posted_is p q note is =
      let found = found_at (log.Post p q note) is (λ none. absurd (cc)) in posted_is_on p q note (found.0) (found.1) (found.2) (found.3) (found.4)

  taken_is_on : (p k : ℕ) (node : ℕ) (place : Option PostAt) (event : Event) → Found node place event
      → happens_to cluster (before course position) node place event ≡ log.Took p k
      → (place : Option PostAt) × (message : Msg) × Found p place (Took message) × (taken_from (before course position) place ≡ k)
  taken_is_on p k node place (Did (item.Act frame index act)) found is = absurd (cc)
  taken_is_on p k node place (Did (item.Tick frame)) found is = absurd (cc)
  taken_is_on p k node place (Did (item.Drop page)) found is = absurd (cc)
  taken_is_on p k node place (Did (item.TakeUp frame)) found is = absurd (cc)
  taken_is_on p k node place (Did (item.OwnFetch page words)) found is = absurd (cc)
  taken_is_on p k node place (Did (item.OwnReconcile part)) found is = absurd (cc)
  taken_is_on p k node place (Did (item.Served frame index word old addend)) found is = absurd (cc)
  taken_is_on p k node place (Sent message) found is = absurd (cc)
  taken_is_on p k node place (Took message) found is =
      let by : node ≡ p = cc in
      let from : taken_from (before course position) place ≡ k = cc in (place, message, subst (λ it. Found it place (Took message)) by found, from)
  taken_is_on p k node place (Ended end) found is = absurd (cc)

  -- a node took a message
  pub taken_is : (p k : ℕ) → events_of cluster course position ≡ log.Took p k
      → (place : Option PostAt) × (message : Msg) × Found p place (Took message) × (taken_from (before course position) place ≡ k)
  taken_is p k is =
      let found = found_at (log.Took p k) is (λ none. absurd (cc)) in taken_is_on p k (found.0) (found.1) (found.2) (found.3) (found.4)

  dropped_is_on : (p g : ℕ) (node : ℕ) (place : Option PostAt) (event : Event) → Found node place event
      → happens_to cluster (before course position) node place event ≡ log.Drop p g
      → Happens course p position (Did (item.Drop g))
  dropped_is_on p g node place (Did (item.Act frame index act)) found is = absurd (cc)
  dropped_is_on p g node place (Did (item.Tick frame)) found is = absurd (cc)
  dropped_is_on p g node place (Did (item.Drop page)) found is =
      let by : node ≡ p = cc in let same : page ≡ g = cc in subst (λ it. Happens course it position (Did (item.Drop g))) by
      (subst (λ it. Happens course node position (Did (item.Drop it))) same (happens node place (Did (item.Drop page)) found))
  dropped_is_on p g node place (Did (item.TakeUp frame)) found is = absurd (cc)
  dropped_is_on p g node place (Did (item.OwnFetch page words)) found is = absurd (cc)
  dropped_is_on p g node place (Did (item.OwnReconcile part)) found is = absurd (cc)
  dropped_is_on p g node place (Did (item.Served frame index word old addend)) found is = absurd (cc)
  dropped_is_on p g node place (Sent message) found is = absurd (cc)
  dropped_is_on p g node place (Took message) found is = absurd (cc)
  dropped_is_on p g node place (Ended end) found is = absurd (cc)

  -- a node dropped a page
  pub dropped_is : (p g : ℕ) → events_of cluster course position ≡ log.Drop p g → Happens course p position (Did (item.Drop g))
  dropped_is p g is =
      let found = found_at (log.Drop p g) is (λ none. absurd (cc)) in dropped_is_on p g (found.0) (found.1) (found.2) (found.3) (found.4)

  took_up_is_on : (p : ℕ) (f : FrameId) (node : ℕ) (place : Option PostAt) (event : Event) → Found node place event
      → happens_to cluster (before course position) node place event ≡ log.TakeUp p f
      → Happens course p position (Did (item.TakeUp f))
  took_up_is_on p f node place (Did (item.Act frame index act)) found is = absurd (cc)
  took_up_is_on p f node place (Did (item.Tick frame)) found is = absurd (cc)
  took_up_is_on p f node place (Did (item.Drop page)) found is = absurd (cc)
  took_up_is_on p f node place (Did (item.TakeUp frame)) found is =
      let by : node ≡ p = cc in let same : frame ≡ f = cc in subst (λ it. Happens course it position (Did (item.TakeUp f))) by
      (subst (λ it. Happens course node position (Did (item.TakeUp it))) same (happens node place (Did (item.TakeUp frame)) found))
  took_up_is_on p f node place (Did (item.OwnFetch page words)) found is = absurd (cc)
  took_up_is_on p f node place (Did (item.OwnReconcile part)) found is = absurd (cc)
  took_up_is_on p f node place (Did (item.Served frame index word old addend)) found is = absurd (cc)
  took_up_is_on p f node place (Sent message) found is = absurd (cc)
  took_up_is_on p f node place (Took message) found is = absurd (cc)
  took_up_is_on p f node place (Ended end) found is = absurd (cc)

  -- a node took up a frame
  pub took_up_is : (p : ℕ) (f : FrameId) → events_of cluster course position ≡ log.TakeUp p f → Happens course p position (Did (item.TakeUp f))
  took_up_is p f is =
      let found = found_at (log.TakeUp p f) is (λ none. absurd (cc)) in took_up_is_on p f (found.0) (found.1) (found.2) (found.3) (found.4)

  ticked_is_on : (p : ℕ) (f : FrameId) (node : ℕ) (place : Option PostAt) (event : Event) → Found node place event
      → happens_to cluster (before course position) node place event ≡ log.Tick p f
      → Happens course p position (Did (item.Tick f))
  ticked_is_on p f node place (Did (item.Act frame index act)) found is = absurd (cc)
  ticked_is_on p f node place (Did (item.Tick frame)) found is =
      let by : node ≡ p = cc in let same : frame ≡ f = cc in subst (λ it. Happens course it position (Did (item.Tick f))) by
      (subst (λ it. Happens course node position (Did (item.Tick it))) same (happens node place (Did (item.Tick frame)) found))
  ticked_is_on p f node place (Did (item.Drop page)) found is = absurd (cc)
  ticked_is_on p f node place (Did (item.TakeUp frame)) found is = absurd (cc)
  ticked_is_on p f node place (Did (item.OwnFetch page words)) found is = absurd (cc)
  ticked_is_on p f node place (Did (item.OwnReconcile part)) found is = absurd (cc)
  ticked_is_on p f node place (Did (item.Served frame index word old addend)) found is = absurd (cc)
  ticked_is_on p f node place (Sent message) found is = absurd (cc)
  ticked_is_on p f node place (Took message) found is = absurd (cc)
  ticked_is_on p f node place (Ended end) found is = absurd (cc)

  -- a frame made a tick
  pub ticked_is : (p : ℕ) (f : FrameId) → events_of cluster course position ≡ log.Tick p f → Happens course p position (Did (item.Tick f))
  ticked_is p f is =
      let found = found_at (log.Tick p f) is (λ none. absurd (cc)) in ticked_is_on p f (found.0) (found.1) (found.2) (found.3) (found.4)

  loaded_is_on : (p g : ℕ) (bring : ℕ → ℤ) (node : ℕ) (place : Option PostAt) (event : Event) → Found node place event
      → happens_to cluster (before course position) node place event ≡ log.OwnFetch p g bring
      → (list : List ℤ) × Happens course p position (Did (item.OwnFetch g list)) × (bring ≡ words_of cluster list)
  loaded_is_on p g bring node place (Did (item.Act frame index act)) found is = absurd (cc)
  loaded_is_on p g bring node place (Did (item.Tick frame)) found is = absurd (cc)
  loaded_is_on p g bring node place (Did (item.Drop page)) found is = absurd (cc)
  loaded_is_on p g bring node place (Did (item.TakeUp frame)) found is = absurd (cc)
  loaded_is_on p g bring node place (Did (item.OwnFetch page words)) found is =
      let by : node ≡ p = cc in let same : page ≡ g = cc in let words_are : words_of cluster words ≡ bring = cc in (
        words,
        subst (λ it. Happens course it position (Did (item.OwnFetch g words))) by (subst
            (λ it. Happens course node position (Did (item.OwnFetch it words))) same (happens node place (Did (item.OwnFetch page words)) found)),
        sym words_are,
      )
  loaded_is_on p g bring node place (Did (item.OwnReconcile part)) found is = absurd (cc)
  loaded_is_on p g bring node place (Did (item.Served frame index word old addend)) found is = absurd (cc)
  loaded_is_on p g bring node place (Sent message) found is = absurd (cc)
  loaded_is_on p g bring node place (Took message) found is = absurd (cc)
  loaded_is_on p g bring node place (Ended end) found is = absurd (cc)

  -- a node loaded a page from its own home
  pub loaded_is : (p g : ℕ) (bring : ℕ → ℤ) → events_of cluster course position ≡ log.OwnFetch p g bring
      → (list : List ℤ) × Happens course p position (Did (item.OwnFetch g list)) × (bring ≡ words_of cluster list)
  loaded_is p g bring is =
      let found = found_at (log.OwnFetch p g bring) is (λ none. absurd (cc)) in loaded_is_on p g bring (found.0) (found.1) (found.2) (found.3) (found.4)

  own_part_is_on : (p : ℕ) (sent : log.Part) (node : ℕ) (place : Option PostAt) (event : Event) → Found node place event
      → happens_to cluster (before course position) node place event ≡ log.OwnReconcile p sent
      → (part : page.Part) × Happens course p position (Did (item.OwnReconcile part)) × (part_of cluster part ≡ sent)
  own_part_is_on p sent node place (Did (item.Act frame index act)) found is = absurd (cc)
  own_part_is_on p sent node place (Did (item.Tick frame)) found is = absurd (cc)
  own_part_is_on p sent node place (Did (item.Drop page)) found is = absurd (cc)
  own_part_is_on p sent node place (Did (item.TakeUp frame)) found is = absurd (cc)
  own_part_is_on p sent node place (Did (item.OwnFetch page words)) found is = absurd (cc)
  own_part_is_on p sent node place (Did (item.OwnReconcile part)) found is =
      let by : node ≡ p = cc in let same : part_of cluster part ≡ sent = cc in
      (part, subst (λ it. Happens course it position (Did (item.OwnReconcile part))) by (happens node place (Did (item.OwnReconcile part)) found), same)
  own_part_is_on p sent node place (Did (item.Served frame index word old addend)) found is = absurd (cc)
  own_part_is_on p sent node place (Sent message) found is = absurd (cc)
  own_part_is_on p sent node place (Took message) found is = absurd (cc)
  own_part_is_on p sent node place (Ended end) found is = absurd (cc)

  -- a node sent a part to its own home
  pub own_part_is : (p : ℕ) (sent : log.Part) → events_of cluster course position ≡ log.OwnReconcile p sent
      → (part : page.Part) × Happens course p position (Did (item.OwnReconcile part)) × (part_of cluster part ≡ sent)
  own_part_is p sent is =
      let found = found_at (log.OwnReconcile p sent) is (λ none. absurd (cc)) in own_part_is_on p sent (found.0) (found.1) (found.2) (found.3) (found.4)

  -- an act of a frame on a node, or an add that is served for that node
  pub record Served (p : ℕ) (f : FrameId) (a : log.Act) : Type 0 where
    pub home : ℕ
    pub index : ℕ
    pub word : ℕ
    pub old : ℤ
    pub addend : ℤ
    pub is : Happens course home position (Did (item.Served f index word old addend))
    pub for : served_for home (owed_adds (own home (before course position))) ≡ p
    pub act_is : log.Add word old addend ≡ a

  pub record Acted (p : ℕ) (f : FrameId) (a : log.Act) : Type 0 where
    pub index : ℕ
    pub act : LoggedAct
    pub is : Happens course p position (Did (item.Act f index act))
    pub act_is : act_of act ≡ a

  acted_is_on : (p : ℕ) (f : FrameId) (a : log.Act) (node : ℕ) (place : Option PostAt) (event : Event) → Found node place event
      → happens_to cluster (before course position) node place event ≡ log.Acts p f a
      → Acted p f a ⊎ Served p f a
  acted_is_on p f a node place (Did (item.Act frame index act)) found is =
      let by : node ≡ p = cc in let same : frame ≡ f = cc in let act_same : act_of act ≡ a = cc in
      inl (record {
        index = index;
        act = act;
        is = subst (λ it. Happens course it position (Did (item.Act f index act))) by (subst (λ it.
            Happens course node position (Did (item.Act it index act))) same (happens node place (Did (item.Act frame index act)) found));
        act_is = act_same;
      })
  acted_is_on p f a node place (Did (item.Tick frame)) found is = absurd (cc)
  acted_is_on p f a node place (Did (item.Drop page)) found is = absurd (cc)
  acted_is_on p f a node place (Did (item.TakeUp frame)) found is = absurd (cc)
  acted_is_on p f a node place (Did (item.OwnFetch page words)) found is = absurd (cc)
  acted_is_on p f a node place (Did (item.OwnReconcile part)) found is = absurd (cc)
  acted_is_on p f a node place (Did (item.Served frame index word old addend)) found is =
      let same : frame ≡ f = cc in
      let for_p : served_for node (owed_adds (own node (before course position))) ≡ p = cc in let act_same : log.Add word old addend ≡ a = cc in
      inr (record {
        home = node;
        index = index;
        word = word;
        old = old;
        addend = addend;
        is = subst (λ it. Happens course node position (Did (item.Served it index word old addend))) same
            (happens node place (Did (item.Served frame index word old addend)) found);
        for = for_p;
        act_is = act_same;
      })
  acted_is_on p f a node place (Sent message) found is = absurd (cc)
  acted_is_on p f a node place (Took message) found is = absurd (cc)
  acted_is_on p f a node place (Ended end) found is = absurd (cc)

  -- an act of a frame
  pub acted_is : (p : ℕ) (f : FrameId) (a : log.Act) → events_of cluster course position ≡ log.Acts p f a → Acted p f a ⊎ Served p f a
  acted_is p f a is =
      let found = found_at (log.Acts p f a) is (λ none. absurd (cc)) in acted_is_on p f a (found.0) (found.1) (found.2) (found.3) (found.4)

-- ---- what a message says

pub fetch_is : (cluster : Cluster) (number : ℕ) (course : Course) (g : ℕ) (said : Body) → note_of cluster number course said ≡ log.Fetch g → said ≡ body.Fetch g
fetch_is cluster number course g (body.Fetch page) is = let same : page ≡ g = cc in ap body.Fetch same
fetch_is cluster number course g (body.Page page words) is = absurd (cc)
fetch_is cluster number course g (body.Reconcile parts) is = absurd (cc)
fetch_is cluster number course g body.Ack is = absurd (cc)
fetch_is cluster number course g body.Ask is = absurd (cc)
fetch_is cluster number course g (body.Grant closure) is = absurd (cc)
fetch_is cluster number course g body.Refuse is = absurd (cc)
fetch_is cluster number course g (body.Done join index value) is = absurd (cc)
fetch_is cluster number course g (body.Park join closure) is = absurd (cc)
fetch_is cluster number course g (body.Add frame index word addend) is = absurd (cc)
fetch_is cluster number course g (body.Added old) is = absurd (cc)

pub page_is : (cluster : Cluster) (number : ℕ) (course : Course) (g : ℕ) (bring : ℕ → ℤ) (said : Body) → note_of cluster number course said ≡ log.Page g bring
    → (list : List ℤ) × (said ≡ body.Page g list) × (bring ≡ words_of cluster list)
page_is cluster number course g bring (body.Fetch page) is = absurd (cc)
page_is cluster number course g bring (body.Page page words) is =
    let same : page ≡ g = cc in let words_are : words_of cluster words ≡ bring = cc in (words, ap (λ it. body.Page it words) same, sym words_are)
page_is cluster number course g bring (body.Reconcile parts) is = absurd (cc)
page_is cluster number course g bring body.Ack is = absurd (cc)
page_is cluster number course g bring body.Ask is = absurd (cc)
page_is cluster number course g bring (body.Grant closure) is = absurd (cc)
page_is cluster number course g bring body.Refuse is = absurd (cc)
page_is cluster number course g bring (body.Done join index value) is = absurd (cc)
page_is cluster number course g bring (body.Park join closure) is = absurd (cc)
page_is cluster number course g bring (body.Add frame index word addend) is = absurd (cc)
page_is cluster number course g bring (body.Added old) is = absurd (cc)

pub reconcile_is : (cluster : Cluster) (number : ℕ) (course : Course) (sent : List log.Part) (said : Body)
    → note_of cluster number course said ≡ log.Reconcile sent → (list : List page.Part) × (said ≡ body.Reconcile list) × (parts_of cluster list ≡ sent)
reconcile_is cluster number course sent (body.Fetch page) is = absurd (cc)
reconcile_is cluster number course sent (body.Page page words) is = absurd (cc)
reconcile_is cluster number course sent (body.Reconcile parts) is = let same : parts_of cluster parts ≡ sent = cc in (parts, refl, same)
reconcile_is cluster number course sent body.Ack is = absurd (cc)
reconcile_is cluster number course sent body.Ask is = absurd (cc)
reconcile_is cluster number course sent (body.Grant closure) is = absurd (cc)
reconcile_is cluster number course sent body.Refuse is = absurd (cc)
reconcile_is cluster number course sent (body.Done join index value) is = absurd (cc)
reconcile_is cluster number course sent (body.Park join closure) is = absurd (cc)
reconcile_is cluster number course sent (body.Add frame index word addend) is = absurd (cc)
reconcile_is cluster number course sent (body.Added old) is = absurd (cc)

pub ack_is : (cluster : Cluster) (number : ℕ) (course : Course) (said : Body) → note_of cluster number course said ≡ log.Ack → said ≡ body.Ack
ack_is cluster number course (body.Fetch page) is = absurd (cc)
ack_is cluster number course (body.Page page words) is = absurd (cc)
ack_is cluster number course (body.Reconcile parts) is = absurd (cc)
ack_is cluster number course body.Ack is = refl
ack_is cluster number course body.Ask is = absurd (cc)
ack_is cluster number course (body.Grant closure) is = absurd (cc)
ack_is cluster number course body.Refuse is = absurd (cc)
ack_is cluster number course (body.Done join index value) is = absurd (cc)
ack_is cluster number course (body.Park join closure) is = absurd (cc)
ack_is cluster number course (body.Add frame index word addend) is = absurd (cc)
ack_is cluster number course (body.Added old) is = absurd (cc)

pub grant_is : (cluster : Cluster) (number : ℕ) (course : Course) (f : FrameId) (said : Body) → note_of cluster number course said ≡ log.Grant f
    → (closure : Closure) × (said ≡ body.Grant closure) × (closure.id ≡ f)
grant_is cluster number course f (body.Fetch page) is = absurd (cc)
grant_is cluster number course f (body.Page page words) is = absurd (cc)
grant_is cluster number course f (body.Reconcile parts) is = absurd (cc)
grant_is cluster number course f body.Ack is = absurd (cc)
grant_is cluster number course f body.Ask is = absurd (cc)
grant_is cluster number course f (body.Grant closure) is = let same : closure.id ≡ f = cc in (closure, refl, same)
grant_is cluster number course f body.Refuse is = absurd (cc)
grant_is cluster number course f (body.Done join index value) is = absurd (cc)
grant_is cluster number course f (body.Park join closure) is = absurd (cc)
grant_is cluster number course f (body.Add frame index word addend) is = absurd (cc)
grant_is cluster number course f (body.Added old) is = absurd (cc)

pub done_is : (cluster : Cluster) (number : ℕ) (course : Course) (f c : FrameId) (said : Body) → note_of cluster number course said ≡ log.Done f c
    → (join : JoinId) × (index : ℕ) × (value : ℤ) × (said ≡ body.Done join index value) × (frame_of join course ≡ f) × (bottom_of cluster number course ≡ c)
done_is cluster number course f c (body.Fetch page) is = absurd (cc)
done_is cluster number course f c (body.Page page words) is = absurd (cc)
done_is cluster number course f c (body.Reconcile parts) is = absurd (cc)
done_is cluster number course f c body.Ack is = absurd (cc)
done_is cluster number course f c body.Ask is = absurd (cc)
done_is cluster number course f c (body.Grant closure) is = absurd (cc)
done_is cluster number course f c body.Refuse is = absurd (cc)
done_is cluster number course f c (body.Done join index value) is =
    let parent : frame_of join course ≡ f = cc in let child : bottom_of cluster number course ≡ c = cc in (join, index, value, refl, parent, child)
done_is cluster number course f c (body.Park join closure) is = absurd (cc)
done_is cluster number course f c (body.Add frame index word addend) is = absurd (cc)
done_is cluster number course f c (body.Added old) is = absurd (cc)

pub park_is : (cluster : Cluster) (number : ℕ) (course : Course) (f : FrameId) (said : Body) → note_of cluster number course said ≡ log.Park f
    → (join : JoinId) × (closure : Closure) × (said ≡ body.Park join closure) × (closure.id ≡ f)
park_is cluster number course f (body.Fetch page) is = absurd (cc)
park_is cluster number course f (body.Page page words) is = absurd (cc)
park_is cluster number course f (body.Reconcile parts) is = absurd (cc)
park_is cluster number course f body.Ack is = absurd (cc)
park_is cluster number course f body.Ask is = absurd (cc)
park_is cluster number course f (body.Grant closure) is = absurd (cc)
park_is cluster number course f body.Refuse is = absurd (cc)
park_is cluster number course f (body.Done join index value) is = absurd (cc)
park_is cluster number course f (body.Park join closure) is = let same : closure.id ≡ f = cc in (join, closure, refl, same)
park_is cluster number course f (body.Add frame index word addend) is = absurd (cc)
park_is cluster number course f (body.Added old) is = absurd (cc)

pub add_is : (cluster : Cluster) (number : ℕ) (course : Course) (f : FrameId) (w : ℕ) (d : ℤ) (said : Body)
    → note_of cluster number course said ≡ log.AddTo f w d → (at_index : ℕ) × (said ≡ body.Add f at_index w d)
add_is cluster number course f w d (body.Fetch page) is = absurd (cc)
add_is cluster number course f w d (body.Page page words) is = absurd (cc)
add_is cluster number course f w d (body.Reconcile parts) is = absurd (cc)
add_is cluster number course f w d body.Ack is = absurd (cc)
add_is cluster number course f w d body.Ask is = absurd (cc)
add_is cluster number course f w d (body.Grant closure) is = absurd (cc)
add_is cluster number course f w d body.Refuse is = absurd (cc)
add_is cluster number course f w d (body.Done join index value) is = absurd (cc)
add_is cluster number course f w d (body.Park join closure) is = absurd (cc)
add_is cluster number course f w d (body.Add frame index word addend) is =
    let frame_same : frame ≡ f = cc in let word_same : word ≡ w = cc in let addend_same : addend ≡ d = cc in (
      index,
      ap (λ it. body.Add it index word addend) frame_same ∙ ap (λ it. body.Add f index it addend) word_same
          ∙ ap (λ it. body.Add f index w it) addend_same,
    )
add_is cluster number course f w d (body.Added old) is = absurd (cc)

pub added_is : (cluster : Cluster) (number : ℕ) (course : Course) (v : ℤ) (said : Body) → note_of cluster number course said ≡ log.Added v → said ≡ body.Added v
added_is cluster number course v (body.Fetch page) is = absurd (cc)
added_is cluster number course v (body.Page page words) is = absurd (cc)
added_is cluster number course v (body.Reconcile parts) is = absurd (cc)
added_is cluster number course v body.Ack is = absurd (cc)
added_is cluster number course v body.Ask is = absurd (cc)
added_is cluster number course v (body.Grant closure) is = absurd (cc)
added_is cluster number course v body.Refuse is = absurd (cc)
added_is cluster number course v (body.Done join index value) is = absurd (cc)
added_is cluster number course v (body.Park join closure) is = absurd (cc)
added_is cluster number course v (body.Add frame index word addend) is = absurd (cc)
added_is cluster number course v (body.Added old) is = let same : old ≡ v = cc in ap body.Added same

-- ---- what an act is

pub read_is : (w : ℕ) (v : ℤ) (done : LoggedAct) → act_of done ≡ log.Read w v → done ≡ act.Read w v
read_is w v (act.Read word value) is =
    let word_same : word ≡ w = cc in let value_same : value ≡ v = cc in ap (λ it. act.Read it value) word_same ∙ ap (act.Read w) value_same
read_is w v (act.Write word value) is = absurd (cc)
read_is w v (act.Print value) is = absurd (cc)
read_is w v (act.Spawn child procedure arguments) is = absurd (cc)
read_is w v act.Sync is = absurd (cc)

pub write_is : (w : ℕ) (v : ℤ) (done : LoggedAct) → act_of done ≡ log.Write w v → done ≡ act.Write w v
write_is w v (act.Read word value) is = absurd (cc)
write_is w v (act.Write word value) is =
    let word_same : word ≡ w = cc in let value_same : value ≡ v = cc in ap (λ it. act.Write it value) word_same ∙ ap (act.Write w) value_same
write_is w v (act.Print value) is = absurd (cc)
write_is w v (act.Spawn child procedure arguments) is = absurd (cc)
write_is w v act.Sync is = absurd (cc)

pub spawn_is : (d : FrameId) (done : LoggedAct) → act_of done ≡ log.Spawn d → (procedure : ℕ) × (arguments : List ℤ) × (done ≡ act.Spawn d procedure arguments)
spawn_is d (act.Read word value) is = absurd (cc)
spawn_is d (act.Write word value) is = absurd (cc)
spawn_is d (act.Print value) is = absurd (cc)
spawn_is d (act.Spawn child procedure arguments) is = let same : child ≡ d = cc in (procedure, arguments, ap (λ it. act.Spawn it procedure arguments) same)
spawn_is d act.Sync is = absurd (cc)

pub sync_is : (done : LoggedAct) → act_of done ≡ log.Sync → done ≡ act.Sync
sync_is (act.Read word value) is = absurd (cc)
sync_is (act.Write word value) is = absurd (cc)
sync_is (act.Print value) is = absurd (cc)
sync_is (act.Spawn child procedure arguments) is = absurd (cc)
sync_is act.Sync is = refl

pub no_add : (w : ℕ) (old d : ℤ) (done : LoggedAct) → act_of done ≡ log.Add w old d → ⊥
no_add w old d (act.Read word value) is = absurd (cc)
no_add w old d (act.Write word value) is = absurd (cc)
no_add w old d (act.Print value) is = absurd (cc)
no_add w old d (act.Spawn child procedure arguments) is = absurd (cc)
no_add w old d act.Sync is = absurd (cc)
