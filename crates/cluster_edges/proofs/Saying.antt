-- What a course says of a frame, as positions: where it was sent, and that nothing was said of it since.
use Rattle.std.proofs.Common.{◌≡◌, ◌⊎◌, inl, inr, ℕ, ◌<◌, [], ◌∷◌, Option, Some, None, Bool, true, false, cond, eqb, length, refl, sym, ◌∙◌, ap, subst, arith}
use Rattle.page_messages.specs.declared.closure.FrameId.{FrameId}
use Rattle.page_messages.specs.declared.closure.JoinId.{JoinId}
use Rattle.page_messages.specs.declared.closure.Closure.{Closure}
use Rattle.page_messages.specs.declared.message.Msg.{Msg}
use Rattle.page_messages.specs.declared.message.Body.{Body}
use Rattle.page_messages.specs.declared.message.Body.TheVariants as body
use Rattle.page_messages.specs.declared.log.Item.TheVariants as item
use Rattle.cluster_rules.specs.Walking.{or_else}
use Rattle.cluster_rules.specs.Turns.{Event, Did, Sent, Took, Ended}
use Rattle.cluster_rules.specs.Lives.{same_frame}
use Rattle.cluster_rules.specs.Positions.{Moved, Course, at, before}
use Rattle.cluster_rules.specs.Runs.{Cluster}
use Rattle.cluster_rules.proofs.Marks.{same_self, same_name}
use Rattle.backer_order.specs.Log.{Events, Post, TakeUp, Grant, Park}
use Rattle.backer_order.specs.Moments.{NoneBetween}
use Rattle.backer_order.specs.Edges.{TakesUp, FromPark, Joined}
use Rattle.cluster_order.specs.Reading.{note_of, happens_to, events_of}
use Rattle.cluster_order.specs.Standing.{first}
use Rattle.cluster_order.proofs.Growing.{within, at_last, before_last, before_behind, before_grown, at_behind}
use Rattle.cluster_order.proofs.Events.{event_at, took_up_is}
use Rattle.cluster_edges.proofs.News.{News, ByGrant, ByPark, IsUp, Told, told_event, told_sent, news_in, news_on, last_news, Risen, risen_on}
use Rattle.cluster_edges.proofs.Firsts.{first_before, first_grown, at_first, at_whole, before_position}

-- ---- what an event says

in_some : (frame : FrameId) (it : Told) (news : News) (b : Bool) → same_frame it.frame frame ≡ b → cond b (Some it.news) None ≡ Some news
    → (it.frame ≡ frame) × (it.news ≡ news)
in_some frame it news true is said = let same : it.news ≡ news = cc in (same_name it.frame frame is, same)
in_some frame it news false is said = absurd (cc)

in_told : (frame : FrameId) (it : Told) (news : News) → news_in frame (Some it) ≡ Some news → (it.frame ≡ frame) × (it.news ≡ news)
in_told frame it news said = in_some frame it news (same_frame it.frame frame) refl said

-- what a message says of a frame: it is granted, or parked
pub sent_says : (frame : FrameId) (receiver : ℕ) (said : Body) (news : News) → news_in frame (told_sent receiver said) ≡ Some news
    → ((news ≡ ByGrant receiver) × (closure : Closure) × (said ≡ body.Grant closure) × (closure.id ≡ frame))
    ⊎ ((news ≡ ByPark receiver) × (join : JoinId) × (closure : Closure) × (said ≡ body.Park join closure) × (closure.id ≡ frame))
sent_says frame receiver (body.Fetch page) news says = absurd (cc)
sent_says frame receiver (body.Page page words) news says = absurd (cc)
sent_says frame receiver (body.Reconcile parts) news says = absurd (cc)
sent_says frame receiver body.Ack news says = absurd (cc)
sent_says frame receiver body.Ask news says = absurd (cc)
sent_says frame receiver (body.Grant closure) news says =
    let it : Told = record { frame = closure.id; news = ByGrant receiver } in let both = in_told frame it news says in inl (sym both.1, closure, refl, both.0)
sent_says frame receiver body.Refuse news says = absurd (cc)
sent_says frame receiver (body.Done join index value) news says = absurd (cc)
sent_says frame receiver (body.Park join closure) news says =
    let it : Told = record { frame = closure.id; news = ByPark receiver } in
    let both = in_told frame it news says in inr (sym both.1, join, closure, refl, both.0)
sent_says frame receiver (body.Add other index word addend) news says = absurd (cc)
sent_says frame receiver (body.Added old) news says = absurd (cc)

-- what an event says of a frame: it is sent, or taken up
pub data Says (frame : FrameId) (moved : Moved) (news : News) : Type 0 where
  SaysGrant : (message : Msg) (closure : Closure) → moved.event ≡ Sent message → message.body ≡ body.Grant closure → closure.id ≡ frame
      → news ≡ ByGrant message.receiver → Says frame moved news
  SaysPark : (message : Msg) (join : JoinId) (closure : Closure) → moved.event ≡ Sent message → message.body ≡ body.Park join closure → closure.id ≡ frame
      → news ≡ ByPark message.receiver
      → Says frame moved news
  SaysUp : moved.event ≡ Did (item.TakeUp frame) → news ≡ IsUp moved.node → Says frame moved news

sent_on : (frame : FrameId) (moved : Moved) (news : News) (message : Msg) → moved.event ≡ Sent message
    → ((news ≡ ByGrant message.receiver) × (closure : Closure) × (message.body ≡ body.Grant closure) × (closure.id ≡ frame))
    ⊎ ((news ≡ ByPark message.receiver) × (join : JoinId) × (closure : Closure) × (message.body ≡ body.Park join closure) × (closure.id ≡ frame))
    → Says frame moved news
sent_on frame moved news message is (inl all) = SaysGrant message all.1 is all.2 all.3 all.0
sent_on frame moved news message is (inr all) = SaysPark message all.1 all.2 is all.3 all.4 all.0

says_on : (frame : FrameId) (moved : Moved) (news : News) (event : Event) → moved.event ≡ event → news_in frame (told_event moved.node event) ≡ Some news
    → Says frame moved news
says_on frame moved news (Did (item.Act other index act)) is says = absurd (cc)
says_on frame moved news (Did (item.Tick other)) is says = absurd (cc)
says_on frame moved news (Did (item.Drop page)) is says = absurd (cc)
says_on frame moved news (Did (item.TakeUp other)) is says =
    let it : Told = record { frame = other; news = IsUp moved.node } in
    let both = in_told frame it news says in
    SaysUp (is ∙ ap (λ (it : FrameId). Did (item.TakeUp it)) both.0) (sym both.1)
says_on frame moved news (Did (item.OwnFetch page words)) is says = absurd (cc)
says_on frame moved news (Did (item.OwnReconcile part)) is says = absurd (cc)
says_on frame moved news (Did (item.Served other index word old addend)) is says = absurd (cc)
says_on frame moved news (Sent message) is says = sent_on frame moved news message is (sent_says frame message.receiver message.body news says)
says_on frame moved news (Took message) is says = absurd (cc)
says_on frame moved news (Ended end) is says = absurd (cc)

pub says : (frame : FrameId) (moved : Moved) (news : News) → news_on frame moved ≡ Some news → Says frame moved news
says frame moved news is = says_on frame moved news moved.event refl is

-- ---- positions

-- The last event of a course that says something of the frame.
pub record Said (frame : FrameId) (news : News) (course : Course) : Type 0 where
  pub post : ℕ
  pub moved : Moved
  pub is : at course post ≡ Some moved
  pub says : news_on frame moved ≡ Some news
  pub none : (later : ℕ) (other : Moved) → post < later → at course later ≡ Some other → news_on frame other ≡ None

said_on : (frame : FrameId) (news : News) (moved : Moved) (course : Course) (here : Option News) → news_on frame moved ≡ here
    → or_else here (last_news frame course) ≡ Some news
    → (last_news frame course ≡ Some news → Said frame news course) → Said frame news (moved ∷ course)
said_on frame news moved course (Some other) is says rest =
    let same : other ≡ news = cc in record {
      post = length course;
      moved = moved;
      is = at_last moved course;
      says = is ∙ ap Some same;
      none = λ later second behind found. let inside = within (moved ∷ course) later second found in absurd (omega (arith, behind, inside));
    }
said_on frame news moved course None is says rest =
    let before = rest says in
    let inside = within course before.post before.moved before.is in record {
      post = before.post;
      moved = before.moved;
      is = at_behind (moved ∷ []) course before.post inside ∙ before.is;
      says = before.says;
      none = λ later second behind found. on later second behind (eqb later (length course)) refl found before.none;
    }
  where
    on : {post : ℕ} (later : ℕ) (second : Moved) → post < later → (b : Bool) → eqb later (length course) ≡ b
        → cond b (Some moved) (at course later) ≡ Some second
        → ((later : ℕ) (other : Moved) → post < later → at course later ≡ Some other → news_on frame other ≡ None) → news_on frame second ≡ None
    on later second behind true same found none = let one : moved ≡ second = cc in subst (λ it. news_on frame it ≡ None) one is
    on later second behind false same found none = none later second behind found

pub said : (frame : FrameId) (news : News) (course : Course) → last_news frame course ≡ Some news → Said frame news course
said frame news [] is = absurd (cc)
said frame news (moved ∷ course) is = said_on frame news moved course (news_on frame moved) refl is (said frame news course)

-- The take-up of a frame that was its last, from its join.
pub record Rose (frame : FrameId) (course : Course) : Type 0 where
  pub up : ℕ
  pub moved : Moved
  pub is : at course up ≡ Some moved
  pub taken : moved.event ≡ Did (item.TakeUp frame)
  pub parked : last_news frame (before course up) ≡ Some (ByPark moved.node)
  pub none : (later : ℕ) (other : Moved) (node : ℕ) → up < later → at course later ≡ Some other → news_on frame other ≡ Some (IsUp node) → ⊥

rose_later : (frame : FrameId) (moved : Moved) (course : Course) → ((node : ℕ) → news_on frame moved ≡ Some (IsUp node) → ⊥) → Rose frame course
    → Rose frame (moved ∷ course)
rose_later frame moved course not rose =
    let inside = within course rose.up rose.moved rose.is in record {
      up = rose.up;
      moved = rose.moved;
      is = at_behind (moved ∷ []) course rose.up inside ∙ rose.is;
      taken = rose.taken;
      parked = ap (last_news frame) (before_behind (moved ∷ []) course rose.up inside) ∙ rose.parked;
      none = λ later second node behind found. on later second node behind (eqb later (length course)) refl found rose.none;
    }
  where
    on : {up : ℕ} (later : ℕ) (second : Moved) (node : ℕ) → up < later → (b : Bool) → eqb later (length course) ≡ b
        → cond b (Some moved) (at course later) ≡ Some second
        → ((later : ℕ) (other : Moved) (node : ℕ) → up < later → at course later ≡ Some other → news_on frame other ≡ Some (IsUp node) → ⊥)
        → news_on frame second ≡ Some (IsUp node) → ⊥
    on later second node behind true same found none = let one : moved ≡ second = cc in subst (λ it. news_on frame it ≡ Some (IsUp node) → ⊥) one (not node)
    on later second node behind false same found none = none later second node behind found

up_event : (frame : FrameId) (moved : Moved) (node : ℕ) → Says frame moved (IsUp node) → moved.event ≡ Did (item.TakeUp frame)
up_event frame moved node (SaysGrant message closure is body_is id news) = absurd (cc)
up_event frame moved node (SaysPark message join closure is body_is id news) = absurd (cc)
up_event frame moved node (SaysUp is news) = is

rose_on : (frame : FrameId) (moved : Moved) (course : Course) (here : Option News) → news_on frame moved ≡ here
    → risen_on moved.node here (last_news frame course) (Risen frame course)
    → (Risen frame course → Rose frame course) → Rose frame (moved ∷ course)
rose_on frame moved course None is risen rest = rose_later frame moved course (λ node up. absurd (cc)) (rest risen)
rose_on frame moved course (Some (ByGrant other)) is risen rest = rose_later frame moved course (λ node up. absurd (cc)) (rest risen)
rose_on frame moved course (Some (ByPark other)) is risen rest = rose_later frame moved course (λ node up. absurd (cc)) (rest risen)
rose_on frame moved course (Some (IsUp other)) is risen rest = record {
  up = length course;
  moved = moved;
  is = at_last moved course;
  taken = up_event frame moved other (says frame moved (IsUp other) is);
  parked = ap (last_news frame) (before_last moved course) ∙ risen;
  none = λ later second node behind found up. let inside = within (moved ∷ course) later second found in omega (arith, behind, inside);
}

pub rose : (frame : FrameId) (course : Course) → Risen frame course → Rose frame course
rose frame [] risen = absurd risen
rose frame (moved ∷ course) risen = rose_on frame moved course (news_on frame moved) refl risen (rose frame course)

-- ---- the events of the whole course

module _ (cluster : Cluster) (course : Course) where
  abbrev events : Events
  events = events_of cluster course

  sent_event : (post : ℕ) (moved : Moved) (message : Msg) (said : Body) → at course post ≡ Some moved → moved.event ≡ Sent message → message.body ≡ said
      → events post ≡ Post moved.node message.receiver (note_of cluster moved.node (before course post) said)
  sent_event post moved message said found is body_is =
      event_at cluster course post moved found ∙ ap (λ event. happens_to cluster (before course post) moved.node moved.message event) is
      ∙ ap (λ it. Post moved.node message.receiver (note_of cluster moved.node (before course post) it)) body_is

  -- a node sends a frame by a Grant or a Park
  pub grant_event : (post : ℕ) (moved : Moved) (frame : FrameId) (node : ℕ) → at course post ≡ Some moved → Says frame moved (ByGrant node)
      → events post ≡ Post moved.node node (Grant frame)
  grant_event post moved frame node found (SaysGrant message closure is body_is id news) =
      let to : message.receiver ≡ node = cc in
      sent_event post moved message (body.Grant closure) found is body_is ∙ ap (λ it. Post moved.node it (Grant closure.id)) to
      ∙ ap (λ it. Post moved.node node (Grant it)) id
  grant_event post moved frame node found (SaysPark message join closure is body_is id news) = absurd (cc)
  grant_event post moved frame node found (SaysUp is news) = absurd (cc)

  pub park_event : (post : ℕ) (moved : Moved) (frame : FrameId) (node : ℕ) → at course post ≡ Some moved → Says frame moved (ByPark node)
      → events post ≡ Post moved.node node (Park frame)
  park_event post moved frame node found (SaysGrant message closure is body_is id news) = absurd (cc)
  park_event post moved frame node found (SaysPark message join closure is body_is id news) =
      let to : message.receiver ≡ node = cc in
      sent_event post moved message (body.Park join closure) found is body_is ∙ ap (λ it. Post moved.node it (Park closure.id)) to
      ∙ ap (λ it. Post moved.node node (Park it)) id
  park_event post moved frame node found (SaysUp is news) = absurd (cc)

  up_at : (post : ℕ) (moved : Moved) (frame : FrameId) → at course post ≡ Some moved → moved.event ≡ Did (item.TakeUp frame)
      → events post ≡ TakeUp moved.node frame
  up_at post moved frame found is =
      event_at cluster course post moved found ∙ ap (λ event. happens_to cluster (before course post) moved.node moved.message event) is

  pub up_says : (frame : FrameId) (moved : Moved) → moved.event ≡ Did (item.TakeUp frame) → news_on frame moved ≡ Some (IsUp moved.node)
  up_says frame moved is = rw (is, same_self frame) refl

  -- where a frame is taken up something is said of it
  pub taken_says : (position node : ℕ) (frame : FrameId) → events position ≡ TakeUp node frame
      → (moved : Moved) × (at course position ≡ Some moved) × (news_on frame moved ≡ Some (IsUp moved.node))
  taken_says position node frame is =
      let happens = took_up_is cluster course position node frame is in (happens.moved, happens.is, up_says frame happens.moved happens.event_is)

  none_since : (now post : ℕ) (frame : FrameId)
      → ((later : ℕ) (other : Moved) → post < later → at (first now course) later ≡ Some other → news_on frame other ≡ None)
      → NoneBetween (TakesUp events frame) post now
  none_since now post frame none = λ position behind less takes.
      let found = taken_says position takes.0 frame takes.1 in
      let nothing = none position found.0 behind (at_first course now position found.0 less found.1) in
      let up = found.2 in absurd (cc)

  -- so with a Park
  pub from_park : (now node : ℕ) (frame : FrameId) → last_news frame (first now course) ≡ Some (ByPark node) → FromPark events now node frame
  from_park now node frame is =
      let it = said frame (ByPark node) (first now course) is in
      let found = at_whole course now it.post it.moved it.is in record {
        post = it.post;
        sender = it.moved.node;
        is = park_event it.post it.moved frame node found (says frame it.moved (ByPark node) it.says);
        before = before_position course now it.post it.moved it.is;
        none = none_since now it.post frame it.none;
      }

  -- its last take-up was from its join
  pub from_join : (now : ℕ) (frame : FrameId) → Risen frame (first now course) → Joined events now frame
  from_join now frame risen =
      let it = rose frame (first now course) risen in
      let found = at_whole course now it.up it.moved it.is in
      let inside = within (first now course) it.up it.moved it.is in
      let grown = first_grown now course in
      let earlier : before (first now course) it.up ≡ first it.up course =
      sym (before_grown (first now course) course grown it.up inside) ∙ sym (first_before course it.up it.moved found) in record {
        at = it.up;
        before = before_position course now it.up it.moved it.is;
        node = it.moved.node;
        is = up_at it.up it.moved frame found it.taken;
        join = from_park it.up it.moved.node frame (ap (last_news frame) (sym earlier) ∙ it.parked);
        last = λ position behind less takes.
            let said_at = taken_says position takes.0 frame takes.1 in
            it.none position said_at.0 said_at.0.node behind (at_first course now position said_at.0 less said_at.1) said_at.2;
      }
