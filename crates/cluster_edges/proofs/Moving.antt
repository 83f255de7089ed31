-- One event more: what was known of the frames of its node is known behind it.
use Rattle.std.proofs.Common.{◌≡◌, ◌⊎◌, inl, inr, ℕ, ℤ, ◌+◌, ◌<◌, ◌≤◌, List, [], ◌∷◌, Option, Some, None, is_some, true, false, cond, refl, sym, ◌∙◌, ap, subst, arith}
use Rattle.page_messages.specs.declared.closure.FrameId.{FrameId}
use Rattle.page_messages.specs.declared.closure.JoinId.{JoinId}
use Rattle.page_messages.specs.declared.message.Msg.{Msg}
use Rattle.page_messages.specs.declared.message.Body.{Body}
use Rattle.page_messages.specs.declared.message.Body.TheVariants as body
use Rattle.page_messages.specs.declared.log.LoggedAct.{LoggedAct}
use Rattle.page_messages.specs.declared.log.LoggedAct.TheVariants as act
use Rattle.page_messages.specs.declared.log.Item.{Item}
use Rattle.page_messages.specs.declared.log.Item.TheVariants as item
use Rattle.page_messages.specs.declared.log.PostAt.{PostAt}
use Rattle.cluster_rules.specs.Walking.{is_empty}
use Rattle.cluster_rules.specs.Turns.{Event, Did, Sent, Took, Ended, Past}
use Rattle.cluster_rules.specs.Node.{Node}
use Rattle.cluster_rules.specs.Home.{replies_in, owed_adds}
use Rattle.cluster_rules.specs.Lives.{Life, same_frame, live, after_act}
use Rattle.cluster_rules.specs.Frames.{Frames, frames_of, with_stack, frames_item, frames_on, stack_sent, next_frame, spawns_on}
use Rattle.cluster_rules.specs.Acting.{MayAct, MayMake}
use Rattle.cluster_rules.specs.Edges.{join_for}
use Rattle.cluster_rules.specs.Paging.{MayTakeUp}
use Rattle.cluster_rules.specs.Positions.{Moved, Course, own}
use Rattle.cluster_rules.specs.Runs.{Cluster, node_at, IsFree, IsOwed, MayDo, MayPost, MaySend}
use Rattle.cluster_rules.specs.Allowed.{IsAllowed}
use Rattle.cluster_rules.proofs.Marks.{marks_of, same_self, first_is}
use Rattle.cluster_rules.proofs.Holding.{own_first}
use Rattle.cluster_order.proofs.Lawful.{Among, owed_is_reply}
use Rattle.cluster_edges.proofs.News.{Told, ByGrant, ByPark, IsUp, told, told_event, told_item, told_sent, last_news, last_kept, syncs, granted_synced, untold}
use Rattle.cluster_edges.proofs.Through.{EachLife, count}
use Rattle.cluster_edges.proofs.Placed.{Named, OnStack, Coming, Placed, named_more, placed_kept}
use Rattle.cluster_edges.proofs.Changing.{each_acted, placed_stack, placed_live, placed_ticked, placed_served, placed_taking}
use Rattle.cluster_edges.proofs.Counted.{marks_at, untold_none, counted_named}
use Rattle.cluster_edges.proofs.Sending.{told_last, up_placed, up_counted, grant_placed, grant_counted, park_placed, park_counted}

-- what is no Page and no Ack may be posted
pub may_post : (node : Node) (past : Past) (message : Msg) (said : Body) → message.body ≡ said → replies_in said ≡ false → MaySend node past message
    → MayPost node past message.receiver said
may_post node past message said is no_reply (inl due) =
    let replies = (owed_is_reply node past message (subst (λ it. Among message it) (sym due.1) (inl refl))).replies in
    let not : replies_in message.body ≡ false = ap replies_in is ∙ no_reply in absurd (cc)
may_post node past message said is no_reply (inr sends) = subst (λ it. MayPost node past message.receiver it) is sends.may

-- a Grant's closure has a join
pub join_some : (node : Node) (past : Past) (join : Option JoinId) → is_some (join_for node past join) ≡ true
join_some node past (Some join) = refl
join_some node past None = refl

module _ (cluster : Cluster) (course : Course) (number : ℕ) (here : Option PostAt)
    (placed : Placed cluster number course (frames_of (node_at cluster number) (own number course)))
    (once : (frame : FrameId) → count frame (marks_at cluster course number) ≤ 1)
    (told_before : (frame : FrameId) → (last_news frame course ≡ None) ⊎ Named cluster course frame) where
  abbrev node : Node
  node = node_at cluster number

  abbrev past : Past
  past = own number course

  abbrev frames : Frames
  frames = frames_of node past

  abbrev moving : Event → Moved
  moving event = record { node = number; event = event; message = here }

  -- an event that says nothing leaves all as it was
  still : (event : Event) → told_event number event ≡ None → Placed cluster number (moving event ∷ course) frames
  still event none = placed_kept cluster number (moving event) course frames placed (untold_none cluster number (moving event) course none frames)

  -- ---- acts

  next_named : (event : Event) → spawns_on event ≡ 1 → Named cluster (moving event ∷ course) (record { node = number; number = next_frame node past })
  unfolding next_frame
  next_named event spawns =
      let next : next_frame node (own number (moving event ∷ course)) ≡ next_frame node past + spawns_on event =
      ap (next_frame node) (own_first (moving event) course) in
      omega (arith, next, spawns)

  -- the next name was told of nobody
  next_untold : (child : FrameId) → child ≡ record { node = number; number = next_frame node past }
      → (last_news child course ≡ None) ⊎ Named cluster course child → last_news child course ≡ None
  next_untold child is (inl none) = none
  next_untold child is (inr before) =
      let less : next_frame node past < next_frame node past = subst (λ it. Named cluster course it) is before in absurd (omega (arith, less))

  spawned : (frame child : FrameId) (index procedure : ℕ) (arguments : List ℤ) → child ≡ record { node = number; number = next_frame node past }
      → OnStack cluster number (moving (Did (item.Act frame index (act.Spawn child procedure arguments))) ∷ course) child None
  spawned frame child index procedure arguments is =
      let event : Event = Did (item.Act frame index (act.Spawn child procedure arguments)) in
      let none : last_news child (moving event ∷ course) ≡ None = last_kept child (moving event) course refl ∙ next_untold child is (told_before child) in
      record {
        news = inl none;
        joined = λ any. inl (untold child (moving event ∷ course) none);
        named = subst (λ it. Named cluster (moving event ∷ course) it) (sym is) (next_named event refl);
      }

  synced : (frame : FrameId) (index : ℕ) (life : Life) → frame ≡ life.id → (join : Option JoinId)
      → OnStack cluster number (moving (Did (item.Act frame index act.Sync)) ∷ course) life.id join
      → OnStack cluster number (moving (Did (item.Act frame index act.Sync)) ∷ course) life.id None
  synced frame index life is join before =
      let event : Event = Did (item.Act frame index act.Sync) in
      let syncing : syncs life.id (moving event) ≡ true =
      ap (λ b. cond b true false) (subst (λ it. same_frame it life.id ≡ true) (sym is) (same_self life.id)) in
      record { news = before.news; joined = λ any. inl (granted_synced life.id (moving event) course syncing); named = before.named }

  act_placed : (frame : FrameId) (index : ℕ) (done : LoggedAct) → MayAct node past frame index done
      → Placed cluster number (moving (Did (item.Act frame index done)) ∷ course) (with_stack (after_act node done (live frames.stack)) frames)
  act_placed frame index done may =
      let event : Event = Did (item.Act frame index done) in
      let grown : Course = moving event ∷ course in
      let all : EachLife (OnStack cluster number grown) (live frames.stack) = placed_live cluster number grown frames (still event refl) in
      let first = first_is (live frames.stack) may.life may.acts.is in
      let top : OnStack cluster number grown may.life.id may.life.join = (subst (EachLife (OnStack cluster number grown)) first.1 all).0 in
      placed_stack cluster number grown (after_act node done (live frames.stack)) frames (still event refl)
      (each_acted (OnStack cluster number grown) node done may.life (live frames.stack) may.acts.is all
      (λ child procedure arguments is.
      subst (λ it. OnStack cluster number (moving (Did (item.Act frame index it)) ∷ course) child None) (sym is)
      (spawned frame child index procedure arguments (subst (λ it. MayMake node past it may.life) is may.makes).name))
      (λ is.
      subst (λ it. OnStack cluster number (moving (Did (item.Act frame index it)) ∷ course) may.life.id None) (sym is)
      (synced frame index may.life may.acts.named may.life.join
      (subst (λ it. OnStack cluster number (moving (Did (item.Act frame index it)) ∷ course) may.life.id may.life.join) is top))))

  -- ---- items

  taking_up : (frame : FrameId) (rest : List Item) (posts : List Msg)
      → IsOwed node past (item.TakeUp frame) ⊎ (IsFree past × MayDo node past (item.TakeUp frame) rest posts)
      → MayTakeUp node past frame rest
  taking_up frame rest posts (inl owed) = absurd owed
  taking_up frame rest posts (inr both) = both.1

  acts_so : (frame : FrameId) (index : ℕ) (done : LoggedAct) (rest : List Item) (posts : List Msg)
      → IsOwed node past (item.Act frame index done) ⊎ (IsFree past × MayDo node past (item.Act frame index done) rest posts)
      → MayAct node past frame index done
  acts_so frame index done rest posts (inl owed) = absurd owed
  acts_so frame index done rest posts (inr both) = both.1

  item_placed : (done : Item) → IsAllowed node past (Did done) → Placed cluster number (moving (Did done) ∷ course) (frames_item node done past frames)
  item_placed (item.Act frame index done) does = act_placed frame index done (acts_so frame index done does.rest does.posts does.may)
  item_placed (item.Tick frame) does = placed_ticked cluster number (moving (Did (item.Tick frame)) ∷ course) frames (still (Did (item.Tick frame)) refl)
  item_placed (item.Drop page) does = still (Did (item.Drop page)) refl
  item_placed (item.TakeUp frame) does = up_placed cluster course number here placed once frame does.rest (taking_up frame does.rest does.posts does.may)
  item_placed (item.OwnFetch page words) does =
      let event : Event = Did (item.OwnFetch page words) in
      placed_stack cluster number (moving event ∷ course) (live frames.stack) frames (still event refl)
      (placed_live cluster number (moving event ∷ course) frames (still event refl))
  item_placed (item.OwnReconcile part) does = still (Did (item.OwnReconcile part)) refl
  item_placed (item.Served frame index word old addend) does =
      let event : Event = Did (item.Served frame index word old addend) in
      placed_served cluster number (moving event ∷ course) old (is_empty (owed_adds past)) frames (still event refl)

  -- ---- posts

  sent_placed : (message : Msg) (said : Body) → message.body ≡ said → MaySend node past message
      → Placed cluster number (moving (Sent message) ∷ course) (with_stack (stack_sent said frames.stack) frames)
  sent_placed message (body.Fetch page) is may =
      let kept = still (Sent message) (ap (told_sent message.receiver) is) in
      placed_stack cluster number (moving (Sent message) ∷ course) (live frames.stack) frames kept
      (placed_live cluster number (moving (Sent message) ∷ course) frames kept)
  sent_placed message (body.Page page words) is may = still (Sent message) (ap (told_sent message.receiver) is)
  sent_placed message (body.Reconcile parts) is may = still (Sent message) (ap (told_sent message.receiver) is)
  sent_placed message body.Ack is may = still (Sent message) (ap (told_sent message.receiver) is)
  sent_placed message body.Ask is may = still (Sent message) (ap (told_sent message.receiver) is)
  sent_placed message (body.Grant closure) is may =
      grant_placed cluster course number here placed once message message.receiver closure (ap (told_sent message.receiver) is)
      (may_post node past message (body.Grant closure) is refl may)
  sent_placed message body.Refuse is may = still (Sent message) (ap (told_sent message.receiver) is)
  sent_placed message (body.Done join index value) is may =
      placed_stack cluster number (moving (Sent message) ∷ course) [] frames (still (Sent message) (ap (told_sent message.receiver) is)) tt
  sent_placed message (body.Park join closure) is may =
      park_placed cluster course number here placed once message message.receiver join closure (ap (told_sent message.receiver) is)
      (may_post node past message (body.Park join closure) is refl may)
  sent_placed message (body.Add other index word addend) is may =
      let kept = still (Sent message) (ap (told_sent message.receiver) is) in
      placed_stack cluster number (moving (Sent message) ∷ course) (live frames.stack) frames kept
      (placed_live cluster number (moving (Sent message) ∷ course) frames kept)
  sent_placed message (body.Added old) is may = still (Sent message) (ap (told_sent message.receiver) is)

  -- ---- all events

  -- Behind its event the frames of the node are so. What it takes was on its way.
  pub own_placed : (event : Event) → IsAllowed node past event
      → ((message : Msg) → event ≡ Took message → Coming cluster (moving event ∷ course) number message.body)
      → Placed cluster number (moving event ∷ course) (frames_on node event past frames)
  own_placed (Did done) may coming = item_placed done may
  own_placed (Sent message) may coming = sent_placed message message.body refl may
  own_placed (Took message) may coming =
      placed_taking cluster number (moving (Took message) ∷ course) node message.body (Took message ∷ past) frames (still (Took message) refl)
      (coming message refl)
  own_placed (Ended end) may coming = still (Ended end) refl

  -- ---- the frame of which the event speaks

  tells_item : (it : Told) (done : Item) → IsAllowed node past (Did done) → told_item number done ≡ Some it → 1 ≤ count it.frame (marks_of frames)
  tells_item it (item.Act frame index done) does is = absurd (cc)
  tells_item it (item.Tick frame) does is = absurd (cc)
  tells_item it (item.Drop page) does is = absurd (cc)
  tells_item it (item.TakeUp frame) does is =
      let said : Told = record { frame = frame; news = IsUp number } in
      let same : said ≡ it = cc in
      subst (λ (it : Told). 1 ≤ count it.frame (marks_of frames)) same
      (up_counted cluster course number here placed once frame does.rest (taking_up frame does.rest does.posts does.may))
  tells_item it (item.OwnFetch page words) does is = absurd (cc)
  tells_item it (item.OwnReconcile part) does is = absurd (cc)
  tells_item it (item.Served frame index word old addend) does is = absurd (cc)

  tells_sent : (it : Told) (message : Msg) (said : Body) → message.body ≡ said → MaySend node past message → told_sent message.receiver said ≡ Some it
      → 1 ≤ count it.frame (marks_of frames)
  tells_sent it message (body.Fetch page) body_is may is = absurd (cc)
  tells_sent it message (body.Page page words) body_is may is = absurd (cc)
  tells_sent it message (body.Reconcile parts) body_is may is = absurd (cc)
  tells_sent it message body.Ack body_is may is = absurd (cc)
  tells_sent it message body.Ask body_is may is = absurd (cc)
  tells_sent it message (body.Grant closure) body_is may is =
      let told_is : Told = record { frame = closure.id; news = ByGrant message.receiver } in
      let same : told_is ≡ it = cc in
      subst (λ (it : Told). 1 ≤ count it.frame (marks_of frames)) same
      (grant_counted cluster course number here placed once message.receiver closure (may_post node past message (body.Grant closure) body_is refl may))
  tells_sent it message body.Refuse body_is may is = absurd (cc)
  tells_sent it message (body.Done join index value) body_is may is = absurd (cc)
  tells_sent it message (body.Park join closure) body_is may is =
      let told_is : Told = record { frame = closure.id; news = ByPark message.receiver } in
      let same : told_is ≡ it = cc in
      subst (λ (it : Told). 1 ≤ count it.frame (marks_of frames)) same
      (park_counted cluster course number here placed once message.receiver join closure (may_post node past message (body.Park join closure) body_is refl may))
  tells_sent it message (body.Add other index word addend) body_is may is = absurd (cc)
  tells_sent it message (body.Added old) body_is may is = absurd (cc)

  -- it is one of the node's
  pub tells_own : (it : Told) (event : Event) → IsAllowed node past event → told_event number event ≡ Some it → 1 ≤ count it.frame (marks_of frames)
  tells_own it (Did done) may is = tells_item it done may is
  tells_own it (Sent message) may is = tells_sent it message message.body refl may is
  tells_own it (Took message) may is = absurd (cc)
  tells_own it (Ended end) may is = absurd (cc)

  -- ---- what is sent

  named_now : (it : Told) (event : Event) → IsAllowed node past event → told_event number event ≡ Some it → Named cluster (moving event ∷ course) it.frame
  named_now it event may is =
      named_more cluster (moving event) course it.frame (counted_named cluster number course frames placed it.frame (tells_own it event may is))

  pub sends_coming : (message : Msg) (said : Body) → message.body ≡ said → MaySend node past message
      → Coming cluster (moving (Sent message) ∷ course) message.receiver said
  sends_coming message (body.Fetch page) is may = tt
  sends_coming message (body.Page page words) is may = tt
  sends_coming message (body.Reconcile parts) is may = tt
  sends_coming message body.Ack is may = tt
  sends_coming message body.Ask is may = tt
  sends_coming message (body.Grant closure) is may =
      let it : Told = record { frame = closure.id; news = ByGrant message.receiver } in
      let grant = may_post node past message (body.Grant closure) is refl may in
      let tells : told (moving (Sent message)) ≡ Some it = ap (told_sent message.receiver) is in
      let some : is_some closure.join ≡ true = ap is_some grant.state.join ∙ join_some node past grant.parent.join in
      (record { news = inr (some, told_last (moving (Sent message)) course it tells); named = named_now it (Sent message) may tells }, some)
  sends_coming message body.Refuse is may = tt
  sends_coming message (body.Done join index value) is may = tt
  sends_coming message (body.Park join closure) is may =
      let it : Told = record { frame = closure.id; news = ByPark message.receiver } in
      let tells : told (moving (Sent message)) ≡ Some it = ap (told_sent message.receiver) is in
      record { news = told_last (moving (Sent message)) course it tells; named = named_now it (Sent message) may tells }
  sends_coming message (body.Add other index word addend) is may = tt
  sends_coming message (body.Added old) is may = tt
