-- Searches for a proof that turns are lawful. The closures that travel are given: what a frame wants for all further answers is not found by
-- computing.
use Rattle.std.proofs.Common.{◌≡◌, ℕ, ℤ, List, [], ◌∷◌, ◌++◌, inl, inr, Option, Some, None, Bool, true, false, length, refl, ap, subst, ◌∙◌}
use Rattle.std.specs.List.{list_any, list_all}
use Rattle.cilk_meaning.specs.Wants as want
use Rattle.cilk_meaning.specs.Wants.{Traps}
use Rattle.cilk_meaning.specs.declared.ends.NodeEnd.{NodeEnd}
use Rattle.cilk_meaning.specs.declared.ends.NodeEnd.TheVariants.{Finished, Trapped, Budget}
use Rattle.page_messages.specs.declared.closure.Closure.{Closure}
use Rattle.page_messages.specs.declared.closure.FrameId.{FrameId}
use Rattle.page_messages.specs.declared.closure.JoinId.{JoinId}
use Rattle.page_messages.specs.declared.closure.Link.{Link}
use Rattle.page_messages.specs.declared.closure.Link.TheVariants.{Root, Here, Away}
use Rattle.page_messages.specs.declared.message.Msg.{Msg}
use Rattle.page_messages.specs.declared.message.Body.{Body}
use Rattle.page_messages.specs.declared.message.Body.TheVariants.{Fetch, Page, Reconcile, Ack, Ask, Grant, Refuse, Done, Park, Add, Added}
use Rattle.page_messages.specs.declared.log.LoggedAct.{LoggedAct}
use Rattle.page_messages.specs.declared.log.LoggedAct.TheVariants.{Read, Write, Print, Spawn, Sync}
use Rattle.page_messages.specs.declared.log.Item.{Item}
use Rattle.page_messages.specs.declared.log.Item.TheVariants.{Act, Tick, Drop, TakeUp, OwnFetch, OwnReconcile, Served}
use Rattle.page_messages.specs.declared.log.PostAt.{PostAt}
use Rattle.cluster_rules.specs.Walking.{first_of}
use Rattle.cluster_rules.specs.Turns.{WholeTurn, Did, Sent, Took, Past, did, posted, posted_at, past_of, takes_at, IsDelivered}
use Rattle.cluster_rules.specs.Node.{Node, page_of, home_of}
use Rattle.cluster_rules.specs.Cache.{is_resident, cached, by_use}
use Rattle.cluster_rules.specs.Home.{stored, from_me, owed_home_replies, owed_adds, owed_olds}
use Rattle.cluster_rules.specs.Lives.{Life, want_of, live}
use Rattle.cluster_rules.specs.Frames.{stack_of, highest, next_frame, ticks_of}
use Rattle.cluster_rules.specs.Asks.{Asked, asks_of, has_frames, keeps_ask, is_asking, next_victim}
use Rattle.cluster_rules.specs.Acting.{Acts, MayMake, MayAct, MayTick, MayAdd, MayAddHere, MayPostAdd, Serves, Tells}
use Rattle.cluster_rules.specs.Paging.{IsAtJoin}
use Rattle.cluster_rules.specs.Edges.{IsClosure, IsOldestAsk, MayAsk, parted, MayGrant, MayRefuse, MayDone, MayPark, costs_tick, MayEnd}
use Rattle.cluster_rules.specs.Runs.{MayDo, IsOwed, IsFree, MayDoAll, MayPost, Sends, AreKept, OwesNothing, MaySend, MaySendAll, Deeds, deeds_of, no_deeds, behind, is_reply, MayEndSo, Moves, IsStep, MayTake, Allows, Cluster, node_at, IsOver, IsNext}
use Rattle.cluster_rules.proofs.Deciding.{◌>>=◌, or_try, holds, fails, same, differ, less, at_most, same_int, same_list, found, is_none, none, split, same_frame_id, same_join_id, asks, gives_back, spawns, ends_in, where_needed}
use Rattle.cluster_rules.proofs.DecidingPages.{quiet, all_clean, single, has_returned, at_join, may_load, may_fetch, is_sending, may_reconcile, may_drop, may_take_up}

-- ---- acts

pub first_alone : {A : Type 0} (list : List A) (first only : A) → first_of list ≡ Some first → list ≡ only ∷ [] → list ≡ first ∷ []
first_alone list first only is alone =
    let shown : first_of (only ∷ []) ≡ Some first = subst (λ it. first_of it ≡ Some first) alone is in
    let one : only ≡ first = cc in
    alone ∙ ap (λ it. it ∷ []) one

abbrev pub acts : (node : Node) (past : Past) (frame : FrameId) → Option ((life : Life) × Acts node past frame life)
acts node past frame = do
  top ← found (highest node past)
  named ← same_frame_id frame top.0.id
  budget ← less (ticks_of past) node.config.budget
  alone ← where_needed (keeps_ask node past)
      (single (live (stack_of node past)) >>= λ only. Some (first_alone (live (stack_of node past)) top.0 only.0 top.1 only.1))
  Some (top.0, record { is = top.1; named = named; budget = budget; alone = alone })

abbrev pub may_make : (node : Node) (past : Past) (act : LoggedAct) (life : Life) → Option (MayMake node past act life)
may_make node past (Read word value) life = do
  wanted ← asks (want_of life) (want.Read word)
  is_in ← holds (is_resident (page_of node word) past)
  value_is ← same_int value (cached node word past)
  Some (record { wanted = wanted; is_in = is_in; value_is = value_is })
may_make node past (Write word value) life = do
  wanted ← asks (want_of life) (want.Write word value)
  is_in ← holds (is_resident (page_of node word) past)
  Some (record { wanted = wanted; is_in = is_in })
may_make node past (Print value) life = asks (want_of life) (want.Print value)
may_make node past (Spawn child procedure arguments) life = do
  wanted ← spawns (want_of life) procedure arguments
  name ← same_frame_id child (record { node = node.me; number = next_frame node past })
  Some (record { target = wanted.0; wanted = wanted.1; name = name })
may_make node past Sync life = do
  wanted ← asks (want_of life) want.Sync
  joined ← is_none life.join
  Some (record { wanted = wanted; joined = joined })

abbrev pub may_act : (node : Node) (past : Past) (frame : FrameId) (index : ℕ) (act : LoggedAct) → Option (MayAct node past frame index act)
may_act node past frame index act = do
  top ← acts node past frame
  index_is ← same index top.0.acts
  makes ← may_make node past act top.0
  Some (record { life = top.0; acts = top.1; index_is = index_is; makes = makes })

abbrev pub may_tick : (node : Node) (past : Past) (frame : FrameId) → Option (MayTick node past frame)
may_tick node past frame = do
  top ← acts node past frame
  wanted ← or_try (asks (want_of top.0) want.Call >>= λ call. Some (inl call)) (asks (want_of top.0) want.LoopTurn >>= λ loop. Some (inr loop))
  Some (record { life = top.0; acts = top.1; wanted = wanted })

-- ---- adds

abbrev pub may_add : (node : Node) (past : Past) (home : ℕ) (frame : FrameId) (index word : ℕ) (addend : ℤ)
    → Option (MayAdd node past home frame index word addend)
may_add node past home frame index word addend = do
  top ← acts node past frame
  index_is ← same index top.0.acts
  wanted ← asks (want_of top.0) (want.Add word addend)
  absent ← fails (is_resident (page_of node word) past)
  at_home ← same home (home_of node (page_of node word))
  Some (record { life = top.0; acts = top.1; index_is = index_is; wanted = wanted; absent = absent; at_home = at_home })

abbrev pub may_add_here : (node : Node) (past : Past) (frame : FrameId) (index word : ℕ) (old addend : ℤ)
    → Option (MayAddHere node past frame index word old addend)
may_add_here node past frame index word old addend = do
  add ← may_add node past node.me frame index word addend
  old_is ← same_int old (stored node word past)
  Some (record { add = add; old_is = old_is })

abbrev pub may_post_add : (node : Node) (past : Past) (receiver : ℕ) (frame : FrameId) (index word : ℕ) (addend : ℤ)
    → Option (MayPostAdd node past receiver frame index word addend)
may_post_add node past receiver frame index word addend = do
  add ← may_add node past receiver frame index word addend
  other ← differ receiver node.me
  is_quiet ← quiet past
  Some (record { add = add; other = other; quiet = is_quiet })

abbrev pub same_add : (body : Body) (frame : FrameId) (index word : ℕ) (addend : ℤ) → Option (body ≡ Add frame index word addend)
same_add (Add other at place given) frame index word addend = do
  frames ← same_frame_id other frame
  indices ← same at index
  words ← same place word
  values ← same_int given addend
  Some (λ i. Add (frames i) (indices i) (words i) (values i))
same_add _ frame index word addend = None

abbrev pub serves : (node : Node) (past : Past) (frame : FrameId) (index word : ℕ) (old addend : ℤ) → Option (Serves node past frame index word old addend)
serves node past frame index word old addend = do
  oldest ← split (owed_adds past)
  asked ← same_add oldest.0.body frame index word addend
  old_is ← same_int old (stored node word past)
  Some (record { add = oldest.0; later = oldest.1; oldest = oldest.2; asked = asked; old_is = old_is })

-- ---- messages

-- replies are compared in full
abbrev pub same_reply : (a b : Body) → Option (a ≡ b)
same_reply (Page page words) (Page other given) = do
  pages ← same page other
  values ← same_list same_int words given
  Some (λ i. Page (pages i) (values i))
same_reply Ack Ack = Some refl
same_reply (Added old) (Added other) = do
  is ← same_int old other
  Some (ap Added is)
same_reply _ _ = None

abbrev pub same_message : (a b : Msg) → Option (a ≡ b)
same_message a b = do
  senders ← same a.sender b.sender
  receivers ← same a.receiver b.receiver
  bodies ← same_reply a.body b.body
  Some (λ i. record { sender = senders i; receiver = receivers i; body = bodies i })

abbrev pub is_first : (messages : List Msg) (message : Msg) → Option ((later : List Msg) × (messages ≡ message ∷ later))
is_first [] message = None
is_first (first ∷ later) message = do
  is ← same_message first message
  Some (later, ap (λ it. it ∷ later) is)

abbrev pub tells : (node : Node) (past : Past) (receiver : ℕ) (old : ℤ) → Option (Tells node past receiver old)
tells node past receiver old = do
  oldest ← is_first (owed_olds node past) (from_me node receiver (Added old))
  refused ← holds (list_all (λ ask. ask.kept) (asks_of node past))
  Some (record { later = oldest.0; oldest = oldest.1; refused = refused })

-- ---- asks

abbrev pub may_ask : (node : Node) (past : Past) (receiver : ℕ) → Option (MayAsk node past receiver)
may_ask node past receiver = do
  idle ← fails (has_frames node past)
  none_out ← fails (is_asking past)
  receiver_is ← same receiver (next_victim node past)
  other ← differ receiver node.me
  Some (record { idle = idle; none_out = none_out; to = receiver_is; other = other })

abbrev pub oldest_kept : (asked : List Asked) (sender : ℕ)
    → Option ((kept : Bool) × (later : List Asked) × (asked ≡ record { sender = sender; kept = kept } ∷ later))
oldest_kept [] sender = None
oldest_kept (first ∷ later) sender = do
  is ← same first.sender sender
  Some (first.kept, later, λ i. record { sender = is i; kept = first.kept } ∷ later)

abbrev pub kept_is : (node : Node) (past : Past) (sender : ℕ) → (kept : Bool) → (later : List Asked)
    → asks_of node past ≡ record { sender = sender; kept = kept } ∷ later
    → Option (IsOldestAsk node past sender true)
kept_is node past sender true later is = Some (later, is)
kept_is node past sender false later is = None

abbrev pub may_refuse : (node : Node) (past : Past) (receiver : ℕ) → Option (MayRefuse node past receiver)
may_refuse node past receiver = do
  oldest ← oldest_kept (asks_of node past) receiver
  empty ← where_needed oldest.0 (fails (has_frames node past))
  Some (record { kept = oldest.0; ask = (oldest.1, oldest.2); empty = empty })

-- ---- frames that travel

-- the two frames at the bottom
pub record Bottom (stack : List Life) : Type 0 where
  pub above : List Life
  pub child : Life
  pub parent : Life
  pub parts : stack ≡ above ++ (child ∷ (parent ∷ []))

abbrev pub above_bottom : (life : Life) (stack : List Life) → Option (Bottom stack) → Option (Bottom (life ∷ stack))
above_bottom life stack below = do
  bottom ← below
  Some (record { above = life ∷ bottom.above; child = bottom.child; parent = bottom.parent; parts = ap (λ it. life ∷ it) bottom.parts })

abbrev pub bottom_of : (stack : List Life) → Option (Bottom stack)
bottom_of [] = None
bottom_of (life ∷ []) = None
bottom_of (child ∷ (parent ∷ [])) = Some (record { above = []; child = child; parent = parent; parts = refl })
bottom_of (first ∷ (second ∷ (third ∷ rest))) = above_bottom first (second ∷ (third ∷ rest)) (bottom_of (second ∷ (third ∷ rest)))

abbrev pub GrantState : (node : Node) (past : Past) (closure : Closure) → Option (Bottom (stack_of node past)) → Type 0
GrantState node past closure None = Unit {0}
GrantState node past closure (Some bottom) = IsClosure node (parted node past bottom.child bottom.parent) closure

abbrev pub ParkState : (node : Node) (past : Past) (closure : Closure) → Option ((life : Life) × (join : JoinId) × IsAtJoin node past life join) → Type 0
ParkState node past closure None = Unit {0}
ParkState node past closure (Some waits) = IsClosure node waits.0 closure

abbrev pub may_grant : (node : Node) (past : Past) (receiver : ℕ) (closure : Closure) (bottom : Option (Bottom (stack_of node past)))
    → GrantState node past closure bottom
    → Option (MayGrant node past receiver closure)
may_grant node past receiver closure None state = None
may_grant node past receiver closure (Some bottom) state = do
  oldest ← oldest_kept (asks_of node past) receiver
  ask ← kept_is node past receiver oldest.0 oldest.1 oldest.2
  clean ← all_clean node past
  Some (record { ask = ask; above = bottom.above; child = bottom.child; parent = bottom.parent; stack = bottom.parts; state = state; clean = clean })

abbrev pub may_park : (node : Node) (past : Past) (receiver : ℕ) (join : JoinId) (closure : Closure)
    (waits : Option ((life : Life) × (at : JoinId) × IsAtJoin node past life at))
    → ParkState node past closure waits → Option (MayPark node past receiver join closure)
may_park node past receiver join closure None state = None
may_park node past receiver join closure (Some waits) state = do
  is ← same_join_id waits.1 join
  place ← same receiver join.node
  clean ← all_clean node past
  Some (record { life = waits.0; at_join = subst (λ it. IsAtJoin node past waits.0 it) is waits.2; place = place; state = state; clean = clean })

abbrev pub is_away : (link : Link) (join : JoinId) → Option (link ≡ Away join)
is_away Root join = None
is_away Here join = None
is_away (Away other) join = do
  is ← same_join_id other join
  Some (ap Away is)

abbrev pub is_root : (link : Link) → Option (link ≡ Root)
is_root Root = Some refl
is_root Here = None
is_root (Away join) = None

abbrev pub may_done : (node : Node) (past : Past) (receiver : ℕ) (join : JoinId) (index : ℕ) (value : ℤ) → Option (MayDone node past receiver join index value)
may_done node past receiver join index value = do
  returned ← has_returned node past
  link ← is_away returned.0.link join
  place ← same receiver join.node
  index_is ← same index returned.0.spawned.index
  value_is ← gives_back (want_of returned.0) value
  clean ← all_clean node past
  Some (record { life = returned.0; returned = returned.1; link = link; place = place; index_is = index_is; value_is = value_is; clean = clean })

-- ---- ends

abbrev pub may_end : (node : Node) (past : Past) (end : NodeEnd) → Option (MayEnd node past end)
may_end node past Finished = do
  returned ← has_returned node past
  main ← is_root returned.0.link
  clean ← all_clean node past
  Some (record { life = returned.0; returned = returned.1; main = main; clean = clean })
may_end node past (Trapped kind) = do
  top ← found (highest node past)
  wanted ← ends_in (want_of top.0) kind
  Some (record { life = top.0; is = top.1; wanted = wanted })
may_end node past Budget = do
  top ← found (highest node past)
  wanted ← holds (costs_tick (want_of top.0))
  ticks ← same (ticks_of past) node.config.budget
  Some (record { life = top.0; is = top.1; wanted = wanted; ticks = ticks })

-- ---- items of a turn

abbrev pub may_do : (node : Node) (past : Past) (item : Item) (rest : List Item) (posts : List Msg) → Option (MayDo node past item rest posts)
may_do node past (Act frame index act) rest posts = may_act node past frame index act
may_do node past (Tick frame) rest posts = may_tick node past frame
may_do node past (Drop page) rest posts = may_drop node past page rest posts
may_do node past (TakeUp frame) rest posts = may_take_up node past frame rest
may_do node past (OwnFetch page words) rest posts = may_load node past page words
may_do node past (OwnReconcile part) rest posts = is_sending node past node.me part
may_do node past (Served frame index word old addend) rest posts = may_add_here node past frame index word old addend

abbrev pub is_owed : (node : Node) (past : Past) (item : Item) → Option (IsOwed node past item)
is_owed node past (Served frame index word old addend) = serves node past frame index word old addend
is_owed node past _ = None

abbrev pub is_free : (past : Past) → Option (IsFree past)
is_free past = do
  none_owed ← none (owed_adds past)
  is_quiet ← quiet past
  Some (record { none_owed = none_owed; quiet = is_quiet })

abbrev pub own_item : (node : Node) (past : Past) (item : Item) (rest : List Item) (posts : List Msg) → Option (IsFree past × MayDo node past item rest posts)
own_item node past item rest posts = do
  free ← is_free past
  may ← may_do node past item rest posts
  Some (free, may)

abbrev pub may_do_all : (node : Node) (posts : List Msg) (past : Past) (items : List Item) → Option (MayDoAll node posts past items)
may_do_all node posts past [] = none (owed_adds past)
may_do_all node posts past (item ∷ rest) = do
  may ← or_try (is_owed node past item >>= λ owed. Some (inl owed)) (own_item node past item rest posts >>= λ own. Some (inr own))
  others ← may_do_all node posts (Did item ∷ past) rest
  Some (may, others)

-- ---- posts of a turn

-- The state of the closure in a message, and more.
abbrev pub StateIn : (node : Node) (past : Past) → Body → Type 0
StateIn node past (Grant closure) = GrantState node past closure (bottom_of (stack_of node past))
StateIn node past (Park join closure) = ParkState node past closure (at_join node past)
StateIn node past _ = Unit {0}

abbrev pub may_post : (node : Node) (past : Past) (receiver : ℕ) (body : Body) → StateIn node past body → Option (MayPost node past receiver body)
may_post node past receiver (Fetch page) state = may_fetch node past receiver page
may_post node past receiver (Page page words) state = None
may_post node past receiver (Reconcile parts) state = may_reconcile node past receiver parts
may_post node past receiver Ack state = None
may_post node past receiver Ask state = may_ask node past receiver
may_post node past receiver (Grant closure) state = may_grant node past receiver closure (bottom_of (stack_of node past)) state
may_post node past receiver Refuse state = may_refuse node past receiver
may_post node past receiver (Done join index value) state = may_done node past receiver join index value
may_post node past receiver (Park join closure) state = may_park node past receiver join closure (at_join node past) state
may_post node past receiver (Add frame index word addend) state = may_post_add node past receiver frame index word addend
may_post node past receiver (Added old) state = tells node past receiver old

abbrev pub sends : (node : Node) (past : Past) (message : Msg) → StateIn node past message.body → Option (Sends node past message)
sends node past message state = do
  none_owed ← none (owed_home_replies node past)
  sender ← same message.sender node.me
  may ← may_post node past message.receiver message.body state
  Some (record { none_owed = none_owed; sender = sender; may = may })

abbrev pub may_send : (node : Node) (past : Past) (message : Msg) → StateIn node past message.body → Option (MaySend node past message)
may_send node past message state =
    or_try (is_first (owed_home_replies node past) message >>= λ due. Some (inl due)) (sends node past message state >>= λ sent. Some (inr sent))

abbrev pub are_kept : (busy : Bool) (asked : List Asked) → Option (AreKept busy asked)
are_kept busy [] = Some tt
are_kept busy (ask ∷ later) = do
  kept ← holds ask.kept
  is_busy ← holds busy
  others ← are_kept busy later
  Some (kept, is_busy, others)

abbrev pub owes_nothing : (node : Node) (past : Past) → Option (OwesNothing node past)
owes_nothing node past = do
  replied ← none (owed_home_replies node past)
  told ← none (owed_olds node past)
  kept ← are_kept (has_frames node past) (asks_of node past)
  Some (record { replied = replied; told = told; asks = kept })

-- ---- the states of all closures in order

abbrev pub StatesOfPosts : (node : Node) (past : Past) → List Msg → Type 0
StatesOfPosts node past [] = Unit {0}
StatesOfPosts node past (message ∷ messages) = StateIn node past message.body × StatesOfPosts node (Sent message ∷ past) messages

abbrev pub may_send_all : (node : Node) (past : Past) (messages : List Msg) → StatesOfPosts node past messages → Option (MaySendAll node past messages)
may_send_all node past [] states = owes_nothing node past
may_send_all node past (message ∷ messages) states = do
  may ← may_send node past message states.0
  others ← may_send_all node (Sent message ∷ past) messages states.1
  Some (may, others)

-- ---- turns

abbrev pub may_end_so : (node : Node) (past : Past) (end : Option NodeEnd) → Option (MayEndSo node past end)
may_end_so node past None = Some tt
may_end_so node past (Some end) = do
  is_quiet ← quiet past
  may ← may_end node past end
  Some (is_quiet, may)

abbrev pub States : (node : Node) (past : Past) → Deeds → Type 0
States node past deeds = StatesOfPosts node (did deeds.items past) deeds.posts

abbrev pub moves : (node : Node) (past : Past) (deeds : Deeds) → States node past deeds → Option (Moves node past deeds)
moves node past deeds states = do
  patient ← or_try (quiet past >>= λ is. Some (inl is)) (holds (list_all (λ message. is_reply message.body) deeds.posts) >>= λ is. Some (inr is))
  items ← may_do_all node deeds.posts past deeds.items
  posts ← may_send_all node (did deeds.items past) deeds.posts states
  end ← may_end_so node (behind deeds past) deeds.end
  Some (record { patient = patient; items = items; posts = posts; end = end })

abbrev pub is_idle : (items : List Item) (posts : List Msg) (end : Option NodeEnd)
    → Option (◌≡◌ {A = Deeds} (record { items = items; posts = posts; end = end }) no_deeds)
is_idle items posts end = do
  no_items ← none items
  no_posts ← none posts
  no_end ← is_none end
  Some (λ i. record { items = no_items i; posts = no_posts i; end = no_end i })

abbrev pub is_step : (node : Node) (past : Past) (deeds : Deeds) → States node past deeds → Option (IsStep node past deeds)
is_step node past deeds states =
    or_try (is_idle deeds.items deeds.posts deeds.end >>= λ idle. Some (inl idle)) (moves node past deeds states >>= λ moved. Some (inr moved))

abbrev pub may_take : (node : Node) (past : Past) (end : Option NodeEnd) (message : Option Msg) → Option (MayTake node past end message)
may_take node past end None = Some tt
may_take node past end (Some message) = do
  goes_on ← is_none end
  bounded ← at_most (length (by_use node (Took message ∷ past))) node.config.cache_pages
  Some (goes_on, bounded)

abbrev pub allows : (node : Node) (past : Past) (deeds : Deeds) (message : Option Msg) → States node past deeds → Option (Allows node past deeds message)
allows node past deeds message states = do
  step ← is_step node past deeds states
  takes ← may_take node (behind deeds past) deeds.end message
  Some (record { step = step; takes = takes })

abbrev pub is_delivered : (older : List WholeTurn) (receiver : ℕ) (place : Option PostAt) → Option (IsDelivered older receiver place (posted_at older place))
is_delivered older receiver None = Some refl
is_delivered older receiver (Some place) = do
  waiting ← found (posted older place)
  receiver_is ← same waiting.0.receiver receiver
  not_taken ← fails (list_any (λ turn. takes_at place turn.took) older)
  Some (waiting.0, waiting.1, record { was_posted = waiting.1; to = receiver_is; not_taken = not_taken })

abbrev pub goes_on : (older : List WholeTurn) → Option (¬ IsOver older)
goes_on [] = Some (λ over. over)
goes_on (turn ∷ older) = do
  is ← is_none turn.end
  Some (λ over. over is)

abbrev pub StatesOf : Cluster → List WholeTurn → WholeTurn → Type 0
StatesOf cluster older turn = States (node_at cluster turn.node) (past_of turn.node older) (deeds_of turn)

abbrev pub is_next : (cluster : Cluster) (older : List WholeTurn) (turn : WholeTurn) → StatesOf cluster older turn → Option (IsNext cluster older turn)
is_next cluster older turn states = do
  not_over ← goes_on older
  node ← less turn.node cluster.config.nodes
  delivered ← is_delivered older turn.node turn.took
  allowed ← allows (node_at cluster turn.node) (past_of turn.node older) (deeds_of turn) (posted_at older turn.took) states
  Some (record { goes_on = not_over; node = node; delivered = delivered; allows = allowed })
