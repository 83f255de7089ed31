-- On one node nothing is posted and nothing taken, and no frame leaves the stack.
use Rattle.std.proofs.Common.{◌≡◌, ◌≢◌, ◌⊎◌, inl, inr, ℕ, ◌+◌, ◌<◌, ◌%◌, ℤ, List, [], ◌∷◌, ◌++◌, Option, Some, None, Bool, true, false, cond, eqb}
use Rattle.std.proofs.Common.{refl, sym, ◌∙◌, ap, subst, arith}
use Rattle.std.proofs.Math.Nat.{mod-one}
use Rattle.cilk_meaning.specs.Wants.{Deposit, Answer, Value, Done}
use Rattle.page_messages.specs.declared.closure.FrameId.{FrameId}
use Rattle.page_messages.specs.declared.closure.JoinId.{JoinId}
use Rattle.page_messages.specs.declared.closure.Link.TheVariants.{Away}
use Rattle.page_messages.specs.declared.message.Msg.{Msg}
use Rattle.page_messages.specs.declared.message.Body.{Body}
use Rattle.page_messages.specs.declared.message.Body.TheVariants as body
use Rattle.page_messages.specs.declared.parts.Part.{Part}
use Rattle.page_messages.specs.declared.log.LoggedAct.{LoggedAct}
use Rattle.page_messages.specs.declared.log.LoggedAct.TheVariants as act
use Rattle.page_messages.specs.declared.log.Item.{Item}
use Rattle.page_messages.specs.declared.log.Item.TheVariants as item
use Rattle.page_messages.specs.declared.log.PostAt.{PostAt}
use Rattle.cluster_rules.specs.Walking.{is_empty, last_of, latest, with_first}
use Rattle.cluster_rules.specs.Turns.{Event, Did, Sent, Took, Ended, Past}
use Rattle.cluster_rules.specs.Node.{Node, page_of, home_of}
use Rattle.cluster_rules.specs.Sendings.{IsQuiet}
use Rattle.cluster_rules.specs.Home.{owed_home_replies, owed_adds, owed_olds, after_served, told_by}
use Rattle.cluster_rules.specs.Lives.{Life, main_life, made, with_kept, live_from, live, answered, added, after_act, returned}
use Rattle.cluster_rules.specs.Frames.{Frames, frames_item, frames_on, frames_of, stack_of}
use Rattle.cluster_rules.specs.Asks.{asks_of, next_victim, following, receiver_of, sends_ask}
use Rattle.cluster_rules.specs.Paging.{EachIsSending, MayTakeUp}
use Rattle.cluster_rules.specs.Edges.{IsOldestAsk}
use Rattle.cluster_rules.specs.Allowed.{IsAllowed}
use Rattle.cluster_rules.specs.Runs.{Cluster, node_at, IsOwed, IsFree, MayDo, MayPost, MaySend}
use Rattle.cluster_rules.specs.Positions.{Moved, Course, own}
use Rattle.cluster_rules.proofs.Stepping.{WasPosted, Carries, Stepped}
use Rattle.cluster_rules.proofs.Holding.{own_first}

-- ---- what a node does by itself

abbrev pub OwnItem : Item → Type 0
OwnItem (item.Act frame index act) = Unit {0}
OwnItem (item.Tick frame) = Unit {0}
OwnItem (item.Drop page) = Unit {0}
OwnItem (item.TakeUp frame) = ⊥
OwnItem (item.OwnFetch page words) = Unit {0}
OwnItem (item.OwnReconcile part) = Unit {0}
OwnItem (item.Served frame index word old addend) = Unit {0}

abbrev pub OwnEvent : Event → Type 0
OwnEvent (Did done) = OwnItem done
OwnEvent (Sent message) = ⊥
OwnEvent (Took message) = ⊥
OwnEvent (Ended end) = Unit {0}

abbrev pub SilentPast : Past → Type 0
SilentPast [] = Unit {0}
SilentPast (event ∷ past) = OwnEvent event × SilentPast past

-- Node 0 does all by itself: no message is posted or taken, and no frame taken up.
abbrev pub Silent : Course → Type 0
Silent [] = Unit {0}
Silent (moved ∷ course) = (moved.node ≡ 0) × OwnEvent moved.event × Silent course

pub silent_own : (number : ℕ) (course : Course) → Silent course → SilentPast (own number course)
silent_own number [] silent = tt
silent_own number (moved ∷ course) silent = on (eqb moved.node number) (silent_own number course silent.2)
  where
    on : (b : Bool) → SilentPast (own number course) → SilentPast (cond b (moved.event ∷ own number course) (own number course))
    on true rest = (silent.1, rest)
    on false rest = rest

pub silent_front : (later course : Course) → Silent (later ++ course) → Silent course
silent_front [] course silent = silent
silent_front (moved ∷ later) course silent = silent_front later course silent.2

not_posted : (course : Course) (place : PostAt) (message : Msg) → Silent course → WasPosted course place message → ⊥
not_posted [] place message silent was = was
not_posted (moved ∷ course) place message silent (inl post) = subst OwnEvent post.0 silent.1
not_posted (moved ∷ course) place message silent (inr was) = not_posted course place message silent.2 was

-- ---- it owes nothing

served_none : (done : Item) → after_served done [] ≡ []
served_none (item.Act frame index act) = refl
served_none (item.Tick frame) = refl
served_none (item.Drop page) = refl
served_none (item.TakeUp frame) = refl
served_none (item.OwnFetch page words) = refl
served_none (item.OwnReconcile part) = refl
served_none (item.Served frame index word old addend) = refl

told_none : (node : Node) (done : Item) → told_by node done [] ≡ []
told_none node (item.Act frame index act) = refl
told_none node (item.Tick frame) = refl
told_none node (item.Drop page) = refl
told_none node (item.TakeUp frame) = refl
told_none node (item.OwnFetch page words) = refl
told_none node (item.OwnReconcile part) = refl
told_none node (item.Served frame index word old addend) = refl

pub no_adds : (past : Past) → SilentPast past → owed_adds past ≡ []
unfolding owed_adds
no_adds [] silent = refl
no_adds (Did done ∷ past) silent = ap (after_served done) (no_adds past silent.1) ∙ served_none done
no_adds (Sent message ∷ past) silent = absurd silent.0
no_adds (Took message ∷ past) silent = absurd silent.0
no_adds (Ended end ∷ past) silent = no_adds past silent.1

no_olds : (node : Node) (past : Past) → SilentPast past → owed_olds node past ≡ []
unfolding owed_olds
no_olds node [] silent = refl
no_olds node (Did done ∷ past) silent =
    ap (λ olds. olds ++ told_by node done (owed_adds past)) (no_olds node past silent.1) ∙ ap (told_by node done) (no_adds past silent.1) ∙ told_none node done
no_olds node (Sent message ∷ past) silent = absurd silent.0
no_olds node (Took message ∷ past) silent = absurd silent.0
no_olds node (Ended end ∷ past) silent = no_olds node past silent.1

no_replies : (node : Node) (past : Past) → SilentPast past → owed_home_replies node past ≡ []
unfolding owed_home_replies
no_replies node [] silent = refl
no_replies node (Did done ∷ past) silent = no_replies node past silent.1
no_replies node (Sent message ∷ past) silent = absurd silent.0
no_replies node (Took message ∷ past) silent = absurd silent.0
no_replies node (Ended end ∷ past) silent = no_replies node past silent.1

no_asks : (node : Node) (past : Past) → SilentPast past → asks_of node past ≡ []
unfolding asks_of
no_asks node [] silent = refl
no_asks node (Did done ∷ past) silent = no_asks node past silent.1
no_asks node (Sent message ∷ past) silent = absurd silent.0
no_asks node (Took message ∷ past) silent = absurd silent.0
no_asks node (Ended end ∷ past) silent = no_asks node past silent.1

-- A node that never posts waits for nothing.
pub no_waits : (past : Past) → SilentPast past → IsQuiet past
no_waits [] silent wait = refl
no_waits (Did done ∷ past) silent wait = no_waits past silent.1 wait
no_waits (Sent message ∷ past) silent wait = absurd silent.0
no_waits (Took message ∷ past) silent wait = absurd silent.0
no_waits (Ended end ∷ past) silent wait = no_waits past silent.1 wait

-- ---- its frames

-- A frame that never left its node: it was not parted from its parent, and no child was parted from it.
pub record IsStaying (life : Life) : Type 0 where
  pub near : (join : JoinId) → life.link ≡ Away join → ⊥
  pub whole : life.join ≡ None

abbrev pub AllStaying : List Life → Type 0
AllStaying [] = Unit {0}
AllStaying (life ∷ below) = IsStaying life × AllStaying below

pub record OnOneStack (frames : Frames) : Type 0 where
  pub stack : AllStaying frames.stack
  pub ready : frames.ready ≡ []
  pub parked : frames.parked ≡ []

kept_stays : (deposits : List Deposit) (life : Life) → IsStaying life → IsStaying (with_kept deposits life)
kept_stays deposits life it = record { near = it.near; whole = it.whole }

live_on : (deposits : List Deposit) (life : Life) (below : List Life) (value : Option ℤ) → AllStaying (life ∷ below)
    → ((given : List Deposit) → AllStaying (live_from given below))
    → AllStaying (elim value [ None ↦ with_kept deposits life ∷ below | Some it ↦ live_from ((life.spawned.target, it) ∷ []) below ])
live_on deposits life below None all rest = (kept_stays deposits life all.0, all.1)
live_on deposits life below (Some value) all rest = rest ((life.spawned.target, value) ∷ [])

live_from_stays : (deposits : List Deposit) (stack : List Life) → AllStaying stack → AllStaying (live_from deposits stack)
live_from_stays deposits [] all = tt
live_from_stays deposits (life ∷ below) all = live_on deposits life below (returned life) all (λ given. live_from_stays given below all.1)

live_stays : (stack : List Life) → AllStaying stack → AllStaying (live stack)
live_stays stack all = live_from_stays [] stack all

pub last_stays : (stack : List Life) (life : Life) → last_of stack ≡ Some life → AllStaying stack → IsStaying life
last_stays [] life is all = absurd (cc)
last_stays (first ∷ []) life is all = let same : first ≡ life = cc in subst IsStaying same all.0
last_stays (first ∷ (second ∷ below)) life is all = last_stays (second ∷ below) life is all.1

act_stays : (node : Node) (done : LoggedAct) (stack : List Life) → AllStaying stack → AllStaying (after_act node done stack)
act_stays node done [] all = tt
act_stays node (act.Read word value) (life ∷ below) all = (record { near = all.0.near; whole = all.0.whole }, all.1)
act_stays node (act.Write word value) (life ∷ below) all = (record { near = all.0.near; whole = all.0.whole }, all.1)
act_stays node (act.Print value) (life ∷ below) all = (record { near = all.0.near; whole = all.0.whole }, all.1)
act_stays node (act.Spawn child procedure arguments) (life ∷ below) all = (
  record { near = λ join is. absurd (cc); whole = refl },
  (record { near = all.0.near; whole = all.0.whole }, all.1),
)
act_stays node act.Sync (life ∷ below) all = (record { near = all.0.near; whole = refl }, all.1)

first_stays : (change : Life → Life) → ((life : Life) → IsStaying life → IsStaying (change life)) → (stack : List Life) → AllStaying stack
    → AllStaying (with_first change stack)
first_stays change each [] all = tt
first_stays change each (life ∷ below) all = (each life all.0, all.1)

answered_stays : (answer : Answer) (life : Life) → IsStaying life → IsStaying (answered answer life)
answered_stays answer life it = record { near = it.near; whole = it.whole }

made_stays : (answer : Answer) (life : Life) → IsStaying life → IsStaying (made answer life)
made_stays answer life it = record { near = it.near; whole = it.whole }

item_stays : (node : Node) (done : Item) (past : Past) (frames : Frames) → OwnItem done → OnOneStack frames → OnOneStack (frames_item node done past frames)
item_stays node (item.Act frame index done) past frames own it =
    record { stack = act_stays node done (live frames.stack) (live_stays frames.stack it.stack); ready = it.ready; parked = it.parked }
item_stays node (item.Tick frame) past frames own it =
    let stack = first_stays (answered Done) (answered_stays Done) (live frames.stack) (live_stays frames.stack it.stack) in
    record { stack = stack; ready = it.ready; parked = it.parked }
item_stays node (item.Drop page) past frames own it = it
item_stays node (item.TakeUp frame) past frames own it = absurd own
item_stays node (item.OwnFetch page words) past frames own it = record { stack = live_stays frames.stack it.stack; ready = it.ready; parked = it.parked }
item_stays node (item.OwnReconcile part) past frames own it = it
item_stays node (item.Served frame index word old addend) past frames own it =
    record { stack = on (is_empty (owed_adds past)); ready = it.ready; parked = it.parked }
  where
    on : (b : Bool) → AllStaying (cond b (added old (live frames.stack)) frames.stack)
    on true = first_stays (made (Value old)) (made_stays (Value old)) (live frames.stack) (live_stays frames.stack it.stack)
    on false = it.stack

starts_staying : (node : Node) → node.me ≡ 0 → OnOneStack (frames_of node [])
unfolding frames_of
starts_staying node is =
    let main : IsStaying (main_life node) = record { near = λ join away. absurd (cc); whole = refl } in
    rw is (record { stack = (main, tt); ready = refl; parked = refl })

-- ---- it may not post

module _ (cluster : Cluster) (alone : cluster.config.nodes ≡ 1) where
  abbrev node : Node
  node = node_at cluster 0

  -- each number of a node is 0
  pub one_number : (number : ℕ) → number % cluster.config.nodes ≡ 0
  one_number number = ap (λ nodes. number % nodes) alone ∙ mod-one number

  -- node 0 is the home of every page
  pub home_here : (page : ℕ) → home_of node page ≡ 0
  home_here page = one_number page

  victim_here : (past : Past) → next_victim node past ≡ 0
  victim_here past = on (receiver_of (latest sends_ask past) 0)
    where
      on : (other : ℕ) → following node other ≡ 0
      on other = choose (eqb ((other + 1) % cluster.config.nodes) 0)
        where
          choose : (b : Bool) → cond b ((other + 2) % cluster.config.nodes) ((other + 1) % cluster.config.nodes) ≡ 0
          choose true = one_number (other + 2)
          choose false = one_number (other + 1)

  module _ (past : Past) (silent : SilentPast past) (frames : OnOneStack (frames_of node past)) where
    not_oldest : (sender : ℕ) (kept : Bool) → IsOldestAsk node past sender kept → ⊥
    not_oldest sender kept oldest = let both = sym oldest.1 ∙ no_asks node past silent in absurd (cc)

    no_sending : (receiver : ℕ) (parts : List Part) → parts ≢ [] → receiver ≢ 0 → EachIsSending node past receiver parts → ⊥
    no_sending receiver [] some other sendings = some refl
    no_sending receiver (part ∷ parts) some other sendings = other (sendings.0.at_home ∙ home_here part.page)

    may_not_post : (receiver : ℕ) (said : Body) → MayPost node past receiver said → ⊥
    may_not_post receiver (body.Fetch page) may = may.other (may.bring.at_home ∙ home_here page)
    may_not_post receiver (body.Page page words) may = may
    may_not_post receiver (body.Reconcile parts) may = no_sending receiver parts may.some_part may.other may.sendings
    may_not_post receiver body.Ack may = may
    may_not_post receiver body.Ask may = may.other (may.to ∙ victim_here past)
    may_not_post receiver (body.Grant closure) may = not_oldest receiver true may.ask
    may_not_post receiver body.Refuse may = not_oldest receiver may.kept may.ask
    may_not_post receiver (body.Done join index value) may = (last_stays (stack_of node past) may.life may.returned.at_bottom frames.stack).near join may.link
    may_not_post receiver (body.Park join closure) may =
        let whole = (subst AllStaying may.at_join.alone (live_stays (stack_of node past) frames.stack)).0.whole in
        let both = sym whole ∙ may.at_join.granted in absurd (cc)
    may_not_post receiver (body.Add frame index word addend) may = may.other (may.add.at_home ∙ home_here (page_of node word))
    may_not_post receiver (body.Added old) may = let both = sym may.oldest ∙ no_olds node past silent in absurd (cc)

    may_not_send : (message : Msg) → MaySend node past message → ⊥
    may_not_send message (inl due) = let both = sym due.1 ∙ no_replies node past silent in absurd (cc)
    may_not_send message (inr sends) = may_not_post message.receiver message.body sends.may

    may_not_take_up : (frame : FrameId) (rest : List Item) → MayTakeUp node past frame rest → ⊥
    may_not_take_up frame rest may = let both = sym may.oldest ∙ frames.ready in absurd (cc)

    own_item : (done : Item) (rest : List Item) (posts : List Msg) → IsOwed node past done ⊎ (IsFree past × MayDo node past done rest posts) → OwnItem done
    own_item (item.Act frame index act) rest posts may = tt
    own_item (item.Tick frame) rest posts may = tt
    own_item (item.Drop page) rest posts may = tt
    own_item (item.TakeUp frame) rest posts (inl owed) = absurd owed
    own_item (item.TakeUp frame) rest posts (inr both) = may_not_take_up frame rest both.1
    own_item (item.OwnFetch page words) rest posts may = tt
    own_item (item.OwnReconcile part) rest posts may = tt
    own_item (item.Served frame index word old addend) rest posts may = tt

  pub number_here : (number : ℕ) → number < cluster.config.nodes → number ≡ 0
  number_here number less = omega (arith, less, alone)

  pub own_here : (moved : Moved) (course : Course) → moved.node ≡ 0 → own 0 (moved ∷ course) ≡ moved.event ∷ own 0 course
  own_here moved course is = subst (λ number. own number (moved ∷ course) ≡ moved.event ∷ own number course) is (own_first moved course)

  frames_here : (event : Event) (past : Past) → OnOneStack (frames_on node event past (frames_of node past)) → OnOneStack (frames_of node (event ∷ past))
  unfolding frames_of
  frames_here event past it = it

  abbrev pub Lone : Course → Type 0
  Lone course = Silent course × OnOneStack (frames_of node (own 0 course))

  pub lone : (course : Course) → Stepped cluster course → Lone course
  lone [] stepped = (tt, starts_staying node refl)
  lone (moved ∷ course) stepped = on (lone course stepped.0) moved.event refl
    where
      here : moved.node ≡ 0
      here = number_here moved.node stepped.1.within

      past : Past
      past = own 0 course

      frames : Frames
      frames = frames_of node past

      goes_on : (event : Event) → OwnEvent event → OnOneStack frames → OnOneStack (frames_on node event past frames)
      goes_on (Did done) own home = item_stays node done past frames own home
      goes_on (Sent message) own home = absurd own
      goes_on (Took message) own home = absurd own
      goes_on (Ended end) own home = home

      behind : (event : Event) → moved.event ≡ event → Lone course → OwnEvent event → Lone (moved ∷ course)
      behind event is it own = (
        (here, subst OwnEvent (sym is) own, it.0),
        subst (λ past. OnOneStack (frames_of node past)) (sym (own_here moved course here ∙ ap (λ event. event ∷ past) is))
            (frames_here event past (goes_on event own it.1)),
      )

      allowed : (event : Event) → moved.event ≡ event → IsAllowed node past event
      allowed event is =
          subst (IsAllowed node past) is (subst (λ number. IsAllowed (node_at cluster number) (own number course) moved.event) here stepped.1.allowed)

      on : Lone course → (event : Event) → moved.event ≡ event → Lone (moved ∷ course)
      on it (Did done) is =
          let does = allowed (Did done) is in
          behind (Did done) is it (own_item past (silent_own 0 course it.0) it.1 done does.rest does.posts does.may)
      on it (Sent message) is = absurd (may_not_send past (silent_own 0 course it.0) it.1 message (allowed (Sent message) is))
      on it (Took message) is =
          let takes = subst (Carries course moved.node moved.message) is stepped.1.carries in
          absurd (not_posted course takes.place message it.0 takes.was_posted)
      on it (Ended end) is = behind (Ended end) is it tt
