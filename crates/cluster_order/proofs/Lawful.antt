-- What lawful turns say of single events: which rule allows each.
use Rattle.std.proofs.Common.{◌≡◌, ◌⊎◌, inl, inr, ℕ, ℤ, List, [], ◌∷◌, ◌++◌, Some, Bool, true, false, cond, refl, sym, ◌∙◌, ap, subst}
use Rattle.page_messages.specs.declared.closure.FrameId.{FrameId}
use Rattle.page_messages.specs.declared.closure.JoinId.{JoinId}
use Rattle.page_messages.specs.declared.closure.Closure.{Closure}
use Rattle.page_messages.specs.declared.message.Msg.{Msg}
use Rattle.page_messages.specs.declared.message.Body.{Body}
use Rattle.page_messages.specs.declared.message.Body.TheVariants as body
use Rattle.page_messages.specs.declared.parts.Part.{Part}
use Rattle.page_messages.specs.declared.log.LoggedAct.{LoggedAct}
use Rattle.page_messages.specs.declared.log.Item.{Item}
use Rattle.page_messages.specs.declared.log.Item.TheVariants as item
use Rattle.cluster_rules.specs.Turns.{WholeTurn, Event, Did, Sent, Took, Ended, Past}
use Rattle.cluster_rules.specs.Node.{Node, page_of, home_of}
use Rattle.cluster_rules.specs.Walking.{rest_of}
use Rattle.cluster_rules.specs.Home.{reply, replies_in, owed_home_replies, owed_adds, with_add, after_served}
use Rattle.cluster_rules.specs.Acting.{MayAct, MayTick, MayAddHere, MayPostAdd, Serves, Tells}
use Rattle.cluster_rules.specs.Paging.{MayLoad, MayFetch, IsSending, MayReconcile, MayDrop, MayTakeUp}
use Rattle.cluster_rules.specs.Edges.{MayGrant, MayDone, MayPark}
use Rattle.cluster_rules.specs.Positions.{Moved, course_of, own, at, before, Happens}
use Rattle.cluster_rules.specs.Runs.{Cluster, IsLawful, node_at, IsFree, MayPost, IsOwed, MayDo, MaySend}
use Rattle.cluster_order.proofs.Between.{stands, happens_there}
use Rattle.cluster_order.proofs.Messages.{allowed, happened_before, Taking, taking_found}
use Rattle.cluster_order.specs.Reading.{taken_from}

-- ---- one of a list

abbrev pub Among : Msg → List Msg → Type 0
Among message [] = ⊥
Among message (first ∷ rest) = (first ≡ message) ⊎ Among message rest

among_append : (message : Msg) (front back : List Msg) → Among message (front ++ back) → Among message front ⊎ Among message back
among_append message [] back among = inr among
among_append message (first ∷ front) back (inl same) = inl (inl same)
among_append message (first ∷ front) back (inr among) = on (among_append message front back among)
  where
    on : Among message front ⊎ Among message back → ((first ≡ message) ⊎ Among message front) ⊎ Among message back
    on (inl among) = inl (inr among)
    on (inr among) = inr among

among_rest : (message : Msg) (messages : List Msg) → Among message (rest_of messages) → Among message messages
among_rest message [] among = absurd among
among_rest message (first ∷ rest) among = inr among

-- ---- what a home owes

-- it is from the home, and a Page or an Ack
pub record IsReply (node : Node) (message : Msg) : Type 0 where
  pub sender : message.sender ≡ node.me
  pub replies : replies_in message.body ≡ true

replied : (node : Node) (sender : ℕ) (said : Body) (past : Past) (message : Msg) → Among message (reply node sender said past) → IsReply node message
replied node sender (body.Fetch page) past message (inl same) =
    record { sender = ap (λ it. it.sender) (sym same); replies = ap (λ it. replies_in it.body) (sym same) }
replied node sender (body.Fetch page) past message (inr among) = absurd among
replied node sender (body.Page page words) past message among = absurd among
replied node sender (body.Reconcile parts) past message (inl same) =
    record { sender = ap (λ it. it.sender) (sym same); replies = ap (λ it. replies_in it.body) (sym same) }
replied node sender (body.Reconcile parts) past message (inr among) = absurd among
replied node sender body.Ack past message among = absurd among
replied node sender body.Ask past message among = absurd among
replied node sender (body.Grant closure) past message among = absurd among
replied node sender body.Refuse past message among = absurd among
replied node sender (body.Done join index value) past message among = absurd among
replied node sender (body.Park join closure) past message among = absurd among
replied node sender (body.Add frame index word addend) past message among = absurd among
replied node sender (body.Added old) past message among = absurd among

pub owed_is_reply : (node : Node) (past : Past) (message : Msg) → Among message (owed_home_replies node past) → IsReply node message
unfolding owed_home_replies
owed_is_reply node [] message among = absurd among
owed_is_reply node (Did item ∷ past) message among = owed_is_reply node past message among
owed_is_reply node (Ended end ∷ past) message among = owed_is_reply node past message among
owed_is_reply node (Sent sent ∷ past) message among = owed_is_reply node past message (on (replies_in sent.body) among)
  where
    on : (b : Bool) → Among message (cond b (rest_of (owed_home_replies node past)) (owed_home_replies node past)) → Among message (owed_home_replies node past)
    on true among = among_rest message (owed_home_replies node past) among
    on false among = among
owed_is_reply node (Took taken ∷ past) message among =
    on (among_append message (owed_home_replies node past) (reply node taken.sender taken.body past) among) (owed_is_reply node past message)
  where
    on : Among message (owed_home_replies node past) ⊎ Among message (reply node taken.sender taken.body past)
        → (Among message (owed_home_replies node past) → IsReply node message) → IsReply node message
    on (inl before) rest = rest before
    on (inr now) rest = replied node taken.sender taken.body past message now

-- the message was taken
abbrev pub Came : Msg → Past → Type 0
Came message past = (newer older : Past) × (past ≡ newer ++ Took message ∷ older)

came_more : (message : Msg) (event : Event) (past : Past) → Came message past → Came message (event ∷ past)
came_more message event past came = (event ∷ came.0, came.1, ap (λ it. event ∷ it) (came.2))

adds_with : (said : Body) (taken message : Msg) (adds : List Msg) → Among message (with_add said taken adds) → Among message adds ⊎ (taken ≡ message)
adds_with (body.Fetch page) taken message adds among = inl among
adds_with (body.Page page words) taken message adds among = inl among
adds_with (body.Reconcile parts) taken message adds among = inl among
adds_with body.Ack taken message adds among = inl among
adds_with body.Ask taken message adds among = inl among
adds_with (body.Grant closure) taken message adds among = inl among
adds_with body.Refuse taken message adds among = inl among
adds_with (body.Done join index value) taken message adds among = inl among
adds_with (body.Park join closure) taken message adds among = inl among
adds_with (body.Add frame index word addend) taken message adds among = on (among_append message adds (taken ∷ []) among)
  where
    on : Among message adds ⊎ Among message (taken ∷ []) → Among message adds ⊎ (taken ≡ message)
    on (inl before) = inl before
    on (inr (inl same)) = inr same
    on (inr (inr none)) = absurd none
adds_with (body.Added old) taken message adds among = inl among

adds_served : (done : Item) (message : Msg) (adds : List Msg) → Among message (after_served done adds) → Among message adds
adds_served (item.Act frame index act) message adds among = among
adds_served (item.Tick frame) message adds among = among
adds_served (item.Drop page) message adds among = among
adds_served (item.TakeUp frame) message adds among = among
adds_served (item.OwnFetch page words) message adds among = among
adds_served (item.OwnReconcile part) message adds among = among
adds_served (item.Served frame index word old addend) message adds among = among_rest message adds among

-- an Add that is owed was taken
pub owed_add_came : (past : Past) (message : Msg) → Among message (owed_adds past) → Came message past
unfolding owed_adds
owed_add_came [] message among = absurd among
owed_add_came (Did done ∷ past) message among = came_more message (Did done) past (owed_add_came past message (adds_served done message (owed_adds past) among))
owed_add_came (Sent sent ∷ past) message among = came_more message (Sent sent) past (owed_add_came past message among)
owed_add_came (Ended end ∷ past) message among = came_more message (Ended end) past (owed_add_came past message among)
owed_add_came (Took taken ∷ past) message among = on (adds_with taken.body taken message (owed_adds past) among) (owed_add_came past message)
  where
    on : Among message (owed_adds past) ⊎ (taken ≡ message) → (Among message (owed_adds past) → Came message past) → Came message (Took taken ∷ past)
    on (inl before) rest = came_more message (Took taken) past (rest before)
    on (inr same) rest = ([], past, ap (λ it. Took it ∷ past) same)

-- ---- the rule of each event

module _ (cluster : Cluster) (turns : List WholeTurn) (lawful : IsLawful cluster turns) where
  abbrev node : ℕ → Node
  node number = node_at cluster number

  abbrev pub past_at : ℕ → ℕ → Past
  past_at number position = own number (before (course_of turns) position)

  -- an act
  pub act_allowed : (number position : ℕ) (frame : FrameId) (index : ℕ) (act : LoggedAct) → Happens (course_of turns) number position
      (Did (item.Act frame index act)) → IsFree (past_at number position) × MayAct (node number) (past_at number position) frame index act
  act_allowed number position frame index act happens =
      let it = allowed cluster turns lawful number position (Did (item.Act frame index act)) happens in act_allowed_on (it.rest) (it.posts) (it.may)
    where
      act_allowed_on : (rest : List Item) (posts : List Msg) → IsOwed (node number) (past_at number position) (item.Act frame index act)
          ⊎ (IsFree (past_at number position) × MayDo (node number) (past_at number position) (item.Act frame index act) rest posts)
          → IsFree (past_at number position) × MayAct (node number) (past_at number position) frame index act
      act_allowed_on rest posts (inl owed) = absurd owed
      act_allowed_on rest posts (inr both) = both

  -- a tick
  pub tick_allowed : (number position : ℕ) (frame : FrameId) → Happens (course_of turns) number position (Did (item.Tick frame))
      → IsFree (past_at number position) × MayTick (node number) (past_at number position) frame
  tick_allowed number position frame happens =
      let it = allowed cluster turns lawful number position (Did (item.Tick frame)) happens in tick_allowed_on (it.rest) (it.posts) (it.may)
    where
      tick_allowed_on : (rest : List Item) (posts : List Msg) → IsOwed (node number) (past_at number position) (item.Tick frame)
          ⊎ (IsFree (past_at number position) × MayDo (node number) (past_at number position) (item.Tick frame) rest posts)
          → IsFree (past_at number position) × MayTick (node number) (past_at number position) frame
      tick_allowed_on rest posts (inl owed) = absurd owed
      tick_allowed_on rest posts (inr both) = both

  -- a Drop
  pub drop_allowed : (number position : ℕ) (page : ℕ) → Happens (course_of turns) number position (Did (item.Drop page))
      → IsFree (past_at number position) × (rest : List Item) × (posts : List Msg) × MayDrop (node number) (past_at number position) page rest posts
  drop_allowed number position page happens =
      let it = allowed cluster turns lawful number position (Did (item.Drop page)) happens in drop_allowed_on (it.rest) (it.posts) (it.may)
    where
      drop_allowed_on : (rest : List Item) (posts : List Msg) → IsOwed (node number) (past_at number position) (item.Drop page)
          ⊎ (IsFree (past_at number position) × MayDo (node number) (past_at number position) (item.Drop page) rest posts)
          → IsFree (past_at number position) × (rest : List Item) × (posts : List Msg) × MayDrop (node number) (past_at number position) page rest posts
      drop_allowed_on rest posts (inl owed) = absurd owed
      drop_allowed_on rest posts (inr both) = (both.0, rest, posts, both.1)

  -- a TakeUp
  pub take_up_allowed : (number position : ℕ) (frame : FrameId) → Happens (course_of turns) number position (Did (item.TakeUp frame))
      → IsFree (past_at number position) × (rest : List Item) × MayTakeUp (node number) (past_at number position) frame rest
  take_up_allowed number position frame happens =
      let it = allowed cluster turns lawful number position (Did (item.TakeUp frame)) happens in take_up_allowed_on (it.rest) (it.posts) (it.may)
    where
      take_up_allowed_on : (rest : List Item) (posts : List Msg) → IsOwed (node number) (past_at number position) (item.TakeUp frame)
          ⊎ (IsFree (past_at number position) × MayDo (node number) (past_at number position) (item.TakeUp frame) rest posts)
          → IsFree (past_at number position) × (rest : List Item) × MayTakeUp (node number) (past_at number position) frame rest
      take_up_allowed_on rest posts (inl owed) = absurd owed
      take_up_allowed_on rest posts (inr both) = (both.0, rest, both.1)

  -- an OwnFetch
  pub load_allowed : (number position : ℕ) (page : ℕ) (words : List ℤ) → Happens (course_of turns) number position (Did (item.OwnFetch page words))
      → IsFree (past_at number position) × MayLoad (node number) (past_at number position) page words
  load_allowed number position page words happens =
      let it = allowed cluster turns lawful number position (Did (item.OwnFetch page words)) happens in load_allowed_on (it.rest) (it.posts) (it.may)
    where
      load_allowed_on : (rest : List Item) (posts : List Msg) → IsOwed (node number) (past_at number position) (item.OwnFetch page words)
          ⊎ (IsFree (past_at number position) × MayDo (node number) (past_at number position) (item.OwnFetch page words) rest posts)
          → IsFree (past_at number position) × MayLoad (node number) (past_at number position) page words
      load_allowed_on rest posts (inl owed) = absurd owed
      load_allowed_on rest posts (inr both) = both

  -- an OwnReconcile
  pub own_part_allowed : (number position : ℕ) (part : Part) → Happens (course_of turns) number position (Did (item.OwnReconcile part))
      → IsFree (past_at number position) × IsSending (node number) (past_at number position) number part
  own_part_allowed number position part happens =
      let it = allowed cluster turns lawful number position (Did (item.OwnReconcile part)) happens in own_part_allowed_on (it.rest) (it.posts) (it.may)
    where
      own_part_allowed_on : (rest : List Item) (posts : List Msg) → IsOwed (node number) (past_at number position) (item.OwnReconcile part)
          ⊎ (IsFree (past_at number position) × MayDo (node number) (past_at number position) (item.OwnReconcile part) rest posts)
          → IsFree (past_at number position) × IsSending (node number) (past_at number position) number part
      own_part_allowed_on rest posts (inl owed) = absurd owed
      own_part_allowed_on rest posts (inr both) = both

  -- an add that is owed, or an own one
  pub served_allowed : (number position : ℕ) (frame : FrameId) (index word : ℕ) (old addend : ℤ)
      → Happens (course_of turns) number position (Did (item.Served frame index word old addend))
      → Serves (node number) (past_at number position) frame index word old addend
      ⊎ (IsFree (past_at number position) × MayAddHere (node number) (past_at number position) frame index word old addend)
  served_allowed number position frame index word old addend happens =
      (allowed cluster turns lawful number position (Did (item.Served frame index word old addend)) happens).may

  -- what is sent is a reply that is owed, or may be posted, from its sender
  pub sent_allowed : (number position : ℕ) (message : Msg) → Happens (course_of turns) number position (Sent message)
      → MaySend (node number) (past_at number position) message
  sent_allowed number position message happens = allowed cluster turns lawful number position (Sent message) happens

  pub sent_by : (number position : ℕ) (message : Msg) → Happens (course_of turns) number position (Sent message) → message.sender ≡ number
  sent_by number position message happens = on (sent_allowed number position message happens)
    where
      on : MaySend (node number) (past_at number position) message → message.sender ≡ number
      on (inl due) = (owed_is_reply (node number) (past_at number position) message (subst (λ it. Among message it) (sym (due.1)) (inl refl))).sender
      on (inr sends) = sends.sender

  -- what is no Page and no Ack may be posted
  pub post_allowed : (number position : ℕ) (message : Msg) → Happens (course_of turns) number position (Sent message) → replies_in message.body ≡ false
      → MayPost (node number) (past_at number position) message.receiver message.body
  post_allowed number position message happens no_reply = on (sent_allowed number position message happens)
    where
      on : MaySend (node number) (past_at number position) message → MayPost (node number) (past_at number position) message.receiver message.body
      on (inl due) =
          let is = (owed_is_reply (node number) (past_at number position) message (subst (λ it. Among message it) (sym (due.1)) (inl refl))).replies in
          absurd (cc)
      on (inr sends) = sends.may

  -- a Page or an Ack is owed
  pub reply_owed : (number position : ℕ) (message : Msg) → Happens (course_of turns) number position (Sent message) → replies_in message.body ≡ true
      → (later : List Msg) × (owed_home_replies (node number) (past_at number position) ≡ message ∷ later)
  reply_owed number position message happens is = on (sent_allowed number position message happens)
    where
      none : (said : Body) → replies_in said ≡ true → MayPost (node number) (past_at number position) message.receiver said → ⊥
      none (body.Fetch page) is may = absurd (cc)
      none (body.Page page words) is may = may
      none (body.Reconcile parts) is may = absurd (cc)
      none body.Ack is may = may
      none body.Ask is may = absurd (cc)
      none (body.Grant closure) is may = absurd (cc)
      none body.Refuse is may = absurd (cc)
      none (body.Done join index value) is may = absurd (cc)
      none (body.Park join closure) is may = absurd (cc)
      none (body.Add frame index word addend) is may = absurd (cc)
      none (body.Added old) is may = absurd (cc)

      on : MaySend (node number) (past_at number position) message
          → (later : List Msg) × (owed_home_replies (node number) (past_at number position) ≡ message ∷ later)
      on (inl due) = due
      on (inr sends) = absurd (none message.body is sends.may)

  -- a Fetch
  pub fetch_allowed : (number position : ℕ) (message : Msg) (page : ℕ) → Happens (course_of turns) number position (Sent message)
      → message.body ≡ body.Fetch page → MayFetch (node number) (past_at number position) message.receiver page
  fetch_allowed number position message page happens is =
      subst (λ said. MayPost (node number) (past_at number position) message.receiver said) is (post_allowed number position message happens (ap replies_in is))

  -- a Reconcile
  pub reconcile_allowed : (number position : ℕ) (message : Msg) (parts : List Part) → Happens (course_of turns) number position (Sent message)
      → message.body ≡ body.Reconcile parts → MayReconcile (node number) (past_at number position) message.receiver parts
  reconcile_allowed number position message parts happens is =
      subst (λ said. MayPost (node number) (past_at number position) message.receiver said) is (post_allowed number position message happens (ap replies_in is))

  -- a Grant
  pub grant_allowed : (number position : ℕ) (message : Msg) (closure : Closure) → Happens (course_of turns) number position (Sent message)
      → message.body ≡ body.Grant closure → MayGrant (node number) (past_at number position) message.receiver closure
  grant_allowed number position message closure happens is =
      subst (λ said. MayPost (node number) (past_at number position) message.receiver said) is (post_allowed number position message happens (ap replies_in is))

  -- a Done
  pub done_allowed : (number position : ℕ) (message : Msg) (join : JoinId) (index : ℕ) (value : ℤ) → Happens (course_of turns) number position (Sent message)
      → message.body ≡ body.Done join index value → MayDone (node number) (past_at number position) message.receiver join index value
  done_allowed number position message join index value happens is =
      subst (λ said. MayPost (node number) (past_at number position) message.receiver said) is (post_allowed number position message happens (ap replies_in is))

  -- a Park
  pub park_allowed : (number position : ℕ) (message : Msg) (join : JoinId) (closure : Closure) → Happens (course_of turns) number position (Sent message)
      → message.body ≡ body.Park join closure → MayPark (node number) (past_at number position) message.receiver join closure
  park_allowed number position message join closure happens is =
      subst (λ said. MayPost (node number) (past_at number position) message.receiver said) is (post_allowed number position message happens (ap replies_in is))

  -- an Add
  pub add_allowed : (number position : ℕ) (message : Msg) (frame : FrameId) (index word : ℕ) (addend : ℤ)
      → Happens (course_of turns) number position (Sent message) → message.body ≡ body.Add frame index word addend
      → MayPostAdd (node number) (past_at number position) message.receiver frame index word addend
  add_allowed number position message frame index word addend happens is =
      subst (λ said. MayPost (node number) (past_at number position) message.receiver said) is (post_allowed number position message happens (ap replies_in is))

  -- an Added
  pub added_allowed : (number position : ℕ) (message : Msg) (old : ℤ) → Happens (course_of turns) number position (Sent message) → message.body ≡ body.Added old
      → Tells (node number) (past_at number position) message.receiver old
  added_allowed number position message old happens is =
      subst (λ said. MayPost (node number) (past_at number position) message.receiver said) is (post_allowed number position message happens (ap replies_in is))

  -- an Add that a node owes was taken by it
  pub owed_taken : (number position : ℕ) (moved : Moved) → at (course_of turns) position ≡ Some moved → (message : Msg)
      → Among message (owed_adds (past_at number position))
      → (post taking : ℕ) × Taking cluster turns lawful number post taking message
  owed_taken number position moved found message among =
      let came = owed_add_came (past_at number position) message among in
      let it = stands number (before (course_of turns) position) (came.0) (Took message) (came.1) (came.2) in
      let there = happened_before (course_of turns) position moved found number (it.0) (Took message)
      (happens_there number (before (course_of turns) position) (came.0) (Took message) (came.1) (it.0) (it.1)) in (
        taken_from (before (course_of turns) (it.0)) (there.moved.message),
        it.0,
        taking_found cluster turns lawful number (it.0) (there.moved.message) message
            (record { moved = there.moved; is = there.is; by = there.by; place_is = refl; event_is = there.event_is }),
      )

  -- the home of the word of an add does it
  pub home_served : (number position : ℕ) (frame : FrameId) (index word : ℕ) (old addend : ℤ)
      → Happens (course_of turns) number position (Did (item.Served frame index word old addend))
      → home_of (node 0) (page_of (node 0) word) ≡ number
  home_served number position frame index word old addend happens = on (served_allowed number position frame index word old addend happens)
    where
      on : Serves (node number) (past_at number position) frame index word old addend
          ⊎ (IsFree (past_at number position) × MayAddHere (node number) (past_at number position) frame index word old addend)
          → home_of (node 0) (page_of (node 0) word) ≡ number
      on (inr own_add) = sym (own_add.1.add.at_home)
      on (inl serves) =
          let taken =
          owed_taken number position (happens.moved) (happens.is) (serves.add) (subst (λ it. Among (serves.add) it) (sym serves.oldest) (inl refl)) in
          let posted = taken.2.posted in
          let may = add_allowed (taken.2.sender) (taken.0) (serves.add) frame index word addend
          (record { moved = posted.moved; is = posted.is; by = posted.by; event_is = posted.event_is }) (serves.asked) in
          sym (may.add.at_home) ∙ taken.2.to
