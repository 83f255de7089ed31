-- The children that a frame spawned since its last sync, along a course.
use Rattle.std.proofs.Common.{◌≡◌, ◌⊎◌, inl, inr, ℕ, zero, suc, ℤ, ◌<◌, ◌≤◌, List, [], ◌∷◌, Option, Some, None, refl, sym, ap, subst, arith}
use Rattle.page_messages.specs.declared.closure.FrameId.{FrameId}
use Rattle.page_messages.specs.declared.message.Msg.{Msg}
use Rattle.page_messages.specs.declared.log.LoggedAct.{LoggedAct}
use Rattle.page_messages.specs.declared.log.LoggedAct.TheVariants as act
use Rattle.page_messages.specs.declared.log.Item.{Item}
use Rattle.page_messages.specs.declared.log.Item.TheVariants as item
use Rattle.page_messages.specs.declared.log.PostAt.{PostAt}
use Rattle.cluster_rules.specs.Turns.{Event, Did, Sent, Took, Ended, Past}
use Rattle.cluster_rules.specs.Node.{Node}
use Rattle.cluster_rules.specs.Lives.{Life}
use Rattle.cluster_rules.specs.Frames.{frames_of}
use Rattle.cluster_rules.specs.Acting.{Acts, MayAct}
use Rattle.cluster_rules.specs.Runs.{Cluster, node_at, IsOwed, IsFree, MayDo}
use Rattle.cluster_rules.specs.Allowed.{DoesItem, IsAllowed}
use Rattle.cluster_rules.specs.Positions.{Moved, Course, own, at, before}
use Rattle.cluster_rules.proofs.Stepping.{Step, Stepped}
use Rattle.cluster_rules.proofs.Summing.{sum_one}
use Rattle.cluster_rules.proofs.Marks.{one, named, marks, other_marks, many_append, same_self}
use Rattle.cluster_rules.proofs.Passing.{is_among}
use Rattle.cluster_rules.proofs.Holding.{at_node, held, held_known, Unknown, unknown_before}
use Rattle.backer_order.specs.Log as log
use Rattle.backer_order.specs.Edges.{block_after, BlockChild}
use Rattle.cluster_order.specs.Reading.{happens_to, events_of}
use Rattle.cluster_order.specs.Standing.{first}
use Rattle.cluster_order.proofs.Events.{event_at}
use Rattle.cluster_order.proofs.Fronts.{first_next, first_same, first_at}

-- The frame spawned the child since its last sync.
abbrev pub BlockOf : Cluster → Course → FrameId → FrameId → Type 0
BlockOf cluster [] frame child = ⊥
BlockOf cluster (moved ∷ course) frame child = block_after (happens_to cluster course moved.node moved.message moved.event) (BlockOf cluster course) frame child

-- ---- positions

act_more : (number : ℕ) (parent : FrameId) (done : log.Act) (A B : FrameId → FrameId → Type 0) → ((frame child : FrameId) → A frame child → B frame child)
    → (frame child : FrameId)
    → block_after (log.Acts number parent done) A frame child → block_after (log.Acts number parent done) B frame child
act_more number parent (log.Read word value) A B more frame child block = more frame child block
act_more number parent (log.Write word value) A B more frame child block = more frame child block
act_more number parent (log.Add word old addend) A B more frame child block = more frame child block
act_more number parent (log.Print value) A B more frame child block = more frame child block
act_more number parent (log.Spawn spawned) A B more frame child (inl block) = inl (more frame child block)
act_more number parent (log.Spawn spawned) A B more frame child (inr new) = inr new
act_more number parent log.Sync A B more frame child block = (more frame child block.0, block.1)

after_more : (event : log.Event) (A B : FrameId → FrameId → Type 0) → ((frame child : FrameId) → A frame child → B frame child) → (frame child : FrameId)
    → block_after event A frame child → block_after event B frame child
after_more log.Nothing A B more frame child block = more frame child block
after_more (log.Acts number parent done) A B more frame child block = act_more number parent done A B more frame child block
after_more (log.Tick number parent) A B more frame child block = more frame child block
after_more (log.Drop number page) A B more frame child block = more frame child block
after_more (log.TakeUp number taken) A B more frame child block = more frame child block
after_more (log.OwnFetch number page words) A B more frame child block = more frame child block
after_more (log.OwnReconcile number part) A B more frame child block = more frame child block
after_more (log.Post number receiver note) A B more frame child block = more frame child block
after_more (log.Took number post) A B more frame child block = more frame child block
after_more (log.End number) A B more frame child block = more frame child block

-- So it is by positions.
pub block_child : (cluster : Cluster) (course : Course) (now : ℕ) (frame child : FrameId) → BlockChild (events_of cluster course) now frame child
    → BlockOf cluster (first now course) frame child
unfolding BlockChild
block_child cluster course zero frame child block = absurd block
block_child cluster course (suc now) frame child block = on (at course now) refl block (block_child cluster course now)
  where
    on : (option : Option Moved) → at course now ≡ option → block_after (events_of cluster course now) (BlockChild (events_of cluster course) now) frame child
        → ((frame child : FrameId) → BlockChild (events_of cluster course) now frame child → BlockOf cluster (first now course) frame child)
        → BlockOf cluster (first (suc now) course) frame child
    on None none block rest =
        let nothing : events_of cluster course now ≡ log.Nothing = rw none refl in
        subst (λ it. BlockOf cluster it frame child) (sym (first_same now course none))
        (rest frame child (subst (λ event. block_after event (BlockChild (events_of cluster course) now) frame child) nothing block))
    on (Some moved) found block rest =
        let event = happens_to cluster (before course now) moved.node moved.message moved.event in
        let here : block_after event (BlockChild (events_of cluster course) now) frame child =
        subst (λ it. block_after it (BlockChild (events_of cluster course) now) frame child) (event_at cluster course now moved found) block in
        subst (λ it. BlockOf cluster it frame child) (sym (first_next now course moved found))
        (after_more event (BlockChild (events_of cluster course) now) (BlockOf cluster (before course now))
        (λ frame child block. subst (λ it. BlockOf cluster it frame child) (first_at now course moved found) (rest frame child block)) frame child here)

-- ---- one event

-- it is a spawn
pub record IsSpawn (event : Event) : Type 0 where
  pub parent : FrameId
  pub index : ℕ
  pub child : FrameId
  pub procedure : ℕ
  pub arguments : List ℤ
  pub is : event ≡ Did (item.Act parent index (act.Spawn child procedure arguments))

-- no frame gets a child
abbrev pub AddsNone : Cluster → Course → ℕ → Option PostAt → Event → Type 0
AddsNone cluster course number here event =
    (frame child : FrameId) → block_after (happens_to cluster course number here event) (BlockOf cluster course) frame child
    → BlockOf cluster course frame child

pub spawn_or_none : (cluster : Cluster) (course : Course) (number : ℕ) (here : Option PostAt) (event : Event)
    → IsSpawn event ⊎ AddsNone cluster course number here event
spawn_or_none cluster course number here (Did (item.Act parent index (act.Read word value))) = inr (λ frame child block. block)
spawn_or_none cluster course number here (Did (item.Act parent index (act.Write word value))) = inr (λ frame child block. block)
spawn_or_none cluster course number here (Did (item.Act parent index (act.Print value))) = inr (λ frame child block. block)
spawn_or_none cluster course number here (Did (item.Act parent index (act.Spawn spawned procedure arguments))) =
    inl (record { parent = parent; index = index; child = spawned; procedure = procedure; arguments = arguments; is = refl })
spawn_or_none cluster course number here (Did (item.Act parent index act.Sync)) = inr (λ frame child block. block.0)
spawn_or_none cluster course number here (Did (item.Tick parent)) = inr (λ frame child block. block)
spawn_or_none cluster course number here (Did (item.Drop page)) = inr (λ frame child block. block)
spawn_or_none cluster course number here (Did (item.TakeUp taken)) = inr (λ frame child block. block)
spawn_or_none cluster course number here (Did (item.OwnFetch page words)) = inr (λ frame child block. block)
spawn_or_none cluster course number here (Did (item.OwnReconcile part)) = inr (λ frame child block. block)
spawn_or_none cluster course number here (Did (item.Served parent index word old addend)) = inr (λ frame child block. block)
spawn_or_none cluster course number here (Sent message) = inr (λ frame child block. block)
spawn_or_none cluster course number here (Took message) = inr (λ frame child block. block)
spawn_or_none cluster course number here (Ended end) = inr (λ frame child block. block)

-- at a spawn the frame that spawns gets the child, and no other one
pub spawned_block : (cluster : Cluster) (course : Course) (number : ℕ) (here : Option PostAt) (event : Event) (it : IsSpawn event) (frame child : FrameId)
    → block_after (happens_to cluster course number here event) (BlockOf cluster course) frame child
    → BlockOf cluster course frame child ⊎ ((it.parent ≡ frame) × (it.child ≡ child))
spawned_block cluster course number here event it frame child block =
    subst (λ event. block_after (happens_to cluster course number here event) (BlockOf cluster course) frame child) it.is block

-- ---- a frame without a name has no block

pub act_may : (node : Node) (past : Past) (parent : FrameId) (index : ℕ) (done : LoggedAct) → DoesItem node past (item.Act parent index done)
    → MayAct node past parent index done
act_may node past parent index done does = on does.rest does.posts does.may
  where
    on : (rest : List Item) (posts : List Msg) → IsOwed node past (item.Act parent index done)
        ⊎ (IsFree past × MayDo node past (item.Act parent index done) rest posts)
        → MayAct node past parent index done
    on rest posts (inl owed) = absurd owed
    on rest posts (inr both) = both.1

-- the frame that acts is held
pub actor_held : (cluster : Cluster) (course : Course) (number : ℕ) (frame : FrameId) (life : Life) → number < cluster.config.nodes
    → Acts (node_at cluster number) (own number course) frame life
    → 1 ≤ held cluster course frame
actor_held cluster course number frame life less acts =
    let frames = frames_of (node_at cluster number) (own number course) in
    let among = is_among (node_at cluster number) (own number course) frame life acts life.acts refl (named frame) in
    let mark : one (named frame (record { id = frame; acts = life.acts })) ≡ 1 = ap one (same_self frame) in
    let parts = many_append (named frame) (marks frames.stack) (other_marks frames) in
    let sum = sum_one cluster.config.nodes (at_node cluster course (named frame)) number less in
    omega (arith, among, mark, parts, sum)

pub actor_known : (cluster : Cluster) (course : Course) → Stepped cluster course → (number : ℕ) (frame : FrameId) (life : Life) → number < cluster.config.nodes
    → Acts (node_at cluster number) (own number course) frame life → Unknown cluster course frame → ⊥
actor_known cluster course stepped number frame life less acts unknown =
    let some = actor_held cluster course number frame life less acts in
    let none = held_known cluster course stepped frame unknown in
    omega (arith, some, none)

-- the rule of a spawn
pub spawn_may : (cluster : Cluster) (course : Course) (moved : Moved) → Step cluster course moved → (it : IsSpawn moved.event)
    → MayAct (node_at cluster moved.node) (own moved.node course) it.parent it.index (act.Spawn it.child it.procedure it.arguments)
spawn_may cluster course moved step it =
    act_may (node_at cluster moved.node) (own moved.node course) it.parent it.index (act.Spawn it.child it.procedure it.arguments)
    (allowed moved.event it.is step.allowed)
  where
    allowed : (event : Event) → event ≡ Did (item.Act it.parent it.index (act.Spawn it.child it.procedure it.arguments))
        → IsAllowed (node_at cluster moved.node) (own moved.node course) event
        → DoesItem (node_at cluster moved.node) (own moved.node course) (item.Act it.parent it.index (act.Spawn it.child it.procedure it.arguments))
    allowed event is may = subst (IsAllowed (node_at cluster moved.node) (own moved.node course)) is may

pub known_block : (cluster : Cluster) (course : Course) → Stepped cluster course → (frame child : FrameId) → BlockOf cluster course frame child
    → Unknown cluster course frame → ⊥
known_block cluster [] stepped frame child block unknown = absurd block
known_block cluster (moved ∷ course) stepped frame child block unknown =
    on (spawn_or_none cluster course moved.node moved.message moved.event) (known_block cluster course stepped.0)
  where
    earlier : Unknown cluster course frame
    earlier = unknown_before cluster course moved frame unknown

    on : IsSpawn moved.event ⊎ AddsNone cluster course moved.node moved.message moved.event
        → ((frame child : FrameId) → BlockOf cluster course frame child → Unknown cluster course frame → ⊥) → ⊥
    on (inr none) rest = rest frame child (none frame child block) earlier
    on (inl it) rest = by (spawned_block cluster course moved.node moved.message moved.event it frame child block)
      where
        by : BlockOf cluster course frame child ⊎ ((it.parent ≡ frame) × (it.child ≡ child)) → ⊥
        by (inl before_it) = rest frame child before_it earlier
        by (inr both) =
            let may = spawn_may cluster course moved stepped.1 it in
            actor_known cluster course stepped.0 moved.node it.parent may.life stepped.1.within may.acts (subst (Unknown cluster course) (sym both.0) earlier)
