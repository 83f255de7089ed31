-- Where a frame that was sent is: what the course said last of each frame that stands on a stack, on a ready list, at its join or in a
-- message under way.
use Rattle.std.proofs.Common.{◌≡◌, ◌⊎◌, inl, inr, ℕ, ◌<◌, ◌≤◌, ◌∷◌, Option, Some, None, is_some, Bool, true, false, cond, eqb, ◌∙◌, arith}
use Rattle.std.specs.List.{list_any}
use Rattle.page_messages.specs.declared.closure.FrameId.{FrameId}
use Rattle.page_messages.specs.declared.closure.JoinId.{JoinId}
use Rattle.page_messages.specs.declared.message.Msg.{Msg}
use Rattle.page_messages.specs.declared.message.Body.{Body}
use Rattle.page_messages.specs.declared.message.Body.TheVariants as body
use Rattle.page_messages.specs.declared.log.PostAt.{PostAt}
use Rattle.cluster_rules.specs.Node.{Node}
use Rattle.cluster_rules.specs.Frames.{Frames, frames_of, next_frame}
use Rattle.cluster_rules.specs.Positions.{Moved, Course, own}
use Rattle.cluster_rules.specs.Runs.{Cluster, node_at}
use Rattle.cluster_rules.proofs.Stepping.{WasPosted, takes_place}
use Rattle.cluster_edges.proofs.News.{ByGrant, ByPark, IsUp, news_on, last_news, last_kept, granted_here, granted_kept, Risen, risen_kept}
use Rattle.cluster_edges.proofs.Through.{EachLife, EachParked, each_change, parked_change}

-- ---- names

-- its number was given by its node
abbrev pub Named : Cluster → Course → FrameId → Type 0
Named cluster course id = id.number < next_frame (node_at cluster id.node) (own id.node course)

named_on : (node : Node) (moved : Moved) (number : ℕ) (course : Course) (b : Bool)
    → next_frame node (own number course) ≤ next_frame node (cond b (moved.event ∷ own number course) (own number course))
unfolding next_frame
named_on node moved number course true = omega arith
named_on node moved number course false = omega arith

pub named_more : (cluster : Cluster) (moved : Moved) (course : Course) (id : FrameId) → Named cluster course id → Named cluster (moved ∷ course) id
named_more cluster moved course id named =
    let more = named_on (node_at cluster id.node) moved id.node course (eqb moved.node id.node) in omega (arith, named, more)

-- ---- places

-- On a stack: it was taken up there, or nothing was said of it. Where it has no join, it was not granted in this block, or its last
-- take-up was from its join.
pub record OnStack (cluster : Cluster) (node : ℕ) (course : Course) (id : FrameId) (join : Option JoinId) : Type 0 where
  pub news : (last_news id course ≡ None) ⊎ (last_news id course ≡ Some (IsUp node))
  pub joined : join ≡ None → (granted_here id course ≡ false) ⊎ Risen id course
  pub named : Named cluster course id

-- On a ready list: it was parked there, and its join is complete, or it was granted and has a join.
pub record OnReady (cluster : Cluster) (node : ℕ) (course : Course) (id : FrameId) (join : Option JoinId) : Type 0 where
  pub news : ((join ≡ None) × (last_news id course ≡ Some (ByPark node))) ⊎ ((is_some join ≡ true) × (last_news id course ≡ Some (ByGrant node)))
  pub named : Named cluster course id

-- it waits at its join
pub record AtJoin (cluster : Cluster) (node : ℕ) (course : Course) (id : FrameId) : Type 0 where
  pub news : last_news id course ≡ Some (ByPark node)
  pub named : Named cluster course id

-- a message under way brings it
abbrev pub Coming : Cluster → Course → ℕ → Body → Type 0
Coming cluster course receiver (body.Fetch page) = Unit {0}
Coming cluster course receiver (body.Page page words) = Unit {0}
Coming cluster course receiver (body.Reconcile parts) = Unit {0}
Coming cluster course receiver body.Ack = Unit {0}
Coming cluster course receiver body.Ask = Unit {0}
Coming cluster course receiver (body.Grant closure) = OnReady cluster receiver course closure.id closure.join × (is_some closure.join ≡ true)
Coming cluster course receiver body.Refuse = Unit {0}
Coming cluster course receiver (body.Done join index value) = Unit {0}
Coming cluster course receiver (body.Park join closure) = AtJoin cluster receiver course closure.id
Coming cluster course receiver (body.Add frame index word addend) = Unit {0}
Coming cluster course receiver (body.Added old) = Unit {0}

-- so it is with all frames of a node
pub record Placed (cluster : Cluster) (node : ℕ) (course : Course) (frames : Frames) : Type 0 where
  pub stack : EachLife (OnStack cluster node course) frames.stack
  pub ready : EachLife (OnReady cluster node course) frames.ready
  pub parked : EachParked (AtJoin cluster node course) frames.parked

-- and with all frames of the cluster
pub record Brought (cluster : Cluster) (course : Course) : Type 0 where
  pub frames : (number : ℕ) → Placed cluster number course (frames_of (node_at cluster number) (own number course))
  pub coming : (place : PostAt) (message : Msg) → WasPosted course place message → list_any (takes_place place) course ≡ false
      → Coming cluster course message.receiver message.body
  pub told : (frame : FrameId) → (last_news frame course ≡ None) ⊎ Named cluster course frame

-- ---- an event that says nothing of a frame

module _ (cluster : Cluster) (node : ℕ) (moved : Moved) (course : Course) where
  pub stack_kept : (id : FrameId) (join : Option JoinId) → OnStack cluster node course id join → news_on id moved ≡ None
      → OnStack cluster node (moved ∷ course) id join
  stack_kept id join before none = record {
    news = elim before.news [ inl nothing ↦ inl (last_kept id moved course none ∙ nothing) | inr up ↦ inr (last_kept id moved course none ∙ up) ];
    joined = λ is. elim (before.joined is) [ inl not ↦ inl (granted_kept id moved course none not) | inr risen ↦ inr (risen_kept id moved course none risen) ];
    named = named_more cluster moved course id before.named;
  }

  pub ready_kept : (id : FrameId) (join : Option JoinId) → OnReady cluster node course id join → news_on id moved ≡ None
      → OnReady cluster node (moved ∷ course) id join
  ready_kept id join before none = record {
    news =
        elim before.news [
          | inl both ↦ inl (both.0, last_kept id moved course none ∙ both.1)
          | inr both ↦
              inr (both.0, last_kept id moved course none ∙ both.1)
        ];
    named = named_more cluster moved course id before.named;
  }

  pub join_kept : (id : FrameId) → AtJoin cluster node course id → news_on id moved ≡ None → AtJoin cluster node (moved ∷ course) id
  join_kept id before none = record { news = last_kept id moved course none ∙ before.news; named = named_more cluster moved course id before.named }

  -- nothing is said of a frame of the node
  pub record Untold (frames : Frames) : Type 0 where
    pub stack : EachLife (λ id join. news_on id moved ≡ None) frames.stack
    pub ready : EachLife (λ id join. news_on id moved ≡ None) frames.ready
    pub parked : EachParked (λ id. news_on id moved ≡ None) frames.parked

  pub placed_kept : (frames : Frames) → Placed cluster node course frames → Untold frames → Placed cluster node (moved ∷ course) frames
  placed_kept frames placed none = record {
    stack =
        each_change (OnStack cluster node course) (λ id join. news_on id moved ≡ None)
        (OnStack cluster node (moved ∷ course)) stack_kept frames.stack placed.stack none.stack;
    ready =
        each_change (OnReady cluster node course) (λ id join. news_on id moved ≡ None)
        (OnReady cluster node (moved ∷ course)) ready_kept frames.ready placed.ready none.ready;
    parked =
        parked_change (AtJoin cluster node course) (λ id. news_on id moved ≡ None)
        (AtJoin cluster node (moved ∷ course)) join_kept frames.parked placed.parked none.parked;
  }
