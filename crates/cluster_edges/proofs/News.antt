-- What a course says last of a frame: that it was sent to a node, or was taken up there; whether it was granted since its last Sync, and
-- whether its last take-up was from its join.
use Rattle.std.proofs.Common.{◌≡◌, ℕ, [], ◌∷◌, Option, Some, None, Bool, true, false, cond, refl, sym, subst}
use Rattle.page_messages.specs.declared.closure.FrameId.{FrameId}
use Rattle.page_messages.specs.declared.message.Body.{Body}
use Rattle.page_messages.specs.declared.message.Body.TheVariants as body
use Rattle.page_messages.specs.declared.log.LoggedAct.{LoggedAct}
use Rattle.page_messages.specs.declared.log.LoggedAct.TheVariants as act
use Rattle.page_messages.specs.declared.log.Item.{Item}
use Rattle.page_messages.specs.declared.log.Item.TheVariants as item
use Rattle.cluster_rules.specs.Walking.{given, or_else}
use Rattle.cluster_rules.specs.Turns.{Event, Did, Sent, Took, Ended}
use Rattle.cluster_rules.specs.Lives.{same_frame}
use Rattle.cluster_rules.specs.Positions.{Moved, Course}

-- it was granted to this node, parked there, or taken up there
pub data News : Type 0 where
  ByGrant : ℕ → News
  ByPark : ℕ → News
  IsUp : ℕ → News

pub record Told : Type 0 where
  pub frame : FrameId
  pub news : News

abbrev pub told_sent : ℕ → Body → Option Told
told_sent receiver (body.Fetch page) = None
told_sent receiver (body.Page page words) = None
told_sent receiver (body.Reconcile parts) = None
told_sent receiver body.Ack = None
told_sent receiver body.Ask = None
told_sent receiver (body.Grant closure) = Some (record { frame = closure.id; news = ByGrant receiver })
told_sent receiver body.Refuse = None
told_sent receiver (body.Done join index value) = None
told_sent receiver (body.Park join closure) = Some (record { frame = closure.id; news = ByPark receiver })
told_sent receiver (body.Add frame index word addend) = None
told_sent receiver (body.Added old) = None

abbrev pub told_item : ℕ → Item → Option Told
told_item node (item.Act frame index act) = None
told_item node (item.Tick frame) = None
told_item node (item.Drop page) = None
told_item node (item.TakeUp frame) = Some (record { frame = frame; news = IsUp node })
told_item node (item.OwnFetch page words) = None
told_item node (item.OwnReconcile part) = None
told_item node (item.Served frame index word old addend) = None

abbrev pub told_event : ℕ → Event → Option Told
told_event node (Did item) = told_item node item
told_event node (Sent message) = told_sent message.receiver message.body
told_event node (Took message) = None
told_event node (Ended end) = None

abbrev pub told : Moved → Option Told
told moved = told_event moved.node moved.event

abbrev pub news_in : FrameId → Option Told → Option News
news_in frame None = None
news_in frame (Some it) = cond (same_frame it.frame frame) (Some it.news) None

-- what an event says of the frame, and what a course says last
abbrev pub news_on : FrameId → Moved → Option News
news_on frame moved = news_in frame (told moved)

abbrev pub last_news : FrameId → Course → Option News
last_news frame course = given (news_on frame) course

pub last_kept : (frame : FrameId) (moved : Moved) (course : Course) → news_on frame moved ≡ None → last_news frame (moved ∷ course) ≡ last_news frame course
last_kept frame moved course none = rw none refl

-- ---- blocks

abbrev pub is_sync : LoggedAct → Bool
is_sync (act.Read word value) = false
is_sync (act.Write word value) = false
is_sync (act.Print value) = false
is_sync (act.Spawn child procedure arguments) = false
is_sync act.Sync = true

abbrev pub syncs_item : FrameId → Item → Bool
syncs_item frame (item.Act other index act) = cond (same_frame other frame) (is_sync act) false
syncs_item frame (item.Tick other) = false
syncs_item frame (item.Drop page) = false
syncs_item frame (item.TakeUp other) = false
syncs_item frame (item.OwnFetch page words) = false
syncs_item frame (item.OwnReconcile part) = false
syncs_item frame (item.Served other index word old addend) = false

-- the frame syncs
abbrev pub syncs_event : FrameId → Event → Bool
syncs_event frame (Did item) = syncs_item frame item
syncs_event frame (Sent message) = false
syncs_event frame (Took message) = false
syncs_event frame (Ended end) = false

abbrev pub syncs : FrameId → Moved → Bool
syncs frame moved = syncs_event frame moved.event

abbrev pub is_grant : Option News → Bool
is_grant None = false
is_grant (Some (ByGrant node)) = true
is_grant (Some (ByPark node)) = false
is_grant (Some (IsUp node)) = false

abbrev pub block_on : Bool → Bool → Bool → Bool
block_on true grants before = false
block_on false true before = true
block_on false false before = before

-- the frame was granted since its last Sync
abbrev pub granted_here : FrameId → Course → Bool
granted_here frame [] = false
granted_here frame (moved ∷ course) = block_on (syncs frame moved) (is_grant (news_on frame moved)) (granted_here frame course)

block_kept : (syncing : Bool) (before : Bool) → before ≡ false → block_on syncing false before ≡ false
block_kept true before none = refl
block_kept false before none = none

pub granted_kept : (frame : FrameId) (moved : Moved) (course : Course) → news_on frame moved ≡ None → granted_here frame course ≡ false
    → granted_here frame (moved ∷ course) ≡ false
granted_kept frame moved course none before = rw none (block_kept (syncs frame moved) (granted_here frame course) before)

pub granted_synced : (frame : FrameId) (moved : Moved) (course : Course) → syncs frame moved ≡ true → granted_here frame (moved ∷ course) ≡ false
granted_synced frame moved course is = rw is refl

-- a frame of which nothing was said was not granted
untold_on : (syncing : Bool) (news before : Option News) (block : Bool) → (before ≡ None → block ≡ false) → or_else news before ≡ None
    → block_on syncing (is_grant news) block ≡ false
untold_on true news before block rest none = refl
untold_on false None before block rest none = rest none
untold_on false (Some news) before block rest none = absurd (cc)

pub untold : (frame : FrameId) (course : Course) → last_news frame course ≡ None → granted_here frame course ≡ false
untold frame [] none = refl
untold frame (moved ∷ course) none =
    untold_on (syncs frame moved) (news_on frame moved) (last_news frame course) (granted_here frame course) (untold frame course) none

-- ---- take-ups

abbrev pub risen_on : ℕ → Option News → Option News → Type 0 → Type 0
risen_on node None before rest = rest
risen_on node (Some (ByGrant other)) before rest = rest
risen_on node (Some (ByPark other)) before rest = rest
risen_on node (Some (IsUp other)) before rest = before ≡ Some (ByPark node)

-- the frame was taken up, the last time from its join
abbrev pub Risen : FrameId → Course → Type 0
Risen frame [] = ⊥
Risen frame (moved ∷ course) = risen_on moved.node (news_on frame moved) (last_news frame course) (Risen frame course)

pub risen_kept : (frame : FrameId) (moved : Moved) (course : Course) → news_on frame moved ≡ None → Risen frame course → Risen frame (moved ∷ course)
risen_kept frame moved course none before =
    subst (λ news. risen_on moved.node news (last_news frame course) (Risen frame course)) (sym none) before
