-- Which turns may come next, and which logs are runs of the cluster.
use Rattle.std.specs.Prelude.{◌≡◌, ◌≢◌, ◌<◌, ◌≤◌, ◌⊎◌, ℕ, Bool, true, false, Option, Some, None, List, [], ◌∷◌, length, map, reverse}
use Rattle.std.specs.List.{list_all}
use Rattle.cilk_meaning.specs.declared.ends.NodeEnd.{NodeEnd}
use Rattle.machine_code.specs.Machine.{Code}
use Rattle.page_words.specs.declared.config.Config.{Config}
use Rattle.page_messages.specs.Posts.{post_of}
use Rattle.page_messages.specs.declared.message.Msg.{Msg}
use Rattle.page_messages.specs.declared.message.Body.{Body}
use Rattle.page_messages.specs.declared.message.Body.TheVariants.{Fetch, Page, Reconcile, Ack, Ask, Grant, Refuse, Done, Park, Add, Added}
use Rattle.page_messages.specs.declared.log.Item.{Item}
use Rattle.page_messages.specs.declared.log.Item.TheVariants.{Act, Tick, Drop, TakeUp, OwnFetch, OwnReconcile, Served}
use Rattle.page_messages.specs.declared.log.Turn.{Turn}
use Rattle.cluster_rules.specs.Turns.{WholeTurn, Did, Sent, Took, Past, did, sent, posted_at, past_of, IsDelivered}
use Rattle.cluster_rules.specs.Node.{Node}
use Rattle.cluster_rules.specs.Cache.{by_use}
use Rattle.cluster_rules.specs.Sendings.{IsQuiet}
use Rattle.cluster_rules.specs.Home.{owed_home_replies, owed_adds, owed_olds}
use Rattle.cluster_rules.specs.Asks.{Asked, asks_of, has_frames}
use Rattle.cluster_rules.specs.Acting.{MayAct, MayTick, MayAddHere, MayPostAdd, Serves, Tells}
use Rattle.cluster_rules.specs.Paging.{MayLoad, MayFetch, IsSending, MayReconcile, MayDrop, MayTakeUp}
use Rattle.cluster_rules.specs.Edges.{MayAsk, MayGrant, MayRefuse, MayDone, MayPark, MayEnd}

-- ---- items

-- an item that the node does of its own, before these further items and posts of its turn
abbrev pub MayDo : Node → Past → Item → List Item → List Msg → Type 0
MayDo node past (Act frame index act) rest posts = MayAct node past frame index act
MayDo node past (Tick frame) rest posts = MayTick node past frame
MayDo node past (Drop page) rest posts = MayDrop node past page rest posts
MayDo node past (TakeUp frame) rest posts = MayTakeUp node past frame rest
MayDo node past (OwnFetch page words) rest posts = MayLoad node past page words
MayDo node past (OwnReconcile part) rest posts = IsSending node past node.me part
MayDo node past (Served frame index word old addend) rest posts = MayAddHere node past frame index word old addend

-- an item that it owes
abbrev pub IsOwed : Node → Past → Item → Type 0
IsOwed node past (Served frame index word old addend) = Serves node past frame index word old addend
IsOwed node past _ = ⊥

-- A node does items of its own only where it owes none, and waits for nothing.
pub record IsFree (past : Past) : Type 0 where
  pub none_owed : owed_adds past ≡ []
  pub quiet : IsQuiet past

-- Each item of a turn is owed, or one of the node's own. At the end none is owed.
abbrev pub MayDoAll : Node → List Msg → Past → List Item → Type 0
MayDoAll node posts past [] = owed_adds past ≡ []
MayDoAll node posts past (item ∷ rest) =
    (IsOwed node past item ⊎ (IsFree past × MayDo node past item rest posts)) × MayDoAll node posts (Did item ∷ past) rest

-- ---- posts

-- what may be posted where no Page and no Ack is owed; so there are no others of these
abbrev pub MayPost : Node → Past → ℕ → Body → Type 0
MayPost node past receiver (Fetch page) = MayFetch node past receiver page
MayPost node past receiver (Page page words) = ⊥
MayPost node past receiver (Reconcile parts) = MayReconcile node past receiver parts
MayPost node past receiver Ack = ⊥
MayPost node past receiver Ask = MayAsk node past receiver
MayPost node past receiver (Grant closure) = MayGrant node past receiver closure
MayPost node past receiver Refuse = MayRefuse node past receiver
MayPost node past receiver (Done join index value) = MayDone node past receiver join index value
MayPost node past receiver (Park join closure) = MayPark node past receiver join closure
MayPost node past receiver (Add frame index word addend) = MayPostAdd node past receiver frame index word addend
MayPost node past receiver (Added old) = Tells node past receiver old

-- Home replies: the message is the first of the Pages and Acks that the node owes.
abbrev pub IsDue : Node → Past → Msg → Type 0
IsDue node past message = (later : List Msg) × (owed_home_replies node past ≡ message ∷ later)

-- Home replies: all other posts stand behind those.
pub record Sends (node : Node) (past : Past) (message : Msg) : Type 0 where
  pub none_owed : owed_home_replies node past ≡ []
  pub sender : message.sender ≡ node.me
  pub may : MayPost node past message.receiver message.body

-- an Ask that is left unanswered is kept by a busy node
abbrev pub AreKept : Bool → List Asked → Type 0
AreKept busy [] = Unit {0}
AreKept busy (ask ∷ asks) = (ask.kept ≡ true) × (busy ≡ true) × AreKept busy asks

-- After its posts a node owes nothing but answers to Asks that it keeps.
pub record OwesNothing (node : Node) (past : Past) : Type 0 where
  pub replied : owed_home_replies node past ≡ []
  pub told : owed_olds node past ≡ []
  pub asks : AreKept (has_frames node past) (asks_of node past)

abbrev pub MaySend : Node → Past → Msg → Type 0
MaySend node past message = IsDue node past message ⊎ Sends node past message

-- Each post of a turn may be sent. At the end the node owes nothing.
abbrev pub MaySendAll : Node → Past → List Msg → Type 0
MaySendAll node past [] = OwesNothing node past
MaySendAll node past (message ∷ messages) = MaySend node past message × MaySendAll node (Sent message ∷ past) messages

-- ---- turns

-- What a turn holds beside the message that it takes.
pub record Deeds : Type 0 where
  pub items : List Item
  pub posts : List Msg
  pub end : Option NodeEnd

abbrev pub deeds_of : WholeTurn → Deeds
deeds_of turn = record { items = turn.items; posts = turn.posts; end = turn.end }

abbrev pub no_deeds : Deeds
no_deeds = record { items = []; posts = []; end = None }

-- the past behind these items and posts
abbrev pub behind : Deeds → Past → Past
behind deeds past = sent deeds.posts (did deeds.items past)

-- replies that a node may owe while it waits for an answer
abbrev pub is_reply : Body → Bool
is_reply (Page page words) = true
is_reply Ack = true
is_reply Refuse = true
is_reply (Added old) = true
is_reply _ = false

-- A node ends only where it waits for nothing.
abbrev pub MayEndSo : Node → Past → Option NodeEnd → Type 0
MayEndSo node past None = Unit {0}
MayEndSo node past (Some end) = IsQuiet past × MayEnd node past end

-- A turn in which the node does, posts or ends something: its items may be done one behind the other, its posts may be sent behind them,
-- and where it has an end, the run may end so. Where the node waits for an answer from before the turn, it posts replies alone.
pub record Moves (node : Node) (past : Past) (deeds : Deeds) : Type 0 where
  pub patient : IsQuiet past ⊎ (list_all (λ message. is_reply message.body) deeds.posts ≡ true)
  pub items : MayDoAll node deeds.posts past deeds.items
  pub posts : MaySendAll node (did deeds.items past) deeds.posts
  pub end : MayEndSo node (behind deeds past) deeds.end

-- A turn may also hold nothing but a taken message; what is owed then stays owed.
abbrev pub IsStep : Node → Past → Deeds → Type 0
IsStep node past deeds = (deeds ≡ no_deeds) ⊎ Moves node past deeds

-- Bounded cache: at most as many pages are resident as the cache holds.
abbrev pub IsBounded : Node → Past → Type 0
IsBounded node past = length (by_use node past) ≤ node.config.cache_pages

-- a turn with an end takes no message
abbrev pub MayTake : Node → Past → Option NodeEnd → Option Msg → Type 0
MayTake node past end None = Unit {0}
MayTake node past end (Some message) = (end ≡ None) × IsBounded node (Took message ∷ past)

-- What a node may do next, and a message that it may then take. Its own past alone decides.
pub record Allows (node : Node) (past : Past) (deeds : Deeds) (message : Option Msg) : Type 0 where
  pub step : IsStep node past deeds
  pub takes : MayTake node (behind deeds past) deeds.end message

-- ---- runs

-- a configuration, and a code
pub record Cluster : Type 0 where
  pub config : Config
  pub code : Code

abbrev pub node_at : Cluster → ℕ → Node
node_at cluster number = record { me = number; config = cluster.config; code = cluster.code }

-- the latest turn has an end
abbrev pub IsOver : List WholeTurn → Type 0
IsOver [] = ⊥
IsOver (turn ∷ older) = turn.end ≢ None

-- A turn may come next behind these, of which the latest comes first. The turn with an end is the last one.
pub record IsNext (cluster : Cluster) (older : List WholeTurn) (turn : WholeTurn) : Type 0 where
  pub goes_on : ¬ IsOver older
  pub node : turn.node < cluster.config.nodes
  pub delivered : IsDelivered older turn.node turn.took (posted_at older turn.took)
  pub allows : Allows (node_at cluster turn.node) (past_of turn.node older) (deeds_of turn) (posted_at older turn.took)

-- Each turn may come behind those before it. The latest comes first.
abbrev pub IsLawful : Cluster → List WholeTurn → Type 0
IsLawful cluster [] = Unit {0}
IsLawful cluster (turn ∷ older) = IsLawful cluster older × IsNext cluster older turn

-- what a log keeps of a whole turn
abbrev pub logged : WholeTurn → Turn
logged turn = record { node = turn.node; items = turn.items; posts = map post_of turn.posts; took = turn.took; end = turn.end }

-- A run of the cluster: a log of whole turns that are lawful.
pub record IsRun (cluster : Cluster) (log : List Turn) : Type 0 where
  pub turns : List WholeTurn
  pub log_is : log ≡ map logged turns
  pub lawful : IsLawful cluster (reverse turns)
