-- A search for a proof that a log is a run: where it finds one by computing, the log is.
use Rattle.std.proofs.Common.{◌≡◌, ℕ, List, [], ◌∷◌, map, Option, Some, None, true, is_some}
use Rattle.std.specs.Prelude.{reverse}
use Rattle.page_messages.specs.declared.closure.Closure.{Closure}
use Rattle.page_messages.specs.declared.closure.JoinId.{JoinId}
use Rattle.page_messages.specs.declared.message.Msg.{Msg}
use Rattle.page_messages.specs.declared.message.Body.{Body}
use Rattle.page_messages.specs.declared.message.Body.TheVariants.{Fetch, Page, Reconcile, Ack, Ask, Grant, Refuse, Done, Park, Add, Added}
use Rattle.page_messages.specs.declared.post.Note.{Note}
use Rattle.page_messages.specs.declared.post.Note.TheVariants as note
use Rattle.page_messages.specs.declared.post.Post.{Post}
use Rattle.page_messages.specs.declared.log.Turn.{Turn}
use Rattle.cluster_rules.specs.Turns.{WholeTurn, Sent, Past, did, past_of}
use Rattle.cluster_rules.specs.Node.{Node}
use Rattle.cluster_rules.specs.Lives.{Life}
use Rattle.cluster_rules.specs.Frames.{stack_of}
use Rattle.cluster_rules.specs.Paging.{IsAtJoin}
use Rattle.cluster_rules.specs.Edges.{IsClosure, parted}
use Rattle.cluster_rules.specs.Runs.{Cluster, node_at, IsLawful, IsRun, logged}
use Rattle.cluster_rules.proofs.Backward.{gives_some}
use Rattle.cluster_rules.proofs.Deciding.{◌>>=◌}
use Rattle.cluster_rules.proofs.DecidingPages.{at_join}
use Rattle.cluster_rules.proofs.DecidingTurns.{Bottom, bottom_of, GrantState, ParkState, StateIn, StatesOfPosts, is_next}

-- ---- whole turns of a log

-- what a note says, where the closures of the log are these from here on, and those behind it
abbrev pub Told : Type 0
Told = Body × List Closure

abbrev pub told : Note → List Closure → Told
told (note.Fetch page) closures = (Fetch page, closures)
told (note.Page page words) closures = (Page page words, closures)
told (note.Reconcile parts) closures = (Reconcile parts, closures)
told note.Ack closures = (Ack, closures)
told note.Ask closures = (Ask, closures)
told (note.Grant frame) (closure ∷ closures) = (Grant closure, closures)
told note.Refuse closures = (Refuse, closures)
told (note.Done join index value) closures = (Done join index value, closures)
told (note.Park join frame) (closure ∷ closures) = (Park join closure, closures)
told (note.Add frame index word addend) closures = (Add frame index word addend, closures)
told (note.Added old) closures = (Added old, closures)
told (note.Grant frame) [] = (Refuse, [])
told (note.Park join frame) [] = (Refuse, [])

abbrev pub messages_of : ℕ → List Post → List Closure → List Msg × List Closure
messages_of sender [] closures = ([], closures)
messages_of sender (post ∷ posts) closures =
    let first = told post.note closures in
    let rest = messages_of sender posts first.1 in
    (record { sender = sender; receiver = post.receiver; body = first.0 } ∷ rest.0, rest.1)

abbrev pub whole : List Turn → List Closure → List WholeTurn
whole [] closures = []
whole (turn ∷ turns) closures =
    let messages = messages_of turn.node turn.posts closures in
    record { node = turn.node; items = turn.items; posts = messages.0; took = turn.took; end = turn.end } ∷ whole turns messages.1

-- ---- the states of the closures, those of other messages left out

module _ (node : Node) (past : Past) where
  abbrev pub GrantAnd : (closure : Closure) → Option (Bottom (stack_of node past)) → Type 0 → Type 0
  GrantAnd closure None more = more
  GrantAnd closure (Some bottom) more = IsClosure node (parted node past bottom.child bottom.parent) closure × more

  abbrev pub ParkAnd : (closure : Closure) → Option ((life : Life) × (join : JoinId) × IsAtJoin node past life join) → Type 0 → Type 0
  ParkAnd closure None more = more
  ParkAnd closure (Some waits) more = IsClosure node waits.0 closure × more

  abbrev pub StateAnd : Body → Type 0 → Type 0
  StateAnd (Grant closure) more = GrantAnd closure (bottom_of (stack_of node past)) more
  StateAnd (Park join closure) more = ParkAnd closure (at_join node past) more
  StateAnd _ more = more

  abbrev pub grant_part : (closure : Closure) (bottom : Option (Bottom (stack_of node past))) {more : Type 0} → GrantAnd closure bottom more
      → GrantState node past closure bottom × more
  grant_part closure None given = (tt, given)
  grant_part closure (Some bottom) given = given

  abbrev pub park_part : (closure : Closure) (waits : Option ((life : Life) × (join : JoinId) × IsAtJoin node past life join)) {more : Type 0}
      → ParkAnd closure waits more
      → ParkState node past closure waits × more
  park_part closure None given = (tt, given)
  park_part closure (Some waits) given = given

  abbrev pub state_part : (body : Body) {more : Type 0} → StateAnd body more → StateIn node past body × more
  state_part (Grant closure) given = grant_part closure (bottom_of (stack_of node past)) given
  state_part (Park join closure) given = park_part closure (at_join node past) given
  state_part (Fetch page) given = (tt, given)
  state_part (Page page words) given = (tt, given)
  state_part (Reconcile parts) given = (tt, given)
  state_part Ack given = (tt, given)
  state_part Ask given = (tt, given)
  state_part Refuse given = (tt, given)
  state_part (Done join index value) given = (tt, given)
  state_part (Add frame index word addend) given = (tt, given)
  state_part (Added old) given = (tt, given)

abbrev pub StatesAnd : Node → Past → List Msg → Type 0 → Type 0
StatesAnd node past [] more = more
StatesAnd node past (message ∷ messages) more = StateAnd node past message.body (StatesAnd node (Sent message ∷ past) messages more)

abbrev pub states_part : (node : Node) (past : Past) (messages : List Msg) {more : Type 0} → StatesAnd node past messages more
    → StatesOfPosts node past messages × more
states_part node past [] given = (tt, given)
states_part node past (message ∷ messages) given =
    let first = state_part node past message.body given in
    let rest = states_part node (Sent message ∷ past) messages first.1 in
    ((first.0, rest.0), rest.1)

-- Each closure that travels in these turns, the latest turn first, is the state of its frame.
abbrev pub AreClosures : Cluster → List WholeTurn → Type 0
AreClosures cluster [] = Unit {0}
AreClosures cluster (turn ∷ older) = StatesAnd (node_at cluster turn.node) (did turn.items (past_of turn.node older)) turn.posts (AreClosures cluster older)

-- ---- runs

abbrev pub lawful_search : (cluster : Cluster) (turns : List WholeTurn) → AreClosures cluster turns → Option (IsLawful cluster turns)
lawful_search cluster [] closures = Some tt
lawful_search cluster (turn ∷ older) closures = do
  let states = states_part (node_at cluster turn.node) (did turn.items (past_of turn.node older)) turn.posts closures
  before ← lawful_search cluster older states.1
  next ← is_next cluster older turn states.0
  Some (before, next)

-- A log whose closures are these is a run, where the search finds that.
pub run_by : (cluster : Cluster) (log : List Turn) (closures : List Closure) → log ≡ map logged (whole log closures)
    → (states : AreClosures cluster (reverse (whole log closures)))
    → is_some (lawful_search cluster (reverse (whole log closures)) states) ≡ true → IsRun cluster log
run_by cluster log closures log_is states is =
    record { turns = whole log closures; log_is = log_is; lawful = (gives_some (lawful_search cluster (reverse (whole log closures)) states) is).0 }
