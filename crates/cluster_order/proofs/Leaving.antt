-- A stack leaves its node only where no add of the node is waited for.
use Rattle.std.proofs.Common.{◌≡◌, ◌⊎◌, inl, inr, ℕ, ℤ, ◌<◌, List, [], ◌∷◌, ◌++◌, append_assoc, Option, Some, Bool, true, false, cond, ◌||◌, refl, sym, ◌∙◌, ap, subst}
use Rattle.std.specs.List.{list_any}
use Rattle.cilk_meaning.specs.Wants as want
use Rattle.cilk_meaning.specs.Wants.{Asks}
use Rattle.page_messages.specs.declared.closure.FrameId.{FrameId}
use Rattle.page_messages.specs.declared.closure.JoinId.{JoinId}
use Rattle.page_messages.specs.declared.message.Msg.{Msg}
use Rattle.page_messages.specs.declared.message.Body.{Body}
use Rattle.page_messages.specs.declared.message.Body.TheVariants as body
use Rattle.page_messages.specs.declared.log.Item.{Item}
use Rattle.page_messages.specs.declared.log.Item.TheVariants as item
use Rattle.cluster_rules.specs.Walking.{since, is_empty, first_of}
use Rattle.cluster_rules.specs.Turns.{WholeTurn, Event, Did, Sent, Took, Ended, Past}
use Rattle.cluster_rules.specs.Node.{Node}
use Rattle.cluster_rules.specs.Sendings.{ForAdded, awaits, begins, ends, adds_in, tells_in}
use Rattle.cluster_rules.specs.Home.{replies_in}
use Rattle.cluster_rules.specs.Lives.{Life, want_of, live, added, link_to, without_bottom}
use Rattle.cluster_rules.specs.Frames.{Frames, frames_took, frames_of, stack_of, stack_sent}
use Rattle.cluster_rules.specs.Positions.{Moved, Course, course_of, own, at, before}
use Rattle.cluster_rules.specs.Runs.{Cluster, IsLawful, node_at, IsOwed, IsFree, MayDo, MayPost, MaySend}
use Rattle.cluster_rules.specs.Allowed.{IsAllowed, AllAllowed}
use Rattle.cluster_rules.proofs.Lawful.{lawful_past}
use Rattle.cluster_rules.proofs.Coursing.{at_splits, own_course}
use Rattle.cluster_rules.proofs.Marks.{AddsFirst, WantsAdd, live_first, first_is, bottom_gone, kept_first}
use Rattle.backer_order.specs.Log as log
use Rattle.backer_order.specs.Moments.{AddDone}
use Rattle.backer_order.specs.Edges.{IsLeave}
use Rattle.cluster_order.specs.Reading.{memory_of}
use Rattle.cluster_order.proofs.Events.{happens, posted_is, done_is, park_is, add_is}
use Rattle.cluster_order.proofs.Between.{own_more}
use Rattle.cluster_order.proofs.Accesses.{ev}
use Rattle.cluster_order.proofs.Lawful.{Among, owed_is_reply, done_allowed, park_allowed}
use Rattle.cluster_order.proofs.Answering.{Request, told_where_quiet, done_by}
use Rattle.cluster_order.proofs.Stepping.{stack_behind, behind_is}

-- ---- the past of a node at a position is allowed

allowed_back : (node : Node) (newer older : Past) → AllAllowed node (newer ++ older) → AllAllowed node older
allowed_back node [] older all = all
allowed_back node (event ∷ newer) older all = allowed_back node newer older (all.1)

pub all_allowed : (cluster : Cluster) (turns : List WholeTurn) → IsLawful cluster turns → (number position : ℕ) (moved : Moved)
    → at (course_of turns) position ≡ Some moved
    → AllAllowed (node_at cluster number) (own number (before (course_of turns) position))
all_allowed cluster turns lawful number position moved found =
    let split = at_splits (course_of turns) position moved found in
    let front = before (course_of turns) position in
    let parts : own number (course_of turns) ≡ own number (split.later ++ moved ∷ []) ++ own number front =
    ap (own number) (split.parts ∙ sym (append_assoc (split.later) (moved ∷ []) front)) ∙ own_more number (split.later ++ moved ∷ []) front in
    allowed_back (node_at cluster number) (own number (split.later ++ moved ∷ [])) (own number front)
    (subst (AllAllowed (node_at cluster number)) (sym (own_course number turns) ∙ parts) (lawful_past cluster turns number lawful))

-- what is no Page and no Ack may be posted
may_post : (node : Node) (past : Past) (message : Msg) (said : Body) → message.body ≡ said → replies_in said ≡ false → MaySend node past message
    → MayPost node past message.receiver said
may_post node past message said says no_reply (inl due) =
    let is = (owed_is_reply node past message (subst (λ it. Among message it) (sym (due.1)) (inl refl))).replies in
    let not : replies_in message.body ≡ false = ap replies_in says ∙ no_reply in absurd (cc)
may_post node past message said says no_reply (inr sends) = subst (λ it. MayPost node past message.receiver it) says (sends.may)

-- ---- while an add is waited for

-- the frame on top wants an add
abbrev pub WantsFirst : List Life → Type 0
WantsFirst stack = (frame : FrameId) × (acts : ℕ) × AddsFirst frame acts stack

granted_first : (join : Option JoinId) (above : List Life) (child parent : Life) → WantsFirst (above ++ (child ∷ (parent ∷ [])))
    → WantsFirst (above ++ (record child { link = link_to join } ∷ []))
granted_first join above child parent first = (first.0, first.1, kept_first (first.0) (first.1) join above child parent (first.2))

-- the highest frame on top
first_of_highest : (stack : List Life) (life : Life) → first_of (live stack) ≡ Some life → WantsAdd life → WantsFirst (live stack)
first_of_highest stack life is wants = let rest = first_is (live stack) life is in subst WantsFirst (sym (rest.1)) (life.id, life.acts, (refl, refl, wants))

took_first : (node : Node) (said : Body) (past : Past) (frames : Frames) → tells_in said ≡ false → WantsFirst frames.stack
    → WantsFirst ((frames_took node said past frames).stack)
took_first node (body.Fetch page) past frames not first = first
took_first node (body.Page page words) past frames not first = first
took_first node (body.Reconcile parts) past frames not first = first
took_first node body.Ack past frames not first = first
took_first node body.Ask past frames not first = first
took_first node (body.Grant closure) past frames not first = first
took_first node body.Refuse past frames not first = first
took_first node (body.Done join index value) past frames not first = first
took_first node (body.Park join closure) past frames not first = first
took_first node (body.Add frame index word addend) past frames not first = first
took_first node (body.Added old) past frames not first = absurd (cc)

-- no stack has returned whose first frame wants an add
not_returned : (stack : List Life) → WantsFirst stack → live stack ≡ [] → ⊥
not_returned stack first none = let it = live_first (first.0) (first.1) stack (first.2) in let both = it.2 in absurd (cc)

-- and that frame is not at its Sync
not_syncing : (stack : List Life) (life : Life) → WantsFirst stack → live stack ≡ life ∷ [] → want_of life ≡ Some (Asks want.Sync) → ⊥
not_syncing stack life first alone syncs =
    let it = live_first (first.0) (first.1) stack (first.2) in
    let same_list : it.0 ∷ it.1 ≡ life ∷ [] = sym (it.2) ∙ alone in
    let same : it.0 ≡ life = cc in
    let wants : want_of life ≡ Some (Asks (want.Add (it.3.0) (it.3.1))) = ap want_of (sym same) ∙ it.3.2 in
    let both = sym syncs ∙ wants in
    absurd (cc)

sent_first : (node : Node) (past : Past) (message : Msg) (said : Body) → message.body ≡ said → MaySend node past message
    → adds_in said || awaits ForAdded past ≡ true
    → (awaits ForAdded past ≡ true → WantsFirst (stack_of node past)) → WantsFirst (stack_sent said (stack_of node past))
sent_first node past message (body.Fetch page) says may waits before =
    let quiet = (may_post node past message (body.Fetch page) says refl may).quiet ForAdded in absurd (cc)
sent_first node past message (body.Page page words) says may waits before = before waits
sent_first node past message (body.Reconcile parts) says may waits before = before waits
sent_first node past message body.Ack says may waits before = before waits
sent_first node past message body.Ask says may waits before = before waits
sent_first node past message (body.Grant closure) says may waits before =
    let grant = may_post node past message (body.Grant closure) says refl may in
    let parts = grant.stack in
    subst WantsFirst (sym (ap (without_bottom closure.join) parts ∙ bottom_gone closure.join (grant.above) (grant.child) (grant.parent)))
    (granted_first closure.join (grant.above) (grant.child) (grant.parent) (subst WantsFirst parts (before waits)))
sent_first node past message body.Refuse says may waits before = before waits
sent_first node past message (body.Done join index value) says may waits before =
    absurd (not_returned (stack_of node past) (before waits) ((may_post node past message (body.Done join index value) says refl may).returned.none_left))
sent_first node past message (body.Park join closure) says may waits before =
    let park = may_post node past message (body.Park join closure) says refl may in
    absurd (not_syncing (stack_of node past) (park.life) (before waits) (park.at_join.alone) (park.at_join.wanted))
sent_first node past message (body.Add frame index word addend) says may waits before =
    let add = (may_post node past message (body.Add frame index word addend) says refl may).add in
    first_of_highest (stack_of node past) (add.life) (add.acts.is) (word, addend, add.wanted)
sent_first node past message (body.Added old) says may waits before = before waits

item_first : (node : Node) (past : Past) (done : Item) (rest : List Item) (posts : List Msg)
    → IsOwed node past done ⊎ (IsFree past × MayDo node past done rest posts) → awaits ForAdded past ≡ true
    → WantsFirst (stack_of node past) → WantsFirst (stack_behind node (Did done) past)
item_first node past done rest posts (inr own_item) waits first = let quiet = (own_item.0).quiet ForAdded in absurd (cc)
item_first node past (item.Served frame index word old addend) rest posts (inl serves) waits first =
    subst (λ owed. WantsFirst (cond (is_empty owed) (added old (live (stack_of node past))) (stack_of node past))) (sym (serves.oldest)) first
item_first node past (item.Act frame index act) rest posts (inl owed) waits first = absurd owed
item_first node past (item.Tick frame) rest posts (inl owed) waits first = absurd owed
item_first node past (item.Drop page) rest posts (inl owed) waits first = absurd owed
item_first node past (item.TakeUp frame) rest posts (inl owed) waits first = absurd owed
item_first node past (item.OwnFetch page words) rest posts (inl owed) waits first = absurd owed
item_first node past (item.OwnReconcile part) rest posts (inl owed) waits first = absurd owed

event_first : (node : Node) (past : Past) (event : Event) → IsAllowed node past event → awaits ForAdded (event ∷ past) ≡ true
    → (awaits ForAdded past ≡ true → WantsFirst (stack_of node past))
    → WantsFirst (stack_behind node event past)
event_first node past (Did done) may waits before = item_first node past done (may.rest) (may.posts) (may.may) waits (before waits)
event_first node past (Sent message) may waits before = sent_first node past message message.body refl may waits before
event_first node past (Took message) may waits before = on (tells_in message.body) refl waits
  where
    on : (b : Bool) → tells_in message.body ≡ b → list_any (begins ForAdded) (cond b [] (Took message ∷ since (ends ForAdded) past)) ≡ true
        → WantsFirst (stack_behind node (Took message) past)
    on true is none = absurd (cc)
    on false is some = took_first node message.body (Took message ∷ past) (frames_of node past) is (before some)
event_first node past (Ended end) may waits before = before waits

-- While an add is waited for, the first frame of the stack wants it.
pub asked_first : (node : Node) (past : Past) → AllAllowed node past → awaits ForAdded past ≡ true → WantsFirst (stack_of node past)
asked_first node [] all waits = absurd (cc)
asked_first node (event ∷ past) all waits =
    subst WantsFirst (sym (behind_is node event past)) (event_first node past event (all.0) waits (asked_first node past (all.1)))

-- ---- where a stack leaves

no_wait : (node : Node) (past : Past) → (WantsFirst (stack_of node past) → ⊥) → AllAllowed node past → awaits ForAdded past ≡ false
no_wait node past none all = on (awaits ForAdded past) refl
  where
    on : (b : Bool) → awaits ForAdded past ≡ b → b ≡ false
    on true waits = absurd (none (asked_first node past all waits))
    on false is = refl

module _ (cluster : Cluster) (turns : List WholeTurn) (lawful : IsLawful cluster turns) where
  abbrev events : ℕ → log.Event
  events = ev cluster turns lawful

  abbrev course : Course
  course = course_of turns

  abbrev node : ℕ → Node
  node number = node_at cluster number

  abbrev past : ℕ → ℕ → Past
  past number position = own number (before course position)

  -- each add that was asked for is done there
  added_there : (number position post home : ℕ) (frame : FrameId) (word : ℕ) (addend : ℤ) (moved : Moved) → at course position ≡ Some moved
      → events post ≡ log.Post number home (log.AddTo frame word addend)
      → post < position → awaits ForAdded (past number position) ≡ false → AddDone events (memory_of cluster) number post position
  added_there number position post home frame word addend moved found posted less quiet =
      let it = posted_is cluster course post number home (log.AddTo frame word addend) posted in
      let says = add_is cluster number (before course post) frame word addend (it.1.body) (it.4) in
      let request : Request cluster turns lawful number ForAdded post =
      record { message = it.1; is = happens cluster course post number (it.0) (Sent (it.1)) (it.2); asks = ap adds_in (says.1) } in
      let told = told_where_quiet cluster turns lawful number ForAdded position moved found quiet post request less in
      done_by cluster turns lawful number post (told.0) position (told.2) (told.1)

  pub leave : (number position post home receiver : ℕ) (frame : FrameId) (word : ℕ) (addend : ℤ) (note : log.Note)
      → events post ≡ log.Post number home (log.AddTo frame word addend) → post < position
      → events position ≡ log.Post number receiver note → IsLeave note → AddDone events (memory_of cluster) number post position
  leave number position post home receiver frame word addend (log.Done parent child) posted less is leaves =
      let it = posted_is cluster course position number receiver (log.Done parent child) is in
      let sent = happens cluster course position number (it.0) (Sent (it.1)) (it.2) in
      let says = done_is cluster number (before course position) parent child (it.1.body) (it.4) in
      let may = done_allowed cluster turns lawful number position (it.1) (says.0) (says.1) (says.2) sent (says.3) in
      added_there number position post home frame word addend (sent.moved) (sent.is) posted less
      (no_wait (node number) (past number position) (λ first. not_returned (stack_of (node number) (past number position)) first (may.returned.none_left))
      (all_allowed cluster turns lawful number position (sent.moved) (sent.is)))
  leave number position post home receiver frame word addend (log.Park parked) posted less is leaves =
      let it = posted_is cluster course position number receiver (log.Park parked) is in
      let sent = happens cluster course position number (it.0) (Sent (it.1)) (it.2) in
      let says = park_is cluster number (before course position) parked (it.1.body) (it.4) in
      let may = park_allowed cluster turns lawful number position (it.1) (says.0) (says.1) sent (says.2) in
      added_there number position post home frame word addend (sent.moved) (sent.is) posted less
      (no_wait (node number) (past number position)
      (λ first. not_syncing (stack_of (node number) (past number position)) (may.life) first (may.at_join.alone) (may.at_join.wanted))
      (all_allowed cluster turns lawful number position (sent.moved) (sent.is)))
  leave number position post home receiver frame word addend (log.Fetch page) posted less is leaves = absurd leaves
  leave number position post home receiver frame word addend (log.Page page words) posted less is leaves = absurd leaves
  leave number position post home receiver frame word addend (log.Reconcile parts) posted less is leaves = absurd leaves
  leave number position post home receiver frame word addend log.Ack posted less is leaves = absurd leaves
  leave number position post home receiver frame word addend log.Ask posted less is leaves = absurd leaves
  leave number position post home receiver frame word addend (log.Grant granted) posted less is leaves = absurd leaves
  leave number position post home receiver frame word addend log.Refuse posted less is leaves = absurd leaves
  leave number position post home receiver frame word addend (log.AddTo other its_word its_addend) posted less is leaves = absurd leaves
  leave number position post home receiver frame word addend (log.Added old) posted less is leaves = absurd leaves
