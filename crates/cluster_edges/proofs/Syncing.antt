-- A frame that was granted since its last Sync comes to its next one from its join.
use Rattle.std.proofs.Common.{◌≡◌, ◌≢◌, ◌⊎◌, inl, inr, ℕ, zero, suc, ◌<◌, List, [], ◌∷◌, Some, None, Bool, true, false, cond, eqb, length, refl, sym, ◌∙◌, ap, subst, arith}
use Rattle.std.proofs.lemmas.Bool.Decides.{nat_tests}
use Rattle.page_messages.specs.declared.closure.FrameId.{FrameId}
use Rattle.page_messages.specs.declared.message.Msg.{Msg}
use Rattle.page_messages.specs.declared.log.LoggedAct.{LoggedAct}
use Rattle.page_messages.specs.declared.log.LoggedAct.TheVariants as act
use Rattle.page_messages.specs.declared.log.Item.{Item}
use Rattle.page_messages.specs.declared.log.Item.TheVariants as item
use Rattle.cluster_rules.specs.Turns.{Event, Did, Sent, Took, Ended, Past}
use Rattle.cluster_rules.specs.Node.{Node}
use Rattle.cluster_rules.specs.Lives.{same_frame, live}
use Rattle.cluster_rules.specs.Frames.{frames_of}
use Rattle.cluster_rules.specs.Acting.{MayAct}
use Rattle.cluster_rules.specs.Positions.{Moved, Course, own, at, before}
use Rattle.cluster_rules.specs.Runs.{Cluster, node_at, IsFree, IsOwed, MayDo}
use Rattle.cluster_rules.specs.Allowed.{IsAllowed, DoesItem}
use Rattle.cluster_rules.proofs.Stepping.{Stepped}
use Rattle.cluster_rules.proofs.Marks.{same_self, same_name, first_is}
use Rattle.backer_order.specs.Log as log
use Rattle.backer_order.specs.Log.{Events, Acts, Sync, Post, Grant}
use Rattle.backer_order.specs.Moments.{NoneBetween}
use Rattle.backer_order.specs.Edges.{Stacks, away_after, Away, Joined}
use Rattle.cluster_order.specs.Reading.{happens_to, events_of}
use Rattle.cluster_order.specs.Standing.{first}
use Rattle.cluster_order.proofs.Growing.{within, at_last, at_behind}
use Rattle.cluster_order.proofs.Events.{event_at, posted_is, grant_is, acted_is, Acted, Served, sync_is}
use Rattle.cluster_edges.proofs.News.{ByGrant, news_in, told_event, told_sent, news_on, is_grant, is_sync, syncs, syncs_event, block_on, granted_here, Risen}
use Rattle.cluster_edges.proofs.Through.{EachLife, each_live}
use Rattle.cluster_edges.proofs.Placed.{OnStack}
use Rattle.cluster_edges.proofs.Bringing.{brought}
use Rattle.cluster_edges.proofs.Firsts.{at_first, at_whole, before_position, stepped_first, step_at}
use Rattle.cluster_edges.proofs.Saying.{from_join}

-- ---- a Grant since the last Sync

abbrev pub Syncs : Events → FrameId → ℕ → Type 0
Syncs events frame at = (node : ℕ) × (events at ≡ Acts node frame Sync)

-- The frame was granted, and has not synced since.
pub record GrantedSince (events : Events) (now : ℕ) (frame : FrameId) : Type 0 where
  pub post : ℕ
  pub sender : ℕ
  pub receiver : ℕ
  pub is : events post ≡ Post sender receiver (Grant frame)
  pub before : post < now
  pub none : NoneBetween (Syncs events frame) post now

one_or_less : (position now : ℕ) → position < suc now → (position ≡ now) ⊎ (position < now)
one_or_less position now less = on (eqb position now) refl
  where
    on : (b : Bool) → eqb position now ≡ b → (position ≡ now) ⊎ (position < now)
    on true is = inl (grind (arith, nat_tests))
    on false is = inr (let not : position ≢ now = λ same. grind (arith, nat_tests) in omega (arith, less, not))

since_later : (events : Events) (now : ℕ) (frame : FrameId) → (Syncs events frame now → ⊥) → GrantedSince events now frame → GrantedSince events (suc now) frame
since_later events now frame not since = record {
  post = since.post;
  sender = since.sender;
  receiver = since.receiver;
  is = since.is;
  before = let less = since.before in omega (arith, less);
  none = λ position behind less syncing. on position (one_or_less position now less) behind syncing since.none;
}
  where
    on : {post : ℕ} (position : ℕ) → (position ≡ now) ⊎ (position < now) → post < position → Syncs events frame position
        → NoneBetween (Syncs events frame) post now → ⊥
    on position (inl same) behind syncing none = not (subst (Syncs events frame) same syncing)
    on position (inr less) behind syncing none = none position behind less syncing

since_now : (events : Events) (now sender receiver : ℕ) (frame : FrameId) → events now ≡ Post sender receiver (Grant frame)
    → GrantedSince events (suc now) frame
since_now events now sender receiver frame is = record {
  post = now;
  sender = sender;
  receiver = receiver;
  is = is;
  before = omega arith;
  none = λ position behind less syncing. omega (arith, behind, less);
}

away_on : (events : Events) (stack : Stacks) (now : ℕ) (frame child : FrameId) (event : log.Event) → events now ≡ event
    → away_after stack now event (Away events stack now) frame child
    → (Away events stack now frame child → GrantedSince events now frame) → GrantedSince events (suc now) frame
away_on events stack now frame child log.Nothing is away rest = since_later events now frame (λ syncing. let sync = syncing.1 in absurd (cc)) (rest away)
away_on events stack now frame child (log.Tick number other) is away rest =
    since_later events now frame (λ syncing. let sync = syncing.1 in absurd (cc)) (rest away)
away_on events stack now frame child (log.Drop number page) is away rest =
    since_later events now frame (λ syncing. let sync = syncing.1 in absurd (cc)) (rest away)
away_on events stack now frame child (log.TakeUp number other) is away rest =
    since_later events now frame (λ syncing. let sync = syncing.1 in absurd (cc)) (rest away)
away_on events stack now frame child (log.OwnFetch number page words) is away rest =
    since_later events now frame (λ syncing. let sync = syncing.1 in absurd (cc)) (rest away)
away_on events stack now frame child (log.OwnReconcile number part) is away rest =
    since_later events now frame (λ syncing. let sync = syncing.1 in absurd (cc)) (rest away)
away_on events stack now frame child (log.Took number post) is away rest =
    since_later events now frame (λ syncing. let sync = syncing.1 in absurd (cc)) (rest away)
away_on events stack now frame child (log.End number) is away rest = since_later events now frame (λ syncing. let sync = syncing.1 in absurd (cc)) (rest away)
away_on events stack now frame child (Acts number parent (log.Read word value)) is away rest =
    since_later events now frame (λ syncing. let sync = syncing.1 in absurd (cc)) (rest away)
away_on events stack now frame child (Acts number parent (log.Write word value)) is away rest =
    since_later events now frame (λ syncing. let sync = syncing.1 in absurd (cc)) (rest away)
away_on events stack now frame child (Acts number parent (log.Add word old addend)) is away rest =
    since_later events now frame (λ syncing. let sync = syncing.1 in absurd (cc)) (rest away)
away_on events stack now frame child (Acts number parent (log.Print value)) is away rest =
    since_later events now frame (λ syncing. let sync = syncing.1 in absurd (cc)) (rest away)
away_on events stack now frame child (Acts number parent (log.Spawn spawned)) is away rest =
    since_later events now frame (λ syncing. let sync = syncing.1 in absurd (cc)) (rest away)
away_on events stack now frame child (Acts number parent log.Sync) is away rest =
    since_later events now frame (λ syncing. let sync = syncing.1 in let same : parent ≡ frame = cc in away.1 same) (rest away.0)
away_on events stack now frame child (Post number receiver (log.Fetch page)) is away rest =
    since_later events now frame (λ syncing. let sync = syncing.1 in absurd (cc)) (rest away)
away_on events stack now frame child (Post number receiver (log.Page page words)) is away rest =
    since_later events now frame (λ syncing. let sync = syncing.1 in absurd (cc)) (rest away)
away_on events stack now frame child (Post number receiver (log.Reconcile parts)) is away rest =
    since_later events now frame (λ syncing. let sync = syncing.1 in absurd (cc)) (rest away)
away_on events stack now frame child (Post number receiver log.Ack) is away rest =
    since_later events now frame (λ syncing. let sync = syncing.1 in absurd (cc)) (rest away)
away_on events stack now frame child (Post number receiver log.Ask) is away rest =
    since_later events now frame (λ syncing. let sync = syncing.1 in absurd (cc)) (rest away)
away_on events stack now frame child (Post number receiver (log.Grant granted)) is (inl away) rest =
    since_later events now frame (λ syncing. let sync = syncing.1 in absurd (cc)) (rest away)
away_on events stack now frame child (Post number receiver (log.Grant granted)) is (inr both) rest =
    since_now events now number receiver frame (is ∙ ap (λ it. Post number receiver (Grant it)) both.0)
away_on events stack now frame child (Post number receiver log.Refuse) is away rest =
    since_later events now frame (λ syncing. let sync = syncing.1 in absurd (cc)) (rest away)
away_on events stack now frame child (Post number receiver (log.Done parent done)) is away rest =
    since_later events now frame (λ syncing. let sync = syncing.1 in absurd (cc)) (rest away)
away_on events stack now frame child (Post number receiver (log.Park parked)) is away rest =
    since_later events now frame (λ syncing. let sync = syncing.1 in absurd (cc)) (rest away)
away_on events stack now frame child (Post number receiver (log.AddTo adder word addend)) is away rest =
    since_later events now frame (λ syncing. let sync = syncing.1 in absurd (cc)) (rest away)
away_on events stack now frame child (Post number receiver (log.Added old)) is away rest =
    since_later events now frame (λ syncing. let sync = syncing.1 in absurd (cc)) (rest away)

-- A frame from below which a child was separated was granted in this block.
pub away_granted : (events : Events) (stack : Stacks) (now : ℕ) (frame child : FrameId) → Away events stack now frame child → GrantedSince events now frame
unfolding Away
away_granted events stack zero frame child away = absurd away
away_granted events stack (suc now) frame child away = away_on events stack now frame child (events now) refl away (away_granted events stack now frame child)

-- ---- so it is in the course

-- what stands where a frame syncs
pub record SyncsBy (frame : FrameId) (event : Event) : Type 0 where
  pub index : ℕ
  pub is : event ≡ Did (item.Act frame index act.Sync)

act_syncs : (frame other : FrameId) (index : ℕ) (done : LoggedAct) (b : Bool) → same_frame other frame ≡ b → cond b (is_sync done) false ≡ true
    → SyncsBy frame (Did (item.Act other index done))
act_syncs frame other index done false is syncing = absurd (cc)
act_syncs frame other index (act.Read word value) true is syncing = absurd (cc)
act_syncs frame other index (act.Write word value) true is syncing = absurd (cc)
act_syncs frame other index (act.Print value) true is syncing = absurd (cc)
act_syncs frame other index (act.Spawn child procedure arguments) true is syncing = absurd (cc)
act_syncs frame other index act.Sync true is syncing =
    record { index = index; is = ap (λ (it : FrameId). Did (item.Act it index act.Sync)) (same_name other frame is) }

event_syncs : (frame : FrameId) (event : Event) → syncs_event frame event ≡ true → SyncsBy frame event
event_syncs frame (Did (item.Act other index done)) syncing = act_syncs frame other index done (same_frame other frame) refl syncing
event_syncs frame (Did (item.Tick other)) syncing = absurd (cc)
event_syncs frame (Did (item.Drop page)) syncing = absurd (cc)
event_syncs frame (Did (item.TakeUp other)) syncing = absurd (cc)
event_syncs frame (Did (item.OwnFetch page words)) syncing = absurd (cc)
event_syncs frame (Did (item.OwnReconcile part)) syncing = absurd (cc)
event_syncs frame (Did (item.Served other index word old addend)) syncing = absurd (cc)
event_syncs frame (Sent message) syncing = absurd (cc)
event_syncs frame (Took message) syncing = absurd (cc)
event_syncs frame (Ended end) syncing = absurd (cc)

block_grant : (b : Bool) (rest : Bool) → rest ≡ true → block_on false b rest ≡ true
block_grant true rest is = refl
block_grant false rest is = is

granted_on : (frame : FrameId) (moved : Moved) (course : Course) (post : ℕ) (grant : Moved) (b : Bool) → eqb post (length course) ≡ b
    → cond b (Some moved) (at course post) ≡ Some grant
    → is_grant (news_on frame grant) ≡ true → syncs frame grant ≡ false
    → ((later : ℕ) (other : Moved) → post < later → at (moved ∷ course) later ≡ Some other → syncs frame other ≡ false)
    → (at course post ≡ Some grant → granted_here frame course ≡ true) → granted_here frame (moved ∷ course) ≡ true
granted_on frame moved course post grant true is found grants apart none rest =
    let same : grant ≡ moved = cc in
    let granting : is_grant (news_on frame moved) ≡ true = subst (λ it. is_grant (news_on frame it) ≡ true) same grants in
    let silent : syncs frame moved ≡ false = subst (λ it. syncs frame it ≡ false) same apart in
    rw (silent, granting) refl
granted_on frame moved course post grant false is found grants apart none rest =
    let inside = within course post grant found in
    let silent : syncs frame moved ≡ false = none (length course) moved inside (at_last moved course) in
    let before = rest found in
    rw silent (block_grant (is_grant (news_on frame moved)) (granted_here frame course) before)

granted_at : (frame : FrameId) (course : Course) (post : ℕ) (grant : Moved) → at course post ≡ Some grant → is_grant (news_on frame grant) ≡ true
    → syncs frame grant ≡ false
    → ((later : ℕ) (other : Moved) → post < later → at course later ≡ Some other → syncs frame other ≡ false) → granted_here frame course ≡ true
granted_at frame [] post grant found grants apart none = absurd (cc)
granted_at frame (moved ∷ course) post grant found grants apart none =
    granted_on frame moved course post grant (eqb post (length course)) refl found grants apart none
    (λ found. granted_at frame course post grant found grants apart
    (λ later other behind there. none later other behind (at_behind (moved ∷ []) course later (within course later other there) ∙ there)))

-- ---- runs

module _ (cluster : Cluster) (course : Course) (stepped : Stepped cluster course) where
  abbrev events : Events
  events = events_of cluster course

  sync_at : (position : ℕ) (frame : FrameId) (moved : Moved) → at course position ≡ Some moved → SyncsBy frame moved.event → Syncs events frame position
  sync_at position frame moved found syncing = (
    moved.node,
    event_at cluster course position moved found ∙ ap (λ event. happens_to cluster (before course position) moved.node moved.message event) syncing.is,
  )

  pub since_here : (now : ℕ) (frame : FrameId) → GrantedSince events now frame → granted_here frame (first now course) ≡ true
  since_here now frame since =
      let it = posted_is cluster course since.post since.sender since.receiver (Grant frame) since.is in
      let found = it.2 in
      let grant = grant_is cluster since.sender (before course since.post) frame it.1.body it.4 in
      let says : news_on frame found.moved ≡ Some (ByGrant it.1.receiver) =
      ap (λ event. news_in frame (told_event found.moved.node event)) found.event_is ∙ ap (λ said. news_in frame (told_sent it.1.receiver said)) grant.1
      ∙ ap (λ b. cond b (Some (ByGrant it.1.receiver)) None) (subst (λ id. same_frame grant.0.id id ≡ true) grant.2 (same_self grant.0.id)) in
      granted_at frame (first now course) since.post found.moved (at_first course now since.post found.moved since.before found.is) (ap is_grant says)
      (ap (syncs_event frame) found.event_is)
      (λ later other behind there. on later other behind there (syncs frame other) refl)
    where
      on : (later : ℕ) (other : Moved) → since.post < later → at (first now course) later ≡ Some other → (b : Bool) → syncs frame other ≡ b → b ≡ false
      on later other behind there true syncing =
          absurd (since.none later behind (before_position course now later other there)
          (sync_at later frame other (at_whole course now later other there) (event_syncs frame other.event syncing)))
      on later other behind there false syncing = refl

  acts_so : (node : Node) (past : Past) (frame : FrameId) (index : ℕ) (done : LoggedAct) (rest : List Item) (posts : List Msg)
      → IsOwed node past (item.Act frame index done) ⊎ (IsFree past × MayDo node past (item.Act frame index done) rest posts)
      → MayAct node past frame index done
  acts_so node past frame index done rest posts (inl owed) = absurd owed
  acts_so node past frame index done rest posts (inr both) = both.1

  -- the frame stands on its node, and has no join
  joined_here : (now node : ℕ) (frame : FrameId) (index : ℕ) → DoesItem (node_at cluster node) (own node (first now course)) (item.Act frame index act.Sync)
      → (granted_here frame (first now course) ≡ false) ⊎ Risen frame (first now course)
  joined_here now node frame index does =
      let earlier = first now course in
      let may = acts_so (node_at cluster node) (own node earlier) frame index act.Sync does.rest does.posts does.may in
      let stack = (frames_of (node_at cluster node) (own node earlier)).stack in
      let all = each_live (OnStack cluster node earlier) stack ((brought cluster earlier (stepped_first cluster course now stepped)).frames node).stack in
      let first = first_is (live stack) may.life may.acts.is in
      let top : OnStack cluster node earlier may.life.id may.life.join = (subst (EachLife (OnStack cluster node earlier)) first.1 all).0 in
      subst (λ it. (granted_here it earlier ≡ false) ⊎ Risen it earlier) (sym may.acts.named) (top.joined may.makes.joined)

  sync_does : (now node : ℕ) (frame : FrameId) → events now ≡ Acts node frame Sync
      → (index : ℕ) × DoesItem (node_at cluster node) (own node (first now course)) (item.Act frame index act.Sync)
  sync_does now node frame is = on (acted_is cluster course now node frame Sync is)
    where
      on : Acted cluster course now node frame Sync ⊎ Served cluster course now node frame Sync
          → (index : ℕ) × DoesItem (node_at cluster node) (own node (first now course)) (item.Act frame index act.Sync)
      on (inl acted) =
          let happens = acted.is in
          let step = step_at cluster course now happens.moved stepped happens.is in
          let does : IsAllowed (node_at cluster node) (own node (first now course)) (Did (item.Act frame acted.index acted.act)) =
          subst (λ event. IsAllowed (node_at cluster node) (own node (first now course)) event) happens.event_is
          (subst (λ it. IsAllowed (node_at cluster it) (own it (first now course)) happens.moved.event) happens.by step.allowed) in (
            acted.index,
            subst (λ it. DoesItem (node_at cluster node) (own node (first now course)) (item.Act frame acted.index it))
                (sync_is acted.act acted.act_is) does,
          )
      on (inr served) = let not = served.act_is in absurd (cc)

  -- At a Sync of a frame that was granted in its block, its last take-up was from its join.
  pub sync_joined_if : (now node : ℕ) (frame : FrameId) → events now ≡ Acts node frame Sync → GrantedSince events now frame → Joined events now frame
  sync_joined_if now node frame is since =
      let does = sync_does now node frame is in on (joined_here now node frame does.0 does.1)
    where
      on : (granted_here frame (first now course) ≡ false) ⊎ Risen frame (first now course) → Joined events now frame
      on (inl not) = let granted = since_here now frame since in absurd (cc)
      on (inr risen) = from_join cluster course now frame risen

  -- so it is where a child was separated from it
  pub sync_joined : (stack : Stacks) (now node : ℕ) (frame child : FrameId) → events now ≡ Acts node frame Sync → Away events stack now frame child
      → Joined events now frame
  sync_joined stack now node frame child is away = sync_joined_if now node frame is (away_granted events stack now frame child away)
