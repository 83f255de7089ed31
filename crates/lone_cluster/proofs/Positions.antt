-- What stands at a position of a run on one node, and the ticks before it.
use Rattle.std.proofs.Common.{◌≡◌, ◌⊎◌, inl, inr, ℕ, zero, suc, ◌+◌, ℤ, [], ◌∷◌, Option, Some, None, true, false, cond, refl, sym, ◌∙◌, ap, subst, arith}
use Rattle.backer_order.specs.Log as log
use Rattle.backer_order.specs.Moments.{IsAccess}
use Rattle.page_messages.specs.declared.closure.FrameId.{FrameId}
use Rattle.page_messages.specs.declared.log.LoggedAct.{LoggedAct}
use Rattle.page_messages.specs.declared.log.Item.TheVariants as item
use Rattle.page_messages.specs.declared.log.PostAt.{PostAt}
use Rattle.cluster_rules.specs.Walking.{is_empty}
use Rattle.cluster_rules.specs.Turns.{Event, Did, Sent, Took, Ended, Past}
use Rattle.cluster_rules.specs.Home.{owed_adds}
use Rattle.cluster_rules.specs.Lives.{Life}
use Rattle.cluster_rules.specs.Frames.{ticks_on, ticks_of}
use Rattle.cluster_rules.specs.Acting.{Acts, MayAct, MayTick, MayAddHere, Serves}
use Rattle.cluster_rules.specs.Allowed.{IsAllowed}
use Rattle.cluster_rules.specs.Runs.{Cluster, node_at, IsFree}
use Rattle.cluster_rules.specs.Positions.{Moved, Course, own, at, before}
use Rattle.cluster_rules.proofs.Stepping.{Stepped, stepped_before}
use Rattle.cluster_rules.proofs.Claimed.{step_at}
use Rattle.cluster_rules.proofs.Marks.{same_name}
use Rattle.cluster_order.specs.Reading.{served_for, happens_to, events_of}
use Rattle.cluster_order.specs.Standing.{first}
use Rattle.cluster_order.proofs.Events.{event_at}
use Rattle.cluster_order.proofs.Fronts.{first_none, first_next, first_same, first_at}
use Rattle.determinacy.specs.Ending.{is_item, count, all_ticks}
use Rattle.determinacy.specs.Replies.{by}
use Rattle.lone_cluster.proofs.Silent.{OwnEvent, SilentPast, silent_own, no_adds, own_here, Lone, lone}

ticks_start : ticks_of [] ≡ 0
unfolding ticks_of
ticks_start = refl

ticks_next : (event : Event) (past : Past) → ticks_of (event ∷ past) ≡ ticks_of past + ticks_on event past
unfolding ticks_of
ticks_next event past = refl

-- the node of an act
abbrev node_in : log.Event → ℕ
node_in log.Nothing = 0
node_in (log.Acts node frame act) = node
node_in (log.Tick node frame) = node
node_in (log.Drop node page) = node
node_in (log.TakeUp node frame) = node
node_in (log.OwnFetch node page words) = node
node_in (log.OwnReconcile node part) = node
node_in (log.Post node receiver note) = node
node_in (log.Took node post) = node
node_in (log.End node) = node

module _ (cluster : Cluster) (alone : cluster.config.nodes ≡ 1) (course : Course) (stepped : Stepped cluster course) where
  abbrev events : ℕ → log.Event
  events = events_of cluster course

  abbrev past_at : ℕ → Past
  past_at position = own 0 (before course position)

  -- At each position stands an event that node 0 does by itself.
  pub record Stands (position : ℕ) (moved : Moved) : Type 0 where
    pub here : moved.node ≡ 0
    pub itself : OwnEvent moved.event
    pub lone_before : Lone cluster alone (before course position)
    pub allowed : IsAllowed (node_at cluster 0) (past_at position) moved.event
    pub event_is : events position ≡ happens_to cluster (before course position) 0 moved.message moved.event

  pub stands_at : (position : ℕ) (moved : Moved) → at course position ≡ Some moved → Stands position moved
  stands_at position moved found =
      let step = step_at cluster course stepped position moved found in
      let earlier = stepped_before cluster course stepped position in
      let whole = lone cluster alone (moved ∷ before course position) (earlier, step) in
      let here = whole.0.0 in
      record {
        here = here;
        itself = whole.0.1;
        lone_before = lone cluster alone (before course position) earlier;
        allowed = subst (λ number. IsAllowed (node_at cluster number) (own number (before course position)) moved.event) here step.allowed;
        event_is =
            event_at cluster course position moved found
            ∙ ap (λ number. happens_to cluster (before course position) number moved.message moved.event) here;
      }

  pub silent_at : (position : ℕ) (moved : Moved) → Stands position moved → SilentPast (past_at position)
  silent_at position moved stands = silent_own 0 (before course position) stands.lone_before.0

  -- ---- whose items there are

  served_here : (position : ℕ) (moved : Moved) → Stands position moved → served_for 0 (owed_adds (past_at position)) ≡ 0
  served_here position moved stands = ap (served_for 0) (no_adds (past_at position) (silent_at position moved stands))

  happens_here : (position : ℕ) (moved : Moved) (place : Option PostAt) → Stands position moved → (event : Event)
      → node_in (happens_to cluster (before course position) 0 place event) ≡ 0
  happens_here position moved place stands (Did (item.Act frame index act)) = refl
  happens_here position moved place stands (Did (item.Tick frame)) = refl
  happens_here position moved place stands (Did (item.Drop page)) = refl
  happens_here position moved place stands (Did (item.TakeUp frame)) = refl
  happens_here position moved place stands (Did (item.OwnFetch page words)) = refl
  happens_here position moved place stands (Did (item.OwnReconcile part)) = refl
  happens_here position moved place stands (Did (item.Served frame index word old addend)) = served_here position moved stands
  happens_here position moved place stands (Sent message) = refl
  happens_here position moved place stands (Took message) = refl
  happens_here position moved place stands (Ended end) = refl

  -- each event is of node 0
  node_here : (position : ℕ) → node_in (events position) ≡ 0
  node_here position = on (at course position) refl
    where
      on : (option : Option Moved) → at course position ≡ option → node_in (events position) ≡ 0
      on None none = rw none refl
      on (Some moved) found =
          let stands = stands_at position moved found in ap node_in stands.event_is ∙ happens_here position moved moved.message stands moved.event

  acts_here : (node position : ℕ) (frame : FrameId) (act : log.Act) → events position ≡ log.Acts node frame act → node ≡ 0
  acts_here node position frame act is = sym (ap node_in is) ∙ node_here position

  access_here : (node word position : ℕ) → IsAccess events node word position → node ≡ 0
  access_here node word position (inl (inl (value, wrote))) = acts_here node position wrote.frame (log.Write word value) wrote.is
  access_here node word position (inl (inr (value, read))) = acts_here node position read.frame (log.Read word value) read.is
  access_here node word position (inr (old, add)) = acts_here node position add.frame (log.Add word old add.addend) add.is

  -- So each word is accessed by one node alone.
  pub one_accesses : (node other word position next : ℕ) → IsAccess events node word position → IsAccess events other word next → node ≡ other
  one_accesses node other word position next access second = access_here node word position access ∙ sym (access_here other word next second)

  -- ---- what its frame may do

  abbrev Acting : ℕ → FrameId → Type 0
  Acting position frame = (life : Life) × Acts (node_at cluster 0) (past_at position) frame life

  pub may_act : (past : Past) (frame : FrameId) (index : ℕ) (done : LoggedAct) → ⊥ ⊎ (IsFree past × MayAct (node_at cluster 0) past frame index done)
      → (life : Life) × Acts (node_at cluster 0) past frame life
  may_act past frame index done (inl owed) = absurd owed
  may_act past frame index done (inr both) = (both.1.life, both.1.acts)

  may_tick : (past : Past) (frame : FrameId) → ⊥ ⊎ (IsFree past × MayTick (node_at cluster 0) past frame)
      → (life : Life) × Acts (node_at cluster 0) past frame life
  may_tick past frame (inl owed) = absurd owed
  may_tick past frame (inr both) = (both.1.life, both.1.acts)

  may_add : (past : Past) → SilentPast past → (frame : FrameId) (index word : ℕ) (old addend : ℤ)
      → Serves (node_at cluster 0) past frame index word old addend ⊎ (IsFree past × MayAddHere (node_at cluster 0) past frame index word old addend)
      → (life : Life) × Acts (node_at cluster 0) past frame life
  may_add past silent frame index word old addend (inl serves) = let both = sym serves.oldest ∙ no_adds past silent in absurd (cc)
  may_add past silent frame index word old addend (inr both) = (both.1.add.life, both.1.add.acts)

  acting_on : (position : ℕ) (frame : FrameId) → SilentPast (past_at position) → (place : Option PostAt) (event : Event)
      → IsAllowed (node_at cluster 0) (past_at position) event
      → by frame (happens_to cluster (before course position) 0 place event) ≡ true → Acting position frame
  unfolding by
  acting_on position frame silent place (Did (item.Act actor index act)) does is =
      subst (Acting position) (same_name actor frame is) (may_act (past_at position) actor index act does.may)
  acting_on position frame silent place (Did (item.Tick actor)) does is =
      subst (Acting position) (same_name actor frame is) (may_tick (past_at position) actor does.may)
  acting_on position frame silent place (Did (item.Drop page)) does is = absurd (cc)
  acting_on position frame silent place (Did (item.TakeUp taken)) does is = absurd (cc)
  acting_on position frame silent place (Did (item.OwnFetch page words)) does is = absurd (cc)
  acting_on position frame silent place (Did (item.OwnReconcile part)) does is = absurd (cc)
  acting_on position frame silent place (Did (item.Served actor index word old addend)) does is =
      subst (Acting position) (same_name actor frame is) (may_add (past_at position) silent actor index word old addend does.may)
  acting_on position frame silent place (Sent message) does is = absurd (cc)
  acting_on position frame silent place (Took message) does is = absurd (cc)
  acting_on position frame silent place (Ended end) does is = absurd (cc)

  nobody : (frame : FrameId) (event : log.Event) → event ≡ log.Nothing → by frame event ≡ true → ⊥
  unfolding by
  nobody frame event is acts = let none = ap (by frame) (sym is) ∙ acts in absurd (cc)

  -- The frame of an item acts by the rules, as the highest that has not returned.
  pub acting : (position : ℕ) (frame : FrameId) → by frame (events position) ≡ true
      → (moved : Moved) × (at course position ≡ Some moved) × Acting position frame
  acting position frame acts = on (at course position) refl
    where
      on : (option : Option Moved) → at course position ≡ option → (moved : Moved) × (at course position ≡ Some moved) × Acting position frame
      on None none = absurd (nobody frame (events position) (rw none refl) acts)
      on (Some moved) found =
          let stands = stands_at position moved found in
          let named = ap (by frame) (sym stands.event_is) ∙ acts in
          (moved, found, acting_on position frame (silent_at position moved stands) moved.message moved.event stands.allowed named)

  -- ---- ticks

  counts_on : (earlier : Course) → owed_adds (own 0 earlier) ≡ [] → (place : Option PostAt) (event : Event) → OwnEvent event → (n : ℕ)
      → cond (is_item (happens_to cluster earlier 0 place event)) (suc n) n ≡ n + ticks_on event (own 0 earlier)
  unfolding is_item
  counts_on earlier none place (Did (item.Act frame index act)) itself n = omega arith
  counts_on earlier none place (Did (item.Tick frame)) itself n = omega arith
  counts_on earlier none place (Did (item.Drop page)) itself n = omega arith
  counts_on earlier none place (Did (item.TakeUp frame)) itself n = absurd itself
  counts_on earlier none place (Did (item.OwnFetch page words)) itself n = omega arith
  counts_on earlier none place (Did (item.OwnReconcile part)) itself n = omega arith
  counts_on earlier none place (Did (item.Served frame index word old addend)) itself n =
      let one : ◌≡◌ {A = ℕ} (cond (is_empty (owed_adds (own 0 earlier))) 1 0) 1 = ap (λ adds. cond (is_empty adds) 1 0) none in omega (arith, one)
  counts_on earlier none place (Sent message) itself n = absurd itself
  counts_on earlier none place (Took message) itself n = absurd itself
  counts_on earlier none place (Ended end) itself n = omega arith

  no_ticks : all_ticks events 0 ≡ 0
  unfolding count
  no_ticks = refl

  one_tick : (position : ℕ) → all_ticks events (suc position) ≡ cond (is_item (events position)) (suc (all_ticks events position)) (all_ticks events position)
  unfolding count
  one_tick position = refl

  nothing_item : (event : log.Event) → event ≡ log.Nothing → is_item event ≡ false
  unfolding is_item
  nothing_item event is = ap is_item is

  -- All ticks of the execution are those of the node.
  pub ticks_here : (position : ℕ) → all_ticks events position ≡ ticks_of (own 0 (first position course))
  ticks_here zero = no_ticks ∙ sym (ap (λ one. ticks_of (own 0 one)) (first_none course) ∙ ticks_start)
  ticks_here (suc position) = on (at course position) refl (ticks_here position)
    where
      ticks : ℕ
      ticks = all_ticks events position

      on : (option : Option Moved) → at course position ≡ option → all_ticks events position ≡ ticks_of (own 0 (first position course))
          → all_ticks events (suc position) ≡ ticks_of (own 0 (first (suc position) course))
      on None none same =
          one_tick position ∙ ap (λ item. cond item (suc ticks) ticks) (nothing_item (events position) (rw none refl)) ∙ same
          ∙ ap (λ one. ticks_of (own 0 one)) (sym (first_same position course none))
      on (Some moved) found same =
          let stands = stands_at position moved found in
          let so_far : ticks ≡ ticks_of (past_at position) = same ∙ ap (λ one. ticks_of (own 0 one)) (first_at position course moved found) in
          one_tick position ∙ ap (λ event. cond (is_item event) (suc ticks) ticks) stands.event_is
          ∙ counts_on (before course position) (no_adds (past_at position) (silent_at position moved stands)) moved.message moved.event stands.itself ticks
          ∙ ap (λ n. n + ticks_on moved.event (past_at position)) so_far ∙ sym (ticks_next moved.event (past_at position))
          ∙ ap ticks_of (sym (ap (own 0) (first_next position course moved found) ∙ own_here cluster alone moved (before course position) stands.here))
