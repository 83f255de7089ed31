-- A Grant names a join for its frame, or goes by the one that the frame has. So each join stays the one of its frame.
use Rattle.std.proofs.Common.{◌≡◌, ◌⊎◌, inl, inr, ◌<◌, ℕ, List, [], ◌∷◌, ◌++◌, Option, Some, None, Bool, true, false, cond, eqb, refl, sym, ◌∙◌, ap, subst, arith}
use Rattle.std.proofs.lemmas.Bool.Decides.{nat_tests}
use Rattle.page_messages.specs.declared.closure.FrameId.{FrameId}
use Rattle.page_messages.specs.declared.closure.JoinId.{JoinId}
use Rattle.page_messages.specs.declared.closure.Closure.{Closure}
use Rattle.page_messages.specs.declared.message.Msg.{Msg}
use Rattle.page_messages.specs.declared.message.Body.{Body}
use Rattle.page_messages.specs.declared.message.Body.TheVariants as body
use Rattle.cluster_rules.specs.Walking.{given, or_else, last_of}
use Rattle.cluster_rules.specs.Turns.{Event, Did, Sent, Took, Ended, Past}
use Rattle.cluster_rules.specs.Node.{Node}
use Rattle.cluster_rules.specs.Home.{replies_in}
use Rattle.cluster_rules.specs.Lives.{Life, same_join}
use Rattle.cluster_rules.specs.Frames.{frames_of, stack_of, next_join, needs_join, joins_sent, joins_on}
use Rattle.cluster_rules.specs.Edges.{join_for, MayGrant}
use Rattle.cluster_rules.specs.Positions.{Moved, Course, own}
use Rattle.cluster_rules.specs.Runs.{Cluster, node_at, MayPost, MaySend}
use Rattle.cluster_rules.specs.Allowed.{IsAllowed}
use Rattle.cluster_rules.proofs.Testing.{both_true}
use Rattle.cluster_rules.proofs.Stepping.{Step}
use Rattle.cluster_rules.proofs.Passing.{may_post}
use Rattle.cluster_order.specs.Reading.{granted_for, grants_in, grants_by}
use Rattle.cluster_order.proofs.Between.{own_first}
use Rattle.cluster_edges.proofs.Ties.{Born, Named, tie_of, Standing, Stacked, Keeps, Tied}
use Rattle.cluster_edges.proofs.Longer.{join_more, StaysNamed}
use Rattle.cluster_rules.proofs.Testing.{own_number}

-- ---- names of joins

pub same_join_self : (join : JoinId) → same_join join join ≡ true
same_join_self join = rw (own_number join.node, own_number join.number) refl

pub same_join_is : (a b : JoinId) → same_join a b ≡ true → a ≡ b
same_join_is a b is =
    let both = both_true (eqb a.node b.node) (eqb a.number b.number) is in
    let nodes : a.node ≡ b.node = let test = both.0 in grind (arith, nat_tests) in
    let numbers : a.number ≡ b.number = let test = both.1 in grind (arith, nat_tests) in
    λ i. record { node = nodes i; number = numbers i }

granted_is : (join : JoinId) (other : Option JoinId) (id frame : FrameId) → granted_for join other id ≡ Some frame → (other ≡ Some join) × (id ≡ frame)
granted_is join None id frame is = absurd (cc)
granted_is join (Some other) id frame is = on (same_join other join) refl is
  where
    on : (b : Bool) → same_join other join ≡ b → cond b (Some id) None ≡ Some frame → (Some other ≡ Some join) × (id ≡ frame)
    on true same is = (ap Some (same_join_is other join same), cc)
    on false same is = absurd (cc)

-- the Grant for which the join was named, or another one for it
pub record Grants (join : JoinId) (event : Event) (frame : FrameId) : Type 0 where
  pub message : Msg
  pub closure : Closure
  pub event_is : event ≡ Sent message
  pub says : message.body ≡ body.Grant closure
  pub join_is : closure.join ≡ Some join
  pub id_is : closure.id ≡ frame

grants_said : (join : JoinId) (message : Msg) (said : Body) (frame : FrameId) → message.body ≡ said → grants_in join said ≡ Some frame
    → Grants join (Sent message) frame
grants_said join message (body.Fetch page) frame says is = absurd (cc)
grants_said join message (body.Page page words) frame says is = absurd (cc)
grants_said join message (body.Reconcile parts) frame says is = absurd (cc)
grants_said join message body.Ack frame says is = absurd (cc)
grants_said join message body.Ask frame says is = absurd (cc)
grants_said join message (body.Grant closure) frame says is =
    let both = granted_is join closure.join closure.id frame is in
    record { message = message; closure = closure; event_is = refl; says = says; join_is = both.0; id_is = both.1 }
grants_said join message body.Refuse frame says is = absurd (cc)
grants_said join message (body.Done other index value) frame says is = absurd (cc)
grants_said join message (body.Park other closure) frame says is = absurd (cc)
grants_said join message (body.Add asker index word addend) frame says is = absurd (cc)
grants_said join message (body.Added old) frame says is = absurd (cc)

pub grants_is : (join : JoinId) (event : Event) (frame : FrameId) → grants_by join event ≡ Some frame → Grants join event frame
grants_is join (Did item) frame is = absurd (cc)
grants_is join (Sent message) frame is = grants_said join message message.body frame refl is
grants_is join (Took message) frame is = absurd (cc)
grants_is join (Ended end) frame is = absurd (cc)

-- ---- what may be posted

pub sent_may : (cluster : Cluster) (moved : Moved) (course : Course) → Step cluster course moved → (message : Msg) (said : Body) → moved.event ≡ Sent message
    → message.body ≡ said
    → (replies_in said ≡ true) ⊎ MayPost (node_at cluster moved.node) (own moved.node course) message.receiver said
sent_may cluster moved course step message said is says =
    let node = node_at cluster moved.node in
    let past = own moved.node course in
    let may : MaySend node past message = subst (λ event. IsAllowed node past event) is step.allowed in
    subst (λ it. (replies_in it ≡ true) ⊎ MayPost node past message.receiver it) says (may_post node past message may)

grant_on : (node : Node) (past : Past) (receiver : ℕ) (closure : Closure)
    → (replies_in (body.Grant closure) ≡ true) ⊎ MayPost node past receiver (body.Grant closure)
    → MayGrant node past receiver closure
grant_on node past receiver closure (inl reply) = absurd (cc)
grant_on node past receiver closure (inr may) = may

-- ---- the bottom of a stack

pub bottom_two : (cluster : Cluster) (course : Course) (above : List Life) (child parent : Life) → Stacked cluster course (above ++ (child ∷ (parent ∷ [])))
    → Standing cluster course (tie_of child) × Born parent.id child.spawned.index child.id course × Standing cluster course (tie_of parent)
bottom_two cluster course [] child parent stacked = (stacked.0, stacked.1, stacked.2.0)
bottom_two cluster course (life ∷ above) child parent stacked = bottom_two cluster course above child parent stacked.2

pub last_two : (above : List Life) (child parent : Life) → last_of (above ++ (child ∷ (parent ∷ []))) ≡ Some parent
last_two [] child parent = refl
last_two (life ∷ []) child parent = refl
last_two (life ∷ (second ∷ above)) child parent = last_two (second ∷ above) child parent

-- ---- the join of a Grant

join_is : (node : Node) (past : Past) (has : Option JoinId) (join : JoinId) → join_for node past has ≡ Some join
    → (has ≡ Some join) ⊎ ((has ≡ None) × (join ≡ record { node = node.me; number = next_join node past }))
join_is node past (Some other) join is = inl is
join_is node past None join is = inr (refl, cc)

pub record Granted (cluster : Cluster) (moved : Moved) (course : Course) (message : Msg) (closure : Closure) : Type 0 where
  pub may : MayGrant (node_at cluster moved.node) (own moved.node course) message.receiver closure
  pub child : Standing cluster course (tie_of may.child)
  pub born : Born may.parent.id may.child.spawned.index may.child.id course
  pub parent : Standing cluster course (tie_of may.parent)

module _ (cluster : Cluster) (moved : Moved) (course : Course) (step : Step cluster course moved) (tied : Tied cluster course) where
  pub granted : (message : Msg) (closure : Closure) → moved.event ≡ Sent message → message.body ≡ body.Grant closure
      → Granted cluster moved course message closure
  granted message closure is says =
      let node = node_at cluster moved.node in
      let past = own moved.node course in
      let may : MayGrant node past message.receiver closure =
      grant_on node past message.receiver closure (sent_may cluster moved course step message (body.Grant closure) is says) in
      let keeps : Keeps cluster course (frames_of node past) = tied.nodes moved.node step.within in
      let both = bottom_two cluster course may.above may.child may.parent (subst (Stacked cluster course) may.stack keeps.stack) in
      record { may = may; child = both.0; born = both.1; parent = both.2 }

  -- its frame has this join, or the join is new
  granted_join : (message : Msg) (closure : Closure) (it : Granted cluster moved course message closure) (join : JoinId) → closure.join ≡ Some join
      → Named join it.may.parent.id course
      ⊎ ((it.may.parent.join ≡ None) × (join ≡ record { node = moved.node; number = next_join (node_at cluster moved.node) (own moved.node course) }))
  granted_join message closure it join is =
      on (join_is (node_at cluster moved.node) (own moved.node course) it.may.parent.join join (sym it.may.state.join ∙ is))
    where
      on : (it.may.parent.join ≡ Some join)
          ⊎ ((it.may.parent.join ≡ None) × (join ≡ record { node = moved.node; number = next_join (node_at cluster moved.node) (own moved.node course) }))
          → Named join it.may.parent.id course
          ⊎ ((it.may.parent.join ≡ None) × (join ≡ record { node = moved.node; number = next_join (node_at cluster moved.node) (own moved.node course) }))
      on (inl has) = inl (it.parent.fits.joined join has)
      on (inr new) = inr new

  -- no join is named that has the next number
  not_fresh : (join : JoinId) (frame : FrameId) → Named join frame course
      → join ≡ record { node = moved.node; number = next_join (node_at cluster moved.node) (own moved.node course) } → ⊥
  not_fresh join frame named is =
      let less = subst (λ (it : JoinId). it.number < next_join (node_at cluster it.node) (own it.node course)) is (tied.joins join frame named) in
      omega (arith, less)

  same_frame_named : (join : JoinId) (frame other : FrameId) → Named join frame course → Grants join moved.event other → other ≡ frame
  same_frame_named join frame other named grants =
      let it = granted grants.message grants.closure grants.event_is grants.says in
      on it (granted_join grants.message grants.closure it join grants.join_is)
    where
      on : (it : Granted cluster moved course grants.message grants.closure)
          → Named join it.may.parent.id course
          ⊎ ((it.may.parent.join ≡ None) × (join ≡ record { node = moved.node; number = next_join (node_at cluster moved.node) (own moved.node course) }))
          → other ≡ frame
      on it (inl its) =
          let some : Some it.may.parent.id ≡ Some frame = sym its ∙ named in
          let same : it.may.parent.id ≡ frame = cc in
          sym grants.id_is ∙ it.may.state.id ∙ same
      on it (inr new) = absurd (not_fresh join frame named new.1)

  -- A join stays the one of its frame.
  pub named_stays : StaysNamed moved course
  named_stays = λ join frame named. on join frame named (grants_by join moved.event) refl
    where
      on : (join : JoinId) (frame : FrameId) → Named join frame course → (by : Option FrameId) → grants_by join moved.event ≡ by
          → Named join frame (moved ∷ course)
      on join frame named None is = ap (λ it. or_else it (given (λ (moved : Moved). grants_by join moved.event) course)) is ∙ named
      on join frame named (Some other) is =
          ap (λ it. or_else it (given (λ (moved : Moved). grants_by join moved.event) course)) is
          ∙ ap Some (same_frame_named join frame other named (grants_is join moved.event other is))

  joins_grow : (message : Msg) (closure : Closure) (it : Granted cluster moved course message closure) → moved.event ≡ Sent message
      → message.body ≡ body.Grant closure → it.may.parent.join ≡ None
      → next_join (node_at cluster moved.node) (own moved.node course) < next_join (node_at cluster moved.node) (own moved.node (moved ∷ course))
  unfolding next_join
  joins_grow message closure it is says none =
      let node = node_at cluster moved.node in
      let past = own moved.node course in
      let last : last_of (stack_of node past) ≡ Some it.may.parent = ap last_of it.may.stack ∙ last_two it.may.above it.may.child it.may.parent in
      let one : joins_on node moved.event past ≡ 1 =
      ap (λ event. joins_on node event past) is ∙ ap (λ said. joins_sent said (stack_of node past)) says ∙ ap needs_join last ∙ rw none refl in
      let all : own moved.node (moved ∷ course) ≡ moved.event ∷ past = own_first moved.node moved course refl in
      subst (λ it. next_join node past < next_join node it) (sym all) (omega (arith, one))

  pub joins_more : (join : JoinId) (frame : FrameId) → Named join frame (moved ∷ course)
      → join.number < next_join (node_at cluster join.node) (own join.node (moved ∷ course))
  joins_more join frame named = on (grants_by join moved.event) refl
    where
      on_granted : (grants : (other : FrameId) × Grants join moved.event other) → (it : Granted cluster moved course grants.1.message grants.1.closure)
          → Named join it.may.parent.id course
          ⊎ ((it.may.parent.join ≡ None) × (join ≡ record { node = moved.node; number = next_join (node_at cluster moved.node) (own moved.node course) }))
          → join.number < next_join (node_at cluster join.node) (own join.node (moved ∷ course))
      on_granted grants it (inl its) = join_more cluster moved course join (tied.joins join it.may.parent.id its)
      on_granted grants it (inr new) =
          subst (λ (it : JoinId). it.number < next_join (node_at cluster it.node) (own it.node (moved ∷ course))) (sym new.1)
          (joins_grow grants.1.message grants.1.closure it grants.1.event_is grants.1.says new.0)

      on : (by : Option FrameId) → grants_by join moved.event ≡ by → join.number < next_join (node_at cluster join.node) (own join.node (moved ∷ course))
      on None is =
          let old : Named join frame course = sym (ap (λ it. or_else it (given (λ (moved : Moved). grants_by join moved.event) course)) is) ∙ named in
          join_more cluster moved course join (tied.joins join frame old)
      on (Some other) is =
          let grants = grants_is join moved.event other is in
          let it = granted grants.message grants.closure grants.event_is grants.says in
          on_granted (other, grants) it (granted_join grants.message grants.closure it join grants.join_is)
