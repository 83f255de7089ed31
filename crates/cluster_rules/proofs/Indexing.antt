-- The index of each act is the number of acts that its frame made before.
use Rattle.std.proofs.Common.{◌≡◌, ◌≤◌, ◌<◌, ◌⊎◌, inl, inr, ℕ, ℤ, List, [], ◌∷◌, Bool, true, false, refl, ap, subst, arith}
use Rattle.page_messages.specs.declared.closure.FrameId.{FrameId}
use Rattle.page_messages.specs.declared.message.Msg.{Msg}
use Rattle.page_messages.specs.declared.log.LoggedAct.{LoggedAct}
use Rattle.page_messages.specs.declared.log.Item.{Item}
use Rattle.page_messages.specs.declared.log.Item.TheVariants as item
use Rattle.cluster_rules.specs.Turns.{Did, Past}
use Rattle.cluster_rules.specs.Lives.{Life}
use Rattle.cluster_rules.specs.Frames.{frames_of, stack_of}
use Rattle.cluster_rules.specs.Acting.{Acts, Serves}
use Rattle.cluster_rules.specs.Runs.{Cluster, node_at, IsFree, IsOwed, MayDo}
use Rattle.cluster_rules.specs.Allowed.{IsAllowed}
use Rattle.cluster_rules.specs.Positions.{Moved, Course, own}
use Rattle.cluster_rules.proofs.Stepping.{Step, Stepped}
use Rattle.cluster_rules.proofs.Summing.{sum_none, sum_one}
use Rattle.cluster_rules.proofs.Marks.{Mark, one, many, many_append, named, mark_of, marks, other_marks, same_self, same_name, AddsFirst}
use Rattle.cluster_rules.proofs.Passing.{is_among}
use Rattle.cluster_rules.proofs.Holding.{at_node, held, one_node}
use Rattle.cluster_rules.proofs.Advancing.{acts_counted}
use Rattle.cluster_rules.proofs.Phases.{Phase, Idle, Asked, Told, phase_of, is_told_of, waits_in, IsFirst}
use Rattle.cluster_rules.proofs.Phasing.{quiet_idle}
use Rattle.cluster_rules.proofs.Asking.{phased, was_asked}
use Rattle.cluster_rules.proofs.Claiming.{acts_before, pending_at, pending, adds_up}

-- the mark is among those of the node
abbrev pub HasMark : Cluster → Course → ℕ → Mark → Type 0
HasMark cluster course number mark = (such : Mark → Bool) → one (such mark) ≤ at_node cluster course such number

pub mark_named : (cluster : Cluster) (course : Course) (number : ℕ) (frame : FrameId) (acts : ℕ)
    → HasMark cluster course number (record { id = frame; acts = acts })
    → 1 ≤ at_node cluster course (named frame) number
mark_named cluster course number frame acts has =
    let here = has (named frame) in
    let is : one (named frame (record { id = frame; acts = acts })) ≡ 1 = ap one (same_self frame) in omega (arith, here, is)

pub stack_mark : (cluster : Cluster) (course : Course) (number : ℕ) (mark : Mark)
    → ((such : Mark → Bool) → one (such mark) ≤ many such (marks (stack_of (node_at cluster number) (own number course)))) → HasMark cluster course number mark
stack_mark cluster course number mark has = λ such.
    let frames = frames_of (node_at cluster number) (own number course) in
    let here = has such in
    let all = many_append such (marks frames.stack) (other_marks frames) in omega (arith, here, all)

same_mark : (life : Life) (frame : FrameId) (acts : ℕ) → life.id ≡ frame → life.acts ≡ acts → mark_of life ≡ record { id = frame; acts = acts }
same_mark life frame acts name number = λ i. record { id = name i; acts = number i }

first_mark : (such : Mark → Bool) (frame : FrameId) (acts : ℕ) (stack : List Life) → AddsFirst frame acts stack
    → one (such (record { id = frame; acts = acts })) ≤ many such (marks stack)
first_mark such frame acts [] first = absurd first
first_mark such frame acts (life ∷ below) first =
    let is = ap (λ it. one (such it)) (same_mark life frame acts first.0 first.1) in omega (arith, is)

pub first_stack_mark : (cluster : Cluster) (course : Course) (number : ℕ) (frame : FrameId) (acts : ℕ)
    → AddsFirst frame acts (stack_of (node_at cluster number) (own number course))
    → HasMark cluster course number (record { id = frame; acts = acts })
first_stack_mark cluster course number frame acts first =
    stack_mark cluster course number (record { id = frame; acts = acts })
    (λ such. first_mark such frame acts (stack_of (node_at cluster number) (own number course)) first)

module _ (cluster : Cluster) (course : Course) (stepped : Stepped cluster course) where
  -- a frame that was not told of its add is the first of its stack
  pub told_there : (number : ℕ) (frame : FrameId) (phase : Phase) → phase_of number course ≡ phase → is_told_of frame phase ≡ true
      → 1 ≤ at_node cluster course (named frame) number
  told_there number frame Idle is told = absurd (cc)
  told_there number frame (Asked other acts) is told = absurd (cc)
  told_there number frame (Told other acts old) is told =
      let name = same_name other frame told in
      let first : AddsFirst other acts (stack_of (node_at cluster number) (own number course)) =
      subst (λ it. IsFirst it (stack_of (node_at cluster number) (own number course))) is ((phased cluster course stepped).first number) in
      let has = first_stack_mark cluster course number other acts first in
      subst (λ it. 1 ≤ at_node cluster course (named it) number) name (mark_named cluster course number other acts has)

  -- a frame that one node has, which was told of its adds, is nowhere to be told
  none_pending : (node : ℕ) → node < cluster.config.nodes → (frame : FrameId) → 1 ≤ at_node cluster course (named frame) node
      → is_told_of frame (phase_of node course) ≡ false
      → pending cluster frame course ≡ 0
  none_pending node less frame here not =
      sum_none cluster.config.nodes (pending_at course frame) (λ number below. on number below (is_told_of frame (phase_of number course)) refl)
    where
      on : (number : ℕ) → number < cluster.config.nodes → (b : Bool) → is_told_of frame (phase_of number course) ≡ b → one b ≡ 0
      on number below false is = refl
      on number below true is =
          let there = told_there number frame (phase_of number course) refl is in
          let same = one_node cluster course stepped frame number node below less there here in
          let told : is_told_of frame (phase_of node course) ≡ true = subst (λ it. is_told_of frame (phase_of it course) ≡ true) same is in absurd (cc)

  -- So a mark of such a frame holds as many acts as it made.
  pub mark_acts : (node : ℕ) → node < cluster.config.nodes → (frame : FrameId) (acts : ℕ) → HasMark cluster course node (record { id = frame; acts = acts })
      → is_told_of frame (phase_of node course) ≡ false → acts ≡ acts_before frame course
  mark_acts node less frame acts has not =
      let counts = acts_counted cluster course stepped node less frame acts has in
      let none = none_pending node less frame (mark_named cluster course node frame acts has) not in
      let sums = adds_up cluster course stepped frame in
      omega (arith, counts, none, sums)

  mark_held : (node : ℕ) → node < cluster.config.nodes → (frame : FrameId) (acts : ℕ) → HasMark cluster course node (record { id = frame; acts = acts })
      → 1 ≤ held cluster course frame
  mark_held node less frame acts has =
      let here = mark_named cluster course node frame acts has in
      let whole = sum_one cluster.config.nodes (at_node cluster course (named frame)) node less in omega (arith, here, whole)

  -- the frame has made so many acts, and is somewhere
  abbrev pub Made : FrameId → ℕ → Type 0
  Made frame index = (index ≡ acts_before frame course) × (1 ≤ held cluster course frame)

  module _ (moved : Moved) (step : Step cluster course moved) where
    abbrev node : ℕ
    node = moved.node

    abbrev past : Past
    past = own node course

    -- the frame that acts, on a node that waits for nothing
    acting : (frame : FrameId) (life : Life) (index : ℕ) → IsFree past → Acts (node_at cluster node) past frame life → index ≡ life.acts → Made frame index
    acting frame life index free acts index_is =
        let idle = quiet_idle cluster course node moved.message step.within (phased cluster course stepped) free.quiet in
        let has = stack_mark cluster course node (record { id = frame; acts = index }) (is_among (node_at cluster node) past frame life acts index index_is) in
        (mark_acts node step.within frame index has (ap (is_told_of frame) idle), mark_held node step.within frame index has)

    -- the frame whose add is done
    serving : (frame : FrameId) (index word : ℕ) (old addend : ℤ) → Serves (node_at cluster node) past frame index word old addend → Made frame index
    serving frame index word old addend serves =
        let asker = serves.add.sender in
        let known = phased cluster course stepped in
        let asked = was_asked cluster course node moved.message step.within known frame index word old addend serves in
        let first : AddsFirst frame index (stack_of (node_at cluster asker) (own asker course)) =
        subst (λ it. IsFirst it (stack_of (node_at cluster asker) (own asker course))) asked (known.first asker) in
        let within = known.within asker (ap waits_in asked) in
        let has = first_stack_mark cluster course asker frame index first in
        (mark_acts asker within frame index has (ap (is_told_of frame) asked), mark_held asker within frame index has)

    act_on : (frame : FrameId) (index : ℕ) (act : LoggedAct) (rest : List Item) (posts : List Msg)
        → IsOwed (node_at cluster node) past (item.Act frame index act)
        ⊎ (IsFree past × MayDo (node_at cluster node) past (item.Act frame index act) rest posts) → Made frame index
    act_on frame index act rest posts (inl owed) = absurd owed
    act_on frame index act rest posts (inr both) = acting frame both.1.life index both.0 both.1.acts both.1.index_is

    served_on : (frame : FrameId) (index word : ℕ) (old addend : ℤ) (rest : List Item) (posts : List Msg)
        → IsOwed (node_at cluster node) past (item.Served frame index word old addend)
        ⊎ (IsFree past × MayDo (node_at cluster node) past (item.Served frame index word old addend) rest posts)
        → Made frame index
    served_on frame index word old addend rest posts (inl serves) = serving frame index word old addend serves
    served_on frame index word old addend rest posts (inr both) = acting frame both.1.add.life index both.0 both.1.add.acts both.1.add.index_is

-- The item is this act of this frame.
abbrev pub Claims : FrameId → ℕ → Item → Type 0
Claims frame index (item.Act other number act) = (other ≡ frame) × (number ≡ index)
Claims frame index (item.Tick other) = ⊥
Claims frame index (item.Drop page) = ⊥
Claims frame index (item.TakeUp other) = ⊥
Claims frame index (item.OwnFetch page words) = ⊥
Claims frame index (item.OwnReconcile part) = ⊥
Claims frame index (item.Served other number word old addend) = (other ≡ frame) × (number ≡ index)

renamed : (cluster : Cluster) (course : Course) (stepped : Stepped cluster course) (other frame : FrameId) (number index : ℕ) → other ≡ frame → number ≡ index
    → Made cluster course stepped other number
    → Made cluster course stepped frame index
renamed cluster course stepped other frame number index names numbers made =
    subst (Made cluster course stepped frame) numbers (subst (λ it. Made cluster course stepped it number) names made)

claim_on : (cluster : Cluster) (course : Course) (moved : Moved) → (stepped : Stepped cluster course) → Step cluster course moved
    → (done : Item) (frame : FrameId) (index : ℕ)
    → IsAllowed (node_at cluster moved.node) (own moved.node course) (Did done) → Claims frame index done → Made cluster course stepped frame index
claim_on cluster course moved stepped step (item.Act other number act) frame index does claims =
    renamed cluster course stepped other frame number index claims.0 claims.1
    (act_on cluster course stepped moved step other number act does.rest does.posts does.may)
claim_on cluster course moved stepped step (item.Tick other) frame index does claims = absurd claims
claim_on cluster course moved stepped step (item.Drop page) frame index does claims = absurd claims
claim_on cluster course moved stepped step (item.TakeUp other) frame index does claims = absurd claims
claim_on cluster course moved stepped step (item.OwnFetch page words) frame index does claims = absurd claims
claim_on cluster course moved stepped step (item.OwnReconcile part) frame index does claims = absurd claims
claim_on cluster course moved stepped step (item.Served other number word old addend) frame index does claims =
    renamed cluster course stepped other frame number index claims.0 claims.1
    (served_on cluster course stepped moved step other number word old addend does.rest does.posts does.may)

claim : (cluster : Cluster) (course : Course) (moved : Moved) → (stepped : Stepped cluster (moved ∷ course)) → (done : Item) → moved.event ≡ Did done
    → (frame : FrameId) (index : ℕ)
    → Claims frame index done
    → Made cluster course stepped.0 frame index
claim cluster course moved stepped done is frame index claims =
    claim_on cluster course moved stepped.0 stepped.1 done frame index
    (subst (IsAllowed (node_at cluster moved.node) (own moved.node course)) is stepped.1.allowed) claims

-- The index of an act is the number of acts that its frame made before.
pub index_is_count : (cluster : Cluster) (course : Course) (moved : Moved) → Stepped cluster (moved ∷ course) → (done : Item) → moved.event ≡ Did done
    → (frame : FrameId) (index : ℕ)
    → Claims frame index done
    → index ≡ acts_before frame course
index_is_count cluster course moved stepped done is frame index claims = (claim cluster course moved stepped done is frame index claims).0

-- Its frame is somewhere as it is made.
pub claims_held : (cluster : Cluster) (course : Course) (moved : Moved) → Stepped cluster (moved ∷ course) → (done : Item) → moved.event ≡ Did done
    → (frame : FrameId) (index : ℕ)
    → Claims frame index done
    → 1 ≤ held cluster course frame
claims_held cluster course moved stepped done is frame index claims = (claim cluster course moved stepped done is frame index claims).1
