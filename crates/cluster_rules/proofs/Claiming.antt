-- Each act of a frame has the number of the acts that the frame made before as its index.
use Rattle.std.proofs.Common.{◌≡◌, ◌≢◌, ◌<◌, ◌+◌, ◌⊎◌, inl, inr, ℕ, ℤ, List, [], ◌∷◌, Option, Bool, true, false, cond, eqb, refl, sym, ◌∙◌, ap, subst, arith}
use Rattle.std.proofs.lemmas.Bool.Decides.{nat_tests}
use Rattle.page_messages.specs.declared.closure.FrameId.{FrameId}
use Rattle.page_messages.specs.declared.message.Msg.{Msg}
use Rattle.page_messages.specs.declared.message.Body.{Body}
use Rattle.page_messages.specs.declared.message.Body.TheVariants as body
use Rattle.page_messages.specs.declared.log.Item.{Item}
use Rattle.page_messages.specs.declared.log.Item.TheVariants as item
use Rattle.page_messages.specs.declared.log.PostAt.{PostAt}
use Rattle.cluster_rules.specs.Walking.{is_empty}
use Rattle.cluster_rules.specs.Turns.{Event, Did, Sent, Took, Ended, Past}
use Rattle.cluster_rules.specs.Home.{replies_in}
use Rattle.cluster_rules.specs.Lives.{Life, same_frame}
use Rattle.cluster_rules.specs.Frames.{stack_of}
use Rattle.cluster_rules.specs.Acting.{Serves}
use Rattle.cluster_rules.specs.Runs.{Cluster, node_at, IsFree, IsOwed, MayDo, MayPost}
use Rattle.cluster_rules.specs.Positions.{Course, own}
use Rattle.cluster_rules.proofs.Stepping.{Takes, Step, Stepped}
use Rattle.cluster_rules.proofs.Summing.{sum_below, sum_same, sum_none, sum_change}
use Rattle.cluster_rules.proofs.Marks.{one, many, named, AddsFirst}
use Rattle.cluster_rules.proofs.Passing.{advanced_body, first_marks, may_post}
use Rattle.cluster_rules.proofs.Holding.{advanced}
use Rattle.cluster_rules.proofs.Advancing.{counted}
use Rattle.cluster_rules.proofs.Phases.{Phase, Idle, Asked, after_post, after_taking, after_adding, phase_of, is_told_of, waits_in, IsFirst}
use Rattle.cluster_rules.proofs.UnderWay.{moved_by}
use Rattle.cluster_rules.proofs.Phasing.{Phased, quiet_idle}
use Rattle.cluster_rules.proofs.Asking.{phased, was_asked, phase_asker, phase_others, phase_done, phase_far, was_told}

-- ---- acts

abbrev pub claims_item : FrameId → Item → ℕ
claims_item frame (item.Act other index act) = one (same_frame other frame)
claims_item frame (item.Tick other) = 0
claims_item frame (item.Drop page) = 0
claims_item frame (item.TakeUp other) = 0
claims_item frame (item.OwnFetch page words) = 0
claims_item frame (item.OwnReconcile part) = 0
claims_item frame (item.Served other index word old addend) = one (same_frame other frame)

abbrev pub claims_event : FrameId → Event → ℕ
claims_event frame (Did item) = claims_item frame item
claims_event frame (Sent message) = 0
claims_event frame (Took message) = 0
claims_event frame (Ended end) = 0

-- How many acts of the frame are in the course: its Acts, and its adds that were done.
abbrev pub acts_before : FrameId → Course → ℕ
acts_before frame [] = 0
acts_before frame (moved ∷ course) = claims_event frame moved.event + acts_before frame course

-- ---- adds that are done and not told

abbrev pub pending_at : Course → FrameId → ℕ → ℕ
pending_at course frame number = one (is_told_of frame (phase_of number course))

abbrev pub pending : Cluster → FrameId → Course → ℕ
pending cluster frame course = sum_below cluster.config.nodes (pending_at course frame)

pending_same : (cluster : Cluster) (frame : FrameId) (course other : Course)
    → ((number : ℕ) → is_told_of frame (phase_of number other) ≡ is_told_of frame (phase_of number course))
    → pending cluster frame other ≡ pending cluster frame course
pending_same cluster frame course other same =
    sum_same cluster.config.nodes (pending_at course frame) (pending_at other frame) (λ number less. ap one (same number))

-- an act was counted, or is an add of which the frame was not told yet
abbrev AddsUp : Cluster → Course → Type 0
AddsUp cluster course = (frame : FrameId) → acts_before frame course ≡ counted cluster frame course + pending cluster frame course

module _ (cluster : Cluster) (course : Course) (node : ℕ) (here : Option PostAt) (less : node < cluster.config.nodes) (stepped : Stepped cluster course)
    (sums : AddsUp cluster course) where
  abbrev past : Past
  past = own node course

  abbrev more : Event → Course
  more event = moved_by node event here ∷ course

  abbrev known : Phased cluster course
  known = phased cluster course stepped

  abbrev AddsUpFor : FrameId → Course → Type 0
  AddsUpFor frame course = acts_before frame course ≡ counted cluster frame course + pending cluster frame course

  -- nobody was told, and as many acts are counted as are made
  plain : (event : Event) (frame : FrameId) → claims_event frame event ≡ many (named frame) (advanced cluster course (moved_by node event here))
      → ((number : ℕ) → is_told_of frame (phase_of number (more event)) ≡ is_told_of frame (phase_of number course))
      → acts_before frame (more event) ≡ counted cluster frame (more event) + pending cluster frame (more event)
  plain event frame claims same =
      let told = pending_same cluster frame course (more event) same in
      let before = sums frame in omega (arith, claims, told, before)

  served_adds_up : (frame other : FrameId) (index word : ℕ) (old addend : ℤ) → Serves (node_at cluster node) past other index word old addend
      → AddsUpFor frame (more (Did (item.Served other index word old addend)))
  served_adds_up frame other index word old addend serves =
      let event = Did (item.Served other index word old addend) in
      let asker = serves.add.sender in
      let asked = was_asked cluster course node here less known other index word old addend serves in
      let within = known.within asker (ap waits_in asked) in
      let told = phase_asker cluster course node here less known other index word old addend serves in
      let sum = sum_change cluster.config.nodes (pending_at course frame) (pending_at (more event) frame) asker within
      (λ number not. ap (λ it. one (is_told_of frame it))
      (phase_others cluster course node here less known other index word old addend serves number (apart asker number (λ same. not (sym same))))) in
      let was : pending_at course frame asker ≡ 0 = ap (λ it. one (is_told_of frame it)) asked in
      let now : pending_at (more event) frame asker ≡ one (same_frame other frame) = ap (λ it. one (is_told_of frame it)) told in
      let none : many (named frame) (advanced cluster course (moved_by node event here)) ≡ 0 =
      ap (λ adds. many (named frame) (cond (is_empty adds) (record { id = other; acts = index } ∷ []) [])) serves.oldest in
      let before = sums frame in
      omega (arith, sum, was, now, none, before)
    where
      apart : (number other : ℕ) → number ≢ other → eqb number other ≡ false
      apart number other not = grind (arith, nat_tests)

  own_adds_up : (frame other : FrameId) (index word : ℕ) (old addend : ℤ) → IsFree past
      → AddsUpFor frame (more (Did (item.Served other index word old addend)))
  own_adds_up frame other index word old addend free =
      let advances : many (named frame) (advanced cluster course (moved_by node (Did (item.Served other index word old addend)) here))
      ≡ one (same_frame other frame) + 0 =
      ap (λ adds. many (named frame) (cond (is_empty adds) (record { id = other; acts = index } ∷ []) [])) free.none_owed in
      plain (Did (item.Served other index word old addend)) frame (omega (arith, advances))
      (λ number. ap (λ adds. is_told_of frame (after_adding number other index old adds (phase_of number course))) free.none_owed)

  did_adds_up : (done : Item) (rest : List Item) (posts : List Msg)
      → IsOwed (node_at cluster node) past done ⊎ (IsFree past × MayDo (node_at cluster node) past done rest posts)
      → AddsUp cluster (more (Did done))
  did_adds_up (item.Act other index act) rest posts may = λ frame. plain (Did (item.Act other index act)) frame (omega arith) (λ number. refl)
  did_adds_up (item.Tick other) rest posts may = λ frame. plain (Did (item.Tick other)) frame refl (λ number. refl)
  did_adds_up (item.Drop page) rest posts may = λ frame. plain (Did (item.Drop page)) frame refl (λ number. refl)
  did_adds_up (item.TakeUp other) rest posts may = λ frame. plain (Did (item.TakeUp other)) frame refl (λ number. refl)
  did_adds_up (item.OwnFetch page words) rest posts may = λ frame. plain (Did (item.OwnFetch page words)) frame refl (λ number. refl)
  did_adds_up (item.OwnReconcile part) rest posts may = λ frame. plain (Did (item.OwnReconcile part)) frame refl (λ number. refl)
  did_adds_up (item.Served other index word old addend) rest posts (inl serves) = λ frame. served_adds_up frame other index word old addend serves
  did_adds_up (item.Served other index word old addend) rest posts (inr both) = λ frame. own_adds_up frame other index word old addend both.0

  -- ---- posts

  module _ (message : Msg) where
    told_stays : (b : Bool) (frame : FrameId) (phase after : Phase) → after ≡ phase → is_told_of frame (cond b after phase) ≡ is_told_of frame phase
    told_stays true frame phase after same = ap (is_told_of frame) same
    told_stays false frame phase after same = refl

    asked_stays : (b : Bool) (frame other : FrameId) (index : ℕ) (phase : Phase) → (b ≡ true → phase ≡ Idle)
        → is_told_of frame (cond b (Asked other index) phase) ≡ is_told_of frame phase
    asked_stays true frame other index phase idle = ap (is_told_of frame) (sym (idle refl))
    asked_stays false frame other index phase idle = refl

    posted_stays : (said : Body) → message.body ≡ said → ((phase : Phase) → after_post said phase ≡ phase) → AddsUp cluster (more (Sent message))
    posted_stays said is same = λ frame. plain (Sent message) frame refl (λ number.
        ap (λ it. is_told_of frame (cond (eqb node number) (after_post it (phase_of number course)) (phase_of number course))) is
        ∙ told_stays (eqb node number) frame (phase_of number course) (after_post said (phase_of number course)) (same (phase_of number course)))

    sent_adds_up : (said : Body) → message.body ≡ said → (replies_in said ≡ true) ⊎ MayPost (node_at cluster node) past message.receiver said
        → AddsUp cluster (more (Sent message))
    sent_adds_up (body.Fetch page) is may = posted_stays (body.Fetch page) is (λ phase. refl)
    sent_adds_up (body.Page page words) is may = posted_stays (body.Page page words) is (λ phase. refl)
    sent_adds_up (body.Reconcile parts) is may = posted_stays (body.Reconcile parts) is (λ phase. refl)
    sent_adds_up body.Ack is may = posted_stays body.Ack is (λ phase. refl)
    sent_adds_up body.Ask is may = posted_stays body.Ask is (λ phase. refl)
    sent_adds_up (body.Grant closure) is may = posted_stays (body.Grant closure) is (λ phase. refl)
    sent_adds_up body.Refuse is may = posted_stays body.Refuse is (λ phase. refl)
    sent_adds_up (body.Done join index value) is may = posted_stays (body.Done join index value) is (λ phase. refl)
    sent_adds_up (body.Park join closure) is may = posted_stays (body.Park join closure) is (λ phase. refl)
    sent_adds_up (body.Add other index word addend) is (inl reply) = absurd (cc)
    sent_adds_up (body.Add other index word addend) is (inr may) = λ frame. plain (Sent message) frame refl (λ number.
        ap (λ it. is_told_of frame (cond (eqb node number) (after_post it (phase_of number course)) (phase_of number course))) is
        ∙ asked_stays (eqb node number) frame other index (phase_of number course) (λ same.
        subst (λ it. phase_of it course ≡ Idle) (equal node number same) (quiet_idle cluster course node here less known may.quiet)))
      where
        equal : (number other : ℕ) → eqb number other ≡ true → number ≡ other
        equal number other is = grind (arith, nat_tests)
    sent_adds_up (body.Added old) is may = posted_stays (body.Added old) is (λ phase. refl)

  -- ---- takings

  module _ (message : Msg) (takes : Takes course node here message) where
    taken_stays : (said : Body) → message.body ≡ said → ((phase : Phase) → after_taking said phase ≡ phase)
        → advanced_body said (stack_of (node_at cluster node) past) ≡ []
        → AddsUp cluster (more (Took message))
    taken_stays said is same none = λ frame. plain (Took message) frame
        (sym (ap (λ it. many (named frame) (advanced_body it (stack_of (node_at cluster node) past))) is ∙ ap (many (named frame)) none))
        (λ number. ap (λ it. is_told_of frame (cond (eqb node number) (after_taking it (phase_of number course)) (phase_of number course))) is
        ∙ told_stays message (eqb node number) frame (phase_of number course) (after_taking said (phase_of number course)) (same (phase_of number course)))

    told_first : (frame other : FrameId) (acts : ℕ) (stack : List Life) → AddsFirst other acts stack
        → many (named frame) (first_marks stack) ≡ one (same_frame other frame)
    told_first frame other acts [] first = absurd first
    told_first frame other acts (life ∷ below) first =
        let same : one (same_frame life.id frame) ≡ one (same_frame other frame) = ap (λ it. one (same_frame it frame)) first.0 in omega (arith, same)

    added_adds_up : (old : ℤ) → message.body ≡ body.Added old → AddsUp cluster (more (Took message))
    added_adds_up old is = λ frame.
        let told = was_told cluster course node here less known message stepped takes old is in
        let done = phase_done cluster course node here less known message stepped takes old is in
        let advances : many (named frame) (advanced cluster course (moved_by node (Took message) here)) ≡ one (is_told_of frame (phase_of node course)) =
        ap (λ it. many (named frame) (advanced_body it (stack_of (node_at cluster node) past))) is
        ∙ told_first frame told.0 told.1 (stack_of (node_at cluster node) past)
        (subst (λ it. IsFirst it (stack_of (node_at cluster node) past)) told.2 (known.first node))
        ∙ sym (ap (λ it. one (is_told_of frame it)) told.2) in
        let sum = sum_change cluster.config.nodes (pending_at course frame) (pending_at (more (Took message)) frame) node less
        (λ number not. ap (λ it. one (is_told_of frame it)) (phase_far cluster course node here less known message stepped takes old is number not)) in
        let now : pending_at (more (Took message)) frame node ≡ 0 = ap (λ it. one (is_told_of frame it)) done in
        let before = sums frame in
        omega (arith, advances, sum, now, before)

    took_adds_up : (said : Body) → message.body ≡ said → AddsUp cluster (more (Took message))
    took_adds_up (body.Fetch page) is = taken_stays (body.Fetch page) is (λ phase. refl) refl
    took_adds_up (body.Page page words) is = taken_stays (body.Page page words) is (λ phase. refl) refl
    took_adds_up (body.Reconcile parts) is = taken_stays (body.Reconcile parts) is (λ phase. refl) refl
    took_adds_up body.Ack is = taken_stays body.Ack is (λ phase. refl) refl
    took_adds_up body.Ask is = taken_stays body.Ask is (λ phase. refl) refl
    took_adds_up (body.Grant closure) is = taken_stays (body.Grant closure) is (λ phase. refl) refl
    took_adds_up body.Refuse is = taken_stays body.Refuse is (λ phase. refl) refl
    took_adds_up (body.Done join index value) is = taken_stays (body.Done join index value) is (λ phase. refl) refl
    took_adds_up (body.Park join closure) is = taken_stays (body.Park join closure) is (λ phase. refl) refl
    took_adds_up (body.Add other index word addend) is = taken_stays (body.Add other index word addend) is (λ phase. refl) refl
    took_adds_up (body.Added old) is = added_adds_up old is

event_adds_up : (cluster : Cluster) (course : Course) (node : ℕ) (here : Option PostAt) (event : Event) → Stepped cluster course
    → Step cluster course (moved_by node event here)
    → AddsUp cluster course
    → AddsUp cluster (moved_by node event here ∷ course)
event_adds_up cluster course node here (Did done) stepped step sums =
    did_adds_up cluster course node here step.within stepped sums done step.allowed.rest step.allowed.posts step.allowed.may
event_adds_up cluster course node here (Sent message) stepped step sums =
    sent_adds_up cluster course node here step.within stepped sums message message.body refl
    (may_post (node_at cluster node) (own node course) message step.allowed)
event_adds_up cluster course node here (Took message) stepped step sums =
    took_adds_up cluster course node here step.within stepped sums message step.carries message.body refl
event_adds_up cluster course node here (Ended end) stepped step sums =
    λ frame. plain cluster course node here step.within stepped sums (Ended end) frame refl (λ number. refl)

pub adds_up : (cluster : Cluster) (course : Course) → Stepped cluster course → (frame : FrameId)
    → acts_before frame course ≡ counted cluster frame course + pending cluster frame course
adds_up cluster [] stepped = λ frame. let none = sum_none cluster.config.nodes (pending_at [] frame) (λ number less. refl) in omega (arith, none)
adds_up cluster (moved ∷ course) stepped =
    event_adds_up cluster course moved.node moved.message moved.event stepped.0 stepped.1 (adds_up cluster course stepped.0)
