-- The Adds that were posted and not done, and the old values that were not told: how many of them there are of one node.
use Rattle.std.proofs.Common.{◌≡◌, ◌≤◌, ◌<◌, ◌+◌, ℕ, ℤ, List, [], ◌∷◌, ◌++◌, Option, Bool, false, cond, eqb, ◌&&◌, refl, ◌∙◌, ap, arith}
use Rattle.cilk_meaning.specs.declared.ends.NodeEnd.{NodeEnd}
use Rattle.page_messages.specs.declared.closure.FrameId.{FrameId}
use Rattle.page_messages.specs.declared.message.Msg.{Msg}
use Rattle.page_messages.specs.declared.message.Body.{Body}
use Rattle.page_messages.specs.declared.message.Body.TheVariants as body
use Rattle.page_messages.specs.declared.log.Item.{Item}
use Rattle.page_messages.specs.declared.log.Item.TheVariants as item
use Rattle.page_messages.specs.declared.log.PostAt.{PostAt}
use Rattle.cluster_rules.specs.Walking.{rest_of}
use Rattle.cluster_rules.specs.Turns.{Event, Did, Sent, Took, Ended, Past}
use Rattle.cluster_rules.specs.Sendings.{adds_in, tells_in}
use Rattle.cluster_rules.specs.Home.{owed_adds, with_add, after_served, told_by, owed_olds}
use Rattle.cluster_rules.specs.Lives.{same_frame}
use Rattle.cluster_rules.specs.Acting.{Tells}
use Rattle.cluster_rules.specs.Runs.{Cluster, node_at}
use Rattle.cluster_rules.specs.Positions.{Moved, Course, own}
use Rattle.cluster_rules.proofs.Stepping.{Posts, Takes, Stepped}
use Rattle.cluster_rules.proofs.Letters.{letters_of, amount_of, letter_sent, letter_taken}
use Rattle.cluster_rules.proofs.Summing.{sum_below, sum_none, sum_change, sum_one}
use Rattle.cluster_rules.proofs.Marks.{one}
use Rattle.cluster_rules.proofs.Holding.{own_first, own_other}

abbrev pub amount_in : (Msg → ℕ) → List Msg → ℕ
amount_in amount [] = 0
amount_in amount (message ∷ messages) = amount message + amount_in amount messages

pub amount_append : (amount : Msg → ℕ) (front back : List Msg) → amount_in amount (front ++ back) ≡ amount_in amount front + amount_in amount back
amount_append amount [] back = omega arith
amount_append amount (message ∷ front) back = let rest = amount_append amount front back in omega (arith, rest)

-- ---- what is counted

-- it asks for the add of this frame and index, from this node
abbrev pub adds_body : ℕ → FrameId → ℕ → ℕ → Body → Bool
adds_body number frame index sender (body.Fetch page) = false
adds_body number frame index sender (body.Page page words) = false
adds_body number frame index sender (body.Reconcile parts) = false
adds_body number frame index sender body.Ack = false
adds_body number frame index sender body.Ask = false
adds_body number frame index sender (body.Grant closure) = false
adds_body number frame index sender body.Refuse = false
adds_body number frame index sender (body.Done join child value) = false
adds_body number frame index sender (body.Park join closure) = false
adds_body number frame index sender (body.Add other acts word addend) = eqb sender number && (same_frame other frame && eqb acts index)
adds_body number frame index sender (body.Added old) = false

abbrev pub add_from : ℕ → FrameId → ℕ → Msg → ℕ
add_from number frame index message = one (adds_body number frame index message.sender message.body)

-- It measures Adds alone.
pub only_adds : (number : ℕ) (frame : FrameId) (index : ℕ) (message : Msg) → adds_in message.body ≡ false → add_from number frame index message ≡ 0
only_adds number frame index message none = ap one (on message.body none)
  where
    on : (said : Body) → adds_in said ≡ false → adds_body number frame index message.sender said ≡ false
    on (body.Fetch page) none = refl
    on (body.Page page words) none = refl
    on (body.Reconcile parts) none = refl
    on body.Ack none = refl
    on body.Ask none = refl
    on (body.Grant closure) none = refl
    on body.Refuse none = refl
    on (body.Done join child value) none = refl
    on (body.Park join closure) none = refl
    on (body.Add other acts word addend) none = absurd (cc)
    on (body.Added old) none = refl

abbrev pub owed_at : Cluster → Course → (Msg → ℕ) → ℕ → ℕ
owed_at cluster course amount home = amount_in amount (owed_adds (own home course))

-- The Adds that were posted and not done, by a measure of messages: those that homes owe, and those that travel to them.
abbrev pub waiting : (Msg → ℕ) → Cluster → Course → ℕ
waiting amount cluster course = sum_below cluster.config.nodes (owed_at cluster course amount) + amount_of amount (letters_of course)

-- those of a frame and index, from a node
abbrev pub under_way : Cluster → Course → ℕ → FrameId → ℕ → ℕ
under_way cluster course number frame index = waiting (add_from number frame index) cluster course

-- it tells such an old value to this node
abbrev pub tells_body : (ℤ → Bool) → ℕ → ℕ → Body → Bool
tells_body such number receiver (body.Fetch page) = false
tells_body such number receiver (body.Page page words) = false
tells_body such number receiver (body.Reconcile parts) = false
tells_body such number receiver body.Ack = false
tells_body such number receiver body.Ask = false
tells_body such number receiver (body.Grant closure) = false
tells_body such number receiver body.Refuse = false
tells_body such number receiver (body.Done join index value) = false
tells_body such number receiver (body.Park join closure) = false
tells_body such number receiver (body.Add frame index word addend) = false
tells_body such number receiver (body.Added old) = eqb receiver number && such old

abbrev pub old_to : (ℤ → Bool) → ℕ → Msg → ℕ
old_to such number message = one (tells_body such number message.receiver message.body)

abbrev pub olds_at : Cluster → Course → (Msg → ℕ) → ℕ → ℕ
olds_at cluster course amount home = amount_in amount (owed_olds (node_at cluster home) (own home course))

-- The Addeds of such old values for a node that it did not take.
abbrev pub to_tell : Cluster → Course → (ℤ → Bool) → ℕ → ℕ
to_tell cluster course such number =
    sum_below cluster.config.nodes (olds_at cluster course (old_to such number)) + amount_of (old_to such number) (letters_of course)

-- ---- sums over the pasts of nodes

abbrev pub moved_by : ℕ → Event → Option PostAt → Moved
moved_by node event here = record { node = node; event = event; message = here }

pub sum_moved : (count : ℕ) (part : ℕ → Past → ℕ) (node : ℕ) (event : Event) (here : Option PostAt) (course : Course) → node < count
    → sum_below count (λ home. part home (own home (moved_by node event here ∷ course))) + part node (own node course)
    ≡ sum_below count (λ home. part home (own home course)) + part node (event ∷ own node course)
sum_moved count part node event here course less =
    let moved = moved_by node event here in
    let sum = sum_change count (λ home. part home (own home course)) (λ home. part home (own home (moved ∷ course))) node less
    (λ home other. ap (part home) (own_other home moved course other)) in
    let first = ap (part node) (own_first moved course) in
    omega (arith, sum, first)

-- ---- one message or item, by any measure

module _ (amount : Msg → ℕ) where
  abbrev pub first_amount : List Msg → ℕ
  first_amount [] = 0
  first_amount (add ∷ later) = amount add

  -- a Served item serves the oldest Add that is owed
  abbrev pub serves_amount : Item → List Msg → ℕ
  serves_amount (item.Act frame index act) adds = 0
  serves_amount (item.Tick frame) adds = 0
  serves_amount (item.Drop page) adds = 0
  serves_amount (item.TakeUp frame) adds = 0
  serves_amount (item.OwnFetch page words) adds = 0
  serves_amount (item.OwnReconcile part) adds = 0
  serves_amount (item.Served frame index word old addend) adds = first_amount adds

  first_within : (adds : List Msg) → first_amount adds ≤ amount_in amount adds
  first_within [] = omega arith
  first_within (add ∷ later) = omega arith

  served_less : (done : Item) (adds : List Msg) → amount_in amount (after_served done adds) + serves_amount done adds ≡ amount_in amount adds
  served_less (item.Act frame index act) adds = omega arith
  served_less (item.Tick frame) adds = omega arith
  served_less (item.Drop page) adds = omega arith
  served_less (item.TakeUp frame) adds = omega arith
  served_less (item.OwnFetch page words) adds = omega arith
  served_less (item.OwnReconcile part) adds = omega arith
  served_less (item.Served frame index word old addend) [] = omega arith
  served_less (item.Served frame index word old addend) (add ∷ later) = omega arith

  -- where Adds alone are measured
  taken_more : ((message : Msg) → adds_in message.body ≡ false → amount message ≡ 0) → (message : Msg) (adds : List Msg) (said : Body) → message.body ≡ said
      → amount_in amount (with_add said message adds) ≡ amount_in amount adds + amount message
  taken_more only message adds (body.Fetch page) is = let none = only message (ap adds_in is) in omega (arith, none)
  taken_more only message adds (body.Page page words) is = let none = only message (ap adds_in is) in omega (arith, none)
  taken_more only message adds (body.Reconcile parts) is = let none = only message (ap adds_in is) in omega (arith, none)
  taken_more only message adds body.Ack is = let none = only message (ap adds_in is) in omega (arith, none)
  taken_more only message adds body.Ask is = let none = only message (ap adds_in is) in omega (arith, none)
  taken_more only message adds (body.Grant closure) is = let none = only message (ap adds_in is) in omega (arith, none)
  taken_more only message adds body.Refuse is = let none = only message (ap adds_in is) in omega (arith, none)
  taken_more only message adds (body.Done join index value) is = let none = only message (ap adds_in is) in omega (arith, none)
  taken_more only message adds (body.Park join closure) is = let none = only message (ap adds_in is) in omega (arith, none)
  taken_more only message adds (body.Add frame index word addend) is = let both = amount_append amount adds (message ∷ []) in omega (arith, both)
  taken_more only message adds (body.Added old) is = let none = only message (ap adds_in is) in omega (arith, none)

  pub none_waits : (cluster : Cluster) → waiting amount cluster [] ≡ 0
  unfolding owed_adds
  none_waits cluster = let sum = sum_none cluster.config.nodes (λ home. 0) (λ home below. refl) in omega (arith, sum)

-- ---- one event

module _ (cluster : Cluster) (course : Course) (node : ℕ) (here : Option PostAt) (within : node < cluster.config.nodes) where
  abbrev past : Past
  past = own node course

  -- ---- Adds

  module _ (amount : Msg → ℕ) where
    adds_sum : (event : Event) → sum_below cluster.config.nodes (owed_at cluster (moved_by node event here ∷ course) amount) + amount_in amount (owed_adds past)
        ≡ sum_below cluster.config.nodes (owed_at cluster course amount) + amount_in amount (owed_adds (event ∷ past))
    adds_sum event = sum_moved cluster.config.nodes (λ home past. amount_in amount (owed_adds past)) node event here course within

    pub adds_sent : (message : Msg) → Posts course node here message
        → waiting amount cluster (moved_by node (Sent message) here ∷ course) ≡ waiting amount cluster course + amount message
    unfolding owed_adds
    adds_sent message posts =
        let sum = adds_sum (Sent message) in let letters = letter_sent cluster amount course node here message posts in omega (arith, sum, letters)

    pub adds_took : ((message : Msg) → adds_in message.body ≡ false → amount message ≡ 0) → (message : Msg) → Stepped cluster course
        → Takes course node here message → waiting amount cluster (moved_by node (Took message) here ∷ course) ≡ waiting amount cluster course
    unfolding owed_adds
    adds_took only message stepped takes =
        let sum = adds_sum (Took message) in
        let owed = taken_more amount only message (owed_adds past) message.body refl in
        let letters = letter_taken cluster amount course node here message stepped takes in omega (arith, sum, owed, letters)

    pub adds_ended : (end : NodeEnd) → waiting amount cluster (moved_by node (Ended end) here ∷ course) ≡ waiting amount cluster course
    unfolding owed_adds
    adds_ended end = let sum = adds_sum (Ended end) in omega (arith, sum)

    pub adds_did : (done : Item)
        → waiting amount cluster (moved_by node (Did done) here ∷ course) + serves_amount amount done (owed_adds past) ≡ waiting amount cluster course
    unfolding owed_adds
    adds_did done = let sum = adds_sum (Did done) in let served = served_less amount done (owed_adds past) in omega (arith, sum, served)

    -- the oldest that is owed is among those that wait
    pub owed_counts : first_amount amount (owed_adds past) ≤ waiting amount cluster course
    owed_counts =
        let first = first_within amount (owed_adds past) in
        let whole = sum_one cluster.config.nodes (owed_at cluster course amount) node within in omega (arith, first, whole)

  -- ---- old values

  module _ (such : ℤ → Bool) (number : ℕ) where
    abbrev told : Msg → ℕ
    told = old_to such number

    olds_sum : (event : Event) → sum_below cluster.config.nodes (olds_at cluster (moved_by node event here ∷ course) told) + amount_in told
        (owed_olds (node_at cluster node) past)
        ≡ sum_below cluster.config.nodes (olds_at cluster course told) + amount_in told (owed_olds (node_at cluster node) (event ∷ past))
    olds_sum event = sum_moved cluster.config.nodes (λ home past. amount_in told (owed_olds (node_at cluster home) past)) node event here course within

    pub olds_ended : (end : NodeEnd) → to_tell cluster (moved_by node (Ended end) here ∷ course) such number ≡ to_tell cluster course such number
    unfolding owed_olds
    olds_ended end = let sum = olds_sum (Ended end) in omega (arith, sum)

    pub olds_took : (message : Msg) → Stepped cluster course → Takes course node here message
        → to_tell cluster (moved_by node (Took message) here ∷ course) such number + told message ≡ to_tell cluster course such number
    unfolding owed_olds
    olds_took message stepped takes =
        let sum = olds_sum (Took message) in
        let letters = letter_taken cluster told course node here message stepped takes in omega (arith, sum, letters)

    pub olds_did : (done : Item)
        → to_tell cluster (moved_by node (Did done) here ∷ course) such number
        ≡ to_tell cluster course such number + amount_in told (told_by (node_at cluster node) done (owed_adds past))
    unfolding owed_olds
    olds_did done =
        let sum = olds_sum (Did done) in
        let both = amount_append told (owed_olds (node_at cluster node) past) (told_by (node_at cluster node) done (owed_adds past)) in omega (arith, sum, both)

    pub olds_posted : (message : Msg) → Posts course node here message → tells_in message.body ≡ false → told message ≡ 0
        → to_tell cluster (moved_by node (Sent message) here ∷ course) such number ≡ to_tell cluster course such number
    unfolding owed_olds
    olds_posted message posts other none =
        let sum = olds_sum (Sent message) in
        let owed : amount_in told (cond (tells_in message.body) (rest_of (owed_olds (node_at cluster node) past)) (owed_olds (node_at cluster node) past))
        ≡ amount_in told (owed_olds (node_at cluster node) past) =
        ap (λ b. amount_in told (cond b (rest_of (owed_olds (node_at cluster node) past)) (owed_olds (node_at cluster node) past))) other in
        let letters = letter_sent cluster told course node here message posts in omega (arith, sum, owed, letters, none)

    pub olds_told : (message : Msg) (old : ℤ) → Posts course node here message → message.body ≡ body.Added old
        → Tells (node_at cluster node) past message.receiver old
        → to_tell cluster (moved_by node (Sent message) here ∷ course) such number ≡ to_tell cluster course such number
    unfolding owed_olds
    olds_told message old posts is tells =
        let sum = olds_sum (Sent message) in
        let owed : amount_in told (cond (tells_in message.body) (rest_of (owed_olds (node_at cluster node) past)) (owed_olds (node_at cluster node) past))
        ≡ amount_in told tells.later =
        ap (λ b. amount_in told (cond b (rest_of (owed_olds (node_at cluster node) past)) (owed_olds (node_at cluster node) past))) (ap tells_in is)
        ∙ ap (λ it. amount_in told (rest_of it)) tells.oldest in
        let before : amount_in told (owed_olds (node_at cluster node) past) ≡ one (eqb message.receiver number && such old) + amount_in told tells.later =
        ap (amount_in told) tells.oldest in
        let said : told message ≡ one (eqb message.receiver number && such old) = ap (λ it. one (tells_body such number message.receiver it)) is in
        let letters = letter_sent cluster told course node here message posts in omega (arith, sum, owed, before, said, letters)
