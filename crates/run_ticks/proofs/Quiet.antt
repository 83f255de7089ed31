-- The ticks of a node that waits for nothing are items of its own: none of its Adds is under way.
use Rattle.std.proofs.Common.{◌≡◌, ◌≤◌, ◌<◌, ◌+◌, ℕ, zero, suc, List, [], ◌∷◌, Option, None, Bool, true, false, cond, eqb, ◌&&◌, refl, sym, ◌∙◌, ap, arith}
use Rattle.page_messages.specs.declared.message.Msg.{Msg}
use Rattle.page_messages.specs.declared.log.Item.TheVariants as item
use Rattle.page_messages.specs.declared.log.PostAt.{PostAt}
use Rattle.cluster_rules.specs.Frames.{ticks_on, ticks_of}
use Rattle.cluster_rules.specs.Home.{owed_adds}
use Rattle.cluster_rules.specs.Positions.{Moved, Course, own}
use Rattle.cluster_rules.specs.Runs.{Cluster}
use Rattle.cluster_rules.specs.Sendings.{adds_in, IsQuiet}
use Rattle.cluster_rules.specs.Turns.{Event, Did, Sent, Took, Ended}
use Rattle.cluster_rules.specs.Walking.{is_empty}
use Rattle.cluster_rules.proofs.Asking.{phased, asked_by}
use Rattle.cluster_rules.proofs.Marks.{one}
use Rattle.cluster_rules.proofs.Phases.{Idle, Asked, phase_of}
use Rattle.cluster_rules.proofs.Phasing.{equal_number, is_one, quiet_idle}
use Rattle.cluster_rules.proofs.Stepping.{Carries, Stepped}
use Rattle.cluster_rules.proofs.Testing.{both_true}
use Rattle.cluster_rules.proofs.UnderWay.{first_amount, waiting}
use Rattle.cluster_order.specs.Reading.{happens_to}
use Rattle.determinacy.specs.Ending.{is_item}
use Rattle.run_ticks.specs.Laws.{items_in}
use Rattle.run_ticks.proofs.Someone.{some_waits}
use Rattle.run_ticks.proofs.Ticking.{items_more}
use Rattle.run_ticks.proofs.Waiting.{event_serves, posts_amount, posted_amount, served_amount, waiting_sum}

module _ (number : ℕ) where
  -- it is an Add that this node sent
  abbrev add_by : Msg → ℕ
  add_by message = one (adds_in message.body && eqb message.sender number)

  at_most_one : (b : Bool) → one b ≤ 1
  at_most_one true = omega arith
  at_most_one false = omega arith

  none_both : (adds sent : Bool) → adds ≡ false → one (adds && sent) ≡ 0
  none_both adds sent none = ap (λ it. one (it && sent)) none

  -- ---- each event makes a tick of the node with an item, or with an Add that it posts

  served_ticks : (here : Bool) (adds : List Msg) → cond here (cond (is_empty adds) 1 0) 0 + first_amount add_by adds ≤ 1
  served_ticks true [] = omega arith
  served_ticks false [] = omega arith
  served_ticks true (add ∷ later) = let most = at_most_one (adds_in add.body && eqb add.sender number) in omega (arith, most)
  served_ticks false (add ∷ later) = let most = at_most_one (adds_in add.body && eqb add.sender number) in omega (arith, most)

  acted : (here : Bool) → cond here 1 0 + 0 ≤ 1
  acted true = omega arith
  acted false = omega arith

  nothing : (here : Bool) → cond here 0 0 + 0 ≤ 0
  nothing true = omega arith
  nothing false = omega arith

  posted : (here adds sent : Bool) → (here ≡ true → sent ≡ true) → cond here (cond adds 1 0) 0 + 0 ≤ 0 + one (adds && sent)
  posted true true sent same = let is = ap one (same refl) in omega (arith, is)
  posted true false sent same = omega arith
  posted false adds sent same = omega arith

  event_ticks : (cluster : Cluster) (course : Course) (node : ℕ) (here : Option PostAt) (event : Event) → Carries course node here event
      → cond (eqb node number) (ticks_on event (own node course)) 0 + event_serves add_by event (own node course)
      ≤ one (is_item (happens_to cluster course node here event)) + posts_amount add_by event
  unfolding is_item
  event_ticks cluster course node here (Did (item.Act frame index act)) carries = acted (eqb node number)
  event_ticks cluster course node here (Did (item.Tick frame)) carries = acted (eqb node number)
  event_ticks cluster course node here (Did (item.Drop page)) carries = nothing (eqb node number)
  event_ticks cluster course node here (Did (item.TakeUp frame)) carries = nothing (eqb node number)
  event_ticks cluster course node here (Did (item.OwnFetch page words)) carries = nothing (eqb node number)
  event_ticks cluster course node here (Did (item.OwnReconcile part)) carries = nothing (eqb node number)
  event_ticks cluster course node here (Did (item.Served frame index word old addend)) carries = served_ticks (eqb node number) (owed_adds (own node course))
  event_ticks cluster course node here (Sent message) carries =
      posted (eqb node number) (adds_in message.body) (eqb message.sender number) (λ is. ap (λ it. eqb it number) carries.sender ∙ is)
  event_ticks cluster course node here (Took message) carries = nothing (eqb node number)
  event_ticks cluster course node here (Ended end) carries = nothing (eqb node number)

  own_ticks : (moved : Moved) (course : Course) (b : Bool) → eqb moved.node number ≡ b
      → ticks_of (own number (moved ∷ course)) ≡ ticks_of (own number course) + cond b (ticks_on moved.event (own moved.node course)) 0
  unfolding ticks_of
  own_ticks moved course true is =
      let same = equal_number moved.node number is in
      let more : ticks_of (own number (moved ∷ course)) ≡ ticks_of (moved.event ∷ own number course) = rw is refl in
      let past : ticks_on moved.event (own number course) ≡ ticks_on moved.event (own moved.node course) =
      ap (λ it. ticks_on moved.event (own it course)) (sym same) in
      omega (arith, more, past)
  own_ticks moved course false is = let same : ticks_of (own number (moved ∷ course)) ≡ ticks_of (own number course) = rw is refl in omega (arith, same)

  module _ (cluster : Cluster) where
    -- What the node posted is done by its home, or under way.
    node_ticks : (course : Course) → Stepped cluster course
        → ticks_of (own number course) + served_amount add_by course ≤ items_in cluster course + posted_amount add_by course
    unfolding ticks_of
    node_ticks [] stepped = omega arith
    node_ticks (moved ∷ course) stepped =
        let before = node_ticks course stepped.0 in
        let ticks = own_ticks moved course (eqb moved.node number) refl in
        let items = items_more cluster moved course in
        let here = event_ticks cluster course moved.node moved.message moved.event stepped.1.carries in omega (arith, before, ticks, items, here)

    none_waits : (course : Course) → Stepped cluster course → phase_of number course ≡ Idle → (adds : ℕ) → waiting add_by cluster course ≡ adds → adds ≡ 0
    none_waits course stepped idle zero is = refl
    none_waits course stepped idle (suc adds) is =
        let it = some_waits add_by (λ message some.
        (both_true (adds_in message.body) (eqb message.sender number) (is_one (adds_in message.body && eqb message.sender number) some)).0)
        cluster course (omega (arith, is)) in
        let sent = (both_true (adds_in it.0.body) (eqb it.0.sender number) (is_one (adds_in it.0.body && eqb it.0.sender number) it.1)).1 in
        let asked = asked_by cluster course (phased cluster course stepped) it.0.sender it.2 it.3 it.4 in
        let both : Asked it.2 it.3 ≡ Idle = sym asked ∙ ap (λ node. phase_of node course) (equal_number it.0.sender number sent) ∙ idle in absurd (cc)

    -- A node that waits for nothing has no more ticks than there are items.
    pub quiet_node : (course : Course) → Stepped cluster course → number < cluster.config.nodes → IsQuiet (own number course)
        → ticks_of (own number course) ≤ items_in cluster course
    quiet_node course stepped less quiet =
        let idle = quiet_idle cluster course number None less (phased cluster course stepped) quiet in
        let none = none_waits course stepped idle (waiting add_by cluster course) refl in
        let sum = waiting_sum add_by (λ message none. none_both (adds_in message.body) (eqb message.sender number) none) cluster course stepped in
        let ticks = node_ticks course stepped in omega (arith, none, sum, ticks)
