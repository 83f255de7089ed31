-- The ticks of all nodes together: one for each item of the trace, and one for each Add that is under way.
use Rattle.std.proofs.Common.{◌≡◌, ◌<◌, ◌+◌, ◌⊎◌, inl, inr, ℕ, zero, suc, List, [], ◌∷◌, Option, Bool, true, false, cond, length, refl, sym, ◌∙◌, ap, arith}
use Rattle.page_messages.specs.declared.message.Msg.{Msg}
use Rattle.page_messages.specs.declared.log.Item.{Item}
use Rattle.page_messages.specs.declared.log.Item.TheVariants as item
use Rattle.page_messages.specs.declared.log.PostAt.{PostAt}
use Rattle.cluster_rules.specs.Walking.{is_empty}
use Rattle.cluster_rules.specs.Turns.{Event, Did, Sent, Took, Ended, Past}
use Rattle.cluster_rules.specs.Sendings.{adds_in}
use Rattle.cluster_rules.specs.Home.{owed_adds}
use Rattle.cluster_rules.specs.Frames.{ticks_on, ticks_of}
use Rattle.cluster_rules.specs.Acting.{Serves}
use Rattle.cluster_rules.specs.Allowed.{IsAllowed}
use Rattle.cluster_rules.specs.Positions.{Moved, Course, own, at, before}
use Rattle.cluster_rules.specs.Runs.{Cluster, IsFree, MayDo, node_at}
use Rattle.cluster_rules.proofs.Stepping.{Stepped}
use Rattle.cluster_rules.proofs.Summing.{sum_below, sum_none}
use Rattle.cluster_rules.proofs.Marks.{one}
use Rattle.cluster_rules.proofs.UnderWay.{first_amount, serves_amount, waiting, sum_moved}
use Rattle.cluster_order.specs.Reading.{happens_to, event_of, events_of}
use Rattle.cluster_order.proofs.Growing.{at_behind, before_behind, at_last, before_last}
use Rattle.determinacy.specs.Ending.{count, is_item}
use Rattle.determinacy.proofs.Counting.{count_yes, count_no, count_zero}
use Rattle.run_ticks.specs.Laws.{items_in}
use Rattle.run_ticks.specs.Posted.{posts_add, adds_posted, serves_item, serves_add, adds_served, adds_under_way}
use Rattle.run_ticks.proofs.Waiting.{event_serves, posts_amount, posted_amount, served_amount, waiting_sum}

-- the ticks of all nodes
abbrev pub ticks_sum_of : Cluster → Course → ℕ
ticks_sum_of cluster course = sum_below cluster.config.nodes (λ number. ticks_of (own number course))

abbrev pub is_add : Msg → ℕ
is_add message = one (adds_in message.body)

-- ---- counts that agree below a number

pub count_same : (number : ℕ) (holds others : ℕ → Bool) → ((at : ℕ) → at < number → holds at ≡ others at) → count holds number ≡ count others number
count_same zero holds others same = count_zero holds ∙ sym (count_zero others)
count_same (suc number) holds others same = on (others number) refl (count_same number holds others (λ at less. same at (omega (arith, less))))
  where
    here : holds number ≡ others number
    here = same number (omega arith)

    on : (b : Bool) → others number ≡ b → count holds number ≡ count others number → count holds (suc number) ≡ count others (suc number)
    on true is before = count_yes holds number (here ∙ is) ∙ ap suc before ∙ sym (count_yes others number is)
    on false is before = count_no holds number (here ∙ is) ∙ before ∙ sym (count_no others number is)

pub count_more : (holds : ℕ → Bool) (number : ℕ) → count holds (suc number) ≡ count holds number + one (holds number)
count_more holds number = on (holds number) refl
  where
    on : (b : Bool) → holds number ≡ b → count holds (suc number) ≡ count holds number + one b
    on true is = let more = count_yes holds number is in omega (arith, more)
    on false is = let same = count_no holds number is in omega (arith, same)

module _ (cluster : Cluster) where
  pub items_more : (moved : Moved) (course : Course) → items_in cluster (moved ∷ course)
      ≡ items_in cluster course + one (is_item (happens_to cluster course moved.node moved.message moved.event))
  items_more moved course =
      let more = count_more (λ position. is_item (events_of cluster (moved ∷ course) position)) (length course) in
      let same =
      count_same (length course) (λ position. is_item (events_of cluster (moved ∷ course) position))
      (λ position. is_item (events_of cluster course position)) earlier in
      let last = ap (λ it. one (is_item it)) here in omega (arith, more, same, last)
    where
      earlier : (position : ℕ) → position < length course → is_item (events_of cluster (moved ∷ course) position) ≡ is_item (events_of cluster course position)
      earlier position less =
          ap (λ it. is_item (event_of cluster it (at (moved ∷ course) position))) (before_behind (moved ∷ []) course position less)
          ∙ ap (λ it. is_item (event_of cluster (before course position) it)) (at_behind (moved ∷ []) course position less)

      here : events_of cluster (moved ∷ course) (length course) ≡ happens_to cluster course moved.node moved.message moved.event
      here =
          ap (λ it. event_of cluster it (at (moved ∷ course) (length course))) (before_last moved course) ∙ ap (event_of cluster course) (at_last moved course)

  ticks_more : (moved : Moved) (course : Course) → moved.node < cluster.config.nodes
      → ticks_sum_of cluster (moved ∷ course) ≡ ticks_sum_of cluster course + ticks_on moved.event (own moved.node course)
  unfolding ticks_of
  ticks_more moved course less =
      let sum = sum_moved cluster.config.nodes (λ number past. ticks_of past) moved.node moved.event moved.message course less in omega (arith, sum)

  -- ---- each event

  served_either : (adds : List Msg) → cond (is_empty adds) 1 0 + cond (is_empty adds) 0 1 ≡ 1
  served_either [] = refl
  served_either (add ∷ later) = refl

  event_ticks : (course : Course) (node : ℕ) (here : Option PostAt) (event : Event)
      → ticks_on event (own node course) + serves_add event (own node course) ≡ one (is_item (happens_to cluster course node here event)) + posts_add event
  unfolding is_item
  event_ticks course node here (Did (item.Act frame index act)) = refl
  event_ticks course node here (Did (item.Tick frame)) = refl
  event_ticks course node here (Did (item.Drop page)) = refl
  event_ticks course node here (Did (item.TakeUp frame)) = refl
  event_ticks course node here (Did (item.OwnFetch page words)) = refl
  event_ticks course node here (Did (item.OwnReconcile part)) = refl
  event_ticks course node here (Did (item.Served frame index word old addend)) = served_either (owed_adds (own node course))
  event_ticks course node here (Sent message) = omega arith
  event_ticks course node here (Took message) = refl
  event_ticks course node here (Ended end) = refl

  none_first : ticks_sum_of cluster [] ≡ items_in cluster []
  unfolding ticks_of
  none_first =
      let none = sum_none cluster.config.nodes (λ number. 0) (λ number less. refl) in
      let zeros = count_zero (λ at. is_item (events_of cluster [] at)) in omega (arith, none, zeros)

  -- Adds that were served are ticks of their posts.
  posted_sum : (course : Course) → Stepped cluster course → ticks_sum_of cluster course + adds_served course ≡ items_in cluster course + adds_posted course
  posted_sum [] stepped = let none = none_first in omega (arith, none)
  posted_sum (moved ∷ course) stepped =
      let before = posted_sum course stepped.0 in
      let ticks = ticks_more moved course stepped.1.within in
      let items = items_more moved course in
      let here = event_ticks course moved.node moved.message moved.event in omega (arith, before, ticks, items, here)

  -- ---- what is under way

  served_first : (done : Item) (past : Past) (number : ℕ) → IsAllowed (node_at cluster number) past (Did done)
      → serves_amount is_add done (owed_adds past) ≡ serves_item done past
  served_first (item.Act frame index act) past number does = refl
  served_first (item.Tick frame) past number does = refl
  served_first (item.Drop page) past number does = refl
  served_first (item.TakeUp frame) past number does = refl
  served_first (item.OwnFetch page words) past number does = refl
  served_first (item.OwnReconcile part) past number does = refl
  served_first (item.Served frame index word old addend) past number does = on does.may
    where
      on : Serves (node_at cluster number) past frame index word old addend
          ⊎ (IsFree past × MayDo (node_at cluster number) past (item.Served frame index word old addend) does.rest does.posts)
          → first_amount is_add (owed_adds past) ≡ cond (is_empty (owed_adds past)) 0 1
      on (inl serves) = rw serves.oldest (ap (λ it. one (adds_in it)) serves.asked)
      on (inr both) = rw both.0.none_owed refl

  served_event : (event : Event) (past : Past) (number : ℕ) → IsAllowed (node_at cluster number) past event
      → event_serves is_add event past ≡ serves_add event past
  served_event (Did done) past number does = served_first done past number does
  served_event (Sent message) past number does = refl
  served_event (Took message) past number does = refl
  served_event (Ended end) past number does = refl

  served_same : (course : Course) → Stepped cluster course → served_amount is_add course ≡ adds_served course
  served_same [] stepped = refl
  served_same (moved ∷ course) stepped =
      let here = served_event moved.event (own moved.node course) moved.node stepped.1.allowed in
      let before = served_same course stepped.0 in omega (arith, here, before)

  posts_same : (event : Event) → posts_amount is_add event ≡ posts_add event
  posts_same (Did item) = refl
  posts_same (Sent message) = on (adds_in message.body)
    where
      on : (b : Bool) → one b ≡ cond b 1 0
      on true = refl
      on false = refl
  posts_same (Took message) = refl
  posts_same (Ended end) = refl

  posted_same : (course : Course) → posted_amount is_add course ≡ adds_posted course
  posted_same [] = refl
  posted_same (moved ∷ course) = let here = posts_same moved.event in let before = posted_same course in omega (arith, here, before)

  -- The Adds under way are those that homes owe, and those that travel to them.
  pub under_way_is : (course : Course) → Stepped cluster course → adds_under_way course ≡ waiting is_add cluster course
  under_way_is course stepped =
      let sum = waiting_sum is_add (λ message none. ap one none) cluster course stepped in
      let served = served_same course stepped in
      let posted = posted_same course in omega (arith, sum, served, posted)

  -- The ticks of all nodes are the items of the trace and the Adds that are under way.
  pub ticks_sum : (course : Course) → Stepped cluster course → ticks_sum_of cluster course ≡ items_in cluster course + adds_under_way course
  ticks_sum course stepped =
      let sum = waiting_sum is_add (λ message none. ap one none) cluster course stepped in
      let served = served_same course stepped in
      let posted = posted_same course in
      let ticks = posted_sum course stepped in omega (arith, sum, served, posted, ticks)
