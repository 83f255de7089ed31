-- The stack of a lone node is the one of its execution: the run goes depth first.
use Rattle.std.proofs.Common.{◌≡◌, ℕ, zero, suc, ◌≤◌, ℤ, List, [], ◌∷◌, map, Option, Some, None, Bool, true, false, cond, is_some, length}
use Rattle.std.proofs.Common.{refl, sym, ◌∙◌, ap, subst, arith}
use Rattle.backer_order.specs.Log as log
use Rattle.cilk_meaning.specs.Parted.{IsParted}
use Rattle.cilk_meaning.specs.Resolved.{Program}
use Rattle.cilk_meaning.specs.Wants.{Want, Asks, Returns, Traps, Deposit, Value, Done}
use Rattle.machine_code.specs.Machine.{starts}
use Rattle.machine_code.specs.StandsFor.{StandsFor}
use Rattle.page_messages.specs.declared.closure.FrameId.{FrameId}
use Rattle.page_messages.specs.declared.log.LoggedAct.{LoggedAct}
use Rattle.page_messages.specs.declared.log.LoggedAct.TheVariants as act
use Rattle.page_messages.specs.declared.log.Item.TheVariants as item
use Rattle.page_messages.specs.declared.log.PostAt.{PostAt}
use Rattle.cluster_rules.specs.Walking.{is_empty, with_first, first_of}
use Rattle.cluster_rules.specs.Turns.{WholeTurn, Event, Did, Sent, Took, Ended, Past}
use Rattle.cluster_rules.specs.Node.{Node}
use Rattle.cluster_rules.specs.Home.{owed_adds}
use Rattle.cluster_rules.specs.Lives.{Life, main_id, want_of, value_in, returned, with_kept, live_from, live, answered, made, added, after_act}
use Rattle.cluster_rules.specs.Frames.{Frames, frames_on, frames_of, stack_of, highest}
use Rattle.cluster_rules.specs.Allowed.{IsAllowed}
use Rattle.cluster_rules.specs.Runs.{Cluster, IsLawful, node_at}
use Rattle.cluster_rules.specs.Positions.{Moved, Course, course_of, own, at, before}
use Rattle.cluster_rules.proofs.Stepping.{Stepped}
use Rattle.cluster_rules.proofs.Marks.{first_is}
use Rattle.cluster_order.specs.Reading.{act_of, served_for, happens_to}
use Rattle.cluster_order.specs.Standing.{first}
use Rattle.cluster_order.proofs.Fronts.{first_none, first_next, first_at, nothing_past}
use Rattle.cluster_order.proofs.Growing.{within}
use Rattle.cluster_edges.proofs.Firsts.{stepped_first}
use Rattle.determinacy.proofs.Rows.{when_true, when_false, still}
use Rattle.determinacy.specs.Ending.{is_item}
use Rattle.determinacy.specs.Replies as replies
use Rattle.determinacy.specs.Replies.{Trace, by, want_at}
use Rattle.one_node.proofs.Stacks.{no_item, stack_item, stack_other, stack_first}
use Rattle.one_node.specs.Deep as deep
use Rattle.one_node.specs.Deep.{pop, pushed, is_return, stack, IsTop, Deep}
use Rattle.cluster_trace.specs.Instances.{trace_of}
use Rattle.cluster_trace.proofs.Spawning.{all_stepped}
use Rattle.cluster_trace.proofs.Standing.{Stacked, account_wants, live_stacked}
use Rattle.cluster_trace.proofs.Ahead.{lead, quiet_none}
use Rattle.cluster_trace.proofs.Always.{all_so}
use Rattle.lone_cluster.proofs.Silent.{OwnEvent, silent_own, no_adds, no_waits, own_here, Lone, lone}
use Rattle.lone_cluster.proofs.Positions.{stands_at, may_act, acting}

-- ---- stacks by name

abbrev pub names : List Life → List FrameId
names lives = map (λ life. life.id) lives

abbrev Told : (FrameId → Bool) → List Life → Type 0
Told test [] = Unit {0}
Told test (life ∷ below) = (test life.id ≡ is_some (returned life)) × Told test below

-- The frames that have not returned, by a test of their names.
live_from_names : (test : FrameId → Bool) (deposits : List Deposit) (lives : List Life) → Told test lives
    → names (live_from deposits lives) ≡ pop test (names lives)
unfolding pop
live_from_names test deposits [] told = refl
live_from_names test deposits (life ∷ below) told = on (returned life) told.0 (λ given. live_from_names test given below told.1)
  where
    on : (value : Option ℤ) → test life.id ≡ is_some value → ((given : List Deposit) → names (live_from given below) ≡ pop test (names below))
        → names (elim value [ None ↦ with_kept deposits life ∷ below | Some it ↦ live_from ((life.spawned.target, it) ∷ []) below ])
        ≡ cond (test life.id) (pop test (names below)) (life.id ∷ names below)
    on None is rest = sym (when_false (test life.id) (pop test (names below)) (life.id ∷ names below) is)
    on (Some value) is rest = rest ((life.spawned.target, value) ∷ []) ∙ sym (when_true (test life.id) (pop test (names below)) (life.id ∷ names below) is)

-- the first of them has not returned
live_again_from : (deposits : List Deposit) (lives : List Life) → names (live (live_from deposits lives)) ≡ names (live_from deposits lives)
live_again_from deposits [] = refl
live_again_from deposits (life ∷ below) = on (returned life) refl (λ given. live_again_from given below)
  where
    first_stays : returned life ≡ None → names (live (with_kept deposits life ∷ below)) ≡ life.id ∷ names below
    first_stays none =
        subst
        (λ value. names (elim value [ None ↦ with_kept [] (with_kept deposits life) ∷ below | Some it ↦ live_from ((life.spawned.target, it) ∷ []) below ])
        ≡ life.id ∷ names below)
        (sym none) refl

    on : (value : Option ℤ) → returned life ≡ value → ((given : List Deposit) → names (live (live_from given below)) ≡ names (live_from given below))
        → names (live (elim value [ None ↦ with_kept deposits life ∷ below | Some it ↦ live_from ((life.spawned.target, it) ∷ []) below ]))
        ≡ names (elim value [ None ↦ with_kept deposits life ∷ below | Some it ↦ live_from ((life.spawned.target, it) ∷ []) below ])
    on None is rest = first_stays is
    on (Some value) is rest = rest ((life.spawned.target, value) ∷ [])

first_names : (change : Life → Life) → ((life : Life) → (change life).id ≡ life.id) → (lives : List Life) → names (with_first change lives) ≡ names lives
first_names change same [] = refl
first_names change same (life ∷ below) = ap (λ id. id ∷ names below) (same life)

act_names : (node : Node) (number : ℕ) (frame : FrameId) (done : LoggedAct) (life : Life) (below : List Life)
    → names (after_act node done (life ∷ below)) ≡ pushed (log.Acts number frame (act_of done)) (life.id ∷ names below)
unfolding pushed
act_names node number frame (act.Read word value) life below = refl
act_names node number frame (act.Write word value) life below = refl
act_names node number frame (act.Print value) life below = refl
act_names node number frame (act.Spawn child procedure arguments) life below = refl
act_names node number frame act.Sync life below = refl

tick_names : (number : ℕ) (frame : FrameId) (below : List FrameId) → pushed (log.Tick number frame) below ≡ below
unfolding pushed
tick_names number frame below = refl

add_names : (number : ℕ) (frame : FrameId) (word : ℕ) (old addend : ℤ) (below : List FrameId)
    → pushed (log.Acts number frame (log.Add word old addend)) below ≡ below
unfolding pushed
add_names number frame word old addend below = refl

return_is : (want : Option Want) → is_return want ≡ is_some (value_in want)
unfolding is_return
return_is None = refl
return_is (Some (Asks request)) = refl
return_is (Some (Returns value)) = refl
return_is (Some (Traps kind)) = refl

module _ (cluster : Cluster) (turns : List WholeTurn) (lawful : IsLawful cluster turns) (program : Program) (stands : StandsFor cluster.code program)
    (parted : IsParted program) (alone : cluster.config.nodes ≡ 1) where
  abbrev course : Course
  course = course_of turns

  abbrev trace : Trace
  trace = trace_of cluster course

  abbrev stepped : Stepped cluster course
  stepped = all_stepped cluster turns lawful

  abbrev node : Node
  node = node_at cluster 0

  -- the node's stack before a position
  abbrev stack_at : ℕ → List Life
  stack_at position = stack_of node (own 0 (first position course))

  abbrev returned_at : ℕ → FrameId → Bool
  returned_at position = deep.returned (starts cluster.code) trace position

  abbrev live_at : ℕ → List FrameId
  live_at position = deep.live (starts cluster.code) trace position

  pub lone_at : (position : ℕ) → Lone cluster alone (first position course)
  lone_at position = lone cluster alone (first position course) (stepped_first cluster course position stepped)

  -- ---- each frame of the stack wants what its instance in the execution does

  abbrev Wanting : ℕ → List Life → Type 0
  Wanting position [] = Unit {0}
  Wanting position (life ∷ below) = (want_at (starts cluster.code) trace position life.id ≡ want_of life) × Wanting position below

  stacked_wanting : (position : ℕ) (so_far : Course) (above : List FrameId) (lives : List Life)
      → Stacked cluster program stands trace position so_far above lives → Wanting position lives
  stacked_wanting position so_far above [] stacked = tt
  stacked_wanting position so_far above (life ∷ below) stacked =
      (account_wants cluster program stands trace position so_far life above stacked.0, stacked_wanting position so_far (life.id ∷ []) below stacked.2)

  wanting_told : (position : ℕ) (lives : List Life) → Wanting position lives → Told (returned_at position) lives
  wanting_told position [] wanting = tt
  wanting_told position (life ∷ below) wanting = (ap is_return wanting.0 ∙ return_is (want_of life), wanting_told position below wanting.1)

  stack_stacked : (position : ℕ) → position ≤ length course → Stacked cluster program stands trace position (first position course) [] (stack_at position)
  stack_stacked position less =
      let it = (all_so cluster turns lawful program stands parted position less).1 in
      let so_far = first position course in
      let quiet = no_waits (own 0 so_far) (silent_own 0 so_far (lone_at position).0) in
      subst (λ led. Stacked cluster program stands trace position so_far [] (lead led (stack_at position)))
      (quiet_none cluster so_far (stepped_first cluster course position stepped) 0 (omega (arith, alone)) quiet) (it.nodes 0 (omega (arith, alone))).stack

  pub stack_wants : (position : ℕ) → position ≤ length course → Wanting position (stack_at position)
  stack_wants position less = stacked_wanting position (first position course) [] (stack_at position) (stack_stacked position less)

  live_wants : (position : ℕ) → position ≤ length course → Wanting position (live (stack_at position))
  live_wants position less =
      stacked_wanting position (first position course) [] (live (stack_at position))
      (live_stacked cluster program stands trace position (first position course) (stack_at position) (stack_stacked position less))

  live_names : (position : ℕ) → position ≤ length course → names (live (stack_at position)) ≡ pop (returned_at position) (names (stack_at position))
  live_names position less =
      live_from_names (returned_at position) [] (stack_at position) (wanting_told position (stack_at position) (stack_wants position less))

  -- ---- one event more

  -- An item goes on from the live frames; what is no item leaves them.
  data Goes (event : log.Event) (below : List FrameId) (lives : List Life) : Type 0 where
    Pushes : is_item event ≡ true → names lives ≡ pushed event below → Goes event below lives
    Stays : is_item event ≡ false → names (live lives) ≡ below → Goes event below lives

  act_pushes : (frame : FrameId) (done : LoggedAct) (lives : List Life) (life : Life) → first_of lives ≡ Some life
      → names (after_act node done lives) ≡ pushed (log.Acts 0 frame (act_of done)) (names lives)
  act_pushes frame done lives life is =
      let top = first_is lives life is in
      subst (λ lives. names (after_act node done lives) ≡ pushed (log.Acts 0 frame (act_of done)) (names lives)) (sym top.1)
      (act_names node 0 frame done life top.0)

  module _ (earlier : Course) (before_it : Lone cluster alone earlier) where
    abbrev past : Past
    past = own 0 earlier

    abbrev frames : Frames
    frames = frames_of node past

    none_owed : owed_adds past ≡ []
    none_owed = no_adds past (silent_own 0 earlier before_it.0)

    goes_on : (place : Option PostAt) (event : Event) → OwnEvent event → IsAllowed node past event
        → Goes (happens_to cluster earlier 0 place event) (names (live frames.stack)) (frames_on node event past frames).stack
    unfolding is_item
    goes_on place (Did (item.Act frame index done)) itself does =
        let may = may_act cluster alone course stepped past frame index done does.may in Pushes refl (act_pushes frame done (live frames.stack) may.0 may.1.is)
    goes_on place (Did (item.Tick frame)) itself does =
        Pushes refl (first_names (answered Done) (λ life. refl) (live frames.stack) ∙ sym (tick_names 0 frame (names (live frames.stack))))
    goes_on place (Did (item.Drop page)) itself does = Stays refl refl
    goes_on place (Did (item.TakeUp frame)) itself does = absurd itself
    goes_on place (Did (item.OwnFetch page words)) itself does = Stays refl (live_again_from [] frames.stack)
    goes_on place (Did (item.OwnReconcile part)) itself does = Stays refl refl
    goes_on place (Did (item.Served frame index word old addend)) itself does =
        Pushes refl
        (subst (λ adds. names (cond (is_empty adds) (added old (live frames.stack)) frames.stack) ≡ names (live frames.stack)) (sym none_owed)
        (first_names (made (Value old)) (λ life. refl) (live frames.stack))
        ∙ sym (add_names (served_for 0 (owed_adds past)) frame word old addend (names (live frames.stack))))
    goes_on place (Sent message) itself does = absurd itself
    goes_on place (Took message) itself does = absurd itself
    goes_on place (Ended end) itself does = Stays refl refl

  stack_behind : (event : Event) (older : Past) → stack_of node (event ∷ older) ≡ (frames_on node event older (frames_of node older)).stack
  unfolding frames_of
  stack_behind event older = refl

  stack_start : names (stack_of node []) ≡ main_id ∷ []
  unfolding frames_of
  stack_start = refl

  goes_at : (position : ℕ) (moved : Moved) → at course position ≡ Some moved
      → Goes (trace.events position) (names (live (stack_at position))) (stack_at (suc position))
  goes_at position moved found =
      let it = stands_at cluster alone course stepped position moved found in
      let earlier = before course position in
      let next : List Life = (frames_on node moved.event (own 0 earlier) (frames_of node (own 0 earlier))).stack in
      let later : stack_at (suc position) ≡ next =
      ap (λ so_far. stack_of node (own 0 so_far)) (first_next position course moved found)
      ∙ ap (stack_of node) (own_here cluster alone moved earlier it.here) ∙ stack_behind moved.event (own 0 earlier) in
      subst (λ event. Goes event (names (live (stack_at position))) (stack_at (suc position))) (sym it.event_is)
      (subst (Goes (happens_to cluster earlier 0 moved.message moved.event) (names (live (stack_at position)))) (sym later)
      (subst (λ so_far. Goes (happens_to cluster earlier 0 moved.message moved.event) (names (live (stack_of node (own 0 so_far)))) next)
      (sym (first_at position course moved found)) (goes_on earlier it.lone_before moved.message moved.event it.itself it.allowed)))

  -- ---- what is no item changes no stack

  pub still_wants : (position : ℕ) → is_item (trace.events position) ≡ false → (frame : FrameId)
      → want_at (starts cluster.code) trace (suc position) frame ≡ want_at (starts cluster.code) trace position frame
  still_wants position none frame =
      ap (replies.want_of (starts cluster.code) (trace.instance frame)) (still (starts cluster.code) trace position frame (no_item trace position none frame))

  pub still_live : (position : ℕ) → is_item (trace.events position) ≡ false → live_at (suc position) ≡ live_at position
  still_live position none =
      let same : returned_at (suc position) ≡ returned_at position = λ i frame. is_return (still_wants position none frame i) in
      ap (λ test. pop test (stack (starts cluster.code) trace (suc position))) same
      ∙ ap (pop (returned_at position)) (stack_other (starts cluster.code) trace position none)

  -- The live frames of the node are those of the execution.
  pub same_live : (position : ℕ) → position ≤ length course → names (live (stack_at position)) ≡ live_at position
  same_live zero less =
      live_names zero less
      ∙ ap (pop (returned_at zero))
      (ap (λ so_far. names (stack_of node (own 0 so_far))) (first_none course) ∙ stack_start ∙ sym (stack_first (starts cluster.code) trace))
  same_live (suc position) less = on (at course position) refl (same_live position (omega (arith, less)))
    where
      on_event : Goes (trace.events position) (names (live (stack_at position))) (stack_at (suc position)) → names (live (stack_at position)) ≡ live_at position
          → names (live (stack_at (suc position))) ≡ live_at (suc position)
      on_event (Pushes is same) so_far =
          live_names (suc position) less
          ∙ ap (pop (returned_at (suc position))) (same ∙ ap (pushed (trace.events position)) so_far ∙ sym (stack_item (starts cluster.code) trace position is))
      on_event (Stays none same) so_far = same ∙ so_far ∙ sym (still_live position none)

      on : (option : Option Moved) → at course position ≡ option → names (live (stack_at position)) ≡ live_at position
          → names (live (stack_at (suc position))) ≡ live_at (suc position)
      on None none so_far = let past = nothing_past position course none in absurd (omega (arith, past, less))
      on (Some moved) found so_far = on_event (goes_at position moved found) so_far

  -- The highest frame of the node that has not returned is the top of the execution, and wants the same.
  pub record Tops (position : ℕ) (life : Life) : Type 0 where
    pub top : IsTop (starts cluster.code) trace position life.id
    pub wants : want_at (starts cluster.code) trace position life.id ≡ want_of life

  pub top_at : (position : ℕ) (moved : Moved) → at course position ≡ Some moved → (life : Life)
      → highest node (own 0 (before course position)) ≡ Some life → Tops position life
  top_at position moved found life is =
      let inside = within course position moved found in
      let less : position ≤ length course = omega (arith, inside) in
      let top = first_is (live (stack_at position)) life
      (ap (λ so_far. first_of (live (stack_of node (own 0 so_far)))) (first_at position course moved found) ∙ is) in
      record {
        top = (names top.0, sym (same_live position less) ∙ ap names top.1);
        wants = (subst (Wanting position) top.1 (live_wants position less)).0;
      }

  -- A run on one node goes depth first.
  pub goes_deep : Deep (starts cluster.code) trace
  goes_deep position frame acts =
      let it = acting cluster alone course stepped position frame acts in
      subst (IsTop (starts cluster.code) trace position) (sym it.2.1.named) (top_at position it.0 it.1 it.2.0 it.2.1.is).top
