-- What each event makes of the stacks.
use Rattle.std.proofs.Common.{◌≡◌, ◌⊎◌, inl, inr, ℕ, ℤ, suc, List, [], ◌∷◌, Option, Some, None, true, cond, refl, sym, ◌∙◌, ap, subst}
use Rattle.page_messages.specs.declared.closure.FrameId.{FrameId}
use Rattle.page_messages.specs.declared.closure.JoinId.{JoinId}
use Rattle.page_messages.specs.declared.closure.Closure.{Closure}
use Rattle.page_messages.specs.declared.log.PostAt.{PostAt}
use Rattle.page_messages.specs.declared.message.Msg.{Msg}
use Rattle.page_messages.specs.declared.message.Body.{Body}
use Rattle.page_messages.specs.declared.message.Body.TheVariants as body
use Rattle.page_messages.specs.declared.log.LoggedAct.{LoggedAct}
use Rattle.page_messages.specs.declared.log.LoggedAct.TheVariants as act
use Rattle.page_messages.specs.declared.log.Item.{Item}
use Rattle.page_messages.specs.declared.log.Item.TheVariants as item
use Rattle.cilk_meaning.specs.Wants.{Done as DoneAnswer}
use Rattle.cluster_rules.specs.Turns.{WholeTurn, Event, Did, Sent, Took, Ended, Past}
use Rattle.cluster_rules.specs.Node.{Node, page_of, home_of}
use Rattle.cluster_rules.specs.Walking.{is_empty, with_first}
use Rattle.cluster_rules.specs.Home.{owed_adds}
use Rattle.cluster_rules.specs.Lives.{Life, live, answered, added, after_act, without_bottom}
use Rattle.cluster_rules.specs.Frames.{Frames, frames_took, frames_of, stack_of, stack_sent, taken_up}
use Rattle.cluster_rules.specs.Acting.{MayAddHere, Serves as DoesOwed}
use Rattle.cluster_rules.specs.Positions.{Moved, Course, course_of, own, at, before, Happens}
use Rattle.cluster_rules.specs.Runs.{Cluster, IsLawful, IsFree, node_at}
use Rattle.backer_order.specs.Log as log
use Rattle.backer_order.specs.Edges.{Stacks, Returns, Others, Moves, Pops, Grants, Empties, AddRule, StackRule}
use Rattle.cluster_order.specs.Reading.{memory_of, act_of, note_of, id_of, bottom_of, served_for, item_of, happens_to}
use Rattle.cluster_order.specs.Standing.{stacks_of, returns_of}
use Rattle.cluster_order.proofs.Accesses.{ev, event_there}
use Rattle.cluster_order.proofs.Lawful.{act_allowed, tick_allowed, take_up_allowed, served_allowed, grant_allowed, done_allowed, park_allowed, add_allowed, home_served}
use Rattle.cluster_order.proofs.Adding.{add_other, add_for}
use Rattle.cluster_order.proofs.Shedding.{names, names_append, spawned_in, act_names, granted_names, added_names}
use Rattle.cluster_order.proofs.Stepping.{stack_before, stack_after, stack_other, stack_still, unchanged, moves, pops, empties, empties_returned}

-- a message that is taken changes no name on the stack
took_names : (node : Node) (said : Body) (past : Past) (frames : Frames) → names ((frames_took node said past frames).stack) ≡ names frames.stack
took_names node (body.Fetch page) past frames = refl
took_names node (body.Page page words) past frames = refl
took_names node (body.Reconcile parts) past frames = refl
took_names node body.Ack past frames = refl
took_names node body.Ask past frames = refl
took_names node (body.Grant closure) past frames = refl
took_names node body.Refuse past frames = refl
took_names node (body.Done join index value) past frames = refl
took_names node (body.Park join closure) past frames = refl
took_names node (body.Add frame index word addend) past frames = refl
took_names node (body.Added old) past frames = added_names old frames.stack

module _ (cluster : Cluster) (turns : List WholeTurn) (lawful : IsLawful cluster turns) where
  abbrev events : ℕ → log.Event
  events = ev cluster turns lawful

  abbrev course : Course
  course = course_of turns

  abbrev node : ℕ → Node
  node number = node_at cluster number

  abbrev past : ℕ → ℕ → Past
  past number position = own number (before course position)

  abbrev stacks : Stacks
  stacks = stacks_of cluster course

  abbrev returns : Returns
  returns = returns_of cluster course

  abbrev Rule : ℕ → log.Event → Type 0
  Rule = StackRule (memory_of cluster) returns stacks

  -- ---- items

  -- an act
  pub act_moves : (number position : ℕ) (frame : FrameId) (index : ℕ) (done : LoggedAct) → Happens course number position (Did (item.Act frame index done))
      → Moves returns stacks position number frame (spawned_in done)
  act_moves number position frame index done happens =
      let may = act_allowed cluster turns lawful number position frame index done happens in
      let life = may.1.life in
      subst (λ it. Moves returns stacks position number it (spawned_in done)) (sym (may.1.acts.named))
      (moves cluster turns lawful number position (Did (item.Act frame index done)) happens life (spawned_in done) (may.1.acts.is)
      (λ below is. ap (λ all. names (after_act (node number) done all)) is ∙ act_names (node number) done life below))

  act_rule : (number position : ℕ) (frame : FrameId) (index : ℕ) (done : LoggedAct) → Happens course number position (Did (item.Act frame index done))
      → Rule position (log.Acts number frame (act_of done))
  act_rule number position frame index (act.Read word value) happens = act_moves number position frame index (act.Read word value) happens
  act_rule number position frame index (act.Write word value) happens = act_moves number position frame index (act.Write word value) happens
  act_rule number position frame index (act.Print value) happens = act_moves number position frame index (act.Print value) happens
  act_rule number position frame index (act.Spawn child procedure arguments) happens =
      act_moves number position frame index (act.Spawn child procedure arguments) happens
  act_rule number position frame index act.Sync happens = act_moves number position frame index act.Sync happens

  -- a tick
  pub tick_rule : (number position : ℕ) (frame : FrameId) → Happens course number position (Did (item.Tick frame))
      → Moves returns stacks position number frame []
  tick_rule number position frame happens =
      let may = tick_allowed cluster turns lawful number position frame happens in
      let life = may.1.life in
      subst (λ it. Moves returns stacks position number it []) (sym (may.1.acts.named))
      (moves cluster turns lawful number position (Did (item.Tick frame)) happens life [] (may.1.acts.is)
      (λ below is. ap (λ all. names (with_first (answered DoneAnswer) all)) is))

  -- a TakeUp
  pub take_up_rule : (number position : ℕ) (frame : FrameId) → Happens course number position (Did (item.TakeUp frame))
      → (stacks position number ≡ []) × (stacks (suc position) number ≡ frame ∷ []) × Others stacks position number
  take_up_rule number position frame happens =
      let may = (take_up_allowed cluster turns lawful number position frame happens).2 in
      let frames = frames_of (node number) (past number position) in (
        stack_before cluster turns lawful number position (happens.moved) (happens.is) ∙ ap names (may.idle),
        stack_after cluster turns lawful number position (Did (item.TakeUp frame)) happens
            ∙ ap (λ ready. names ((taken_up frames.stack ready frames.parked).stack)) (may.oldest) ∙ ap (λ name. name ∷ []) (sym (may.named)),
        stack_other cluster turns lawful number position (Did (item.TakeUp frame)) happens,
      )

  -- an own fetch
  pub load_rule : (number position page : ℕ) (words : List ℤ) → Happens course number position (Did (item.OwnFetch page words))
      → Pops returns stacks position number
  load_rule number position page words happens = pops cluster turns lawful number position (Did (item.OwnFetch page words)) happens refl

  -- an add, own or owed
  pub served_rule : (number position : ℕ) (frame : FrameId) (index word : ℕ) (old addend : ℤ)
      → Happens course number position (Did (item.Served frame index word old addend))
      → AddRule (memory_of cluster) returns stacks position (served_for number (owed_adds (past number position))) frame word
  served_rule number position frame index word old addend happens = on (served_allowed cluster turns lawful number position frame index word old addend happens)
    where
      done : Event
      done = Did (item.Served frame index word old addend)

      stack : List Life
      stack = stack_of (node number) (past number position)

      at_home : home_of (node 0) (page_of (node 0) word) ≡ number
      at_home = home_served cluster turns lawful number position frame index word old addend happens

      on : DoesOwed (node number) (past number position) frame index word old addend
          ⊎ (IsFree (past number position) × MayAddHere (node number) (past number position) frame index word old addend)
          → AddRule (memory_of cluster) returns stacks position (served_for number (owed_adds (past number position))) frame word
      on (inr own_add) =
          let mine : served_for number (owed_adds (past number position)) ≡ number = ap (served_for number) (own_add.0.none_owed) in
          let life = own_add.1.add.life in
          record {
            own = λ home_is. subst (λ it. Moves returns stacks position it frame []) (sym mine)
                (subst (λ it. Moves returns stacks position number it []) (sym (own_add.1.add.acts.named))
                (moves cluster turns lawful number position done happens life [] (own_add.1.add.acts.is)
                (λ below is. ap (λ owed. names (cond (is_empty owed) (added old (live stack)) stack)) (own_add.0.none_owed)
                ∙ ap (λ all. names (added old all)) is)));
            other = λ not. absurd (not (at_home ∙ sym mine));
          }
      on (inl serves) =
          let taken = add_for cluster turns lawful number position (happens.moved) (happens.is) (serves.add) (serves.later) (serves.oldest) in
          let other = add_other cluster turns lawful number (serves.add) (taken.0) (taken.2) in
          let sender : served_for number (owed_adds (past number position)) ≡ serves.add.sender = ap (served_for number) (serves.oldest) in
          record {
            own = λ home_is. absurd (other (sym sender ∙ sym home_is ∙ at_home));
            other =
                λ not. unchanged cluster turns lawful number position done happens
                (ap (λ owed. names (cond (is_empty owed) (added old (live stack)) stack)) (serves.oldest));
          }

  -- ---- posts

  -- a Grant
  pub grant_rule : (number position : ℕ) (message : Msg) (closure : Closure) → Happens course number position (Sent message) → message.body ≡ body.Grant closure
      → Grants stacks position number closure.id
  grant_rule number position message closure happens says =
      let may = grant_allowed cluster turns lawful number position message closure happens says in
      let stack = stack_of (node number) (past number position) in
      subst (λ it. Grants stacks position number it) (sym (may.state.id)) (record {
        front = names (may.above);
        child = may.child.id;
        old =
            stack_before cluster turns lawful number position (happens.moved) (happens.is) ∙ ap names (may.stack)
            ∙ names_append (may.above) (may.child ∷ (may.parent ∷ []));
        new = stack_after cluster turns lawful number position (Sent message) happens
            ∙ ap (λ said. names (stack_sent said stack)) says ∙ ap (λ all. names (without_bottom closure.join all)) (may.stack)
            ∙ granted_names closure.join (may.above) (may.child) (may.parent);
        others = stack_other cluster turns lawful number position (Sent message) happens;
      })

  -- a Done
  pub done_rule : (number position : ℕ) (message : Msg) (join : JoinId) (index : ℕ) (value : ℤ) → Happens course number position (Sent message)
      → message.body ≡ body.Done join index value
      → Empties returns stacks position number (bottom_of cluster number (before course position))
      × (returns position (bottom_of cluster number (before course position)) ≡ true)
  done_rule number position message join index value happens says =
      let may = done_allowed cluster turns lawful number position message join index value happens says in
      let bottom : bottom_of cluster number (before course position) ≡ may.life.id = ap id_of (may.returned.at_bottom) in
      subst (λ it. Empties returns stacks position number it × (returns position it ≡ true)) (sym bottom)
      (empties_returned cluster turns lawful number position (Sent message) happens (may.life)
      (ap (λ said. stack_sent said (stack_of (node number) (past number position))) says) (may.returned))

  -- a Park
  pub park_rule : (number position : ℕ) (message : Msg) (join : JoinId) (closure : Closure) → Happens course number position (Sent message)
      → message.body ≡ body.Park join closure
      → Empties returns stacks position number closure.id
  park_rule number position message join closure happens says =
      let may = park_allowed cluster turns lawful number position message join closure happens says in
      subst (λ it. Empties returns stacks position number it) (sym (may.state.id))
      (empties cluster turns lawful number position (Sent message) happens (may.life)
      (ap (λ said. stack_sent said (stack_of (node number) (past number position))) says) (may.at_join.alone))

  -- a Fetch
  pub fetch_rule : (number position : ℕ) (message : Msg) (page : ℕ) → Happens course number position (Sent message) → message.body ≡ body.Fetch page
      → Pops returns stacks position number
  fetch_rule number position message page happens says =
      pops cluster turns lawful number position (Sent message) happens (ap (λ said. stack_sent said (stack_of (node number) (past number position))) says)

  -- an Add
  pub add_rule : (number position : ℕ) (message : Msg) (frame : FrameId) (index word : ℕ) (addend : ℤ) → Happens course number position (Sent message)
      → message.body ≡ body.Add frame index word addend
      → Moves returns stacks position number frame []
  add_rule number position message frame index word addend happens says =
      let may = add_allowed cluster turns lawful number position message frame index word addend happens says in
      let stack = stack_of (node number) (past number position) in
      subst (λ it. Moves returns stacks position number it []) (sym (may.add.acts.named))
      (moves cluster turns lawful number position (Sent message) happens (may.add.life) [] (may.add.acts.is)
      (λ below is. ap (λ said. names (stack_sent said stack)) says ∙ ap names is))

  -- what is posted of other kinds
  sent_still : (number position : ℕ) (message : Msg) → Happens course number position (Sent message)
      → names (stack_sent message.body (stack_of (node number) (past number position))) ≡ names (stack_of (node number) (past number position))
      → (any : ℕ) → stacks (suc position) any ≡ stacks position any
  sent_still number position message happens same = unchanged cluster turns lawful number position (Sent message) happens same

  abbrev sent_names : (number position : ℕ) {one other : Body} → one ≡ other
      → names (stack_sent one (stack_of (node number) (past number position))) ≡ names (stack_sent other (stack_of (node number) (past number position)))
  sent_names number position same = ap (λ said. names (stack_sent said (stack_of (node number) (past number position)))) same

  sent_rule : (number position : ℕ) (message : Msg) (said : Body) → Happens course number position (Sent message) → message.body ≡ said
      → Rule position (log.Post number message.receiver (note_of cluster number (before course position) said))
  sent_rule number position message (body.Fetch page) happens says = fetch_rule number position message page happens says
  sent_rule number position message (body.Page page words) happens says = sent_still number position message happens (sent_names number position says)
  sent_rule number position message (body.Reconcile parts) happens says = sent_still number position message happens (sent_names number position says)
  sent_rule number position message body.Ack happens says = sent_still number position message happens (sent_names number position says)
  sent_rule number position message body.Ask happens says = sent_still number position message happens (sent_names number position says)
  sent_rule number position message (body.Grant closure) happens says = grant_rule number position message closure happens says
  sent_rule number position message body.Refuse happens says = sent_still number position message happens (sent_names number position says)
  sent_rule number position message (body.Done join index value) happens says = done_rule number position message join index value happens says
  sent_rule number position message (body.Park join closure) happens says = park_rule number position message join closure happens says
  sent_rule number position message (body.Add frame index word addend) happens says = add_rule number position message frame index word addend happens says
  sent_rule number position message (body.Added old) happens says = sent_still number position message happens (sent_names number position says)

  -- ---- all events

  item_rule : (number position : ℕ) (done : Item) → Happens course number position (Did done)
      → Rule position (item_of cluster number (past number position) done)
  item_rule number position (item.Act frame index act) happens = act_rule number position frame index act happens
  item_rule number position (item.Tick frame) happens = tick_rule number position frame happens
  item_rule number position (item.Drop page) happens = unchanged cluster turns lawful number position (Did (item.Drop page)) happens refl
  item_rule number position (item.TakeUp frame) happens = take_up_rule number position frame happens
  item_rule number position (item.OwnFetch page words) happens = load_rule number position page words happens
  item_rule number position (item.OwnReconcile part) happens = unchanged cluster turns lawful number position (Did (item.OwnReconcile part)) happens refl
  item_rule number position (item.Served frame index word old addend) happens = served_rule number position frame index word old addend happens

  event_rule : (number position : ℕ) (place : Option PostAt) (event : Event) → Happens course number position event
      → Rule position (happens_to cluster (before course position) number place event)
  event_rule number position place (Did done) happens = item_rule number position done happens
  event_rule number position place (Sent message) happens = sent_rule number position message message.body happens refl
  event_rule number position place (Took message) happens =
      unchanged cluster turns lawful number position (Took message) happens
      (took_names (node number) message.body (Took message ∷ past number position) (frames_of (node number) (past number position)))
  event_rule number position place (Ended end) happens = unchanged cluster turns lawful number position (Ended end) happens refl

  -- The stacks go by the events.
  pub stack_rule : (position : ℕ) → Rule position (events position)
  stack_rule position = on (at course position) refl
    where
      on : (option : Option Moved) → at course position ≡ option → Rule position (events position)
      on None none =
          let empty : events position ≡ log.Nothing = rw none refl in
          subst (λ it. Rule position it) (sym empty) (stack_still cluster turns lawful position none)
      on (Some moved) found =
          let happens : Happens course moved.node position moved.event = record { moved = moved; is = found; by = refl; event_is = refl } in
          subst (λ it. Rule position it) (sym (event_there cluster turns lawful moved.node position moved.event happens))
          (event_rule moved.node position moved.message moved.event happens)
