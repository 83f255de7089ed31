-- Through each event of a course the accounts of all frames are kept, and it answers what its frame wants.
use Rattle.std.proofs.Common.{◌≡◌, ◌≢◌, ◌⊎◌, inl, inr, ℕ, suc, ◌+◌, ◌<◌, ◌≤◌, ℤ, List, [], ◌∷◌, Option, Some, None, true, false, cond, eqb}
use Rattle.std.proofs.Common.{refl, sym, ◌∙◌, ap, subst, arith}
use Rattle.backer_order.specs.Log as log
use Rattle.cilk_meaning.specs.Instance.{Meaning}
use Rattle.cilk_meaning.specs.Resolved.{Program}
use Rattle.cilk_meaning.specs.Wants as want
use Rattle.cilk_meaning.specs.Wants.{Asks, Done, Value}
use Rattle.machine_code.specs.Machine.{starts}
use Rattle.machine_code.specs.StandsFor.{StandsFor}
use Rattle.page_messages.specs.declared.closure.FrameId.{FrameId}
use Rattle.page_messages.specs.declared.closure.JoinId.{JoinId}
use Rattle.page_messages.specs.declared.message.Msg.{Msg}
use Rattle.page_messages.specs.declared.message.Body.{Body}
use Rattle.page_messages.specs.declared.message.Body.TheVariants as body
use Rattle.page_messages.specs.declared.log.LoggedAct.{LoggedAct}
use Rattle.page_messages.specs.declared.log.Item.{Item}
use Rattle.page_messages.specs.declared.log.Item.TheVariants as item
use Rattle.page_messages.specs.declared.log.PostAt.{PostAt}
use Rattle.cluster_rules.specs.Walking.{with_first}
use Rattle.cluster_rules.specs.Turns.{WholeTurn, Event, Did, Sent, Took, Ended, Past}
use Rattle.cluster_rules.specs.Node.{Node}
use Rattle.cluster_rules.specs.Home.{replies_in}
use Rattle.cluster_rules.specs.Lives.{Life, same_frame, live, want_of, made, answered, added, after_act}
use Rattle.cluster_rules.specs.Frames.{Frames, frames_on, frames_of, stack_of, stack_sent, frames_took}
use Rattle.cluster_rules.specs.Acting.{Acts, MayAct, MayTick, MayAddHere, Serves}
use Rattle.cluster_rules.specs.Positions.{Moved, Course, course_of, own, at, before}
use Rattle.cluster_rules.specs.Runs.{Cluster, IsLawful, node_at, IsOwed, IsFree, MayDo, MayPost}
use Rattle.cluster_rules.proofs.Stepping.{Stepped}
use Rattle.cluster_rules.proofs.Marks.{one, many, named, marks, first_is, live_within, same_name, same_self}
use Rattle.cluster_rules.proofs.Passing.{may_post}
use Rattle.cluster_rules.proofs.Holding.{own_first, own_other}
use Rattle.cluster_rules.proofs.Phases.{Phase, after_post, after_taking, after_adding, phase_of}
use Rattle.cluster_rules.proofs.Asking.{phased, phase_asker, phase_others}
use Rattle.cluster_rules.proofs.Testing.{own_number, other_number}
use Rattle.cluster_rules.proofs.Summing.{one_or_two}
use Rattle.cluster_rules.proofs.UnderWay.{moved_by}
use Rattle.cluster_edges.proofs.Anywhere.{each_always, parked_always, body_always, everywhere_always}
use Rattle.cluster_edges.proofs.Granting.{granted}
use Rattle.cluster_edges.proofs.Joining.{tied}
use Rattle.cluster_order.specs.Reading.{words_of, part_of, note_of, taken_from, served_for, act_of, item_of, happens_to}
use Rattle.cluster_order.proofs.Events.{event_at}
use Rattle.determinacy.specs.Replies.{Trace, by, want_at, Answers}
use Rattle.cluster_trace.specs.Instances.{trace_of}
use Rattle.cluster_trace.proofs.Spawning.{step_then}
use Rattle.cluster_trace.proofs.Blocks.{AnsweredBefore}
use Rattle.cluster_trace.proofs.Standing.{Stacked, account_wants}
use Rattle.cluster_trace.proofs.Placing.{Tells, Says}
use Rattle.cluster_trace.proofs.Answering.{act_wanted, tick_wanted}
use Rattle.cluster_trace.proofs.Going.{life_tick, life_add}
use Rattle.cluster_trace.proofs.Elsewhere.{NotBy, Only, only_actor, only_ticker}
use Rattle.cluster_trace.proofs.Ahead.{old_in, ahead, lead, lead_none, quiet_none}
use Rattle.cluster_trace.proofs.Accounted.{NodeAccounts, BodyAccount, Accounted, node_same, body_same, says_same, accounted_next}
use Rattle.cluster_trace.proofs.Changes.{live_here, live_node, taken_node, grant_node, empty_node, park_closure, done_says, took_node, added_node}
use Rattle.cluster_trace.proofs.Doing.{aims_more, below_same, item_next, act_stack}

acts_by : (node : ℕ) (frame id : FrameId) (done : log.Act) → by id (log.Acts node frame done) ≡ true → frame ≡ id
unfolding by
acts_by node frame id done is = same_name frame id is

ticks_by : (node : ℕ) (frame id : FrameId) → by id (log.Tick node frame) ≡ true → frame ≡ id
unfolding by
ticks_by node frame id is = same_name frame id is

-- it is no item of a frame
abbrev Nobody : log.Event → Type 0
Nobody event = (id : FrameId) → by id event ≡ false

no_drop : (node page : ℕ) → Nobody (log.Drop node page)
unfolding by
no_drop node page = λ id. refl

no_take : (node : ℕ) (frame : FrameId) → Nobody (log.TakeUp node frame)
unfolding by
no_take node frame = λ id. refl

no_fetch : (node page : ℕ) (words : ℕ → ℤ) → Nobody (log.OwnFetch node page words)
unfolding by
no_fetch node page words = λ id. refl

no_reconcile : (node : ℕ) (part : log.Part) → Nobody (log.OwnReconcile node part)
unfolding by
no_reconcile node part = λ id. refl

no_post : (node receiver : ℕ) (note : log.Note) → Nobody (log.Post node receiver note)
unfolding by
no_post node receiver note = λ id. refl

no_took : (node post : ℕ) → Nobody (log.Took node post)
unfolding by
no_took node post = λ id. refl

no_end : (node : ℕ) → Nobody (log.End node)
unfolding by
no_end node = λ id. refl

frames_step : (node : Node) (event : Event) (past : Past) → frames_of node (event ∷ past) ≡ frames_on node event past (frames_of node past)
unfolding frames_of
frames_step node event past = refl

one_more : (frame : FrameId) → same_frame frame frame ≡ true → (more all : ℕ) → one (same_frame frame frame) + more ≤ all → 1 ≤ all
one_more frame self more all less = let some : one (same_frame frame frame) ≡ 1 = ap one self in omega (arith, some, less)

no_more : (count : ℕ) → count ≤ count
no_more count = omega arith

module _ (cluster : Cluster) (turns : List WholeTurn) (lawful : IsLawful cluster turns) (program : Program) (stands : StandsFor cluster.code program) where
  abbrev course : Course
  course = course_of turns

  abbrev trace : Trace
  trace = trace_of cluster course

  abbrev pub AnswersAt : ℕ → Type 0
  AnswersAt position =
      (frame : FrameId) → by frame (trace.events position) ≡ true → Answers trace (trace.events position) (want_at (starts cluster.code) trace position frame)

  -- An old value that a node takes is the one that its home told for it last.
  abbrev pub OldComes : Type 0
  OldComes = (position number : ℕ) (here : Option PostAt) (message : Msg) (old : ℤ) → at course position ≡ Some (moved_by number (Took message) here)
      → message.body ≡ body.Added old
      → ahead number (before course position) ≡ Some old

  -- A served add is the one that the first frame of the asker wants.
  abbrev pub AddsAsked : Type 0
  AddsAsked = (position number : ℕ) (here : Option PostAt) (frame : FrameId) (index word : ℕ) (old addend : ℤ)
      → at course position ≡ Some (moved_by number (Did (item.Served frame index word old addend)) here)
      → (serves : Serves (node_at cluster number) (own number (before course position)) frame index word old addend)
      → (serves.add.sender < cluster.config.nodes) × (ahead serves.add.sender (before course position) ≡ None) × (life : Life) × (below : List Life)
      × (stack_of (node_at cluster serves.add.sender) (own serves.add.sender (before course position)) ≡ life ∷ below) × (life.id ≡ frame)
      × (want_of life ≡ Some (Asks (want.Add word addend)))

  module _ (position number : ℕ) (here : Option PostAt) where
    abbrev earlier : Course
    earlier = before course position

    abbrev past : Past
    past = own number earlier

    abbrev node : Node
    node = node_at cluster number

    abbrev frames : Frames
    frames = frames_of node past

    abbrev phase : Phase
    phase = phase_of number earlier

    abbrev Found : Event → Type 0
    Found event = at course position ≡ Some (moved_by number event here)

    abbrev Old : Type 0
    Old = Accounted cluster program stands trace position earlier

    abbrev Result : Event → Type 0
    Result event = AnswersAt position × Accounted cluster program stands trace (suc position) (moved_by number event here ∷ earlier)

    module _ (event : Event) (found : Found event) where
      abbrev moved : Moved
      moved = moved_by number event here

      abbrev later : Course
      later = moved ∷ earlier

      stepped : Stepped cluster later
      stepped = step_then cluster turns lawful position moved found

      less : number < cluster.config.nodes
      less = stepped.1.within

      frames_now : frames_of node (own number later) ≡ frames_on node event past frames
      frames_now = ap (frames_of node) (own_first moved earlier) ∙ frames_step node event past

      frames_there : (other : ℕ) → other ≢ number → frames_of (node_at cluster other) (own other later) ≡ frames_of (node_at cluster other) (own other earlier)
      frames_there other apart = ap (frames_of (node_at cluster other)) (own_other other moved earlier apart)

      quiet_led : IsFree past → ahead number earlier ≡ None
      quiet_led free = quiet_none cluster earlier stepped.0 number less free.quiet

      -- an event that is no item of a frame
      nobody : Nobody (trace.events position) → NodeAccounts cluster program stands trace position earlier (ahead number later)
          (frames_on node event past frames)
          → ((other : ℕ) → other ≢ number → ahead other later ≡ ahead other earlier)
          → ((message : Msg) → event ≡ Sent message → BodyAccount cluster program stands trace position earlier message.body
          × Says cluster program stands trace position earlier message.body)
          → Old → Result event
      nobody none now aheads sent it =
          let answers : AnswersAt position = λ frame acts. (let both = sym (none frame) ∙ acts in absurd (cc)) in
          let Not : FrameId → Meaning → Type 0 = NotBy cluster turns lawful program stands position moved found answers in
          let all = everywhere_always Not (λ id goes. none id) cluster earlier in
          let each = frames_on node event past frames in (
            answers,
            accounted_next cluster turns lawful program stands position moved found answers number (λ other below apart. all.at other below) all.letters
                (subst (NodeAccounts cluster program stands trace (suc position) later (ahead number later)) (sym frames_now)
                (node_same cluster turns lawful program stands position moved found answers (ahead number later) each
                (each_always Not (λ id goes. none id) (lead (ahead number later) each.stack))
                (each_always Not (λ id goes. none id) each.ready) (parked_always Not (λ id goes. none id) cluster.code each.parked) now))
                aheads frames_there
                (λ message is. let both = sent message is in (
                  body_same cluster turns lawful program stands position moved found answers message.body
                      (body_always Not (λ id goes. none id) cluster.code message.body) both.0,
                  says_same cluster turns lawful program stands position moved found answers message.body both.1,
                ))
                it,
          )

      event_reads : trace.events position ≡ happens_to cluster earlier number here event
      event_reads = event_at cluster course position moved found

      quiet_by : Nobody (happens_to cluster earlier number here event) → Nobody (trace.events position)
      quiet_by none = λ id. ap (by id) event_reads ∙ none id

      -- a post or a taking, which changes the phase of its own node alone
      changes : (after : Phase → Phase)
          → ((other : ℕ) → phase_of other later ≡ cond (eqb number other) (after (phase_of other earlier)) (phase_of other earlier))
          → Nobody (happens_to cluster earlier number here event)
          → NodeAccounts cluster program stands trace position earlier (old_in (after phase)) (frames_on node event past frames)
          → ((message : Msg) → event ≡ Sent message → BodyAccount cluster program stands trace position earlier message.body
          × Says cluster program stands trace position earlier message.body)
          → Old → Result event
      changes after phases none now sent it =
          nobody (quiet_by none)
          (subst (λ that. NodeAccounts cluster program stands trace position earlier (old_in that) (frames_on node event past frames))
          (sym (phases number ∙ ap (λ b. cond b (after phase) phase) (own_number number))) now)
          (λ other apart. ap old_in (phases other
          ∙ ap (λ b. cond b (after (phase_of other earlier)) (phase_of other earlier)) (other_number number other (λ same. apart (sym same)))))
          sent it

      frames_stay : frames_on node event past frames ≡ frames → (other : ℕ) → (other ≡ number) ⊎ (other ≢ number)
          → frames_of (node_at cluster other) (own other later) ≡ frames_of (node_at cluster other) (own other earlier)
      frames_stay now other (inl same) =
          subst (λ it. frames_of (node_at cluster it) (own it later) ≡ frames_of (node_at cluster it) (own it earlier)) (sym same) (frames_now ∙ now)
      frames_stay now other (inr apart) = frames_there other apart

      -- the frame of an act or of a tick is on the stack
      top : (frame : FrameId) (life : Life) → Acts node past frame life → (below : List Life) × (live frames.stack ≡ life ∷ below)
      top frame life acts = first_is (live frames.stack) life acts.is

      fewer : (life : Life) (below : List Life) → live frames.stack ≡ life ∷ below
          → many (named life.id) (marks (life ∷ below)) ≤ many (named life.id) (marks frames.stack)
      fewer life below is =
          subst (λ list. many (named life.id) (marks list) ≤ many (named life.id) (marks frames.stack)) is (live_within frames.stack (named life.id))

      some_there : (life : Life) (below : List Life) → live frames.stack ≡ life ∷ below → 1 ≤ many (named life.id) (marks frames.stack)
      some_there life below is =
          let less_marks = fewer life below is in
          let self = same_self life.id in
          one_more life.id self (many (named life.id) (marks below)) (many (named life.id) (marks frames.stack)) less_marks

    -- ---- items

    own_act : (frame : FrameId) (index : ℕ) (done : LoggedAct) → Found (Did (item.Act frame index done)) → AnsweredBefore cluster program stands trace position
        → IsFree past
        → MayAct node past frame index done → Old → Result (Did (item.Act frame index done))
    own_act frame index done found answered_before free may it =
        let event : Event = Did (item.Act frame index done) in
        let moved : Moved = moved_by number event here in
        let led = quiet_led event found free in
        let first = top event found frame may.life may.acts in
        let all : Stacked cluster program stands trace position earlier [] (may.life ∷ first.0) =
        subst (Stacked cluster program stands trace position earlier []) first.1
        (live_here cluster program stands trace position earlier (stepped event found).0 number (less event found) it led) in
        let reads = event_reads event found in
        let wanted = act_wanted cluster turns lawful program stands position moved found frame index done refl may all.0 in
        let answers : AnswersAt position = λ other acts.
        subst (λ (event : log.Event). Answers trace event (want_at (starts cluster.code) trace position other)) (sym reads)
        (subst (λ id. Answers trace (log.Acts number frame (act_of done)) (want_at (starts cluster.code) trace position id))
        (acts_by number frame other (act_of done) (sym (ap (by other) reads) ∙ acts)) wanted) in
        let only : Only may.life.id (trace.events position) = λ id not. ap (by id) reads
        ∙ only_actor number frame (act_of done) id (λ same. not (same ∙ may.acts.named)) in
        let some = some_there event found may.life first.0 first.1 in
        let rest = below_same cluster turns lawful program stands position moved found answers number
        (less event found) may.life.id only some may.life first.0 refl (fewer event found may.life first.0 first.1) all.2 in
        let stack = act_stack cluster turns lawful program stands position moved found answers answered_before frame index done refl may.life first.0 may.acts may.makes all rest in (
          answers,
          item_next cluster turns lawful program stands position moved found answers number (less event found) may.life.id only some
              (after_act node done (live frames.stack))
              (frames_now event found)
              (subst (Stacked cluster program stands trace (suc position) (moved ∷ earlier) [])
              (ap (after_act node done) (sym first.1) ∙ sym (lead_none (ahead number earlier) (after_act node done (live frames.stack)) led)) stack)
              (λ other apart. refl) (frames_there event found) (λ message is. absurd (cc)) it,
        )

    own_tick : (frame : FrameId) → Found (Did (item.Tick frame)) → IsFree past → MayTick node past frame → Old → Result (Did (item.Tick frame))
    own_tick frame found free may it =
        let event : Event = Did (item.Tick frame) in
        let moved : Moved = moved_by number event here in
        let led = quiet_led event found free in
        let first = top event found frame may.life may.acts in
        let all : Stacked cluster program stands trace position earlier [] (may.life ∷ first.0) =
        subst (Stacked cluster program stands trace position earlier []) first.1
        (live_here cluster program stands trace position earlier (stepped event found).0 number (less event found) it led) in
        let reads = event_reads event found in
        let wanted = tick_wanted cluster turns lawful program stands position moved found frame may all.0 in
        let answers : AnswersAt position = λ other acts.
        subst (λ (event : log.Event). Answers trace event (want_at (starts cluster.code) trace position other)) (sym reads)
        (subst (λ id. Answers trace (log.Tick number frame) (want_at (starts cluster.code) trace position id))
        (ticks_by number frame other (sym (ap (by other) reads) ∙ acts)) wanted) in
        let only : Only may.life.id (trace.events position) = λ id not. ap (by id) reads ∙ only_ticker number frame id (λ same. not (same ∙ may.acts.named)) in
        let some = some_there event found may.life first.0 first.1 in
        let rest = below_same cluster turns lawful program stands position moved found answers number
        (less event found) may.life.id only some may.life first.0 refl (fewer event found may.life first.0 first.1) all.2 in
        let stack : Stacked cluster program stands trace (suc position) (moved ∷ earlier) [] (with_first (answered Done) (may.life ∷ first.0)) = (
          life_tick cluster turns lawful program stands position moved found answers frame may.life refl may.acts.named all.0,
          aims_more cluster turns lawful program stands position moved found answers may.life (answered Done may.life) first.0 refl refl all.1,
          rest,
        ) in (
          answers,
          item_next cluster turns lawful program stands position moved found answers number (less event found) may.life.id only some
              (with_first (answered Done) (live frames.stack))
              (frames_now event found)
              (subst (Stacked cluster program stands trace (suc position) (moved ∷ earlier) []) (ap (with_first (answered Done)) (sym first.1)
              ∙ sym (lead_none (ahead number earlier) (with_first (answered Done) (live frames.stack)) led)) stack)
              (λ other apart. refl) (frames_there event found) (λ message is. absurd (cc)) it,
        )

    -- an add of its own
    module _ (frame : FrameId) (index word : ℕ) (old addend : ℤ) (found : Found (Did (item.Served frame index word old addend))) where
      abbrev served : Event
      served = Did (item.Served frame index word old addend)

      abbrev moving : Moved
      moving = moved_by number served here

      -- the event for any node that asked
      module _ (asker : ℕ) (within : asker < cluster.config.nodes)
          (reads : item_of cluster number past (item.Served frame index word old addend) ≡ log.Acts asker frame (log.Add word old addend))
          (node_number : ℕ) (inside : node_number < cluster.config.nodes) (life : Life) (below : List Life) (named_so : frame ≡ life.id)
          (all : Stacked cluster program stands trace position earlier [] (life ∷ below)) (wants_add : want_of life ≡ Some (Asks (want.Add word addend)))
          (fewer_marks : many (named life.id) (marks (life ∷ below)) ≤ many (named life.id)
          (marks (stack_of (node_at cluster node_number) (own node_number earlier)))) where
        reads_so : trace.events position ≡ log.Acts asker frame (log.Add word old addend)
        reads_so = event_reads served found ∙ reads

        add_answers : AnswersAt position
        add_answers = λ other acts.
            subst (λ (event : log.Event). Answers trace event (want_at (starts cluster.code) trace position other)) (sym reads_so)
            (subst (λ id. want_at (starts cluster.code) trace position id ≡ Some (Asks (want.Add word addend)))
            (sym named_so ∙ acts_by asker frame other (log.Add word old addend) (sym (ap (by other) reads_so) ∙ acts))
            (account_wants cluster program stands trace position earlier life [] all.0 ∙ wants_add))

        add_only : Only life.id (trace.events position)
        add_only = λ id not. ap (by id) reads_so ∙ only_actor asker frame (log.Add word old addend) id (λ same. not (same ∙ named_so))

        add_some : 1 ≤ many (named life.id) (marks (stack_of (node_at cluster node_number) (own node_number earlier)))
        add_some = one_more life.id (same_self life.id) (many (named life.id) (marks below))
            (many (named life.id) (marks (stack_of (node_at cluster node_number) (own node_number earlier)))) fewer_marks

        add_stack : Stacked cluster program stands trace (suc position) (moving ∷ earlier) [] (added old (life ∷ below))
        add_stack = (
          life_add cluster turns lawful program stands position moving found add_answers asker frame index word old addend life refl reads named_so all.0,
          aims_more cluster turns lawful program stands position moving found add_answers life (made (Value old) life) below refl refl all.1,
          below_same cluster turns lawful program stands position moving found add_answers node_number inside life.id add_only add_some life below refl fewer_marks all.2,
        )

      own_add : IsFree past → MayAddHere node past frame index word old addend → Old → Result served
      own_add free may it =
          let life = may.add.life in
          let led = quiet_led served found free in
          let first = top served found frame life may.add.acts in
          let all : Stacked cluster program stands trace position earlier [] (life ∷ first.0) =
          subst (Stacked cluster program stands trace position earlier []) first.1
          (live_here cluster program stands trace position earlier (stepped served found).0 number (less served found) it led) in
          let reads : item_of cluster number past (item.Served frame index word old addend) ≡ log.Acts number frame (log.Add word old addend) =
          ap (λ adds. log.Acts (served_for number adds) frame (log.Add word old addend)) free.none_owed in
          let marks_less = fewer served found life first.0 first.1 in
          let within = less served found in
          let stack = add_stack number within reads number within life first.0 may.add.acts.named all may.add.wanted marks_less in
          let answers = add_answers number within reads number within life first.0 may.add.acts.named all may.add.wanted marks_less in
          let now : frames_on node served past frames ≡ record frames { stack = added old (live frames.stack) } = rw free.none_owed refl in (
            answers,
            item_next cluster turns lawful program stands position moving found answers number within life.id
                (add_only number within reads number within life first.0 may.add.acts.named all may.add.wanted marks_less)
                (add_some number within reads number within life first.0 may.add.acts.named all may.add.wanted marks_less) (added old (live frames.stack))
                (frames_now served found ∙ now)
                (subst (Stacked cluster program stands trace (suc position) (moving ∷ earlier) []) (ap (added old) (sym first.1)
                ∙ sym (lead_none (ahead number (moving ∷ earlier)) (added old (live frames.stack))
                (ap (λ adds. old_in (after_adding number frame index old adds phase)) free.none_owed ∙ led))) stack)
                (λ other apart. ap (λ adds. old_in (after_adding other frame index old adds (phase_of other earlier))) free.none_owed)
                (frames_there served found)
                (λ message is. absurd (cc)) it,
          )

      -- that of another node, which the home owes
      other_add : AddsAsked → Serves node past frame index word old addend → Old → Result served
      other_add asked serves it =
          let sender = serves.add.sender in
          let facts = asked position number here frame index word old addend found serves in
          let life = facts.2 in
          let below = facts.3 in
          let there = frames_of (node_at cluster sender) (own sender earlier) in
          let before_it : Stacked cluster program stands trace position earlier [] (lead None there.stack) =
          subst (λ one. Stacked cluster program stands trace position earlier [] (lead one there.stack)) facts.1 (it.nodes sender facts.0).stack in
          let all : Stacked cluster program stands trace position earlier [] (life ∷ below) =
          subst (Stacked cluster program stands trace position earlier []) facts.4 before_it in
          let reads : item_of cluster number past (item.Served frame index word old addend) ≡ log.Acts sender frame (log.Add word old addend) =
          ap (λ adds. log.Acts (served_for number adds) frame (log.Add word old addend)) serves.oldest in
          let marks_less : many (named life.id) (marks (life ∷ below)) ≤ many (named life.id) (marks there.stack) =
          subst (λ list. many (named life.id) (marks list) ≤ many (named life.id) (marks there.stack)) facts.4
          (no_more (many (named life.id) (marks there.stack))) in
          let stack = add_stack sender facts.0 reads sender facts.0 life below (sym facts.5) all facts.6 marks_less in
          let answers = add_answers sender facts.0 reads sender facts.0 life below (sym facts.5) all facts.6 marks_less in
          let now : frames_on node served past frames ≡ frames = rw serves.oldest refl in
          let stays : (other : ℕ) → frames_of (node_at cluster other) (own other (moving ∷ earlier)) ≡ frames_of (node_at cluster other) (own other earlier) =
          λ other. frames_stay served found now other (one_or_two other number) in
          let phases = phased cluster earlier (stepped served found).0 in
          let told : ahead sender (moving ∷ earlier) ≡ Some old =
          ap old_in (phase_asker cluster earlier number here (less served found) phases frame index word old addend serves) in (
            answers,
            item_next cluster turns lawful program stands position moving found answers sender facts.0 life.id
                (add_only sender facts.0 reads sender facts.0 life below (sym facts.5) all facts.6 marks_less)
                (add_some sender facts.0 reads sender facts.0 life below (sym facts.5) all facts.6 marks_less) there.stack (stays sender)
                (subst (λ one. Stacked cluster program stands trace (suc position) (moving ∷ earlier) [] (lead one there.stack)) (sym told)
                (subst (λ list. Stacked cluster program stands trace (suc position) (moving ∷ earlier) [] (added old list)) (sym facts.4) stack))
                (λ other apart. ap old_in (phase_others cluster earlier number here (less served found) phases frame index word old addend serves other
                (other_number sender other (λ same. apart (sym same))))) (λ other apart. stays other)
                (λ message is. absurd (cc)) it,
          )

    -- ---- all items

    did_next : AddsAsked → AnsweredBefore cluster program stands trace position → (done : Item) → Found (Did done) → (rest : List Item) (posts : List Msg)
        → IsOwed node past done ⊎ (IsFree past × MayDo node past done rest posts) → Old → Result (Did done)
    did_next asked answered_before (item.Act frame index act) found rest posts (inl owed) it = absurd owed
    did_next asked answered_before (item.Act frame index act) found rest posts (inr both) it = own_act frame index act found answered_before both.0 both.1 it
    did_next asked answered_before (item.Tick frame) found rest posts (inl owed) it = absurd owed
    did_next asked answered_before (item.Tick frame) found rest posts (inr both) it = own_tick frame found both.0 both.1 it
    did_next asked answered_before (item.Drop page) found rest posts may it =
        nobody (Did (item.Drop page)) found (quiet_by (Did (item.Drop page)) found (no_drop number page)) (it.nodes number (less (Did (item.Drop page)) found))
        (λ other apart. refl) (λ message is. absurd (cc)) it
    did_next asked answered_before (item.TakeUp frame) found rest posts (inl owed) it = absurd owed
    did_next asked answered_before (item.TakeUp frame) found rest posts (inr both) it =
        let event : Event = Did (item.TakeUp frame) in
        nobody event found (quiet_by event found (no_take number frame))
        (taken_node cluster program stands trace position earlier (stepped event found).0 number (less event found) it (quiet_led event found both.0))
        (λ other apart. refl) (λ message is. absurd (cc)) it
    did_next asked answered_before (item.OwnFetch page words) found rest posts (inl owed) it = absurd owed
    did_next asked answered_before (item.OwnFetch page words) found rest posts (inr both) it =
        let event : Event = Did (item.OwnFetch page words) in
        nobody event found (quiet_by event found (no_fetch number page (words_of cluster words)))
        (live_node cluster program stands trace position earlier (stepped event found).0 number (less event found) it (quiet_led event found both.0))
        (λ other apart. refl) (λ message is. absurd (cc)) it
    did_next asked answered_before (item.OwnReconcile part) found rest posts may it =
        nobody (Did (item.OwnReconcile part)) found (quiet_by (Did (item.OwnReconcile part)) found (no_reconcile number (part_of cluster part)))
        (it.nodes number (less (Did (item.OwnReconcile part)) found)) (λ other apart. refl) (λ message is. absurd (cc)) it
    did_next asked answered_before (item.Served frame index word old addend) found rest posts (inl serves) it =
        other_add frame index word old addend found asked serves it
    did_next asked answered_before (item.Served frame index word old addend) found rest posts (inr both) it =
        own_add frame index word old addend found both.0 both.1 it

    -- ---- posts

    module _ (message : Msg) (found : Found (Sent message)) (it : Old) where
      abbrev sending : Event
      sending = Sent message

      abbrev Keeps : Body → Type 0
      Keeps said =
          NodeAccounts cluster program stands trace position earlier (old_in (after_post said phase)) (record frames { stack = stack_sent said frames.stack })

      same_message : (first other : Msg) → Sent first ≡ Sent other → first ≡ other
      same_message first other same = cc

      sent_so : (said : Body) → message.body ≡ said → Keeps said → BodyAccount cluster program stands trace position earlier said
          → Says cluster program stands trace position earlier said
          → Result sending
      sent_so said is keeps account says =
          changes sending found (after_post message.body) (λ other. refl) (no_post number message.receiver (note_of cluster number earlier message.body))
          (subst Keeps (sym is) keeps)
          (λ other same. subst (λ (it : Msg). BodyAccount cluster program stands trace position earlier it.body
          × Says cluster program stands trace position earlier it.body)
          (same_message message other same) (
            subst (BodyAccount cluster program stands trace position earlier) (sym is) account,
            subst (Says cluster program stands trace position earlier)
                (sym is) says,
          )) it

      abbrev before_so : Stepped cluster earlier
      before_so = (stepped sending found).0

      abbrev within_so : number < cluster.config.nodes
      within_so = less sending found

      abbrev same_here : NodeAccounts cluster program stands trace position earlier (ahead number earlier) frames
      same_here = it.nodes number within_so

      told_other : (join : JoinId) (index : ℕ) (value : ℤ) (join' : JoinId) (index' : ℕ) (value' : ℤ)
          → body.Done join index value ≡ body.Done join' index' value'
          → Tells cluster program stands trace position earlier join index value → Tells cluster program stands trace position earlier join' index' value'
      told_other join index value join' index' value' same tells =
          let joins : join ≡ join' = cc in
          let places : index ≡ index' = cc in
          let values : value ≡ value' = cc in
          subst (λ it. Tells cluster program stands trace position earlier it index' value') joins
          (subst (λ it. Tells cluster program stands trace position earlier join it value') places
          (subst (Tells cluster program stands trace position earlier join index) values tells))

      done_told : (join : JoinId) (index : ℕ) (value : ℤ) → Tells cluster program stands trace position earlier join index value
          → Says cluster program stands trace position earlier (body.Done join index value)
      done_told join index value tells = λ join' index' value' same. told_other join index value join' index' value' same tells

      sent_next : (said : Body) → message.body ≡ said → (replies_in said ≡ true) ⊎ MayPost node past message.receiver said → Result sending
      sent_next (body.Fetch page) is (inl reply) = absurd (cc)
      sent_next (body.Fetch page) is (inr may) =
          sent_so (body.Fetch page) is
          (live_node cluster program stands trace position earlier before_so number within_so it
          (quiet_none cluster earlier before_so number within_so may.quiet)) tt (λ join' index' value' same. absurd (cc))
      sent_next (body.Page page words) is may = sent_so (body.Page page words) is same_here tt (λ join' index' value' same. absurd (cc))
      sent_next (body.Reconcile parts) is may = sent_so (body.Reconcile parts) is same_here tt (λ join' index' value' same. absurd (cc))
      sent_next body.Ack is may = sent_so body.Ack is same_here tt (λ join' index' value' same. absurd (cc))
      sent_next body.Ask is may = sent_so body.Ask is same_here tt (λ join' index' value' same. absurd (cc))
      sent_next (body.Grant closure) is (inl reply) = absurd (cc)
      sent_next (body.Grant closure) is (inr may) =
          let has = granted cluster (moved_by number sending here) earlier (stepped sending found).1 (tied cluster earlier before_so) message closure refl is in
          let both = grant_node cluster program stands trace position earlier before_so number within_so it message closure
          (record { may = has.may; child = has.child; born = has.born; parent = has.parent }) in
          sent_so (body.Grant closure) is both.0 both.1 (λ join' index' value' same. absurd (cc))
      sent_next body.Refuse is may = sent_so body.Refuse is same_here tt (λ join' index' value' same. absurd (cc))
      sent_next (body.Done join index value) is (inl reply) = absurd (cc)
      sent_next (body.Done join index value) is (inr may) =
          sent_so (body.Done join index value) is (empty_node cluster program stands trace position earlier before_so number within_so it) tt
          (done_told join index value (done_says cluster program stands trace position earlier before_so number within_so it message.receiver join index value may))
      sent_next (body.Park join closure) is (inl reply) = absurd (cc)
      sent_next (body.Park join closure) is (inr may) =
          sent_so (body.Park join closure) is (empty_node cluster program stands trace position earlier before_so number within_so it)
          (park_closure cluster program stands trace position earlier before_so number within_so it message.receiver join closure may)
          (λ join' index' value' same. absurd (cc))
      sent_next (body.Add frame index word addend) is (inl reply) = absurd (cc)
      sent_next (body.Add frame index word addend) is (inr may) =
          let none = quiet_none cluster earlier before_so number within_so may.quiet in
          sent_so (body.Add frame index word addend) is
          (subst (λ led. NodeAccounts cluster program stands trace position earlier led (record frames { stack = live frames.stack })) none
          (live_node cluster program stands trace position earlier before_so number within_so it none)) tt (λ join' index' value' same. absurd (cc))
      sent_next (body.Added old) is may = sent_so (body.Added old) is same_here tt (λ join' index' value' same. absurd (cc))

    -- ---- takings

    module _ (message : Msg) (found : Found (Took message)) (it : Old) where
      abbrev taking : Event
      taking = Took message

      abbrev Holds : Body → Phase → Type 0
      Holds said after = NodeAccounts cluster program stands trace position earlier (old_in after) (frames_took node said (Took message ∷ past) frames)

      took_so : (said : Body) → message.body ≡ said → Holds said (after_taking said phase) → Result taking
      took_so said is holds =
          changes taking found (after_taking message.body) (λ other. refl) (no_took number (taken_from earlier here))
          (subst (λ said. Holds said (after_taking said phase)) (sym is) holds) (λ other same. absurd (cc)) it

      took_plain : (said : Body) → message.body ≡ said → after_taking said phase ≡ phase → ((old : ℤ) → said ≡ body.Added old → ⊥) → Result taking
      took_plain said is same not =
          took_so said is
          (subst (Holds said) (sym same)
          (took_node cluster program stands trace position earlier (stepped taking found).0 number (less taking found) it here message
          (stepped taking found).1.carries said is not))

      took_next : OldComes → (said : Body) → message.body ≡ said → Result taking
      took_next comes (body.Fetch page) is = took_plain (body.Fetch page) is refl (λ old same. absurd (cc))
      took_next comes (body.Page page words) is = took_plain (body.Page page words) is refl (λ old same. absurd (cc))
      took_next comes (body.Reconcile parts) is = took_plain (body.Reconcile parts) is refl (λ old same. absurd (cc))
      took_next comes body.Ack is = took_plain body.Ack is refl (λ old same. absurd (cc))
      took_next comes body.Ask is = took_plain body.Ask is refl (λ old same. absurd (cc))
      took_next comes (body.Grant closure) is = took_plain (body.Grant closure) is refl (λ old same. absurd (cc))
      took_next comes body.Refuse is = took_plain body.Refuse is refl (λ old same. absurd (cc))
      took_next comes (body.Done join index value) is = took_plain (body.Done join index value) is refl (λ old same. absurd (cc))
      took_next comes (body.Park join closure) is = took_plain (body.Park join closure) is refl (λ old same. absurd (cc))
      took_next comes (body.Add frame index word addend) is = took_plain (body.Add frame index word addend) is refl (λ old same. absurd (cc))
      took_next comes (body.Added old) is =
          took_so (body.Added old) is
          (added_node cluster program stands trace position earlier (stepped taking found).0 number (less taking found) it here message
          (stepped taking found).1.carries old
          (comes position number here message old found is))

    -- ---- each event

    pub event_next : OldComes → AddsAsked → AnsweredBefore cluster program stands trace position → (event : Event) → Found event → Old → Result event
    event_next comes asked answered_before (Did done) found it =
        let does = (stepped (Did done) found).1.allowed in did_next asked answered_before done found does.rest does.posts does.may it
    event_next comes asked answered_before (Sent message) found it =
        sent_next message found it message.body refl (may_post node past message (stepped (Sent message) found).1.allowed)
    event_next comes asked answered_before (Took message) found it = took_next message found it comes message.body refl
    event_next comes asked answered_before (Ended end) found it =
        nobody (Ended end) found (quiet_by (Ended end) found (no_end number)) (it.nodes number (less (Ended end) found)) (λ other apart. refl)
        (λ message is. absurd (cc)) it
