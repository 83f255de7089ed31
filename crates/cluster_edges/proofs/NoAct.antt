-- A frame that has returned makes no act.
use Rattle.std.proofs.Common.{◌≡◌, ◌⊎◌, inl, inr, ℕ, zero, suc, ℤ, ◌<◌, List, [], ◌∷◌, Option, Some, None, true, is_some, refl, sym, ◌∙◌, ap, subst}
use Rattle.cilk_meaning.specs.Serve as serving
use Rattle.cilk_meaning.specs.Serve.{now, after}
use Rattle.cilk_meaning.specs.Wants as want
use Rattle.cilk_meaning.specs.Wants.{Want, Asks, Deposit, Answer, Value}
use Rattle.page_messages.specs.declared.closure.FrameId.{FrameId}
use Rattle.page_messages.specs.declared.message.Body.{Body}
use Rattle.page_messages.specs.declared.message.Body.TheVariants as body
use Rattle.page_messages.specs.declared.log.Item.TheVariants as item
use Rattle.cluster_rules.specs.Turns.{WholeTurn, Event, Did, Sent, Took, Ended, Past}
use Rattle.cluster_rules.specs.Lives.{Life, value_in, returned, live}
use Rattle.cluster_rules.specs.Frames.{stack_of}
use Rattle.cluster_rules.specs.Acting.{Acts, MayAddHere, Serves as DoesOwed}
use Rattle.cluster_rules.specs.Runs.{Cluster, IsLawful, IsFree, node_at}
use Rattle.cluster_rules.specs.Positions.{Moved, Course, course_of, own, at, before, Happens}
use Rattle.cluster_rules.proofs.Stepping.{Step, Stepped, lawful_stepped, stepped_before}
use Rattle.cluster_rules.proofs.Marks.{first_is}
use Rattle.backer_order.specs.Log as log
use Rattle.backer_order.specs.Edges.{ActOf}
use Rattle.cluster_order.specs.Standing.{first, has_returned, returns_of}
use Rattle.cluster_order.proofs.Fronts.{first_none, first_next, first_same, first_at}
use Rattle.cluster_order.proofs.Events.{acted_is, Acted, Served}
use Rattle.cluster_order.proofs.Accesses.{ev}
use Rattle.cluster_order.proofs.Lawful.{act_allowed, served_allowed}
use Rattle.cluster_edges.proofs.Anywhere.{Each, Everywhere, live_each}
use Rattle.cluster_edges.proofs.Onward.{Keeps, Answers, ByBody, everywhere_next}
use Rattle.cluster_edges.proofs.Asking.{AsksFirst, asks_life, step_at}
use Rattle.cluster_edges.proofs.AskedThere.{asks_told, asks_served}
use Rattle.cluster_edges.proofs.Returned.{IsReturned, StaysReturned, standing_everywhere, grown, known_returned, wants_none, makes_none, child_unknown}

module _ (cluster : Cluster) (turns : List WholeTurn) (lawful : IsLawful cluster turns) where
  abbrev course : Course
  course = course_of turns

  abbrev past : ℕ → ℕ → Past
  past number position = own number (before course position)

  pub stepped_then : (position : ℕ) → Stepped cluster (before course position)
  stepped_then position = stepped_before cluster course (lawful_stepped cluster turns lawful) position

  pub step_then : (position : ℕ) (moved : Moved) → at course position ≡ Some moved → Step cluster (before course position) moved
  step_then position moved found = step_at cluster course (lawful_stepped cluster turns lawful) position moved found

  pub stepped_next : (position : ℕ) (moved : Moved) → at course position ≡ Some moved → Stepped cluster (moved ∷ before course position)
  stepped_next position moved found = (stepped_then position, step_then position moved found)

  -- what an event answers wanted something
  answers_none : (position : ℕ) (moved : Moved) → at course position ≡ Some moved → (event : Event) → moved.event ≡ event → (life : Life) (answer : Answer)
      → Answers (node_at cluster moved.node) (past moved.node position) event life answer → IsReturned life.goes → ⊥
  answers_none position moved found (Did (item.Act frame index done)) is life answer by returned =
      makes_none (node_at cluster moved.node) (past moved.node position) done life by.1 returned
  answers_none position moved found (Did (item.Tick frame)) is life answer by returned = elim by.1 [
    | inl calls ↦ wants_none life want.Call calls returned
    | inr turns ↦ wants_none life want.LoopTurn turns returned
  ]
  answers_none position moved found (Did (item.Drop page)) is life answer by returned = absurd by
  answers_none position moved found (Did (item.TakeUp frame)) is life answer by returned = absurd by
  answers_none position moved found (Did (item.OwnFetch page words)) is life answer by returned = absurd by
  answers_none position moved found (Did (item.OwnReconcile part)) is life answer by returned = absurd by
  answers_none position moved found (Did (item.Served frame index word old addend)) is life answer by returned =
      wants_none life (want.Add word addend) by.1 returned
  answers_none position moved found (Sent message) is life answer by returned = absurd by
  answers_none position moved found (Ended end) is life answer by returned = absurd by
  answers_none position moved found (Took message) is life answer by returned = on message.body refl by
    where
      on : (said : Body) → message.body ≡ said → ByBody (node_at cluster moved.node) (past moved.node position) said life answer → ⊥
      on (body.Fetch page) says by = absurd by
      on (body.Page page words) says by = absurd by
      on (body.Reconcile parts) says by = absurd by
      on body.Ack says by = absurd by
      on body.Ask says by = absurd by
      on (body.Grant closure) says by = absurd by
      on body.Refuse says by = absurd by
      on (body.Done join index value) says by = absurd by
      on (body.Park join closure) says by = absurd by
      on (body.Add frame index word addend) says by = absurd by
      on (body.Added old) says by =
          let told = asks_told cluster turns lawful moved.node position message old (record { moved = moved; is = found; by = refl; event_is = is }) says in
          let asks : AsksFirst told.0 told.1 told.2 (life ∷ by.0) = subst (AsksFirst told.0 told.1 told.2) by.1 told.3 in
          wants_none life (want.Add told.1 told.2) asks.1 returned

  keeps_returned : (position : ℕ) (moved : Moved) → at course position ≡ Some moved
      → Keeps (node_at cluster moved.node) (past moved.node position) moved.event (StaysReturned cluster (before course position))
      (StaysReturned cluster (before course position))
  keeps_returned position moved found = record {
    same = λ id goes stays. stays;
    closes = λ id goes other kept equal stays has. ap (λ wants. is_some (value_in (serving.first_of wants))) (equal []) ∙ stays has;
    acts = λ life answer by stays has. absurd (answers_none position moved found moved.event refl life answer by (stays has));
    born = λ frame index child procedure arguments life is acts spawns has.
        absurd (known_returned cluster child (before course position) (stepped_then position) has
        (child_unknown cluster (before course position) moved.node child spawns.name));
  }

  started_returned : Everywhere cluster [] (StaysReturned cluster [])
  started_returned = standing_everywhere cluster [] tt

  -- A frame that has returned is returned, wherever it is.
  pub stays_returned : (position : ℕ) → Everywhere cluster (first position course) (StaysReturned cluster (first position course))
  stays_returned zero = subst (λ it. Everywhere cluster it (StaysReturned cluster it)) (sym (first_none course)) started_returned
  stays_returned (suc position) = on (at course position) refl (stays_returned position)
    where
      on : (option : Option Moved) → at course position ≡ option → Everywhere cluster (first position course) (StaysReturned cluster (first position course))
          → Everywhere cluster (first (suc position) course) (StaysReturned cluster (first (suc position) course))
      on None none rest = subst (λ it. Everywhere cluster it (StaysReturned cluster it)) (sym (first_same position course none)) rest
      on (Some moved) found rest =
          let before_it = subst (λ it. Everywhere cluster it (StaysReturned cluster it)) (first_at position course moved found) rest in
          subst (λ it. Everywhere cluster it (StaysReturned cluster it)) (sym (first_next position course moved found))
          (grown cluster (before course position) moved (stepped_next position moved found)
          (everywhere_next cluster (before course position) moved (stepped_then position) (step_then position moved found)
          (StaysReturned cluster (before course position))
          (StaysReturned cluster (before course position)) (keeps_returned position moved found) before_it))

  -- ---- acts

  module _ (position : ℕ) (moved : Moved) (found : at course position ≡ Some moved) (frame : FrameId)
      (has : has_returned cluster frame (before course position) ≡ true) where
    everywhere_there : Everywhere cluster (before course position) (StaysReturned cluster (before course position))
    everywhere_there = subst (λ it. Everywhere cluster it (StaysReturned cluster it)) (first_at position course moved found) (stays_returned position)

    -- the frame that acts has not returned
    acts_returned : (number : ℕ) → number < cluster.config.nodes → (life : Life) → Acts (node_at cluster number) (past number position) frame life
        → IsReturned life.goes
    acts_returned number less life acts =
        let stack = stack_of (node_at cluster number) (past number position) in
        let top = first_is (live stack) life acts.is in
        let all = subst (Each (StaysReturned cluster (before course position))) top.1
        (live_each (StaysReturned cluster (before course position)) stack (everywhere_there.at number less).stack) in
        all.0 (subst (λ it. has_returned cluster it (before course position) ≡ true) acts.named has)

    -- nor has the one that waits for an add
    asks_returned : (number : ℕ) → number < cluster.config.nodes → (word : ℕ) (addend : ℤ)
        → AsksFirst frame word addend (stack_of (node_at cluster number) (past number position)) → ⊥
    asks_returned number less word addend asks =
        let first = asks_life frame word addend (stack_of (node_at cluster number) (past number position)) asks in
        let all = subst (Each (StaysReturned cluster (before course position))) first.2 (everywhere_there.at number less).stack in
        wants_none first.0 (want.Add word addend) first.4 (all.0 (subst (λ it. has_returned cluster it (before course position) ≡ true) (sym first.3) has))

    within : (number : ℕ) → moved.node ≡ number → number < cluster.config.nodes
    within number by = subst (λ it. it < cluster.config.nodes) by (step_then position moved found).within

    same_moved : (other : Moved) → at course position ≡ Some other → other ≡ moved
    same_moved other is = let some : Some other ≡ Some moved = sym is ∙ found in cc

    number_within : (number : ℕ) (event : Event) → Happens course number position event → number < cluster.config.nodes
    number_within number event happens = within number (ap (λ it. it.node) (sym (same_moved happens.moved happens.is)) ∙ happens.by)

    pub no_act_there : (number : ℕ) (done : log.Act) → ev cluster turns lawful position ≡ log.Acts number frame done → ⊥
    no_act_there number done is = on (acted_is cluster course position number frame done is)
      where
        own_or_owed : (home index word : ℕ) (old addend : ℤ) → Happens course home position (Did (item.Served frame index word old addend))
            → DoesOwed (node_at cluster home) (past home position) frame index word old addend
            ⊎ (IsFree (past home position) × MayAddHere (node_at cluster home) (past home position) frame index word old addend) → ⊥
        own_or_owed home index word old addend happens (inl owes) =
            let it = asks_served cluster turns lawful home position frame index word old addend happens owes in
            asks_returned owes.add.sender it.0 word addend it.1
        own_or_owed home index word old addend happens (inr may) =
            let add = may.1.add in
            wants_none add.life (want.Add word addend) add.wanted
            (acts_returned home (number_within home (Did (item.Served frame index word old addend)) happens) add.life add.acts)

        on : Acted cluster course position number frame done ⊎ Served cluster course position number frame done → ⊥
        on (inl it) =
            let may = (act_allowed cluster turns lawful number position frame it.index it.act it.is).1 in
            makes_none (node_at cluster number) (past number position) it.act may.life may.makes
            (acts_returned number (number_within number (Did (item.Act frame it.index it.act)) it.is) may.life may.acts)
        on (inr it) =
            own_or_owed it.home it.index it.word it.old it.addend it.is
            (served_allowed cluster turns lawful it.home position frame it.index it.word it.old it.addend it.is)

  -- A frame that has returned makes no act.
  pub no_act : (position : ℕ) (frame : FrameId) → returns_of cluster course position frame ≡ true → ActOf (ev cluster turns lawful) frame position → ⊥
  no_act position frame has acts = on (at course position) refl
    where
      on : (option : Option Moved) → at course position ≡ option → ⊥
      on None none = let nothing : log.Nothing ≡ log.Acts acts.0 frame acts.1 = sym (rw none refl) ∙ acts.2 in absurd (cc)
      on (Some moved) found =
          no_act_there position moved found frame (ap (has_returned cluster frame) (sym (first_at position course moved found)) ∙ has) acts.0 acts.1 acts.2
