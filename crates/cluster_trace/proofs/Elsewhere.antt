-- The frame of an item is nowhere else, so that each other frame keeps its account.
use Rattle.std.proofs.Common.{◌≡◌, ◌≢◌, ℕ, suc, ◌+◌, ◌<◌, ◌≤◌, List, [], ◌∷◌, Some, Bool, true, false, refl, sym, ◌∙◌, ap, arith}
use Rattle.backer_order.specs.Log as log
use Rattle.cilk_meaning.specs.Resolved.{Program}
use Rattle.machine_code.specs.Machine.{starts}
use Rattle.machine_code.specs.StandsFor.{StandsFor}
use Rattle.page_messages.specs.declared.closure.FrameId.{FrameId}
use Rattle.cluster_rules.specs.Turns.{WholeTurn}
use Rattle.cluster_rules.specs.Lives.{Life, same_frame, carried}
use Rattle.cluster_rules.specs.Frames.{Frames, Parked, frames_of, stack_of}
use Rattle.cluster_rules.specs.Positions.{Moved, Course, course_of, own, at, before}
use Rattle.cluster_rules.specs.Runs.{Cluster, IsLawful, node_at}
use Rattle.cluster_rules.proofs.Stepping.{Stepped}
use Rattle.cluster_rules.proofs.Letters.{letters_of}
use Rattle.cluster_rules.proofs.Summing.{sum_below, sum_one, sum_two}
use Rattle.cluster_rules.proofs.Marks.{one, many, named, marks, parked_marks, other_marks, marks_of, many_append, same_name, same_self}
use Rattle.cluster_rules.proofs.Holding.{at_node, held_once}
use Rattle.cluster_edges.proofs.Anywhere.{Saying, Each, EachParked, EachLetter, InFrames}
use Rattle.cluster_edges.proofs.Lone.{none_each, none_parked, none_letters, none_frames}
use Rattle.determinacy.specs.Replies.{Trace, by, want_at, Answers}
use Rattle.cluster_trace.specs.Instances.{trace_of}
use Rattle.cluster_trace.proofs.Standing.{Stacked}
use Rattle.cluster_trace.proofs.Placing.{AllLives, AllParked}
use Rattle.cluster_trace.proofs.Going.{life_same}

-- ---- where the frame is not

-- it is another frame
abbrev pub Other : FrameId → Saying
Other frame id goes = id ≡ frame → ⊥

module _ (cluster : Cluster) (course : Course) (stepped : Stepped cluster course) (frame : FrameId) (number : ℕ) (less : number < cluster.config.nodes)
    (here : 1 ≤ many (named frame) (marks (stack_of (node_at cluster number) (own number course)))) where
  abbrev frames : ℕ → Frames
  frames other = frames_of (node_at cluster other) (own other course)

  parts : many (named frame) (marks_of (frames number)) ≡ many (named frame) (marks (frames number).stack) + many (named frame) (other_marks (frames number))
  parts = many_append (named frame) (marks (frames number).stack) (other_marks (frames number))

  within : at_node cluster course (named frame) number ≤ sum_below cluster.config.nodes (at_node cluster course (named frame))
  within = sum_one cluster.config.nodes (at_node cluster course (named frame)) number less

  pub once_there : many (named frame) (marks (frames number).stack) ≤ 1
  once_there = let once = held_once cluster course stepped frame in let a = within in let b = parts in omega (arith, once, a, b)

  none_beside : many (named frame) (other_marks (frames number)) ≡ 0
  none_beside = let once = held_once cluster course stepped frame in let a = within in let b = parts in let some = here in omega (arith, once, a, b, some)

  pub not_ready : Each (Other frame) (frames number).ready
  not_ready =
      let a = many_append (named frame) (marks (frames number).ready) (parked_marks (frames number).parked) in
      let none = none_beside in none_each frame (λ goes. ⊥) (frames number).ready (omega (arith, a, none))

  pub not_parked : EachParked cluster.code (Other frame) (frames number).parked
  not_parked =
      let a = many_append (named frame) (marks (frames number).ready) (parked_marks (frames number).parked) in
      let none = none_beside in none_parked frame (λ goes. ⊥) cluster.code (frames number).parked (omega (arith, a, none))

  pub not_there : (other : ℕ) → other < cluster.config.nodes → other ≢ number → InFrames cluster.code (Other frame) (frames other)
  not_there other below apart =
      let once = held_once cluster course stepped frame in
      let both = sum_two cluster.config.nodes (at_node cluster course (named frame)) other number below less apart in
      let b = parts in let some = here in
      none_frames frame (λ goes. ⊥) cluster.code (frames other) (omega (arith, once, both, b, some))

  pub not_letters : EachLetter cluster.code (Other frame) (letters_of course)
  not_letters =
      let once = held_once cluster course stepped frame in
      let a = within in let b = parts in let some = here in
      none_letters frame (λ goes. ⊥) cluster.code (letters_of course) (omega (arith, once, a, b, some))

  -- those below it
  pub not_below : (life : Life) (below : List Life) → life.id ≡ frame
      → many (named frame) (marks (life ∷ below)) ≤ many (named frame) (marks (frames number).stack) → Each (Other frame) below
  not_below life below is less_marks =
      let once = once_there in
      let mark : one (same_frame life.id frame) ≡ 1 = ap (λ id. one (same_frame id frame)) is ∙ ap one (same_self frame) in
      none_each frame (λ goes. ⊥) below (omega (arith, once, mark, less_marks))

-- ---- by the event

by_actor_only : (node : ℕ) (frame id : FrameId) (done : log.Act) → (id ≡ frame → ⊥) → by id (log.Acts node frame done) ≡ false
unfolding by
by_actor_only node frame id done not = on (same_frame frame id) refl
  where
    on : (b : Bool) → same_frame frame id ≡ b → b ≡ false
    on true is = absurd (not (sym (same_name frame id is)))
    on false is = refl

by_ticker_only : (node : ℕ) (frame id : FrameId) → (id ≡ frame → ⊥) → by id (log.Tick node frame) ≡ false
unfolding by
by_ticker_only node frame id not = on (same_frame frame id) refl
  where
    on : (b : Bool) → same_frame frame id ≡ b → b ≡ false
    on true is = absurd (not (sym (same_name frame id is)))
    on false is = refl

-- it is no item of another frame
abbrev pub Only : FrameId → log.Event → Type 0
Only frame event = (id : FrameId) → (id ≡ frame → ⊥) → by id event ≡ false

pub only_actor : (node : ℕ) (frame : FrameId) (done : log.Act) → Only frame (log.Acts node frame done)
only_actor node frame done = λ id not. by_actor_only node frame id done not

pub only_ticker : (node : ℕ) (frame : FrameId) → Only frame (log.Tick node frame)
only_ticker node frame = λ id not. by_ticker_only node frame id not

-- ---- accounts

module _ (cluster : Cluster) (turns : List WholeTurn) (lawful : IsLawful cluster turns) (program : Program) (stands : StandsFor cluster.code program) where
  abbrev course : Course
  course = course_of turns

  abbrev trace : Trace
  trace = trace_of cluster course

  module _ (position : ℕ) (moved : Moved) (found : at course position ≡ Some moved)
      (answers : (frame : FrameId) → by frame (trace.events position) ≡ true
      → Answers trace (trace.events position) (want_at (starts cluster.code) trace position frame)) where
    abbrev earlier : Course
    earlier = before course position

    abbrev later : Course
    later = moved ∷ earlier

    -- no item of it
    abbrev pub NotBy : Saying
    NotBy id goes = by id (trace.events position) ≡ false

    pub stack_same : (above : List FrameId) (stack : List Life) → Each NotBy stack → Stacked cluster program stands trace position earlier above stack
        → Stacked cluster program stands trace (suc position) later above stack
    stack_same above [] not all = tt
    stack_same above (life ∷ below) not all = (
      life_same cluster turns lawful program stands position moved found answers life above not.0 all.0,
      all.1,
      stack_same (life.id ∷ []) below not.1 all.2,
    )

    pub lives_same : (lives : List Life) → Each NotBy lives → AllLives cluster program stands trace position earlier lives
        → AllLives cluster program stands trace (suc position) later lives
    lives_same [] not all = tt
    lives_same (life ∷ lives) not all =
        (life_same cluster turns lawful program stands position moved found answers life [] not.0 all.0, lives_same lives not.1 all.1)

    pub parked_same : (parked : List Parked) → EachParked cluster.code NotBy parked → AllParked cluster program stands trace position earlier parked
        → AllParked cluster program stands trace (suc position) later parked
    parked_same [] not all = tt
    parked_same (first ∷ parked) not all = (
      life_same cluster turns lawful program stands position moved found answers (carried (node_at cluster 0) first.closure) [] not.0 all.0,
      parked_same parked not.1 all.1,
    )
