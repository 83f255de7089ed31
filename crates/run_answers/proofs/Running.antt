-- The rows of a run's history run what the frames of its execution run: each has the procedure and the arguments of the Spawn that made it.
use Rattle.std.proofs.Common.{◌≡◌, ◌⊎◌, inl, inr, ℕ, ◌<◌, ℤ, List, [], ◌∷◌, ◌++◌, Option, Some, None, Bool, true, false, cond, length, map, reverse, refl, sym, ◌∙◌, ap, subst, arith}
use Rattle.std.proofs.lemmas.List.{get_or-map}
use Rattle.std.proofs.lemmas.List.Elements.{filter_map-append}
use Rattle.std.proofs.lemmas.List.Sorted.{Contains-permutation}
use Rattle.std.proofs.lemmas.Option.{slice_get-get_or, slice_get_within, get_or_from_slice_get}
use Rattle.std.specs.List.{filter_map}
use Rattle.std.specs.Prelude.{slice_get}
use Rattle.page_messages.specs.declared.closure.FrameId.{FrameId}
use Rattle.page_messages.specs.declared.log.Item.{Item}
use Rattle.page_messages.specs.declared.log.Item.TheVariants as item
use Rattle.page_messages.specs.declared.log.LoggedAct.TheVariants as act
use Rattle.span_tree.specs.declared.act.Act.{Act}
use Rattle.span_tree.specs.History.{History, Row, no_row, row_at}
use Rattle.cluster_rules.specs.Lives.{main_id, same_frame}
use Rattle.cluster_rules.specs.Walking.{given, or_else}
use Rattle.cluster_rules.specs.Turns.{WholeTurn, Event, Did, Sent, Took, Ended}
use Rattle.cluster_rules.specs.Positions.{Course, course_of}
use Rattle.cluster_rules.specs.Runs.{Cluster, IsLawful, logged}
use Rattle.cluster_rules.specs.Histories.{Birth, birth_in, birth_of, births_of, items_of, act_in, row_of, row_with, row_number, IsHistoryOf}
use Rattle.cluster_rules.proofs.Marks.{same_name}
use Rattle.cluster_rules.proofs.Places.{Spawns, WasSpawned, spawned_new}
use Rattle.cluster_rules.proofs.Stepping.{Stepped}
use Rattle.determinacy.specs.Replies.{Instance}
use Rattle.word_order.proofs.Items.{done_by, done_in, done_is}
use Rattle.word_order.proofs.Rows.{number_first}
use Rattle.trace_rows.specs.RunAs.{RunAs}
use Rattle.cluster_trace.specs.Instances.{main_instance, child_of, instance_on, instance_of, trace_of}
use Rattle.cluster_trace.proofs.Spawning.{all_stepped}

module _ {A B : Type 0} (by : A → Option B) where
  -- the first of two lists that gives something
  given_both : (front back : List A) → given by (front ++ back) ≡ or_else (given by front) (given by back)
  given_both [] back = refl
  given_both (first ∷ front) back = on (by first) (given_both front back)
    where
      on : (one : Option B) → given by (front ++ back) ≡ or_else (given by front) (given by back)
          → or_else one (given by (front ++ back)) ≡ or_else (or_else one (given by front)) (given by back)
      on None rest = rest
      on (Some value) rest = refl

module _ (cluster : Cluster) (frame : FrameId) where
  -- what a frame runs is what its birth says; what was not born is `main`
  abbrev Agrees : Option Birth → Instance → Type 0
  Agrees None instance = instance ≡ main_instance cluster
  Agrees (Some birth) instance = (birth.procedure ≡ instance.procedure) × (birth.arguments ≡ instance.arguments)

  -- the birth of the frame by an event, and in a course
  abbrev birth_on : Event → Option Birth
  birth_on event = given (birth_of frame) (births_of (done_by event))

  abbrev birth_within : Course → Option Birth
  birth_within course = given (birth_of frame) (births_of (done_in course))

  abbrev Agreed : Event → (FrameId → Instance) → Option Birth → Type 0
  Agreed event earlier past =
      Agrees (or_else past (birth_on event)) (instance_on event earlier frame) × (Spawns frame event ⊎ (or_else past (birth_on event) ≡ past))

  -- an event that is no birth leaves all
  left : (past : Option Birth) (instance : Instance) → Agrees past instance → Agrees (or_else past None) instance
  left None instance agrees = agrees
  left (Some birth) instance agrees = agrees

  same_past : (past : Option Birth) → or_else past None ≡ past
  same_past None = refl
  same_past (Some birth) = refl

  agreed_spawn : (parent : FrameId) (index : ℕ) (child : FrameId) (procedure : ℕ) (arguments : List ℤ) (earlier : FrameId → Instance) (past : Option Birth)
      → Agrees past (earlier frame) → (child ≡ frame → past ≡ None) → Agreed (Did (item.Act parent index (act.Spawn child procedure arguments))) earlier past
  agreed_spawn parent index child procedure arguments earlier past agrees none = on (same_frame child frame) refl
    where
      first_birth : (past : Option Birth) → past ≡ None
          → Agrees (or_else past (Some (record { child = child; parent = parent; index = index; procedure = procedure; arguments = arguments })))
          (child_of procedure arguments (earlier parent))
      first_birth None is = (refl, refl)
      first_birth (Some other) is = absurd (cc)

      on : (b : Bool) → same_frame child frame ≡ b
          → Agrees (or_else past (or_else
          (cond b (Some (record { child = child; parent = parent; index = index; procedure = procedure; arguments = arguments })) None) None))
          (cond b (child_of procedure arguments (earlier parent)) (earlier frame))
          × ((child ≡ frame) ⊎ (or_else past
          (or_else (cond b (Some (record { child = child; parent = parent; index = index; procedure = procedure; arguments = arguments })) None) None) ≡ past))
      on true is = let same = same_name child frame is in (first_birth past (none same), inl same)
      on false is = (left past (earlier frame) agrees, inr (same_past past))

  agreed : (event : Event) (earlier : FrameId → Instance) (past : Option Birth) → Agrees past (earlier frame) → (Spawns frame event → past ≡ None)
      → Agreed event earlier past
  agreed (Did (item.Act parent index (act.Read word value))) earlier past agrees none = (left past (earlier frame) agrees, inr (same_past past))
  agreed (Did (item.Act parent index (act.Write word value))) earlier past agrees none = (left past (earlier frame) agrees, inr (same_past past))
  agreed (Did (item.Act parent index (act.Print value))) earlier past agrees none = (left past (earlier frame) agrees, inr (same_past past))
  agreed (Did (item.Act parent index (act.Spawn child procedure arguments))) earlier past agrees none =
      agreed_spawn parent index child procedure arguments earlier past agrees none
  agreed (Did (item.Act parent index act.Sync)) earlier past agrees none = (left past (earlier frame) agrees, inr (same_past past))
  agreed (Did (item.Tick other)) earlier past agrees none = (left past (earlier frame) agrees, inr (same_past past))
  agreed (Did (item.Drop page)) earlier past agrees none = (left past (earlier frame) agrees, inr (same_past past))
  agreed (Did (item.TakeUp other)) earlier past agrees none = (left past (earlier frame) agrees, inr (same_past past))
  agreed (Did (item.OwnFetch page words)) earlier past agrees none = (left past (earlier frame) agrees, inr (same_past past))
  agreed (Did (item.OwnReconcile part)) earlier past agrees none = (left past (earlier frame) agrees, inr (same_past past))
  agreed (Did (item.Served other index word old addend)) earlier past agrees none = (left past (earlier frame) agrees, inr (same_past past))
  agreed (Sent message) earlier past agrees none = (left past (earlier frame) agrees, inr (same_past past))
  agreed (Took message) earlier past agrees none = (left past (earlier frame) agrees, inr (same_past past))
  agreed (Ended end) earlier past agrees none = (left past (earlier frame) agrees, inr (same_past past))

  birth_more : (course : Course) (event : Event) → given (birth_of frame) (births_of (done_in course ++ done_by event)) ≡ or_else (birth_within course)
      (birth_on event)
  birth_more course event =
      ap (given (birth_of frame)) (filter_map-append birth_in (done_in course) (done_by event))
      ∙ given_both (birth_of frame) (births_of (done_in course)) (births_of (done_by event))

  -- In a course a frame runs what its birth says.
  runs_birth : (course : Course) → Stepped cluster course
      → Agrees (birth_within course) (instance_of cluster course frame) × (WasSpawned frame course ⊎ (birth_within course ≡ None))
  runs_birth [] stepped = (refl, inr refl)
  runs_birth (moved ∷ course) stepped =
      let before = runs_birth course stepped.0 in
      let none : Spawns frame moved.event → birth_within course ≡ None = λ spawns. elim before.1 [
        | inl was ↦ absurd (spawned_new cluster course moved stepped frame spawns (inr was))
        | inr nothing ↦ nothing
      ] in
      let here = agreed moved.event (instance_of cluster course) (birth_within course) before.0 none in
      let same = birth_more course moved.event in (
        subst (λ it. Agrees it (instance_of cluster (moved ∷ course) frame)) (sym same) here.0,
        elim here.1 [
          | inl spawns ↦ inl (inl spawns)
          | inr still ↦ elim before.1 [ inl was ↦ inl (inr was) | inr nothing ↦ inr (same ∙ still ∙ nothing) ]
        ],
      )

  row_runs : (frames : List FrameId) (birth : Option Birth) (acts : List Act) (instance : Instance) → Agrees birth instance
      → ((row_with frames cluster.code.main birth acts).proc ≡ instance.procedure) × ((row_with frames cluster.code.main birth acts).args ≡ instance.arguments)
  row_runs frames None acts instance agrees = (sym (ap (λ (it : Instance). it.procedure) agrees), sym (ap (λ (it : Instance). it.arguments) agrees))
  row_runs frames (Some birth) acts instance agrees = agrees

module _ (cluster : Cluster) (turns : List WholeTurn) (lawful : IsLawful cluster turns) (frames : List FrameId) (history : History)
    (is_history : IsHistoryOf cluster.code.main (map logged (reverse turns)) frames history) where
  abbrev items : List Item
  items = items_of (map logged (reverse turns))

  row_is : (number : ℕ) (frame : FrameId) → slice_get frames number ≡ Some frame → row_at history number ≡ row_of frames cluster.code.main items frame
  row_is number frame is =
      ap (λ rows. row_at rows number) is_history.rows
      ∙ get_or-map (row_of frames cluster.code.main items) frames number frame no_row (slice_get_within frames number frame is)
      ∙ ap (row_of frames cluster.code.main items) (get_or_from_slice_get frames number frame frame is)

  its_run : (frame : FrameId) → ((row_of frames cluster.code.main items frame).proc ≡ (instance_of cluster (course_of turns) frame).procedure)
      × ((row_of frames cluster.code.main items frame).args ≡ (instance_of cluster (course_of turns) frame).arguments)
  its_run frame =
      row_runs cluster frame frames (given (birth_of frame) (births_of items)) (filter_map (act_in frames frame) items)
      (instance_of cluster (course_of turns) frame)
      (subst (λ it. Agrees cluster frame (given (birth_of frame) (births_of it)) (instance_of cluster (course_of turns) frame)) (done_is turns)
      (runs_birth cluster frame (course_of turns) (all_stepped cluster turns lawful)).0)

  main_row : row_number frames main_id < length frames
  main_row =
      let found = Contains-permutation _ frames main_id is_history.each_once (0, omega arith, refl) in
      let less = found.1 in
      let first = number_first frames found.0 main_id (slice_get-get_or frames found.0 main_id less ∙ ap Some found.2) in
      omega (arith, less, first)

  -- The rows of a history of a run run what the frames of its execution run.
  pub run_as : RunAs (trace_of cluster (course_of turns)) frames history
  run_as = record {
    main_there = main_row;
    procedure = λ row frame is. ap (λ (it : Row). it.proc) (row_is row frame is) ∙ (its_run frame).0;
    arguments = λ row frame is. ap (λ (it : Row). it.args) (row_is row frame is) ∙ (its_run frame).1;
  }
