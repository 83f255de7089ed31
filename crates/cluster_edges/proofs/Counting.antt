-- What a frame wants shows that it has children of its block, where it has some.
use Rattle.std.proofs.Common.{◌≡◌, ◌⊎◌, inl, inr, ℕ, suc, ℤ, List, [], ◌∷◌, ◌++◌, length, take, Option, Bool, true, false, is_some, refl, sym, ◌∙◌, ap, subst}
use Rattle.cilk_meaning.specs.Alone.{Block}
use Rattle.cilk_meaning.specs.Alone as alone
use Rattle.cilk_meaning.specs.Instance.{Meaning}
use Rattle.cilk_meaning.specs.Parted.{IsParted}
use Rattle.cilk_meaning.specs.Resolved.{Program}
use Rattle.cilk_meaning.specs.Serve.{now, after}
use Rattle.cilk_meaning.specs.Wants as want
use Rattle.cilk_meaning.specs.Wants.{Request, Asks, Answer, Value, Done}
use Rattle.machine_code.specs.Machine.{starts}
use Rattle.machine_code.specs.StandsFor.{StandsFor}
use Rattle.page_messages.specs.declared.closure.FrameId.{FrameId}
use Rattle.page_messages.specs.declared.message.Msg.{Msg}
use Rattle.page_messages.specs.declared.message.Body.{Body}
use Rattle.page_messages.specs.declared.message.Body.TheVariants as body
use Rattle.page_messages.specs.declared.log.LoggedAct.TheVariants as act
use Rattle.page_messages.specs.declared.log.Item.TheVariants as item
use Rattle.page_messages.specs.declared.log.PostAt.{PostAt}
use Rattle.cluster_rules.specs.Turns.{Event, Did, Sent, Took, Ended, Past}
use Rattle.cluster_rules.specs.Node.{Node}
use Rattle.cluster_rules.specs.Lives.{Life, same_frame, value_in, live, acted, newborn, after_act}
use Rattle.cluster_rules.specs.Frames.{frames_of, stack_of}
use Rattle.cluster_rules.specs.Acting.{Wants, Acts, MaySpawn, MayAct}
use Rattle.cluster_rules.specs.Runs.{Cluster, node_at}
use Rattle.cluster_rules.specs.Positions.{Moved, Course, own}
use Rattle.cluster_rules.proofs.Stepping.{Step, Stepped}
use Rattle.cluster_rules.proofs.Marks.{first_is, same_self, same_name}
use Rattle.cluster_rules.proofs.Holding.{own_first, Unknown}
use Rattle.backer_order.specs.Edges.{block_after}
use Rattle.cluster_order.specs.Reading.{happens_to}
use Rattle.cluster_order.specs.Standing.{first}
use Rattle.cluster_edges.proofs.Anywhere.{Saying, Each, Everywhere, live_each, everywhere_both}
use Rattle.cluster_edges.proofs.Onward.{Keeps, Answers, ByBody, everywhere_next}
use Rattle.cluster_edges.proofs.Lone.{lone}
use Rattle.cluster_edges.proofs.Asking.{AsksFirst, AsksSome}
use Rattle.cluster_edges.proofs.Returned.{child_unknown}
use Rattle.cluster_edges.proofs.Meant.{Meant, block_so, meant_first, meant_closed, meant_answered, steady_wants, returned_block}
use Rattle.cluster_edges.proofs.BlockOf.{BlockOf, IsSpawn, AddsNone, spawn_or_none, spawned_block, actor_known, spawn_may, known_block}

one_at_least : (block : Block) (target : Option ℕ) → block ++ target ∷ [] ≡ [] → ⊥
one_at_least [] target is = absurd (cc)
one_at_least (first ∷ block) target is = absurd (cc)

-- the stack behind a spawn
spawn_stack : (node : Node) (past : Past) (parent : FrameId) (index : ℕ) (child : FrameId) (procedure : ℕ) (arguments : List ℤ) (life : Life)
    (below : List Life)
    → live (stack_of node past) ≡ life ∷ below
    → stack_of node (Did (item.Act parent index (act.Spawn child procedure arguments)) ∷ past)
    ≡ (newborn node child procedure arguments life ∷ []) ++ acted (act.Spawn child procedure arguments) life ∷ below
unfolding frames_of
spawn_stack node past parent index child procedure arguments life below is = ap (after_act node (act.Spawn child procedure arguments)) is

module _ (cluster : Cluster) (program : Program) (stands : StandsFor cluster.code program) where
  abbrev pub begins : ℕ → ℕ → List ℤ → Meaning
  begins = starts cluster.code

  steady : (depth procedure : ℕ) (arguments : List ℤ) (answers more : List Answer)
      → take (suc (length answers)) (begins depth procedure arguments (answers ++ more)) ≡ begins depth procedure arguments answers
  steady depth procedure arguments answers more =
      subst (λ (it : ℕ → ℕ → List ℤ → Meaning). take (suc (length answers)) (it depth procedure arguments (answers ++ more))
      ≡ it depth procedure arguments answers)
      (sym stands.wants) (steady_wants program depth procedure arguments answers more)

  pub returned_none : IsParted program → (goes : Meaning) (meant : Meant begins goes) → is_some (value_in (now goes)) ≡ true → block_so begins goes meant ≡ []
  returned_none parted =
      subst (λ (it : ℕ → ℕ → List ℤ → Meaning). (goes : Meaning) (meant : Meant it goes) → is_some (value_in (now goes)) ≡ true → block_so it goes meant ≡ [])
      (sym stands.wants) (returned_block program parted)

  -- What a frame wants has a block that is not empty where it has a child of its block.
  abbrev pub Counts : (FrameId → FrameId → Type 0) → Saying
  Counts IsChild id goes = (meant : Meant begins goes) × ((child : FrameId) → IsChild id child → block_so begins goes meant ≡ [] → ⊥)

  module _ (course : Course) (number : ℕ) (here : Option PostAt) where
    -- behind an event
    abbrev pub Behind : Event → FrameId → FrameId → Type 0
    Behind event = block_after (happens_to cluster course number here event) (BlockOf cluster course)

    plain : (event : Event) (life : Life) (request : Request) (answer : Answer) → Wants life request
        → ((block : Block) → alone.block_after request block ≡ block)
        → AddsNone cluster course number here event
        → Counts (BlockOf cluster course) life.id life.goes → Counts (Behind event) life.id (after life.goes answer)
    plain event life request answer wanted same none counts =
        let it = meant_answered begins steady life.goes counts.0 request answer wanted in
        (it.0, λ child block empty. counts.1 child (none life.id child block) (sym (same (block_so begins life.goes counts.0)) ∙ sym it.1 ∙ empty))

    -- the frame that an event answers
    answers_count : (event : Event)
        → ((message : Msg) (old : ℤ) → event ≡ Took message → message.body ≡ body.Added old → AsksSome (stack_of (node_at cluster number) (own number course)))
        → (life : Life) (answer : Answer) → Answers (node_at cluster number) (own number course) event life answer
        → Counts (BlockOf cluster course) life.id life.goes → Counts (Behind event) life.id (after life.goes answer)
    answers_count (Did (item.Act frame index (act.Read word value))) told life answer by counts =
        plain (Did (item.Act frame index (act.Read word value))) life (want.Read word) answer by.1.wanted (λ block. refl) (λ frame child block. block) counts
    answers_count (Did (item.Act frame index (act.Write word value))) told life answer by counts =
        plain (Did (item.Act frame index (act.Write word value))) life (want.Write word value) answer by.1.wanted (λ block. refl)
        (λ frame child block. block) counts
    answers_count (Did (item.Act frame index (act.Print value))) told life answer by counts =
        plain (Did (item.Act frame index (act.Print value))) life (want.Print value) answer by.1 (λ block. refl) (λ frame child block. block) counts
    answers_count (Did (item.Act frame index (act.Spawn child procedure arguments))) told life answer by counts =
        let it = meant_answered begins steady life.goes counts.0 (want.Spawn by.1.target procedure arguments) answer by.1.wanted in
        (it.0, λ other block empty. one_at_least (block_so begins life.goes counts.0) by.1.target (sym it.1 ∙ empty))
    answers_count (Did (item.Act frame index act.Sync)) told life answer by counts =
        let it = meant_answered begins steady life.goes counts.0 want.Sync answer by.1.wanted in
        (it.0, λ other block empty. block.1 by.0.named)
    answers_count (Did (item.Tick frame)) told life answer by counts = elim by.1 [
      | inl calls ↦ plain (Did (item.Tick frame)) life want.Call answer calls (λ block. refl) (λ frame child block. block) counts
      | inr turns ↦ plain (Did (item.Tick frame)) life want.LoopTurn answer turns (λ block. refl) (λ frame child block. block) counts
    ]
    answers_count (Did (item.Drop page)) told life answer by counts = absurd by
    answers_count (Did (item.TakeUp frame)) told life answer by counts = absurd by
    answers_count (Did (item.OwnFetch page words)) told life answer by counts = absurd by
    answers_count (Did (item.OwnReconcile part)) told life answer by counts = absurd by
    answers_count (Did (item.Served frame index word old addend)) told life answer by counts =
        plain (Did (item.Served frame index word old addend)) life (want.Add word addend) answer by.1 (λ block. refl) (λ frame child block. block) counts
    answers_count (Sent message) told life answer by counts = absurd by
    answers_count (Ended end) told life answer by counts = absurd by
    answers_count (Took message) told life answer by counts = on message.body refl by
      where
        on : (said : Body) → message.body ≡ said → ByBody (node_at cluster number) (own number course) said life answer
            → Counts (Behind (Took message)) life.id (after life.goes answer)
        on (body.Fetch page) says by = absurd by
        on (body.Page page words) says by = absurd by
        on (body.Reconcile parts) says by = absurd by
        on body.Ack says by = absurd by
        on body.Ask says by = absurd by
        on (body.Grant closure) says by = absurd by
        on body.Refuse says by = absurd by
        on (body.Done join index value) says by = absurd by
        on (body.Park join closure) says by = absurd by
        on (body.Add frame index word addend) says by = absurd by
        on (body.Added old) says by =
            let first = told message old refl says in
            let asks : AsksFirst first.0 first.1 first.2 (life ∷ by.0) = subst (AsksFirst first.0 first.1 first.2) by.1 first.3 in
            plain (Took message) life (want.Add first.1 first.2) answer asks.1 (λ block. refl) (λ frame child block. block) counts

  -- ---- one event more

  module _ (course : Course) (moved : Moved) (stepped : Stepped cluster course) (step : Step cluster course moved)
      (told : (message : Msg) (old : ℤ) → moved.event ≡ Took message → message.body ≡ body.Added old
      → AsksSome (stack_of (node_at cluster moved.node) (own moved.node course))) where
    abbrev Old : Saying
    Old = Counts (BlockOf cluster course)

    abbrev New : Saying
    New = Counts (BlockOf cluster (moved ∷ course))

    abbrev OldOrNew : Saying
    OldOrNew id goes = Old id goes ⊎ New id goes

    answered_new : (life : Life) (answer : Answer) → Answers (node_at cluster moved.node) (own moved.node course) moved.event life answer
        → Old life.id life.goes
        → New life.id (after life.goes answer)
    answered_new life answer by counts = answers_count course moved.node moved.message moved.event told life answer by counts

    born_new : (frame : FrameId) (index : ℕ) (child : FrameId) (procedure : ℕ) (arguments : List ℤ) (life : Life)
        → moved.event ≡ Did (item.Act frame index (act.Spawn child procedure arguments))
        → Acts (node_at cluster moved.node) (own moved.node course) frame life
        → MaySpawn (node_at cluster moved.node) (own moved.node course) child procedure arguments life
        → New child (begins (suc life.depth) procedure arguments)
    born_new frame index child procedure arguments life is acts spawns =
        let it = meant_first begins (suc life.depth) procedure arguments in
        (it.0, λ other block empty. on (spawned_block cluster course moved.node moved.message moved.event spawn child other block))
      where
        spawn : IsSpawn moved.event
        spawn = record { parent = frame; index = index; child = child; procedure = procedure; arguments = arguments; is = is }

        unknown : Unknown cluster course child
        unknown = child_unknown cluster course moved.node child spawns.name

        on : {other : FrameId} → BlockOf cluster course child other ⊎ ((frame ≡ child) × (child ≡ other)) → ⊥
        on (inl block) = known_block cluster course stepped child _ block unknown
        on (inr both) = actor_known cluster course stepped moved.node frame life step.within acts (subst (Unknown cluster course) (sym both.0) unknown)

    keeps : Keeps (node_at cluster moved.node) (own moved.node course) moved.event Old OldOrNew
    keeps = record {
      same = λ id goes counts. inl counts;
      closes = λ id goes other kept equal counts. (let it =
          meant_closed begins goes other kept counts.0 equal in inl (it.0, λ child block empty. counts.1 child block (sym it.1 ∙ empty)));
      acts = λ life answer by counts. inr (answered_new life answer by counts);
      born = λ frame index child procedure arguments life is acts spawns. inr (born_new frame index child procedure arguments life is acts spawns);
    }

    -- where no frame gets a child
    none_new : AddsNone cluster course moved.node moved.message moved.event → Everywhere cluster (moved ∷ course) OldOrNew
        → Everywhere cluster (moved ∷ course) New
    none_new none all = everywhere_both OldOrNew OldOrNew New (λ id goes first second. on id goes first) cluster (moved ∷ course) all all
      where
        on : (id : FrameId) (goes : Meaning) → OldOrNew id goes → New id goes
        on id goes (inl counts) = (counts.0, λ child block. counts.1 child (none id child block))
        on id goes (inr counts) = counts

    -- where a frame gets one, it is on the stack
    spawned_new : (it : IsSpawn moved.event) → Everywhere cluster course Old → Everywhere cluster (moved ∷ course) OldOrNew
        → Everywhere cluster (moved ∷ course) New
    spawned_new it older all =
        everywhere_both OldOrNew (λ id goes. id ≡ it.parent → New it.parent goes) New
        (λ id goes first second. on id goes first second (same_frame id it.parent) refl)
        cluster (moved ∷ course) all parent_alone
      where
        node : Node
        node = node_at cluster moved.node

        past : Past
        past = own moved.node course

        may : MayAct node past it.parent it.index (act.Spawn it.child it.procedure it.arguments)
        may = spawn_may cluster course moved step it

        top : (below : List Life) × (live (stack_of node past) ≡ may.life ∷ below)
        top = first_is (live (stack_of node past)) may.life may.acts.is

        parent_old : Old may.life.id may.life.goes
        parent_old = (subst (Each Old) top.1 (live_each Old (stack_of node past) (older.at moved.node step.within).stack)).0

        parent_new : New may.life.id (after may.life.goes Done)
        parent_new = answered_new may.life Done (subst (λ event. Answers node past event may.life Done) (sym it.is) (may.acts, may.makes, refl)) parent_old

        stack_is : stack_of node (own moved.node (moved ∷ course))
            ≡ (newborn node it.child it.procedure it.arguments may.life ∷ []) ++ acted (act.Spawn it.child it.procedure it.arguments) may.life ∷ top.0
        stack_is =
            ap (stack_of node) (own_first moved course) ∙ ap (λ event. stack_of node (event ∷ past)) it.is
            ∙ spawn_stack node past it.parent it.index it.child it.procedure it.arguments may.life top.0 top.1

        parent_alone : Everywhere cluster (moved ∷ course) (λ id goes. id ≡ it.parent → New it.parent goes)
        parent_alone =
            lone it.parent (New it.parent) (newborn node it.child it.procedure it.arguments may.life ∷ []) top.0
            (acted (act.Spawn it.child it.procedure it.arguments) may.life)
            (sym may.acts.named) (subst (λ id. New id (after may.life.goes Done)) (sym may.acts.named) parent_new) cluster (moved ∷ course)
            (stepped, step) moved.node step.within stack_is

        on : (id : FrameId) (goes : Meaning) → OldOrNew id goes → (id ≡ it.parent → New it.parent goes) → (b : Bool) → same_frame id it.parent ≡ b → New id goes
        on id goes (inr counts) only b is = counts
        on id goes (inl counts) only true is = let same = same_name id it.parent is in subst (λ frame. New frame goes) (sym same) (only same)
        on id goes (inl counts) only false is = (
          counts.0,
          λ child block. by child (spawned_block cluster course moved.node moved.message moved.event it id child block),
        )
          where
            by : (child : FrameId) → BlockOf cluster course id child ⊎ ((it.parent ≡ id) × (it.child ≡ child)) → block_so begins goes counts.0 ≡ [] → ⊥
            by child (inl block) empty = counts.1 child block empty
            by child (inr both) empty =
                let same : same_frame id it.parent ≡ true = ap (λ frame. same_frame frame it.parent) (sym both.0) ∙ same_self it.parent in absurd (cc)

    pub counts_next : Everywhere cluster course Old → Everywhere cluster (moved ∷ course) New
    counts_next older = on (spawn_or_none cluster course moved.node moved.message moved.event)
      where
        all : Everywhere cluster (moved ∷ course) OldOrNew
        all = everywhere_next cluster course moved stepped step Old OldOrNew keeps older

        on : IsSpawn moved.event ⊎ AddsNone cluster course moved.node moved.message moved.event → Everywhere cluster (moved ∷ course) New
        on (inl it) = spawned_new it older all
        on (inr none) = none_new none all
