-- The account of a frame behind an item of its own, and of any other frame behind that; and of a child as it is spawned.
use Rattle.std.proofs.Common.{◌≡◌, ℕ, suc, ℤ, List, [], ◌∷◌, Some, true, false, refl, sym, ◌∙◌, ap, subst, inr}
use Rattle.backer_order.specs.Log as log
use Rattle.cilk_meaning.specs.Instance.{Meaning}
use Rattle.cilk_meaning.specs.Resolved.{Program}
use Rattle.cilk_meaning.specs.Wants.{Deposit, Answer, Value, Children, Done}
use Rattle.machine_code.specs.Early.{at_sync}
use Rattle.machine_code.specs.Machine.{starts}
use Rattle.machine_code.specs.StandsFor.{StandsFor}
use Rattle.page_messages.specs.declared.closure.FrameId.{FrameId}
use Rattle.page_messages.specs.declared.closure.Child.{Child}
use Rattle.page_messages.specs.declared.log.LoggedAct.TheVariants as act
use Rattle.page_messages.specs.declared.log.Item.{Item}
use Rattle.page_messages.specs.declared.log.Item.TheVariants as item
use Rattle.cluster_rules.specs.Turns.{WholeTurn, Did, Past}
use Rattle.cluster_rules.specs.Node.{Node}
use Rattle.cluster_rules.specs.Lives.{Life, answered, acted, newborn}
use Rattle.cluster_rules.specs.Acting.{MaySync}
use Rattle.cluster_rules.specs.Positions.{Moved, Course, course_of, own, at, before}
use Rattle.cluster_rules.specs.Runs.{Cluster, IsLawful, node_at}
use Rattle.cluster_order.specs.Reading.{item_of, happens_to}
use Rattle.cluster_order.proofs.Events.{event_at}
use Rattle.determinacy.specs.Replies.{Trace, Instance, by, children, children_after, reply_to, answer_of, want_at, Answers}
use Rattle.cluster_trace.specs.Instances.{trace_of}
use Rattle.cluster_trace.proofs.Running.{child_instance}
use Rattle.cluster_trace.proofs.Blocks.{AnsweredBefore, given_at, given_apart}
use Rattle.cluster_trace.proofs.Accounts.{Account, account_same, account_item, account_spawn}
use Rattle.cluster_trace.proofs.Syncing.{account_sync}
use Rattle.cluster_trace.proofs.Settled.{by_actor, by_ticker, act_tells, sync_tells, add_tells, tick_tells, spawn_adds, sync_ends, add_leaves, read_leaves, write_leaves, print_leaves, tick_leaves}
use Rattle.cluster_trace.proofs.Newborn.{newborn_account}
use Rattle.cluster_trace.proofs.Standing.{Aligned, LifeAccount}
use Rattle.cluster_trace.proofs.Answering.{sync_gone}

module _ (cluster : Cluster) (turns : List WholeTurn) (lawful : IsLawful cluster turns) (program : Program) (stands : StandsFor cluster.code program) where
  abbrev course : Course
  course = course_of turns

  abbrev trace : Trace
  trace = trace_of cluster course

  module _ (position : ℕ) (moved : Moved) (found : at course position ≡ Some moved) where
    abbrev earlier : Course
    earlier = before course position

    abbrev later : Course
    later = moved ∷ earlier

    abbrev node : Node
    node = node_at cluster moved.node

    abbrev past : Past
    past = own moved.node earlier

    abbrev Before : Life → List FrameId → Type 0
    Before life above = LifeAccount cluster program stands trace position earlier life above

    abbrev pub Behind : Life → List FrameId → Type 0
    Behind life above = LifeAccount cluster program stands trace (suc position) later life above

    abbrev given : FrameId → List Deposit
    given id = given_at cluster program stands trace position id

    pub event_is : (done : Item) → moved.event ≡ Did done → trace.events position ≡ item_of cluster moved.node past done
    event_is done is = event_at cluster course position moved found ∙ ap (happens_to cluster earlier moved.node moved.message) is

    -- entries stay aligned
    pub aligned_more : (id : FrameId) (away : List Child) (gone : List FrameId) → Aligned cluster program stands trace earlier id away gone
        → Aligned cluster program stands trace later id away gone
    aligned_more id [] [] aligned = tt
    aligned_more id [] (child ∷ gone) aligned = absurd aligned
    aligned_more id (entry ∷ away) [] aligned = absurd aligned
    aligned_more id (entry ∷ away) (child ∷ gone) aligned = (inr aligned.0, aligned.1, aligned_more id away gone aligned.2)

    module _ (wants : (frame : FrameId) → by frame (trace.events position) ≡ true
        → Answers trace (trace.events position) (want_at (starts cluster.code) trace position frame)) where
      -- A frame that has no item there.
      pub life_same : (life : Life) (above : List FrameId) → by life.id (trace.events position) ≡ false → Before life above → Behind life above
      life_same life above other it = record {
        gone = it.gone;
        aligned = aligned_more life.id life.away it.gone it.aligned;
        none_away = it.none_away;
        depth = it.depth;
        account = account_same cluster program stands trace position wants life.id life.goes life.kept above it.gone other it.account;
      }

      -- A frame that has one which leaves its children.
      pub life_item : (life : Life) (above : List FrameId) (answer : Answer) (count : ℕ) → by life.id (trace.events position) ≡ true
          → answer_of (reply_to (trace.events position) (given life.id)) ≡ answer
          → ((deposits : List Deposit) (rest : List Answer) → at_sync deposits (answer ∷ rest) ≡ answer ∷ at_sync deposits rest)
          → children_after (trace.events position) (children trace.events position life.id) ≡ children trace.events position life.id → Before life above
          → Behind (record (answered answer life) { acts = count }) above
      life_item life above answer count acts tells plain same it = record {
        gone = it.gone;
        aligned = aligned_more life.id life.away it.gone it.aligned;
        none_away = it.none_away;
        depth = it.depth;
        account = account_item cluster program stands trace position wants life.id life.goes life.kept above it.gone answer acts tells plain same it.account;
      }

      -- the item is its own
      acts_there : (done : Item) (event : log.Event) (frame : FrameId) (life : Life) → moved.event ≡ Did done → item_of cluster moved.node past done ≡ event
          → by frame event ≡ true → frame ≡ life.id
          → by life.id (trace.events position) ≡ true
      acts_there done event frame life is reads acts named =
          subst (λ id. by id (trace.events position) ≡ true) named (ap (by frame) (event_is done is ∙ reads) ∙ acts)

      told : (done : Item) (event : log.Event) (life : Life) (answer : Answer) → moved.event ≡ Did done → item_of cluster moved.node past done ≡ event
          → answer_of (reply_to event (given life.id)) ≡ answer → answer_of (reply_to (trace.events position) (given life.id)) ≡ answer
      told done event life answer is reads tells = ap (λ it. answer_of (reply_to it (given life.id))) (event_is done is ∙ reads) ∙ tells

      leaves : (done : Item) (event : log.Event) (life : Life) (kids : List FrameId) → moved.event ≡ Did done → item_of cluster moved.node past done ≡ event
          → children_after event (children trace.events position life.id) ≡ kids
          → children_after (trace.events position) (children trace.events position life.id) ≡ kids
      leaves done event life kids is reads same = ap (λ it. children_after it (children trace.events position life.id)) (event_is done is ∙ reads) ∙ same

      pub life_read : (frame : FrameId) (index word : ℕ) (value : ℤ) (life : Life) → moved.event ≡ Did (item.Act frame index (act.Read word value))
          → frame ≡ life.id → Before life []
          → Behind (acted (act.Read word value) life) []
      life_read frame index word value life is named it =
          let done = item.Act frame index (act.Read word value) in
          let event = log.Acts moved.node frame (log.Read word value) in
          life_item life [] (Value value) (suc life.acts) (acts_there done event frame life is refl (by_actor moved.node frame (log.Read word value)) named)
          (told done event life (Value value) is refl (act_tells moved.node frame (act.Read word value) (given life.id) life (λ same. absurd (cc))))
          (λ deposits rest. refl)
          (leaves done event life (children trace.events position life.id) is refl
          (read_leaves moved.node frame word value (children trace.events position life.id))) it

      pub life_write : (frame : FrameId) (index word : ℕ) (value : ℤ) (life : Life) → moved.event ≡ Did (item.Act frame index (act.Write word value))
          → frame ≡ life.id → Before life []
          → Behind (acted (act.Write word value) life) []
      life_write frame index word value life is named it =
          let done = item.Act frame index (act.Write word value) in
          let event = log.Acts moved.node frame (log.Write word value) in
          life_item life [] Done (suc life.acts) (acts_there done event frame life is refl (by_actor moved.node frame (log.Write word value)) named)
          (told done event life Done is refl (act_tells moved.node frame (act.Write word value) (given life.id) life (λ same. absurd (cc))))
          (λ deposits rest. refl)
          (leaves done event life (children trace.events position life.id) is refl
          (write_leaves moved.node frame word value (children trace.events position life.id))) it

      pub life_print : (frame : FrameId) (index : ℕ) (value : ℤ) (life : Life) → moved.event ≡ Did (item.Act frame index (act.Print value)) → frame ≡ life.id
          → Before life []
          → Behind (acted (act.Print value) life) []
      life_print frame index value life is named it =
          let done = item.Act frame index (act.Print value) in
          let event = log.Acts moved.node frame (log.Print value) in
          life_item life [] Done (suc life.acts) (acts_there done event frame life is refl (by_actor moved.node frame (log.Print value)) named)
          (told done event life Done is refl (act_tells moved.node frame (act.Print value) (given life.id) life (λ same. absurd (cc)))) (λ deposits rest. refl)
          (leaves done event life (children trace.events position life.id) is refl
          (print_leaves moved.node frame value (children trace.events position life.id))) it

      -- A tick that is no act.
      pub life_tick : (frame : FrameId) (life : Life) → moved.event ≡ Did (item.Tick frame) → frame ≡ life.id → Before life [] → Behind (answered Done life) []
      life_tick frame life is named it =
          let event = log.Tick moved.node frame in
          life_item life [] Done life.acts (acts_there (item.Tick frame) event frame life is refl (by_ticker moved.node frame) named)
          (told (item.Tick frame) event life Done is refl (tick_tells moved.node frame (given life.id))) (λ deposits rest. refl)
          (leaves (item.Tick frame) event life (children trace.events position life.id) is refl
          (tick_leaves moved.node frame (children trace.events position life.id))) it

      -- An add that is answered at once, or that of another node.
      pub life_add : (number : ℕ) (frame : FrameId) (index word : ℕ) (old addend : ℤ) (life : Life)
          → moved.event ≡ Did (item.Served frame index word old addend)
          → item_of cluster moved.node past (item.Served frame index word old addend) ≡ log.Acts number frame (log.Add word old addend) → frame ≡ life.id
          → Before life []
          → Behind (record (answered (Value old) life) { acts = suc life.acts }) []
      life_add number frame index word old addend life is reads named it =
          let done = item.Served frame index word old addend in
          let event = log.Acts number frame (log.Add word old addend) in
          life_item life [] (Value old) (suc life.acts) (acts_there done event frame life is reads (by_actor number frame (log.Add word old addend)) named)
          (told done event life (Value old) is reads (add_tells number frame word old addend (given life.id))) (λ deposits rest. refl)
          (leaves done event life (children trace.events position life.id) is reads
          (add_leaves number frame word old addend (children trace.events position life.id))) it

      -- A Spawn: the child is above it.
      pub life_spawn : (frame : FrameId) (index : ℕ) (child : FrameId) (procedure : ℕ) (arguments : List ℤ) (life : Life)
          → moved.event ≡ Did (item.Act frame index (act.Spawn child procedure arguments)) → frame ≡ life.id → Before life []
          → Behind (acted (act.Spawn child procedure arguments) life) (child ∷ [])
      life_spawn frame index child procedure arguments life is named it =
          let done = item.Act frame index (act.Spawn child procedure arguments) in
          let event = log.Acts moved.node frame (log.Spawn child) in
          record {
            gone = it.gone;
            aligned = aligned_more life.id life.away it.gone it.aligned;
            none_away = it.none_away;
            depth = it.depth;
            account = account_spawn cluster program stands trace position wants life.id life.goes life.kept it.gone child
                (acts_there done event frame life is refl (by_actor moved.node frame (log.Spawn child)) named)
                (told done event life Done is refl
                (act_tells moved.node frame (act.Spawn child procedure arguments) (given life.id) life (λ same. absurd (cc))))
                (leaves done event life (child ∷ children trace.events position life.id) is refl
                (spawn_adds moved.node frame child (children trace.events position life.id)))
                it.account;
          }

      -- A Sync, where each item before has answered what its frame wanted.
      pub life_sync : AnsweredBefore cluster program stands trace position → (frame : FrameId) (index : ℕ) (life : Life)
          → moved.event ≡ Did (item.Act frame index act.Sync)
          → frame ≡ life.id → MaySync life → Before life [] → Behind (acted act.Sync life) []
      life_sync answered_before frame index life is named may it =
          let done = item.Act frame index act.Sync in
          let event = log.Acts moved.node frame log.Sync in
          record {
            gone = [];
            aligned = tt;
            none_away = λ same. refl;
            depth = it.depth;
            account = account_sync cluster program stands trace position life.id life.goes life.kept
                (acts_there done event frame life is refl (by_actor moved.node frame log.Sync) named)
                (told done event life (Children (given life.id)) is refl (sync_tells moved.node frame (given life.id)))
                (leaves done event life [] is refl (sync_ends moved.node frame (children trace.events position life.id)))
                (given_apart cluster program stands trace position answered_before life.id)
                (subst (λ gone. Account cluster program stands trace position life.id life.goes life.kept [] gone)
                (sync_gone cluster turns lawful program stands position moved found life may it) it.account);
          }

      same_birth : (one other : Moved) (frame child : FrameId) (index index' procedure procedure' : ℕ) (arguments arguments' : List ℤ) → Some one ≡ Some other
          → one.event ≡ Did (item.Act frame index (act.Spawn child procedure arguments))
          → other.event ≡ Did (item.Act frame index' (act.Spawn child procedure' arguments'))
          → (procedure ≡ procedure') × (arguments ≡ arguments')
      same_birth one other frame child index index' procedure procedure' arguments arguments' same is is' =
          let equal : one ≡ other = cc in
          let both : item.Act frame index (act.Spawn child procedure arguments) ≡ item.Act frame index' (act.Spawn child procedure' arguments') =
          (let events = sym is ∙ ap (λ (it : Moved). it.event) equal ∙ is' in cc) in (cc, cc)

      -- The child at its start.
      pub life_born : (frame : FrameId) (index : ℕ) (child : FrameId) (procedure : ℕ) (arguments : List ℤ) (life : Life)
          → moved.event ≡ Did (item.Act frame index (act.Spawn child procedure arguments)) → frame ≡ life.id → Before life []
          → Behind (newborn node child procedure arguments life) []
      life_born frame index child procedure arguments life is named it =
          let runs = child_instance cluster turns lawful position moved found frame index child procedure arguments is in
          let born = newborn_account cluster turns lawful program stands position moved.node frame child
          (event_is (item.Act frame index (act.Spawn child procedure arguments)) is) in
          let same = same_birth born.0.moved moved frame child born.0.index index born.0.procedure procedure born.0.arguments arguments
          (sym born.0.found ∙ found) born.0.is is in
          let depth : (trace.instance frame).depth ≡ life.depth = ap (λ id. (trace.instance id).depth) named ∙ sym it.depth in
          let goes : starts cluster.code (suc (trace.instance frame).depth) born.0.procedure born.0.arguments ≡ starts cluster.code
          (suc life.depth) procedure arguments =
          ap (λ count. starts cluster.code (suc count) born.0.procedure born.0.arguments) depth
          ∙ ap (λ number. starts cluster.code (suc life.depth) number born.0.arguments) same.0
          ∙ ap (λ list. starts cluster.code (suc life.depth) procedure list) same.1 in
          record {
            gone = [];
            aligned = tt;
            none_away = λ none. refl;
            depth = ap suc (sym depth) ∙ sym (ap (λ (it : Instance). it.depth) runs);
            account = subst (λ (meaning : Meaning). Account cluster program stands trace (suc position) child meaning [] [] []) goes born.1;
          }
