-- Names of frames: a child has a new one, and never that of `main`.
use Rattle.std.proofs.Common.{◌≡◌, ◌≢◌, ◌⊎◌, inl, inr, ℕ, ℤ, ◌<◌, ◌≤◌, List, [], ◌∷◌, ◌++◌, true, eqb, refl, sym, ◌∙◌, ap, subst, arith}
use Rattle.std.proofs.lemmas.Bool.Decides.{nat_tests}
use Rattle.page_messages.specs.declared.closure.FrameId.{FrameId}
use Rattle.page_messages.specs.declared.log.LoggedAct.TheVariants as act
use Rattle.page_messages.specs.declared.log.Item.TheVariants as item
use Rattle.cluster_rules.specs.Turns.{WholeTurn, Did, Past}
use Rattle.cluster_rules.specs.Node.{Node}
use Rattle.cluster_rules.specs.Frames.{next_frame}
use Rattle.cluster_rules.specs.Positions.{Course, course_of, own, before, Happens}
use Rattle.cluster_rules.specs.Runs.{Cluster, IsLawful, node_at}
use Rattle.backer_order.specs.Log as log
use Rattle.backer_order.specs.Edges.{Spawned}
use Rattle.backer_order.proofs.Search.{Order3, Less3, Same3, More3, compare}
use Rattle.cluster_order.proofs.Events.{acted_is, Acted, Served, spawn_is}
use Rattle.cluster_order.proofs.Between.{stands_at, past_parts}
use Rattle.cluster_order.proofs.Messages.{before_before, happens_before}
use Rattle.cluster_order.proofs.Accesses.{ev}
use Rattle.cluster_order.proofs.Lawful.{act_allowed}

-- ---- numbers that were given

pub names_grow : (node : Node) (newer older : Past) → next_frame node older ≤ next_frame node (newer ++ older)
unfolding next_frame
names_grow node [] older = omega (arith)
names_grow node (event ∷ newer) older = let less = names_grow node newer older in omega (arith, less)

-- a Spawn takes one
pub name_taken : (node : Node) (newer older : Past) (frame : FrameId) (index : ℕ) (child : FrameId) (procedure : ℕ) (arguments : List ℤ)
    → next_frame node older < next_frame node (newer ++ Did (item.Act frame index (act.Spawn child procedure arguments)) ∷ older)
unfolding next_frame
name_taken node newer older frame index child procedure arguments =
    let less = names_grow node newer (Did (item.Act frame index (act.Spawn child procedure arguments)) ∷ older) in omega (arith, less)

-- on node 0 the first is that of `main`
pub first_name : (node : Node) → node.me ≡ 0 → next_frame node [] ≡ 1
unfolding next_frame
first_name node is = let same : eqb node.me 0 ≡ true = grind (arith, nat_tests) in rw same refl

pub names_started : (node : Node) (past : Past) → node.me ≡ 0 → 1 ≤ next_frame node past
names_started node [] is = let one = first_name node is in omega (arith, one)
names_started node (event ∷ past) is = let less = names_grow node (event ∷ []) past in let before = names_started node past is in omega (arith, less, before)

module _ (cluster : Cluster) (turns : List WholeTurn) (lawful : IsLawful cluster turns) where
  abbrev events : ℕ → log.Event
  events = ev cluster turns lawful

  abbrev course : Course
  course = course_of turns

  abbrev node : ℕ → Node
  node number = node_at cluster number

  abbrev past : ℕ → ℕ → Past
  past number position = own number (before course position)

  -- a Spawn, and the number of the child
  pub record SpawnsAt (number position : ℕ) (frame child : FrameId) : Type 0 where
    pub index : ℕ
    pub procedure : ℕ
    pub arguments : List ℤ
    pub is : Happens course number position (Did (item.Act frame index (act.Spawn child procedure arguments)))
    pub name : child ≡ record { node = number; number = next_frame (node number) (past number position) }

  pub spawned_there : (number position : ℕ) (frame child : FrameId) → events position ≡ log.Acts number frame (log.Spawn child)
      → SpawnsAt number position frame child
  spawned_there number position frame child is = on (acted_is cluster course position number frame (log.Spawn child) is)
    where
      on : Acted cluster course position number frame (log.Spawn child) ⊎ Served cluster course position number frame (log.Spawn child)
          → SpawnsAt number position frame child
      on (inl it) =
          let says = spawn_is child (it.act) (it.act_is) in
          let happens = subst (λ done. Happens course number position (Did (item.Act frame (it.index) done))) (says.2) (it.is) in
          let may = act_allowed cluster turns lawful number position frame (it.index) (act.Spawn child (says.0) (says.1)) happens in
          record { index = it.index; procedure = says.0; arguments = says.1; is = happens; name = may.1.makes.name }
      on (inr it) = let none : log.Add (it.word) (it.old) (it.addend) ≡ log.Spawn child = it.act_is in absurd (cc)

  -- `main` is no child
  pub not_main : (child : FrameId) (position : ℕ) → Spawned events child position → child ≢ log.main_id
  not_main child position spawned same = on (spawned_there (spawned.0) position (spawned.1) child (spawned.2))
    where
      on : SpawnsAt (spawned.0) position (spawned.1) child → ⊥
      on it =
          let number_is : spawned.0 ≡ 0 = ap (λ frame. frame.node) (sym (it.name) ∙ same) in
          let none : next_frame (node (spawned.0)) (past (spawned.0) position) ≡ 0 = ap (λ frame. frame.number) (sym (it.name) ∙ same) in
          let some = names_started (node (spawned.0)) (past (spawned.0) position) number_is in
          absurd (omega (arith, some, none))

  -- a later Spawn gives another name
  later_name : (number earlier later : ℕ) (frame other child : FrameId) → earlier < later → SpawnsAt number earlier frame child
      → SpawnsAt number later other child → ⊥
  later_name number earlier later frame other child less one two =
      let event = Did (item.Act frame (one.index) (act.Spawn child (one.procedure) (one.arguments))) in
      let front = before course later in
      let here = happens_before course later (two.is.moved) (two.is.is) number earlier event less (one.is) in
      let it = stands_at number front earlier event here in
      let parts : past number later ≡ it.0 ++ event ∷ past number earlier =
      past_parts number front (it.0) event (own number (before front earlier)) earlier (it.1)
      ∙ ap (λ all. it.0 ++ event ∷ own number all) (before_before course later (two.is.moved) (two.is.is) earlier less) in
      let taken = name_taken (node number) (it.0) (past number earlier) frame (one.index) child (one.procedure) (one.arguments) in
      let same : next_frame (node number) (past number earlier) ≡ next_frame (node number) (it.0 ++ event ∷ past number earlier) =
      ap (λ it. it.number) (sym (one.name) ∙ two.name) ∙ ap (next_frame (node number)) parts in
      omega (arith, taken, same)

  -- no frame is spawned twice
  pub fresh : (child : FrameId) (position again : ℕ) → Spawned events child position → Spawned events child again → position ≡ again
  fresh child position again first second =
      on (spawned_there (first.0) position (first.1) child (first.2)) (spawned_there (second.0) again (second.1) child (second.2)) (compare position again)
    where
      on : SpawnsAt (first.0) position (first.1) child → SpawnsAt (second.0) again (second.1) child → Order3 position again → position ≡ again
      on one two (Same3 same) = same
      on one two (Less3 less) =
          let number_is : second.0 ≡ first.0 = ap (λ frame. frame.node) (sym (two.name) ∙ one.name) in
          absurd (later_name (first.0) position again (first.1) (second.1) child less one (subst (λ it. SpawnsAt it again (second.1) child) number_is two))
      on one two (More3 more) =
          let number_is : first.0 ≡ second.0 = ap (λ frame. frame.node) (sym (one.name) ∙ two.name) in
          absurd (later_name (second.0) again position (second.1) (first.1) child more two (subst (λ it. SpawnsAt it position (first.1) child) number_is one))
