-- What frames keep as their node does an item.
use Rattle.std.proofs.Common.{◌≡◌, ◌⊎◌, inl, inr, ◌<◌, ℕ, ℤ, List, ◌∷◌, None, Bool, true, false, cond, refl, sym, ◌∙◌, ap, subst, arith}
use Rattle.cilk_meaning.specs.Wants.{Done as DoneAnswer}
use Rattle.page_messages.specs.declared.closure.FrameId.{FrameId}
use Rattle.page_messages.specs.declared.message.Msg.{Msg}
use Rattle.page_messages.specs.declared.log.LoggedAct.{LoggedAct}
use Rattle.page_messages.specs.declared.log.LoggedAct.TheVariants as act
use Rattle.page_messages.specs.declared.log.Item.{Item}
use Rattle.page_messages.specs.declared.log.Item.TheVariants as item
use Rattle.cluster_rules.specs.Walking.{is_empty}
use Rattle.cluster_rules.specs.Turns.{Did, Sent, Past}
use Rattle.cluster_rules.specs.Node.{Node}
use Rattle.cluster_rules.specs.Home.{owed_adds}
use Rattle.cluster_rules.specs.Lives.{Life, same_frame, live, added, after_act}
use Rattle.cluster_rules.specs.Frames.{Frames, Parked, with_stack, taken_up, frames_item, frames_of, stack_of, next_frame, spawns_on}
use Rattle.cluster_rules.specs.Acting.{MayMake, MayAct}
use Rattle.cluster_rules.specs.Positions.{Moved, Course, own}
use Rattle.cluster_rules.specs.Runs.{Cluster, node_at, IsFree, IsOwed, MayDo}
use Rattle.cluster_rules.proofs.Marks.{same_self, first_is}
use Rattle.cluster_order.proofs.Between.{own_first}
use Rattle.cluster_edges.specs.Stages.{takes_up}
use Rattle.cluster_edges.proofs.Ties.{Known, gone_on, Gone, Parking, tie_of, Standing, Lying, Stacked, AllLying, AllWaiting, Keeps, Tied}
use Rattle.cluster_edges.proofs.Longer.{leaves, Apart, apart_if}
use Rattle.cluster_edges.proofs.Stacks.{live_stacked, answered_stacked, added_stacked, Acting, acted_stacked}

module _ (cluster : Cluster) (moved : Moved) (course : Course) (tied : Tied cluster course) (done : Item) (is : moved.event ≡ Did done) where
  -- an item lets no frame leave
  stays_here : (frame : FrameId) → Apart cluster moved course frame
  stays_here frame =
      apart_if cluster moved course frame (λ left. let none : leaves moved.event ≡ None = ap leaves is in let some = sym none ∙ left in absurd (cc))

-- ---- acts

module _ (cluster : Cluster) (moved : Moved) (course : Course) (tied : Tied cluster course) (frame : FrameId) (index : ℕ) where
  -- a child is new
  new_child : (child : FrameId) → child ≡ record { node = moved.node; number = next_frame (node_at cluster moved.node) (own moved.node course) }
      → Known cluster child course → ⊥
  new_child child name known =
      let less = subst (λ (it : FrameId). it.number < next_frame (node_at cluster it.node) (own it.node course)) name known in omega (arith, less)

  child_known : (child : FrameId) (procedure : ℕ) (arguments : List ℤ) → moved.event ≡ Did (item.Act frame index (act.Spawn child procedure arguments))
      → child ≡ record { node = moved.node; number = next_frame (node_at cluster moved.node) (own moved.node course) } → Known cluster child (moved ∷ course)
  unfolding next_frame
  child_known child procedure arguments is name =
      let node = node_at cluster moved.node in
      let past = own moved.node course in
      let one : spawns_on moved.event ≡ 1 = ap spawns_on is in
      let all : own moved.node (moved ∷ course) ≡ moved.event ∷ past = own_first moved.node moved course refl in
      subst (λ (it : FrameId). it.number < next_frame (node_at cluster it.node) (own it.node (moved ∷ course))) (sym name)
      (subst (λ it. next_frame node past < next_frame node it) (sym all) (omega (arith, one)))

  acting : (done : LoggedAct) (life : Life) → moved.event ≡ Did (item.Act frame index done) → frame ≡ life.id → index ≡ life.acts
      → MayMake (node_at cluster moved.node) (own moved.node course) done life → Acting cluster (moved ∷ course) done life
  acting (act.Read word value) life is named counted makes = tt
  acting (act.Write word value) life is named counted makes = tt
  acting (act.Print value) life is named counted makes = tt
  acting (act.Spawn child procedure arguments) life is named counted makes =
      let born : moved.event ≡ Did (item.Act life.id life.acts (act.Spawn child procedure arguments)) =
      is ∙ (λ i. Did (item.Act (named i) (counted i) (act.Spawn child procedure arguments))) in
      let apart : Apart cluster moved course child =
      stays_here cluster moved course tied (item.Act frame index (act.Spawn child procedure arguments)) is child in (
        inl (procedure, arguments, born),
        child_known child procedure arguments is makes.name,
        λ other gone. new_child child makes.name (tied.gone child other (apart.gone other gone)),
        λ parking. new_child child makes.name (tied.parking child (apart.parking parking)),
      )
  acting act.Sync life is named counted makes =
      λ child gone.
      (subst (λ event. gone_on event (stack_of (node_at cluster moved.node) (own moved.node course)) (Gone cluster course) life.id child) is gone).1 named

-- ---- each item

module _ (cluster : Cluster) (moved : Moved) (course : Course) (tied : Tied cluster course) where
  stands_up : (frame : FrameId) (life : Life) → moved.event ≡ Did (item.TakeUp frame) → frame ≡ life.id
      → Lying cluster (moved ∷ course) (tie_of life) → Standing cluster (moved ∷ course) (tie_of life)
  stands_up frame life is named lying = record {
    fits = lying.fits;
    not_parked = λ parking. on parking;
  }
    where
      on : Parking life.id (moved ∷ course) → ⊥
      on (inl parks) = let none : Did (item.TakeUp frame) ≡ Sent parks.0 = sym is ∙ parks.3 in absurd (cc)
      on (inr both) =
          let up : takes_up life.id moved ≡ same_frame frame life.id = rw is refl in
          let yes_up : same_frame frame life.id ≡ true = ap (λ it. same_frame it life.id) named ∙ same_self life.id in
          let none = both.1 in
          absurd (cc)

  taken_keeps : (frame : FrameId) (life : Life) (stack ready younger : List Life) (parked : List Parked) → moved.event ≡ Did (item.TakeUp frame)
      → frame ≡ life.id → ready ≡ life ∷ younger
      → AllLying cluster (moved ∷ course) ready → AllWaiting cluster (moved ∷ course) parked → Keeps cluster (moved ∷ course) (taken_up stack ready parked)
  taken_keeps frame life stack ready younger parked is named oldest lying waiting =
      let both = subst (AllLying cluster (moved ∷ course)) oldest lying in
      subst (λ it. Keeps cluster (moved ∷ course) (taken_up stack it parked)) (sym oldest)
      (record { stack = (stands_up frame life is named both.0, tt, tt); ready = both.1; parked = waiting })

  abbrev node : Node
  node = node_at cluster moved.node

  abbrev past : Past
  past = own moved.node course

  abbrev frames : Frames
  frames = frames_of node past

  -- the stack alone changes
  restacked : (stack : List Life) → Keeps cluster (moved ∷ course) frames → Stacked cluster (moved ∷ course) stack
      → Keeps cluster (moved ∷ course) (with_stack stack frames)
  restacked stack keeps stacked = record { stack = stacked; ready = keeps.ready; parked = keeps.parked }

  act_keeps : (frame : FrameId) (index : ℕ) (done : LoggedAct) → moved.event ≡ Did (item.Act frame index done) → MayAct node past frame index done
      → Keeps cluster (moved ∷ course) frames → Stacked cluster (moved ∷ course) (after_act node done (live frames.stack))
  act_keeps frame index done is may keeps =
      let first = first_is (live frames.stack) may.life may.acts.is in
      let alive : Stacked cluster (moved ∷ course) (may.life ∷ first.0) =
      subst (Stacked cluster (moved ∷ course)) first.1 (live_stacked cluster (moved ∷ course) frames.stack keeps.stack) in
      let its = acting cluster moved course tied frame index done may.life is may.acts.named may.index_is may.makes in
      subst (λ it. Stacked cluster (moved ∷ course) (after_act node done it)) (sym first.1)
      (acted_stacked cluster (moved ∷ course) node done may.life first.0 its alive)

  served_stacked : (old : ℤ) (b : Bool) → Stacked cluster (moved ∷ course) frames.stack
      → Stacked cluster (moved ∷ course) (cond b (added old (live frames.stack)) frames.stack)
  served_stacked old true stacked = added_stacked cluster (moved ∷ course) old (live frames.stack) (live_stacked cluster (moved ∷ course) frames.stack stacked)
  served_stacked old false stacked = stacked

  pub item_keeps : (done : Item) → moved.event ≡ Did done → (rest : List Item) (posts : List Msg)
      → IsOwed node past done ⊎ (IsFree past × MayDo node past done rest posts)
      → Keeps cluster (moved ∷ course) frames → Keeps cluster (moved ∷ course) (frames_item node done past frames)
  item_keeps (item.Act frame index act) is rest posts (inl owed) keeps = absurd owed
  item_keeps (item.Act frame index act) is rest posts (inr both) keeps =
      restacked (after_act node act (live frames.stack)) keeps (act_keeps frame index act is both.1 keeps)
  item_keeps (item.Tick frame) is rest posts may keeps =
      restacked _ keeps
      (answered_stacked cluster (moved ∷ course) DoneAnswer (live frames.stack) (live_stacked cluster (moved ∷ course) frames.stack keeps.stack))
  item_keeps (item.Drop page) is rest posts may keeps = keeps
  item_keeps (item.TakeUp frame) is rest posts (inl owed) keeps = absurd owed
  item_keeps (item.TakeUp frame) is rest posts (inr both) keeps =
      taken_keeps frame both.1.life frames.stack frames.ready both.1.younger frames.parked is both.1.named both.1.oldest keeps.ready keeps.parked
  item_keeps (item.OwnFetch page words) is rest posts may keeps =
      restacked (live frames.stack) keeps (live_stacked cluster (moved ∷ course) frames.stack keeps.stack)
  item_keeps (item.OwnReconcile part) is rest posts may keeps = keeps
  item_keeps (item.Served frame index word old addend) is rest posts may keeps = restacked _ keeps (served_stacked old (is_empty (owed_adds past)) keeps.stack)
