-- What each frame of an execution runs, and for which local of its parent its value is: what its Spawn says.
use Rattle.std.proofs.Common.{◌≡◌, ℕ, suc, ℤ, List, [], ◌∷◌, ◌++◌, Option, Some, Bool, true, false, cond, inl, inr, refl, sym, ◌∙◌, ap, subst}
use Rattle.page_messages.specs.declared.closure.FrameId.{FrameId}
use Rattle.page_messages.specs.declared.log.LoggedAct.TheVariants as act
use Rattle.page_messages.specs.declared.log.Item.TheVariants as item
use Rattle.cluster_rules.specs.Turns.{WholeTurn, Event, Did, Sent, Took, Ended}
use Rattle.cluster_rules.specs.Lives.{same_frame, main_id}
use Rattle.cluster_rules.specs.Frames.{highest}
use Rattle.cluster_rules.specs.Positions.{Moved, Course, course_of, own, at, before}
use Rattle.cluster_rules.specs.Runs.{Cluster, IsLawful, node_at}
use Rattle.cluster_rules.proofs.Stepping.{Stepped}
use Rattle.cluster_rules.proofs.Coursing.{at_splits}
use Rattle.cluster_rules.proofs.Marks.{same_name, same_self}
use Rattle.cluster_rules.proofs.Places.{Spawns, WasMade, spawned_new}
use Rattle.backer_order.specs.Log as log
use Rattle.cluster_order.specs.Reading.{happens_to, events_of}
use Rattle.cluster_order.proofs.Events.{event_at}
use Rattle.determinacy.specs.Replies.{Instance}
use Rattle.cluster_trace.specs.Instances.{main_instance, child_of, instance_on, instance_of, target_by, target_on, target_of}
use Rattle.cluster_trace.proofs.Spawning.{all_stepped, step_then, birth_spawns, BirthAt, birth_at, birth_there, actor_made}

-- ---- an event that does not spawn the frame

module _ (frame : FrameId) where
  if_other : {A : Type 0} (child : FrameId) (one other : A) → (child ≡ frame → ⊥) → cond (same_frame child frame) one other ≡ other
  if_other child one other not = on (same_frame child frame) refl
    where
      on : (b : Bool) → same_frame child frame ≡ b → cond b one other ≡ other
      on true is = absurd (not (same_name child frame is))
      on false is = refl

  instance_else : (event : Event) (earlier : FrameId → Instance) → (Spawns frame event → ⊥) → instance_on event earlier frame ≡ earlier frame
  instance_else (Did (item.Act parent index (act.Read word value))) earlier not = refl
  instance_else (Did (item.Act parent index (act.Write word value))) earlier not = refl
  instance_else (Did (item.Act parent index (act.Print value))) earlier not = refl
  instance_else (Did (item.Act parent index (act.Spawn child procedure arguments))) earlier not =
      if_other child (child_of procedure arguments (earlier parent)) (earlier frame) not
  instance_else (Did (item.Act parent index act.Sync)) earlier not = refl
  instance_else (Did (item.Tick other)) earlier not = refl
  instance_else (Did (item.Drop page)) earlier not = refl
  instance_else (Did (item.TakeUp other)) earlier not = refl
  instance_else (Did (item.OwnFetch page words)) earlier not = refl
  instance_else (Did (item.OwnReconcile part)) earlier not = refl
  instance_else (Did (item.Served other index word old addend)) earlier not = refl
  instance_else (Sent message) earlier not = refl
  instance_else (Took message) earlier not = refl
  instance_else (Ended end) earlier not = refl

  target_else : (event : Event) (wanted : Option ℕ) (earlier : FrameId → Option ℕ) → (Spawns frame event → ⊥)
      → target_on event wanted earlier frame ≡ earlier frame
  target_else (Did (item.Act parent index (act.Read word value))) wanted earlier not = refl
  target_else (Did (item.Act parent index (act.Write word value))) wanted earlier not = refl
  target_else (Did (item.Act parent index (act.Print value))) wanted earlier not = refl
  target_else (Did (item.Act parent index (act.Spawn child procedure arguments))) wanted earlier not = if_other child wanted (earlier frame) not
  target_else (Did (item.Act parent index act.Sync)) wanted earlier not = refl
  target_else (Did (item.Tick other)) wanted earlier not = refl
  target_else (Did (item.Drop page)) wanted earlier not = refl
  target_else (Did (item.TakeUp other)) wanted earlier not = refl
  target_else (Did (item.OwnFetch page words)) wanted earlier not = refl
  target_else (Did (item.OwnReconcile part)) wanted earlier not = refl
  target_else (Did (item.Served other index word old addend)) wanted earlier not = refl
  target_else (Sent message) wanted earlier not = refl
  target_else (Took message) wanted earlier not = refl
  target_else (Ended end) wanted earlier not = refl

-- ---- the event that spawns it

instance_new : (child parent : FrameId) (index procedure : ℕ) (arguments : List ℤ) (event : Event) (earlier : FrameId → Instance)
    → event ≡ Did (item.Act parent index (act.Spawn child procedure arguments))
    → instance_on event earlier child ≡ child_of procedure arguments (earlier parent)
instance_new child parent index procedure arguments event earlier is =
    ap (λ it. instance_on it earlier child) is ∙ ap (λ b. cond b (child_of procedure arguments (earlier parent)) (earlier child)) (same_self child)

target_new : (child parent : FrameId) (index procedure : ℕ) (arguments : List ℤ) (event : Event) (wanted : Option ℕ) (earlier : FrameId → Option ℕ)
    → event ≡ Did (item.Act parent index (act.Spawn child procedure arguments)) → target_on event wanted earlier child ≡ wanted
target_new child parent index procedure arguments event wanted earlier is =
    ap (λ it. target_on it wanted earlier child) is ∙ ap (λ b. cond b wanted (earlier child)) (same_self child)

-- ---- what was made stays

made_more : (frame : FrameId) (later base : Course) → WasMade frame base → WasMade frame (later ++ base)
made_more frame [] base made = made
made_more frame (moved ∷ later) base made = on (made_more frame later base made)
  where
    on : WasMade frame (later ++ base) → WasMade frame (moved ∷ later ++ base)
    on (inl main) = inl main
    on (inr was) = inr (inr was)

pub instance_more : (cluster : Cluster) (frame : FrameId) (later base : Course) → Stepped cluster (later ++ base) → WasMade frame base
    → instance_of cluster (later ++ base) frame ≡ instance_of cluster base frame
instance_more cluster frame [] base stepped made = refl
instance_more cluster frame (moved ∷ later) base stepped made =
    instance_else frame moved.event (instance_of cluster (later ++ base))
    (λ spawns. spawned_new cluster (later ++ base) moved stepped frame spawns (made_more frame later base made))
    ∙ instance_more cluster frame later base stepped.0 made

pub target_more : (cluster : Cluster) (frame : FrameId) (later base : Course) → Stepped cluster (later ++ base) → WasMade frame base
    → target_of cluster (later ++ base) frame ≡ target_of cluster base frame
target_more cluster frame [] base stepped made = refl
target_more cluster frame (moved ∷ later) base stepped made =
    target_else frame moved.event (target_by (highest (node_at cluster moved.node) (own moved.node (later ++ base)))) (target_of cluster (later ++ base))
    (λ spawns. spawned_new cluster (later ++ base) moved stepped frame spawns (made_more frame later base made))
    ∙ target_more cluster frame later base stepped.0 made

-- `main` runs the code's `main`
pub main_runs : (cluster : Cluster) (course : Course) → Stepped cluster course → instance_of cluster course main_id ≡ main_instance cluster
main_runs cluster [] stepped = refl
main_runs cluster (moved ∷ course) stepped =
    instance_else main_id moved.event (instance_of cluster course) (λ spawns. spawned_new cluster course moved stepped main_id spawns (inl refl))
    ∙ main_runs cluster course stepped.0

-- ---- at a position

module _ (cluster : Cluster) (turns : List WholeTurn) (lawful : IsLawful cluster turns) where
  abbrev course : Course
  course = course_of turns

  -- What a frame runs that is made up to a position is known there.
  pub instance_then : (position : ℕ) (moved : Moved) → at course position ≡ Some moved → (frame : FrameId) → WasMade frame (moved ∷ before course position)
      → instance_of cluster course frame ≡ instance_of cluster (moved ∷ before course position) frame
  instance_then position moved found frame made =
      let split = at_splits course position moved found in
      ap (λ it. instance_of cluster it frame) split.parts
      ∙ instance_more cluster frame split.later (moved ∷ before course position) (subst (Stepped cluster) split.parts (all_stepped cluster turns lawful)) made

  pub target_then : (position : ℕ) (moved : Moved) → at course position ≡ Some moved → (frame : FrameId) → WasMade frame (moved ∷ before course position)
      → target_of cluster course frame ≡ target_of cluster (moved ∷ before course position) frame
  target_then position moved found frame made =
      let split = at_splits course position moved found in
      ap (λ it. target_of cluster it frame) split.parts
      ∙ target_more cluster frame split.later (moved ∷ before course position) (subst (Stepped cluster) split.parts (all_stepped cluster turns lawful)) made

  -- what was made before the position
  pub instance_before : (position : ℕ) (moved : Moved) → at course position ≡ Some moved → (frame : FrameId) → WasMade frame (before course position)
      → instance_of cluster course frame ≡ instance_of cluster (before course position) frame
  instance_before position moved found frame made =
      instance_then position moved found frame (made_more frame (moved ∷ []) (before course position) made)
      ∙ instance_more cluster frame (moved ∷ []) (before course position) (step_then cluster turns lawful position moved found) made

  -- A child runs what its Spawn says, one deeper than its parent.
  pub child_runs : (position node : ℕ) (frame child : FrameId) → events_of cluster course position ≡ log.Acts node frame (log.Spawn child)
      → (it : BirthAt cluster turns lawful position node frame child)
      × (instance_of cluster course child ≡ child_of it.procedure it.arguments (instance_of cluster course frame))
  child_runs position node frame child is =
      let it = birth_at cluster turns lawful position node frame child is in
      let spawns = birth_there cluster turns lawful position node frame child it in
      let made = actor_made cluster turns lawful position node frame (log.Spawn child) is in
      let parent = instance_before position it.moved it.found frame made in (
        it,
        instance_then position it.moved it.found child (inr (inl spawns))
            ∙ instance_new child frame it.index it.procedure it.arguments it.moved.event (instance_of cluster (before course position)) it.is
            ∙ ap (child_of it.procedure it.arguments) (sym parent),
      )

  pub one_deeper : (position node : ℕ) (frame child : FrameId) → events_of cluster course position ≡ log.Acts node frame (log.Spawn child)
      → (instance_of cluster course child).depth ≡ suc (instance_of cluster course frame).depth
  one_deeper position node frame child is = ap (λ (it : Instance). it.depth) (child_runs position node frame child is).1

  -- Its value is for the local that the frame wants it for which acts there.
  pub child_target : (position node : ℕ) (frame child : FrameId) → events_of cluster course position ≡ log.Acts node frame (log.Spawn child)
      → target_of cluster course child ≡ target_by (highest (node_at cluster node) (own node (before course position)))
  child_target position node frame child is =
      let it = birth_at cluster turns lawful position node frame child is in
      let spawns = birth_there cluster turns lawful position node frame child it in
      target_then position it.moved it.found child (inr (inl spawns))
      ∙ target_new child frame it.index it.procedure it.arguments it.moved.event
      (target_by (highest (node_at cluster it.moved.node) (own it.moved.node (before course position)))) (target_of cluster (before course position)) it.is
      ∙ ap (λ number. target_by (highest (node_at cluster number) (own number (before course position)))) it.node_is

  -- A child at the event that spawns it.
  module _ (position : ℕ) (moved : Moved) (found : at course position ≡ Some moved) (frame : FrameId) (index : ℕ) (child : FrameId) (procedure : ℕ)
      (arguments : List ℤ)
      (is : moved.event ≡ Did (item.Act frame index (act.Spawn child procedure arguments))) where
    spawned_there : events_of cluster course position ≡ log.Acts moved.node frame (log.Spawn child)
    spawned_there = event_at cluster course position moved found ∙ ap (happens_to cluster (before course position) moved.node moved.message) is

    pub child_instance : instance_of cluster course child ≡ child_of procedure arguments (instance_of cluster course frame)
    child_instance =
        let made = actor_made cluster turns lawful position moved.node frame (log.Spawn child) spawned_there in
        instance_then position moved found child (inr (inl (birth_spawns child frame index procedure arguments moved.event is)))
        ∙ instance_new child frame index procedure arguments moved.event (instance_of cluster (before course position)) is
        ∙ ap (child_of procedure arguments) (sym (instance_before position moved found frame made))

    pub child_aims : target_of cluster course child ≡ target_by (highest (node_at cluster moved.node) (own moved.node (before course position)))
    child_aims =
        target_then position moved found child (inr (inl (birth_spawns child frame index procedure arguments moved.event is)))
        ∙ target_new child frame index procedure arguments moved.event
        (target_by (highest (node_at cluster moved.node) (own moved.node (before course position))))
        (target_of cluster (before course position)) is
