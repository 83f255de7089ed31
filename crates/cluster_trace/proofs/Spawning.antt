-- Where the Spawn of a frame stands, and that each frame that acts was made before.
use Rattle.std.proofs.Common.{◌≡◌, ◌≢◌, ◌⊎◌, inl, inr, ℕ, ◌<◌, ℤ, List, [], ◌∷◌, Option, Some, None, true, length, refl, sym, ◌∙◌, ap, subst}
use Rattle.page_messages.specs.declared.closure.FrameId.{FrameId}
use Rattle.page_messages.specs.declared.log.LoggedAct.{LoggedAct}
use Rattle.page_messages.specs.declared.log.LoggedAct.TheVariants as act
use Rattle.page_messages.specs.declared.log.Item.{Item}
use Rattle.page_messages.specs.declared.log.Item.TheVariants as item
use Rattle.cluster_rules.specs.Turns.{WholeTurn, Event, Did, Sent, Took, Ended}
use Rattle.cluster_rules.specs.Positions.{Moved, Course, course_of, at, before, Happens}
use Rattle.cluster_rules.specs.Runs.{Cluster, IsLawful}
use Rattle.cluster_rules.proofs.Stepping.{Stepped, lawful_stepped, stepped_before}
use Rattle.cluster_rules.proofs.Marks.{same_name}
use Rattle.cluster_rules.proofs.Indexing.{Claims}
use Rattle.cluster_rules.proofs.Places.{Spawns, SpawnsAct, SpawnsItem, WasSpawned, WasMade, held_made, claims_made, spawned_new, spawned_once}
use Rattle.backer_order.specs.Log as log
use Rattle.cluster_order.specs.Reading.{act_of, happens_to, events_of}
use Rattle.cluster_order.specs.Standing.{first}
use Rattle.cluster_order.proofs.Fronts.{first_at}
use Rattle.cluster_order.proofs.Growing.{within, at_behind, at_last}
use Rattle.cluster_order.proofs.Events.{Acted, Served, acted_is, ticked_is, event_at}
use Rattle.cluster_order.proofs.Lawful.{tick_allowed}
use Rattle.cluster_edges.proofs.Asking.{step_at}
use Rattle.cluster_edges.proofs.BlockOf.{actor_held}
use Rattle.cluster_edges.proofs.Firsts.{at_whole, before_position}
use Rattle.determinacy.specs.Replies.{by, Born}

-- ---- the Spawn of a frame

pub record IsBirth (frame : FrameId) (event : Event) : Type 0 where
  pub parent : FrameId
  pub index : ℕ
  pub procedure : ℕ
  pub arguments : List ℤ
  pub is : event ≡ Did (item.Act parent index (act.Spawn frame procedure arguments))

act_births : (frame parent : FrameId) (index : ℕ) (done : LoggedAct) → SpawnsAct frame done → IsBirth frame (Did (item.Act parent index done))
act_births frame parent index (act.Read word value) spawns = absurd spawns
act_births frame parent index (act.Write word value) spawns = absurd spawns
act_births frame parent index (act.Print value) spawns = absurd spawns
act_births frame parent index (act.Spawn child procedure arguments) spawns = record {
  parent = parent;
  index = index;
  procedure = procedure;
  arguments = arguments;
  is = ap (λ it. Did (item.Act parent index (act.Spawn it procedure arguments))) spawns;
}
act_births frame parent index act.Sync spawns = absurd spawns

item_births : (frame : FrameId) (done : Item) → SpawnsItem frame done → IsBirth frame (Did done)
item_births frame (item.Act parent index done) spawns = act_births frame parent index done spawns
item_births frame (item.Tick other) spawns = absurd spawns
item_births frame (item.Drop page) spawns = absurd spawns
item_births frame (item.TakeUp other) spawns = absurd spawns
item_births frame (item.OwnFetch page words) spawns = absurd spawns
item_births frame (item.OwnReconcile part) spawns = absurd spawns
item_births frame (item.Served other index word old addend) spawns = absurd spawns

pub births : (frame : FrameId) (event : Event) → Spawns frame event → IsBirth frame event
births frame (Did done) spawns = item_births frame done spawns
births frame (Sent message) spawns = absurd spawns
births frame (Took message) spawns = absurd spawns
births frame (Ended end) spawns = absurd spawns

pub birth_spawns : (frame parent : FrameId) (index procedure : ℕ) (arguments : List ℤ) (event : Event)
    → event ≡ Did (item.Act parent index (act.Spawn frame procedure arguments))
    → Spawns frame event
birth_spawns frame parent index procedure arguments event is = subst (Spawns frame) (sym is) refl

pub record SpawnedAt (frame : FrameId) (course : Course) : Type 0 where
  pub position : ℕ
  pub moved : Moved
  pub found : at course position ≡ Some moved
  pub spawns : Spawns frame moved.event

pub spawned_at : (frame : FrameId) (course : Course) → WasSpawned frame course → SpawnedAt frame course
spawned_at frame [] was = absurd was
spawned_at frame (moved ∷ course) (inl spawns) = record { position = length course; moved = moved; found = at_last moved course; spawns = spawns }
spawned_at frame (moved ∷ course) (inr was) =
    let it = spawned_at frame course was in
    record {
      position = it.position;
      moved = it.moved;
      found = at_behind (moved ∷ []) course it.position (within course it.position it.moved it.found) ∙ it.found;
      spawns = it.spawns;
    }

-- ---- by events

act_spawn : (child : FrameId) (done : LoggedAct) → act_of done ≡ log.Spawn child
    → (procedure : ℕ) × (arguments : List ℤ) × (done ≡ act.Spawn child procedure arguments)
act_spawn child (act.Read word value) is = absurd (cc)
act_spawn child (act.Write word value) is = absurd (cc)
act_spawn child (act.Print value) is = absurd (cc)
act_spawn child (act.Spawn other procedure arguments) is =
    let same : other ≡ child = cc in (procedure, arguments, ap (λ it. act.Spawn it procedure arguments) same)
act_spawn child act.Sync is = absurd (cc)

module _ (cluster : Cluster) (turns : List WholeTurn) (lawful : IsLawful cluster turns) where
  abbrev course : Course
  course = course_of turns

  abbrev events : ℕ → log.Event
  events = events_of cluster course

  pub all_stepped : Stepped cluster course
  all_stepped = lawful_stepped cluster turns lawful

  pub step_then : (position : ℕ) (moved : Moved) → at course position ≡ Some moved → Stepped cluster (moved ∷ before course position)
  step_then position moved found = (stepped_before cluster course all_stepped position, step_at cluster course all_stepped position moved found)

  pub record BirthAt (position node : ℕ) (frame child : FrameId) : Type 0 where
    pub moved : Moved
    pub found : at course position ≡ Some moved
    pub index : ℕ
    pub procedure : ℕ
    pub arguments : List ℤ
    pub is : moved.event ≡ Did (item.Act frame index (act.Spawn child procedure arguments))
    pub node_is : moved.node ≡ node

  -- A Spawn by its event.
  pub birth_at : (position node : ℕ) (frame child : FrameId) → events position ≡ log.Acts node frame (log.Spawn child) → BirthAt position node frame child
  birth_at position node frame child is = on (acted_is cluster course position node frame (log.Spawn child) is)
    where
      on : Acted cluster course position node frame (log.Spawn child) ⊎ Served cluster course position node frame (log.Spawn child)
          → BirthAt position node frame child
      on (inr it) = let not = it.act_is in absurd (cc)
      on (inl it) =
          let done = act_spawn child it.act it.act_is in
          record {
            moved = it.is.moved;
            found = it.is.is;
            index = it.index;
            procedure = done.0;
            arguments = done.1;
            is = it.is.event_is ∙ ap (λ act. Did (item.Act frame it.index act)) done.2;
            node_is = it.is.by;
          }

  pub birth_there : (position node : ℕ) (frame child : FrameId) (it : BirthAt position node frame child) → Spawns child it.moved.event
  birth_there position node frame child it = birth_spawns child frame it.index it.procedure it.arguments it.moved.event it.is

  -- ---- what was made

  -- the frame of an act or a served add was made before
  claimer_made : (number position : ℕ) (frame : FrameId) (index : ℕ) (done : Item) → Happens course number position (Did done) → Claims frame index done
      → WasMade frame (before course position)
  claimer_made number position frame index done happens claims =
      claims_made cluster (before course position) happens.moved (step_then position happens.moved happens.is) done happens.event_is frame index claims

  pub actor_made : (position node : ℕ) (frame : FrameId) (done : log.Act) → events position ≡ log.Acts node frame done → WasMade frame (before course position)
  actor_made position node frame done is = on (acted_is cluster course position node frame done is)
    where
      on : Acted cluster course position node frame done ⊎ Served cluster course position node frame done → WasMade frame (before course position)
      on (inl it) = claimer_made node position frame it.index (item.Act frame it.index it.act) it.is (refl, refl)
      on (inr it) = claimer_made it.home position frame it.index (item.Served frame it.index it.word it.old it.addend) it.is (refl, refl)

  pub ticker_made : (position node : ℕ) (frame : FrameId) → events position ≡ log.Tick node frame → WasMade frame (before course position)
  ticker_made position node frame is =
      let happens = ticked_is cluster course position node frame is in
      let may = (tick_allowed cluster turns lawful node position frame happens).1 in
      let less : node < cluster.config.nodes = subst (λ it. it < cluster.config.nodes) happens.by
      (step_at cluster course all_stepped position happens.moved happens.is).within in
      held_made cluster (before course position) (stepped_before cluster course all_stepped position) frame
      (actor_held cluster (before course position) node frame may.life less may.acts)

  -- what was made before a position is born there
  pub made_first : (position : ℕ) (frame : FrameId) → WasMade frame (first position course) → Born events position frame
  made_first position frame (inl main) = inl main
  made_first position frame (inr was) =
      let it = spawned_at frame (first position course) was in
      let birth = births frame it.moved.event it.spawns in
      let there = at_whole course position it.position it.moved it.found in
      inr
      (record {
        at = it.position;
        node = it.moved.node;
        parent = birth.parent;
        before = before_position course position it.position it.moved it.found;
        is =
            event_at cluster course it.position it.moved there
            ∙ ap (λ event. happens_to cluster (before course it.position) it.moved.node it.moved.message event) birth.is;
      })

  -- so it is at an event
  pub made_born : (position : ℕ) (moved : Moved) → at course position ≡ Some moved → (frame : FrameId) → WasMade frame (before course position)
      → Born events position frame
  made_born position moved found frame made = made_first position frame (subst (WasMade frame) (sym (first_at position course moved found)) made)

  -- ---- what executions keep of births

  pub fresh_spawn : (position again node other : ℕ) (frame second child : FrameId) → events position ≡ log.Acts node frame (log.Spawn child)
      → events again ≡ log.Acts other second (log.Spawn child) → position ≡ again
  fresh_spawn position again node other frame second child is is' =
      let one = birth_at position node frame child is in
      let two = birth_at again other second child is' in
      spawned_once cluster course all_stepped child position again one.moved two.moved one.found two.found (birth_there position node frame child one)
      (birth_there again other second child two)

  pub never_main : (position node : ℕ) (frame child : FrameId) → events position ≡ log.Acts node frame (log.Spawn child) → child ≢ log.main_id
  never_main position node frame child is main =
      let it = birth_at position node frame child is in
      spawned_new cluster (before course position) it.moved (step_then position it.moved it.found) child (birth_there position node frame child it) (inl main)

  made_there : (position : ℕ) (frame : FrameId) (event : log.Event) → events position ≡ event → by frame event ≡ true → WasMade frame (before course position)
  unfolding by
  made_there position frame log.Nothing is acts = absurd (cc)
  made_there position frame (log.Acts node actor done) is acts =
      subst (λ it. WasMade it (before course position)) (same_name actor frame acts) (actor_made position node actor done is)
  made_there position frame (log.Tick node actor) is acts =
      subst (λ it. WasMade it (before course position)) (same_name actor frame acts) (ticker_made position node actor is)
  made_there position frame (log.Drop node page) is acts = absurd (cc)
  made_there position frame (log.TakeUp node taken) is acts = absurd (cc)
  made_there position frame (log.OwnFetch node page words) is acts = absurd (cc)
  made_there position frame (log.OwnReconcile node part) is acts = absurd (cc)
  made_there position frame (log.Post node receiver note) is acts = absurd (cc)
  made_there position frame (log.Took node post) is acts = absurd (cc)
  made_there position frame (log.End node) is acts = absurd (cc)

  pub not_nothing : (frame : FrameId) → by frame log.Nothing ≡ true → ⊥
  unfolding by
  not_nothing frame acts = absurd (cc)

  -- A frame of which an item stands at a position was born before.
  pub born_before : (position : ℕ) (frame : FrameId) → by frame (events position) ≡ true → Born events position frame
  born_before position frame acts = on (at course position) refl
    where
      on : (option : Option Moved) → at course position ≡ option → Born events position frame
      on None none = let nothing : events position ≡ log.Nothing = rw none refl in absurd (not_nothing frame (ap (by frame) (sym nothing) ∙ acts))
      on (Some moved) found = made_born position moved found frame (made_there position frame (events position) refl acts)
