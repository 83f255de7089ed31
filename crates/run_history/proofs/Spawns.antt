-- Each Spawn act of a frame in a course is a birth, and they name the frame's children in order.
use Rattle.std.proofs.Common.{◌≡◌, ◌⊎◌, inl, inr, ℕ, ℤ, List, [], ◌∷◌, ◌++◌, Some, None, Bool, true, false, cond, length, map, refl, sym, ◌∙◌, ap, subst, arith}
use Rattle.std.specs.Prelude.{slice_get}
use Rattle.std.proofs.lemmas.List.{append-nil, map-append}
use Rattle.std.proofs.lemmas.List.Elements.{filter_map-append, Contains-append_left, Contains-append_right}
use Rattle.std.specs.List.{Contains, filter_map, cons_option}
use Rattle.page_messages.specs.declared.closure.FrameId.{FrameId}
use Rattle.page_messages.specs.declared.log.LoggedAct.{LoggedAct}
use Rattle.page_messages.specs.declared.log.LoggedAct.TheVariants as act
use Rattle.page_messages.specs.declared.log.Item.TheVariants as item
use Rattle.span_tree.specs.declared.act.Act.{Act}
use Rattle.span_tree.specs.declared.act.Act.TheVariants as row
use Rattle.span_tree.specs.History.{spawned_by}
use Rattle.span_tree.proofs.Growing.{get_more}
use Rattle.cluster_rules.specs.Lives.{same_frame}
use Rattle.cluster_rules.specs.Turns.{Event, Did, Sent, Took, Ended}
use Rattle.cluster_rules.specs.Positions.{Moved, Course}
use Rattle.cluster_rules.specs.Runs.{Cluster}
use Rattle.cluster_rules.specs.Histories.{Birth, act_of, row_number}
use Rattle.cluster_rules.proofs.Marks.{same_name}
use Rattle.cluster_rules.proofs.Stepping.{Stepped}
use Rattle.cluster_rules.proofs.Indexing.{index_is_count}
use Rattle.run_history.proofs.Walk.{child_of, children}
use Rattle.run_history.proofs.Births.{born_in, births_by, Bears, born_one, born_more}
use Rattle.run_history.proofs.Acts.{acts_in, acts_by, acts_more, acts_counted}

module _ (frames : List FrameId) where
  -- what the Spawn act is that names a row
  pub record SpawnOf (done : LoggedAct) (number : ℕ) : Type 0 where
    pub child : FrameId
    pub procedure : ℕ
    pub arguments : List ℤ
    pub is : done ≡ act.Spawn child procedure arguments
    pub number_is : row_number frames child ≡ number

  spawn_of : (done : LoggedAct) (number : ℕ) → act_of frames done ≡ row.Spawn number → SpawnOf done number
  spawn_of (act.Read word value) number is = absurd cc
  spawn_of (act.Write word value) number is = absurd cc
  spawn_of (act.Print value) number is = absurd cc
  spawn_of act.Sync number is = absurd cc
  spawn_of (act.Spawn child procedure arguments) number is = record { child = child; procedure = procedure; arguments = arguments; is = refl; number_is = cc }

  -- the birth that a Spawn act is
  pub record BirthOf (frame : FrameId) (event : Event) (number : ℕ) : Type 0 where
    pub birth : Birth
    pub is : Bears birth event
    pub parent : birth.parent ≡ frame
    pub number_is : row_number frames birth.child ≡ number

  abbrev Adds : FrameId → Event → Type 0
  Adds frame event = (done : Act) × (acts_by frames frame event ≡ done ∷ []) × ((number : ℕ) → done ≡ row.Spawn number → BirthOf frame event number)

  birth_of_spawn : (frame other : FrameId) (index : ℕ) (done : LoggedAct) → other ≡ frame → (number : ℕ) → SpawnOf done number
      → BirthOf frame (Did (item.Act other index done)) number
  birth_of_spawn frame other index done same number it = record {
    birth = record { child = it.child; parent = other; index = index; procedure = it.procedure; arguments = it.arguments };
    is = ap (λ one. Did (item.Act other index one)) it.is;
    parent = same;
    number_is = it.number_is;
  }

  adds : (frame : FrameId) (event : Event) → (acts_by frames frame event ≡ []) ⊎ Adds frame event
  adds frame (Did (item.Act other index done)) = on (same_frame other frame) refl
    where
      on : (b : Bool) → same_frame other frame ≡ b → (acts_by frames frame (Did (item.Act other index done)) ≡ [])
          ⊎ Adds frame (Did (item.Act other index done))
      on true is = inr (
        act_of frames done,
        ap (λ b. cons_option (cond b (Some (act_of frames done)) None) []) is,
        λ number spawns. birth_of_spawn frame other index done (same_name other frame is) number (spawn_of done number spawns),
      )
      on false is = inl (ap (λ b. cons_option (cond b (Some (act_of frames done)) None) []) is)
  adds frame (Did (item.Served other index word old addend)) = on (same_frame other frame) refl
    where
      on : (b : Bool) → same_frame other frame ≡ b → (acts_by frames frame (Did (item.Served other index word old addend)) ≡ [])
          ⊎ Adds frame (Did (item.Served other index word old addend))
      on true is = inr (row.Add word old addend, ap (λ b. cons_option (cond b (Some (row.Add word old addend)) None) []) is, λ number spawns. absurd cc)
      on false is = inl (ap (λ b. cons_option (cond b (Some (row.Add word old addend)) None) []) is)
  adds frame (Did (item.Tick other)) = inl refl
  adds frame (Did (item.Drop page)) = inl refl
  adds frame (Did (item.TakeUp other)) = inl refl
  adds frame (Did (item.OwnFetch page words)) = inl refl
  adds frame (Did (item.OwnReconcile part)) = inl refl
  adds frame (Sent message) = inl refl
  adds frame (Took message) = inl refl
  adds frame (Ended end) = inl refl

  -- A Spawn act in a course is the birth of the child that it names.
  pub record IsBirth (course : Course) (frame : FrameId) (place number : ℕ) : Type 0 where
    pub birth : Birth
    pub there : Contains (born_in course) birth
    pub parent : birth.parent ≡ frame
    pub index : birth.index ≡ place
    pub number_is : row_number frames birth.child ≡ number

  older_birth : (moved : Moved) (course : Course) (frame : FrameId) (place number : ℕ) → IsBirth course frame place number
      → IsBirth (moved ∷ course) frame place number
  older_birth moved course frame place number it = record {
    birth = it.birth;
    there =
        subst (λ list. Contains list it.birth) (sym (born_more moved course)) (Contains-append_left (born_in course) (births_by moved.event) it.birth it.there);
    parent = it.parent;
    index = it.index;
    number_is = it.number_is;
  }

  pub spawn_is_birth : (cluster : Cluster) (course : Course) → Stepped cluster course → (frame : FrameId) (place number : ℕ)
      → slice_get (acts_in frames frame course) place ≡ Some (row.Spawn number) → IsBirth course frame place number
  spawn_is_birth cluster [] stepped frame place number found = absurd cc
  spawn_is_birth cluster (moved ∷ course) stepped frame place number found =
      on (adds frame moved.event) (λ older. older_birth moved course frame place number (spawn_is_birth cluster course stepped.0 frame place number older))
    where
      on : (acts_by frames frame moved.event ≡ []) ⊎ Adds frame moved.event
          → (slice_get (acts_in frames frame course) place ≡ Some (row.Spawn number) → IsBirth (moved ∷ course) frame place number)
          → IsBirth (moved ∷ course) frame place number
      on (inl none) rest =
          let same : acts_in frames frame (moved ∷ course) ≡ acts_in frames frame course =
          acts_more frames frame moved course ∙ ap (λ list. acts_in frames frame course ++ list) none ∙ append-nil (acts_in frames frame course) in
          rest (subst (λ list. slice_get list place ≡ Some (row.Spawn number)) same found)
      on (inr (done, is, births)) rest =
          let same = acts_more frames frame moved course ∙ ap (λ list. acts_in frames frame course ++ list) is in
          elim (get_more (acts_in frames frame course) done (row.Spawn number) place
          (subst (λ list. slice_get list place ≡ Some (row.Spawn number)) same found)) [
            | inl older ↦ rest older
            | inr here ↦ now (births number here.1) here.0
          ]
        where
          now : BirthOf frame moved.event number → place ≡ length (acts_in frames frame course) → IsBirth (moved ∷ course) frame place number
          now it place_is =
              let birth = it.birth in
              let step = item.Act birth.parent birth.index (act.Spawn birth.child birth.procedure birth.arguments) in
              let count = index_is_count cluster course moved stepped step it.is frame birth.index (it.parent, refl) in
              record {
                birth = birth;
                there =
                    subst (λ list. Contains list birth) (sym (born_one moved course birth it.is))
                    (Contains-append_right (born_in course) (birth ∷ []) birth (0, omega arith, refl));
                parent = it.parent;
                index = count ∙ sym (acts_counted frames frame course) ∙ sym place_is;
                number_is = it.number_is;
              }

  -- ---- the children in order

  no_spawn : (b : Bool) (done : Act) → spawned_by done ≡ None → filter_map spawned_by (cons_option (cond b (Some done) None) []) ≡ []
  no_spawn true done is = ap (λ it. cons_option it []) is
  no_spawn false done is = refl

  a_spawn : (b : Bool) (child : FrameId) → filter_map spawned_by (cons_option (cond b (Some (row.Spawn (row_number frames child))) None) [])
      ≡ map (row_number frames) (cons_option (cond b (Some child) None) [])
  a_spawn true child = refl
  a_spawn false child = refl

  spawns_by : (frame : FrameId) (event : Event)
      → filter_map spawned_by (acts_by frames frame event) ≡ map (row_number frames) (children (births_by event) frame)
  spawns_by frame (Did (item.Act other index (act.Read word value))) = no_spawn (same_frame other frame) (row.Read word value) refl
  spawns_by frame (Did (item.Act other index (act.Write word value))) = no_spawn (same_frame other frame) (row.Write word value) refl
  spawns_by frame (Did (item.Act other index (act.Print value))) = no_spawn (same_frame other frame) (row.Print value) refl
  spawns_by frame (Did (item.Act other index act.Sync)) = no_spawn (same_frame other frame) row.Sync refl
  spawns_by frame (Did (item.Act other index (act.Spawn child procedure arguments))) = a_spawn (same_frame other frame) child
  spawns_by frame (Did (item.Served other index word old addend)) = no_spawn (same_frame other frame) (row.Add word old addend) refl
  spawns_by frame (Did (item.Tick other)) = refl
  spawns_by frame (Did (item.Drop page)) = refl
  spawns_by frame (Did (item.TakeUp other)) = refl
  spawns_by frame (Did (item.OwnFetch page words)) = refl
  spawns_by frame (Did (item.OwnReconcile part)) = refl
  spawns_by frame (Sent message) = refl
  spawns_by frame (Took message) = refl
  spawns_by frame (Ended end) = refl

  -- The Spawn acts of a frame name the rows of its children in order.
  pub spawns_in : (frame : FrameId) (course : Course)
      → filter_map spawned_by (acts_in frames frame course) ≡ map (row_number frames) (children (born_in course) frame)
  spawns_in frame [] = refl
  spawns_in frame (moved ∷ course) =
      ap (filter_map spawned_by) (acts_more frames frame moved course)
      ∙ filter_map-append spawned_by (acts_in frames frame course) (acts_by frames frame moved.event)
      ∙ ap (λ list. list ++ filter_map spawned_by (acts_by frames frame moved.event)) (spawns_in frame course)
      ∙ ap (λ list. map (row_number frames) (children (born_in course) frame) ++ list) (spawns_by frame moved.event)
      ∙ sym (map-append (row_number frames) (children (born_in course) frame) (children (births_by moved.event) frame))
      ∙ ap (map (row_number frames)) (sym (filter_map-append (child_of frame) (born_in course) (births_by moved.event))
      ∙ ap (λ births. children births frame) (sym (born_more moved course)))
