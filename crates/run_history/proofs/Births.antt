-- The births in a course make a tree, and stand in the acts of their parents at their index.
use Rattle.std.proofs.Common.{◌≡◌, ◌⊎◌, inl, inr, ℕ, zero, suc, ◌+◌, ◌≤◌, List, [], ◌∷◌, ◌++◌, Bool, true, false, refl, sym, ◌∙◌, ap, subst, arith}
use Rattle.std.proofs.lemmas.List.{append-nil}
use Rattle.std.proofs.lemmas.List.Elements.{filter_map-append}
use Rattle.page_messages.specs.declared.closure.FrameId.{FrameId}
use Rattle.page_messages.specs.declared.log.LoggedAct.TheVariants as act
use Rattle.page_messages.specs.declared.log.Item.TheVariants as item
use Rattle.cluster_rules.specs.Lives.{same_frame, main_id}
use Rattle.cluster_rules.specs.Turns.{Event, Did, Sent, Took, Ended}
use Rattle.cluster_rules.specs.Positions.{Moved, Course}
use Rattle.cluster_rules.specs.Runs.{Cluster}
use Rattle.cluster_rules.specs.Histories.{Birth, birth_in, births_of}
use Rattle.cluster_rules.proofs.Marks.{same_self, same_name}
use Rattle.cluster_rules.proofs.Stepping.{Stepped}
use Rattle.cluster_rules.proofs.Places.{Spawns, WasSpawned, WasMade, claims_made, spawned_new}
use Rattle.word_order.proofs.Items.{done_by, done_in}
use Rattle.run_history.proofs.Walk.{one, times}
use Rattle.run_history.proofs.Trees.{IsTree, Bare, Grown, made_by, made_times, at_most_once}

abbrev pub born_in : Course → List Birth
born_in course = births_of (done_in course)

abbrev pub births_by : Event → List Birth
births_by event = births_of (done_by event)

-- the event is this birth
abbrev pub Bears : Birth → Event → Type 0
Bears birth event = event ≡ Did (item.Act birth.parent birth.index (act.Spawn birth.child birth.procedure birth.arguments))

abbrev pub BearsNone : Event → Type 0
BearsNone event = (births_by event ≡ []) × ((frame : FrameId) → Spawns frame event → ⊥)

pub bears : (event : Event) → BearsNone event ⊎ ((birth : Birth) × Bears birth event)
bears (Did (item.Act parent index (act.Read word value))) = inl (refl, λ frame spawns. spawns)
bears (Did (item.Act parent index (act.Write word value))) = inl (refl, λ frame spawns. spawns)
bears (Did (item.Act parent index (act.Print value))) = inl (refl, λ frame spawns. spawns)
bears (Did (item.Act parent index (act.Spawn child procedure arguments))) =
    inr (record { child = child; parent = parent; index = index; procedure = procedure; arguments = arguments }, refl)
bears (Did (item.Act parent index act.Sync)) = inl (refl, λ frame spawns. spawns)
bears (Did (item.Tick other)) = inl (refl, λ frame spawns. spawns)
bears (Did (item.Drop page)) = inl (refl, λ frame spawns. spawns)
bears (Did (item.TakeUp other)) = inl (refl, λ frame spawns. spawns)
bears (Did (item.OwnFetch page words)) = inl (refl, λ frame spawns. spawns)
bears (Did (item.OwnReconcile part)) = inl (refl, λ frame spawns. spawns)
bears (Did (item.Served other index word old addend)) = inl (refl, λ frame spawns. spawns)
bears (Sent message) = inl (refl, λ frame spawns. spawns)
bears (Took message) = inl (refl, λ frame spawns. spawns)
bears (Ended end) = inl (refl, λ frame spawns. spawns)

births_one : (birth : Birth) (event : Event) → Bears birth event → births_by event ≡ birth ∷ []
births_one birth event is = ap births_by is

pub born_more : (moved : Moved) (course : Course) → born_in (moved ∷ course) ≡ born_in course ++ births_by moved.event
born_more moved course = filter_map-append birth_in (done_in course) (done_by moved.event)

pub born_none : (moved : Moved) (course : Course) → births_by moved.event ≡ [] → born_in (moved ∷ course) ≡ born_in course
born_none moved course is = born_more moved course ∙ ap (λ list. born_in course ++ list) is ∙ append-nil (born_in course)

pub born_one : (moved : Moved) (course : Course) (birth : Birth) → Bears birth moved.event → born_in (moved ∷ course) ≡ born_in course ++ birth ∷ []
born_one moved course birth is = born_more moved course ∙ ap (λ list. born_in course ++ list) (births_one birth moved.event is)

-- ---- who was made is in the tree

made_one : (frame : FrameId) (moved : Moved) (course : Course) (birth : Birth) → Bears birth moved.event
    → times frame (made_by (born_in (moved ∷ course))) ≡ times frame (made_by (born_in course)) + one (same_frame frame birth.child)
made_one frame moved course birth is = ap (λ births. times frame (made_by births)) (born_one moved course birth is) ∙ made_times frame (born_in course) birth

made_none : (frame : FrameId) (moved : Moved) (course : Course) → births_by moved.event ≡ []
    → times frame (made_by (born_in (moved ∷ course))) ≡ times frame (made_by (born_in course))
made_none frame moved course is = ap (λ births. times frame (made_by births)) (born_none moved course is)

spawned_child : (frame : FrameId) (birth : Birth) (event : Event) → Bears birth event → Spawns frame event → birth.child ≡ frame
spawned_child frame birth event is spawns = subst (Spawns frame) is spawns

child_spawned : (birth : Birth) (event : Event) → Bears birth event → Spawns birth.child event
child_spawned birth event is = subst (Spawns birth.child) (sym is) refl

was_counts : (course : Course) (frame : FrameId) → WasSpawned frame course → 1 ≤ times frame (made_by (born_in course))
was_counts [] frame was = absurd was
was_counts (moved ∷ course) frame was = on (bears moved.event) was (was_counts course frame)
  where
    on : BearsNone moved.event ⊎ ((birth : Birth) × Bears birth moved.event) → WasSpawned frame (moved ∷ course)
        → (WasSpawned frame course → 1 ≤ times frame (made_by (born_in course)))
        → 1 ≤ times frame (made_by (born_in (moved ∷ course)))
    on (inl none) (inl spawns) rest = absurd (none.1 frame spawns)
    on (inl none) (inr older) rest = let same = made_none frame moved course none.0 in let before = rest older in omega (arith, same, before)
    on (inr born) (inl spawns) rest =
        let sum = made_one frame moved course born.0 born.1 in
        let here : one (same_frame frame (born.0).child) ≡ 1 =
        ap (λ it. one (same_frame frame it)) (spawned_child frame born.0 moved.event born.1 spawns) ∙ ap one (same_self frame) in
        omega (arith, sum, here)
    on (inr born) (inr older) rest = let sum = made_one frame moved course born.0 born.1 in let before = rest older in omega (arith, sum, before)

made_counts : (course : Course) (frame : FrameId) → WasMade frame course → 1 ≤ times frame (made_by (born_in course))
made_counts course frame (inl main) =
    let here : one (same_frame frame main_id) ≡ 1 = ap (λ it. one (same_frame it main_id)) main ∙ ap one (same_self main_id) in omega (arith, here)
made_counts course frame (inr was) = was_counts course frame was

either_bool : (b : Bool) → (b ≡ true) ⊎ (b ≡ false)
either_bool true = inl refl
either_bool false = inr refl

later_made : (moved : Moved) (course : Course) (frame : FrameId) → WasMade frame course → WasMade frame (moved ∷ course)
later_made moved course frame (inl main) = inl main
later_made moved course frame (inr was) = inr (inr was)

counts_made : (course : Course) (frame : FrameId) → 1 ≤ times frame (made_by (born_in course)) → WasMade frame course
counts_made [] frame some = elim (either_bool (same_frame frame main_id)) [
  | inl same ↦ inl (same_name frame main_id same)
  | inr differ ↦ absurd (let none = ap one differ in omega (arith, some, none))
]
counts_made (moved ∷ course) frame some = on (bears moved.event) (counts_made course frame)
  where
    on : BearsNone moved.event ⊎ ((birth : Birth) × Bears birth moved.event) → (1 ≤ times frame (made_by (born_in course)) → WasMade frame course)
        → WasMade frame (moved ∷ course)
    on (inl none) rest = let same = made_none frame moved course none.0 in later_made moved course frame (rest (omega (arith, some, same)))
    on (inr born) rest = elim (either_bool (same_frame frame (born.0).child)) [
      | inl same ↦ inr (inl (subst (λ it. Spawns it moved.event) (sym (same_name frame (born.0).child same)) (child_spawned born.0 moved.event born.1)))
      | inr differ ↦
          let sum = made_one frame moved course born.0 born.1 in
          let none = ap one differ in
          later_made moved course frame (rest (omega (arith, some, sum, none)))
    ]

-- ---- the tree

once : (count : ℕ) → count ≤ 1 → 1 ≤ count → count ≡ 1
once count few some = omega (arith, few, some)

none_or_some : (count : ℕ) → (count ≡ 0) ⊎ (1 ≤ count)
none_or_some zero = inl refl
none_or_some (suc count) = inr (omega arith)

module _ (cluster : Cluster) where
  -- The births of a course are a tree.
  pub is_tree : (course : Course) → Stepped cluster course → IsTree (born_in course)
  is_tree [] stepped = Bare
  is_tree (moved ∷ course) stepped = on (bears moved.event) (is_tree course stepped.0)
    where
      on : BearsNone moved.event ⊎ ((birth : Birth) × Bears birth moved.event) → IsTree (born_in course) → IsTree (born_in (moved ∷ course))
      on (inl none) tree = subst IsTree (sym (born_none moved course none.0)) tree
      on (inr born) tree =
          let birth = born.0 in
          let done = item.Act birth.parent birth.index (act.Spawn birth.child birth.procedure birth.arguments) in
          let made = made_counts course birth.parent (claims_made cluster course moved stepped done born.1 birth.parent birth.index (refl, refl)) in
          let parent = once (times birth.parent (made_by (born_in course))) (at_most_once (born_in course) tree birth.parent) made in
          let child : times birth.child (made_by (born_in course)) ≡ 0 = elim (none_or_some (times birth.child (made_by (born_in course)))) [
            | inl none ↦ none
            | inr some ↦
                absurd (spawned_new cluster course moved stepped birth.child (child_spawned birth moved.event born.1) (counts_made course birth.child some))
          ] in
          subst IsTree (sym (born_one moved course birth born.1)) (Grown (born_in course) birth tree parent child)
