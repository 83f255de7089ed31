-- A frame that is somewhere, or has made an act, is `main` or was spawned before. Each is spawned once.
use Rattle.std.proofs.Common.{◌≡◌, ◌≤◌, ◌<◌, ◌+◌, ◌⊎◌, inl, inr, ℕ, [], ◌∷◌, Some, Bool, true, false, cond, eqb, length, refl, sym, ◌∙◌, ap, subst, arith}
use Rattle.std.proofs.lemmas.Bool.Decides.{nat_tests}
use Rattle.page_messages.specs.declared.closure.FrameId.{FrameId}
use Rattle.page_messages.specs.declared.log.LoggedAct.{LoggedAct}
use Rattle.page_messages.specs.declared.log.LoggedAct.TheVariants as act
use Rattle.page_messages.specs.declared.log.Item.{Item}
use Rattle.page_messages.specs.declared.log.Item.TheVariants as item
use Rattle.cluster_rules.specs.Turns.{Event, Did, Sent, Took, Ended}
use Rattle.cluster_rules.specs.Lives.{same_frame, main_id}
use Rattle.cluster_rules.specs.Frames.{next_frame}
use Rattle.cluster_rules.specs.Runs.{Cluster, node_at}
use Rattle.cluster_rules.specs.Positions.{Moved, Course, own, at, before}
use Rattle.cluster_rules.proofs.Stepping.{Step, Stepped}
use Rattle.cluster_rules.proofs.Marks.{Mark, one, many, named, same_self, same_name}
use Rattle.cluster_rules.proofs.Passing.{born_act, born_by}
use Rattle.cluster_rules.proofs.Holding.{held, held_start, held_more, main_mark, next_grows, IsBorn, births}
use Rattle.cluster_rules.proofs.Indexing.{Claims, claims_held}
use Rattle.cluster_rules.proofs.Claimed.{stepped_at, at_within}

-- ---- spawns

abbrev pub SpawnsAct : FrameId → LoggedAct → Type 0
SpawnsAct frame (act.Read word value) = ⊥
SpawnsAct frame (act.Write word value) = ⊥
SpawnsAct frame (act.Print value) = ⊥
SpawnsAct frame (act.Spawn child procedure arguments) = child ≡ frame
SpawnsAct frame act.Sync = ⊥

abbrev pub SpawnsItem : FrameId → Item → Type 0
SpawnsItem frame (item.Act parent index act) = SpawnsAct frame act
SpawnsItem frame (item.Tick other) = ⊥
SpawnsItem frame (item.Drop page) = ⊥
SpawnsItem frame (item.TakeUp other) = ⊥
SpawnsItem frame (item.OwnFetch page words) = ⊥
SpawnsItem frame (item.OwnReconcile part) = ⊥
SpawnsItem frame (item.Served other index word old addend) = ⊥

-- the event is the Spawn of this frame
abbrev pub Spawns : FrameId → Event → Type 0
Spawns frame (Did done) = SpawnsItem frame done
Spawns frame (Sent message) = ⊥
Spawns frame (Took message) = ⊥
Spawns frame (Ended end) = ⊥

-- The Spawn of the frame is in the course.
abbrev pub WasSpawned : FrameId → Course → Type 0
WasSpawned frame [] = ⊥
WasSpawned frame (moved ∷ course) = Spawns frame moved.event ⊎ WasSpawned frame course

-- it is `main`, or was spawned
abbrev pub WasMade : FrameId → Course → Type 0
WasMade frame course = (frame ≡ main_id) ⊎ WasSpawned frame course

-- ---- who is born is spawned

born_spawns_act : (frame : FrameId) (done : LoggedAct) → born_act done ≡ record { id = frame; acts = 0 } ∷ [] → SpawnsAct frame done
born_spawns_act frame (act.Read word value) is = absurd (cc)
born_spawns_act frame (act.Write word value) is = absurd (cc)
born_spawns_act frame (act.Print value) is = absurd (cc)
born_spawns_act frame (act.Spawn child procedure arguments) is =
    let same : record { id = child; acts = 0 } ≡ record { id = frame; acts = 0 } = cc in ap (λ (it : Mark). it.id) same
born_spawns_act frame act.Sync is = absurd (cc)

born_spawns : (frame : FrameId) (event : Event) → born_by event ≡ record { id = frame; acts = 0 } ∷ [] → Spawns frame event
born_spawns frame (Did (item.Act parent index done)) is = born_spawns_act frame done is
born_spawns frame (Did (item.Tick other)) is = absurd (cc)
born_spawns frame (Did (item.Drop page)) is = absurd (cc)
born_spawns frame (Did (item.TakeUp other)) is = absurd (cc)
born_spawns frame (Did (item.OwnFetch page words)) is = absurd (cc)
born_spawns frame (Did (item.OwnReconcile part)) is = absurd (cc)
born_spawns frame (Did (item.Served other index word old addend)) is = absurd (cc)
born_spawns frame (Sent message) is = absurd (cc)
born_spawns frame (Took message) is = absurd (cc)
born_spawns frame (Ended end) is = absurd (cc)

spawns_act_born : (frame : FrameId) (done : LoggedAct) → SpawnsAct frame done → many (named frame) (born_act done) ≡ 1
spawns_act_born frame (act.Read word value) spawns = absurd spawns
spawns_act_born frame (act.Write word value) spawns = absurd spawns
spawns_act_born frame (act.Print value) spawns = absurd spawns
spawns_act_born frame (act.Spawn child procedure arguments) spawns = ap (λ it. one (same_frame it frame) + 0) spawns ∙ ap (λ b. one b + 0) (same_self frame)
spawns_act_born frame act.Sync spawns = absurd spawns

spawns_born : (frame : FrameId) (event : Event) → Spawns frame event → many (named frame) (born_by event) ≡ 1
spawns_born frame (Did (item.Act parent index done)) spawns = spawns_act_born frame done spawns
spawns_born frame (Did (item.Tick other)) spawns = absurd spawns
spawns_born frame (Did (item.Drop page)) spawns = absurd spawns
spawns_born frame (Did (item.TakeUp other)) spawns = absurd spawns
spawns_born frame (Did (item.OwnFetch page words)) spawns = absurd spawns
spawns_born frame (Did (item.OwnReconcile part)) spawns = absurd spawns
spawns_born frame (Did (item.Served other index word old addend)) spawns = absurd spawns
spawns_born frame (Sent message) spawns = absurd spawns
spawns_born frame (Took message) spawns = absurd spawns
spawns_born frame (Ended end) spawns = absurd spawns

-- The name of a spawned frame is given by its Spawn.
pub spawn_names : (cluster : Cluster) (course : Course) (moved : Moved) → Step cluster course moved → (frame : FrameId) → Spawns frame moved.event
    → IsBorn cluster course moved frame
spawn_names cluster course moved step frame spawns = on (births cluster course moved frame step)
  where
    on : (many (named frame) (born_by moved.event) ≡ 0) ⊎ IsBorn cluster course moved frame → IsBorn cluster course moved frame
    on (inl none) = let some = spawns_born frame moved.event spawns in absurd (omega (arith, none, some))
    on (inr born) = born

-- ---- what is somewhere was made

held_made_on : (cluster : Cluster) (course : Course) (moved : Moved) → Stepped cluster course → Step cluster course moved → (frame : FrameId)
    → (held cluster course frame ≡ 0) ⊎ WasMade frame course → (held cluster (moved ∷ course) frame ≡ 0) ⊎ WasMade frame (moved ∷ course)
held_made_on cluster course moved stepped step frame (inr (inl main)) = inr (inl main)
held_made_on cluster course moved stepped step frame (inr (inr was)) = inr (inr (inr was))
held_made_on cluster course moved stepped step frame (inl none) = on (births cluster course moved frame step)
  where
    on : (many (named frame) (born_by moved.event) ≡ 0) ⊎ IsBorn cluster course moved frame
        → (held cluster (moved ∷ course) frame ≡ 0) ⊎ WasMade frame (moved ∷ course)
    on (inl no_birth) = let more = held_more cluster course moved stepped step frame in inl (omega (arith, more, none, no_birth))
    on (inr born) = inr (inr (inl (born_spawns frame moved.event born.marks_are)))

held_or_made : (cluster : Cluster) (course : Course) → Stepped cluster course → (frame : FrameId) → (held cluster course frame ≡ 0) ⊎ WasMade frame course
held_or_made cluster [] stepped frame = on (same_frame main_id frame) refl
  where
    on : (b : Bool) → same_frame main_id frame ≡ b → (held cluster [] frame ≡ 0) ⊎ WasMade frame []
    on true is = inr (inl (sym (same_name main_id frame is)))
    on false is = let start = held_start cluster (named frame) in let none : one (named frame main_mark) ≡ 0 = ap one is in inl (omega (arith, start, none))
held_or_made cluster (moved ∷ course) stepped frame = held_made_on cluster course moved stepped.0 stepped.1 frame (held_or_made cluster course stepped.0 frame)

-- A frame that is somewhere is `main` or was spawned.
pub held_made : (cluster : Cluster) (course : Course) → Stepped cluster course → (frame : FrameId) → 1 ≤ held cluster course frame → WasMade frame course
held_made cluster course stepped frame some = on (held_or_made cluster course stepped frame)
  where
    on : (held cluster course frame ≡ 0) ⊎ WasMade frame course → WasMade frame course
    on (inl none) = absurd (omega (arith, none, some))
    on (inr made) = made

-- A frame that makes an act was made before.
pub claims_made : (cluster : Cluster) (course : Course) (moved : Moved) → Stepped cluster (moved ∷ course) → (done : Item) → moved.event ≡ Did done
    → (frame : FrameId) (index : ℕ)
    → Claims frame index done
    → WasMade frame course
claims_made cluster course moved stepped done is frame index claims =
    held_made cluster course stepped.0 frame (claims_held cluster course moved stepped done is frame index claims)

-- ---- each is spawned once

-- a spawned frame has a number that was given
pub spawned_known : (cluster : Cluster) (course : Course) → Stepped cluster course → (frame : FrameId) → WasSpawned frame course
    → frame.number < next_frame (node_at cluster frame.node) (own frame.node course)
spawned_known cluster [] stepped frame was = absurd was
spawned_known cluster (moved ∷ course) stepped frame (inl spawns) =
    let now = (spawn_names cluster course moved stepped.1 frame spawns).now in omega (arith, now)
spawned_known cluster (moved ∷ course) stepped frame (inr was) =
    let before = spawned_known cluster course stepped.0 frame was in
    let grows = next_grows cluster course moved frame in omega (arith, before, grows)

-- `main` has the first number of node 0
pub main_given : (cluster : Cluster) (course : Course) → 0 < next_frame (node_at cluster 0) (own 0 course)
unfolding next_frame
main_given cluster [] = omega arith
main_given cluster (moved ∷ course) =
    let before = main_given cluster course in let grows = next_grows cluster course moved main_id in omega (arith, before, grows)

-- what was made has a number that was given
pub made_known : (cluster : Cluster) (course : Course) → Stepped cluster course → (frame : FrameId) → WasMade frame course
    → frame.number < next_frame (node_at cluster frame.node) (own frame.node course)
made_known cluster course stepped frame (inl main) =
    subst (λ it. it.number < next_frame (node_at cluster it.node) (own it.node course)) (sym main) (main_given cluster course)
made_known cluster course stepped frame (inr was) = spawned_known cluster course stepped frame was

-- So what is spawned was not made before.
pub spawned_new : (cluster : Cluster) (course : Course) (moved : Moved) → Stepped cluster (moved ∷ course) → (frame : FrameId) → Spawns frame moved.event
    → WasMade frame course → ⊥
spawned_new cluster course moved stepped frame spawns made =
    let was = (spawn_names cluster course moved stepped.1 frame spawns).was in
    let known = made_known cluster course stepped.0 frame made in omega (arith, was, known)

spawned_at : (frame : FrameId) (course : Course) (position : ℕ) (moved : Moved) → at course position ≡ Some moved → Spawns frame moved.event
    → WasSpawned frame course
spawned_at frame [] position moved found spawns = absurd (cc)
spawned_at frame (first ∷ course) position moved found spawns =
    on (eqb position (length course)) found (λ older. spawned_at frame course position moved older spawns)
  where
    on : (b : Bool) → cond b (Some first) (at course position) ≡ Some moved → (at course position ≡ Some moved → WasSpawned frame course)
        → WasSpawned frame (first ∷ course)
    on true found rest = let same : first ≡ moved = cc in inl (subst (λ (it : Moved). Spawns frame it.event) (sym same) spawns)
    on false found rest = inr (rest found)

earlier_there : (course : Course) (first second : ℕ) (moved other : Moved) → first < second → at course first ≡ Some moved → at course second ≡ Some other
    → at (before course second) first ≡ Some moved
earlier_there [] first second moved other less found found' = absurd (cc)
earlier_there (top ∷ course) first second moved other less found found' =
    on (eqb first (length course)) refl (eqb second (length course)) refl found found' (at_within course second other)
    (λ older older'. earlier_there course first second moved other less older older')
  where
    on : (a : Bool) → eqb first (length course) ≡ a → (b : Bool) → eqb second (length course) ≡ b → cond a (Some top) (at course first) ≡ Some moved
        → cond b (Some top) (at course second) ≡ Some other
        → (at course second ≡ Some other → second < length course)
        → (at course first ≡ Some moved → at course second ≡ Some other → at (before course second) first ≡ Some moved)
        → at (cond b course (before course second)) first ≡ Some moved
    on true is true was found found' bound rest =
        let one_place : first ≡ length course = grind (arith, nat_tests) in
        let other_place : second ≡ length course = grind (arith, nat_tests) in absurd (omega (arith, less, one_place, other_place))
    on true is false was found found' bound rest =
        let place : first ≡ length course = grind (arith, nat_tests) in let within = bound found' in absurd (omega (arith, less, place, within))
    on false is true was found found' bound rest = found
    on false is false was found found' bound rest = rest found found'

-- A frame is spawned at one position at most.
pub spawned_once : (cluster : Cluster) (course : Course) → Stepped cluster course → (frame : FrameId) (first second : ℕ) (moved other : Moved)
    → at course first ≡ Some moved → at course second ≡ Some other → Spawns frame moved.event → Spawns frame other.event → first ≡ second
spawned_once cluster course stepped frame first second moved other found found' spawns spawns' = on (less_or_more first second)
  where
    less_or_more : (first second : ℕ) → (first ≡ second) ⊎ ((first < second) ⊎ (second < first))
    less_or_more first second = grind (arith, nat_tests)

    on : (first ≡ second) ⊎ ((first < second) ⊎ (second < first)) → first ≡ second
    on (inl same) = same
    on (inr (inl less)) =
        absurd (spawned_new cluster (before course second) other (stepped_at cluster course stepped second other found') frame spawns'
        (inr (spawned_at frame (before course second) first moved (earlier_there course first second moved other less found found') spawns)))
    on (inr (inr more)) =
        absurd (spawned_new cluster (before course first) moved (stepped_at cluster course stepped first moved found) frame spawns
        (inr (spawned_at frame (before course first) second other (earlier_there course second first other moved more found' found) spawns')))
