-- No act is made twice: a frame and an index stand at one position at most.
use Rattle.std.proofs.Common.{◌≡◌, ◌≤◌, ◌<◌, ◌⊎◌, inl, inr, ℕ, suc, [], ◌∷◌, Some, Bool, true, false, cond, eqb, length, refl, ◌∙◌, ap, subst, arith}
use Rattle.std.proofs.lemmas.Bool.Decides.{nat_tests}
use Rattle.page_messages.specs.declared.closure.FrameId.{FrameId}
use Rattle.page_messages.specs.declared.log.Item.TheVariants as item
use Rattle.cluster_rules.specs.Turns.{Event, Did, Sent, Took, Ended}
use Rattle.cluster_rules.specs.Lives.{same_frame}
use Rattle.cluster_rules.specs.Runs.{Cluster}
use Rattle.cluster_rules.specs.Positions.{Moved, Course, at, before}
use Rattle.cluster_rules.proofs.Stepping.{Step, Stepped, stepped_before}
use Rattle.cluster_rules.proofs.Marks.{one, same_self}
use Rattle.cluster_rules.proofs.Claiming.{claims_event, acts_before}
use Rattle.cluster_rules.proofs.Indexing.{Claims, index_is_count}

-- the event is this act of this frame
abbrev pub ClaimsEvent : FrameId → ℕ → Event → Type 0
ClaimsEvent frame index (Did done) = Claims frame index done
ClaimsEvent frame index (Sent message) = ⊥
ClaimsEvent frame index (Took message) = ⊥
ClaimsEvent frame index (Ended end) = ⊥

-- ---- what stands at a position may come behind what stood before it

step_on : (cluster : Cluster) (first moved : Moved) (course : Course) (position : ℕ) (b : Bool) → Step cluster course first
    → cond b (Some first) (at course position) ≡ Some moved
    → (at course position ≡ Some moved → Step cluster (before course position) moved) → Step cluster (cond b course (before course position)) moved
step_on cluster first moved course position true step found rest = let same : first ≡ moved = cc in subst (Step cluster course) same step
step_on cluster first moved course position false step found rest = rest found

pub step_at : (cluster : Cluster) (course : Course) → Stepped cluster course → (position : ℕ) (moved : Moved) → at course position ≡ Some moved
    → Step cluster (before course position) moved
step_at cluster [] stepped position moved found = absurd (cc)
step_at cluster (first ∷ course) stepped position moved found =
    step_on cluster first moved course position (eqb position (length course)) stepped.1 found (step_at cluster course stepped.0 position moved)

-- the course up to a position and with it
pub stepped_at : (cluster : Cluster) (course : Course) → Stepped cluster course → (position : ℕ) (moved : Moved) → at course position ≡ Some moved
    → Stepped cluster (moved ∷ before course position)
stepped_at cluster course stepped position moved found = (stepped_before cluster course stepped position, step_at cluster course stepped position moved found)

-- ---- acts are counted up

claims_one : (frame : FrameId) (index : ℕ) (event : Event) → ClaimsEvent frame index event → claims_event frame event ≡ 1
claims_one frame index (Sent message) claims = absurd claims
claims_one frame index (Took message) claims = absurd claims
claims_one frame index (Ended end) claims = absurd claims
claims_one frame index (Did (item.Act other number act)) claims = ap (λ it. one (same_frame it frame)) claims.0 ∙ ap one (same_self frame)
claims_one frame index (Did (item.Tick other)) claims = absurd claims
claims_one frame index (Did (item.Drop page)) claims = absurd claims
claims_one frame index (Did (item.TakeUp other)) claims = absurd claims
claims_one frame index (Did (item.OwnFetch page words)) claims = absurd claims
claims_one frame index (Did (item.OwnReconcile part)) claims = absurd claims
claims_one frame index (Did (item.Served other number word old addend)) claims = ap (λ it. one (same_frame it frame)) claims.0 ∙ ap one (same_self frame)

pub at_within : (course : Course) (position : ℕ) (moved : Moved) → at course position ≡ Some moved → position < length course
at_within [] position moved found = absurd (cc)
at_within (first ∷ course) position moved found = on (eqb position (length course)) refl found (at_within course position moved)
  where
    on : (b : Bool) → eqb position (length course) ≡ b → cond b (Some first) (at course position) ≡ Some moved
        → (at course position ≡ Some moved → position < length course)
        → position < length (first ∷ course)
    on true is found rest = let same : position ≡ length course = grind (arith, nat_tests) in omega (arith, same)
    on false is found rest = let less = rest found in omega (arith, less)

module _ (frame : FrameId) (index : ℕ) where
  -- the acts before one, with it, are within all
  acts_within : (course : Course) (position : ℕ) (moved : Moved) → at course position ≡ Some moved → ClaimsEvent frame index moved.event
      → suc (acts_before frame (before course position)) ≤ acts_before frame course
  acts_within [] position moved found claims = absurd (cc)
  acts_within (first ∷ course) position moved found claims = on (eqb position (length course)) found (λ older. acts_within course position moved older claims)
    where
      on : (b : Bool) → cond b (Some first) (at course position) ≡ Some moved
          → (at course position ≡ Some moved → suc (acts_before frame (before course position)) ≤ acts_before frame course)
          → suc (acts_before frame (cond b course (before course position))) ≤ acts_before frame (first ∷ course)
      on true found rest =
          let same : first ≡ moved = cc in
          let some : claims_event frame first.event ≡ 1 = ap (λ it. claims_event frame it.event) same ∙ claims_one frame index moved.event claims in
          omega (arith, some)
      on false found rest = let less = rest found in omega (arith, less)

  -- so they are fewer than before a later position
  acts_later : (course : Course) (first second : ℕ) (one_moved other : Moved) → first < second → at course first ≡ Some one_moved
      → at course second ≡ Some other
      → ClaimsEvent frame index one_moved.event
      → suc (acts_before frame (before course first)) ≤ acts_before frame (before course second)
  acts_later [] first second one_moved other less found found' claims = absurd (cc)
  acts_later (top ∷ course) first second one_moved other less found found' claims =
      on (eqb first (length course)) refl (eqb second (length course)) refl found found' (at_within course second other)
      (λ older. acts_within course first one_moved older claims)
      (λ older older'. acts_later course first second one_moved other less older older' claims)
    where
      on : (a : Bool) → eqb first (length course) ≡ a → (b : Bool) → eqb second (length course) ≡ b → cond a (Some top) (at course first) ≡ Some one_moved
          → cond b (Some top) (at course second) ≡ Some other
          → (at course second ≡ Some other → second < length course)
          → (at course first ≡ Some one_moved → suc (acts_before frame (before course first)) ≤ acts_before frame course)
          → (at course first ≡ Some one_moved → at course second ≡ Some other
          → suc (acts_before frame (before course first)) ≤ acts_before frame (before course second))
          → suc (acts_before frame (cond a course (before course first))) ≤ acts_before frame (cond b course (before course second))
      on true is true was found found' bound whole rest =
          let one_place : first ≡ length course = grind (arith, nat_tests) in let other_place : second ≡ length course = grind (arith, nat_tests) in
          absurd (omega (arith, less, one_place, other_place))
      on true is false was found found' bound whole rest =
          let place : first ≡ length course = grind (arith, nat_tests) in let within = bound found' in absurd (omega (arith, less, place, within))
      on false is true was found found' bound whole rest = whole found
      on false is false was found found' bound whole rest = rest found found'

-- ---- once

index_at : (cluster : Cluster) (course : Course) → Stepped cluster course → (position : ℕ) (moved : Moved) → at course position ≡ Some moved
    → (frame : FrameId) (index : ℕ) → (event : Event)
    → moved.event ≡ event
    → ClaimsEvent frame index event → index ≡ acts_before frame (before course position)
index_at cluster course stepped position moved found frame index (Did done) is claims =
    index_is_count cluster (before course position) moved (stepped_at cluster course stepped position moved found) done is frame index claims
index_at cluster course stepped position moved found frame index (Sent message) is claims = absurd claims
index_at cluster course stepped position moved found frame index (Took message) is claims = absurd claims
index_at cluster course stepped position moved found frame index (Ended end) is claims = absurd claims

-- Items at different positions are different acts.
pub claimed_once : (cluster : Cluster) (course : Course) → Stepped cluster course → (frame : FrameId) (index first second : ℕ) (one_moved other : Moved)
    → at course first ≡ Some one_moved → at course second ≡ Some other → ClaimsEvent frame index one_moved.event → ClaimsEvent frame index other.event
    → first ≡ second
claimed_once cluster course stepped frame index first second one_moved other found found' claims claims' = on (less_or_more first second)
  where
    here : index ≡ acts_before frame (before course first)
    here = index_at cluster course stepped first one_moved found frame index one_moved.event refl claims

    there : index ≡ acts_before frame (before course second)
    there = index_at cluster course stepped second other found' frame index other.event refl claims'

    less_or_more : (first second : ℕ) → (first ≡ second) ⊎ ((first < second) ⊎ (second < first))
    less_or_more first second = grind (arith, nat_tests)

    on : (first ≡ second) ⊎ ((first < second) ⊎ (second < first)) → first ≡ second
    on (inl same) = same
    on (inr (inl less)) =
        let later = acts_later frame index course first second one_moved other less found found' claims in absurd (omega (arith, later, here, there))
    on (inr (inr more)) =
        let later = acts_later frame index course second first other one_moved more found' found claims' in absurd (omega (arith, later, here, there))
