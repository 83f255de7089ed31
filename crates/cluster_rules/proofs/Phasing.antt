-- What the phases of all nodes say together, and what an event keeps of it that changes no phase.
use Rattle.std.proofs.Common.{◌≡◌, ◌≢◌, ◌≤◌, ◌<◌, ◌⊎◌, inl, inr, ℕ, ℤ, List, [], ◌∷◌, ◌++◌}
use Rattle.std.proofs.Common.{Option, Some, Bool, true, false, cond, eqb, refl, sym, ◌∙◌, ap, subst, arith}
use Rattle.std.proofs.lemmas.Bool.Decides.{nat_tests, Decides-int_eq}
use Rattle.std.specs.Ordering.{int_eq}
use Rattle.cilk_meaning.specs.Wants as want
use Rattle.cilk_meaning.specs.Wants.{Asks}
use Rattle.page_messages.specs.declared.closure.FrameId.{FrameId}
use Rattle.page_messages.specs.declared.closure.Closure.{Closure}
use Rattle.page_messages.specs.declared.log.PostAt.{PostAt}
use Rattle.cluster_rules.specs.Turns.{Event, Past}
use Rattle.cluster_rules.specs.Node.{Node}
use Rattle.cluster_rules.specs.Sendings.{ForAdded, awaits, IsQuiet}
use Rattle.cluster_rules.specs.Lives.{Life, same_frame, live, without_bottom, link_to}
use Rattle.cluster_rules.specs.Frames.{stack_of}
use Rattle.cluster_rules.specs.Acting.{Wants}
use Rattle.cluster_rules.specs.Edges.{MayGrant}
use Rattle.cluster_rules.specs.Runs.{Cluster, node_at}
use Rattle.cluster_rules.specs.Positions.{Course, own}
use Rattle.cluster_rules.proofs.Testing.{both_true}
use Rattle.cluster_rules.proofs.Summing.{one_or_two}
use Rattle.cluster_rules.proofs.Marks.{one, same_name, WantsAdd, AddsFirst, live_first, bottom_gone, kept_first}
use Rattle.cluster_rules.proofs.Holding.{own_first, own_other}
use Rattle.cluster_rules.proofs.Phases.{Phase, Idle, Asked, Told, phase_of, waits_in, is_asked, is_told, IsFirst, idle_is}
use Rattle.cluster_rules.proofs.UnderWay.{under_way, to_tell, moved_by}

-- What the phases of all nodes say.
pub record Phased (cluster : Cluster) (course : Course) : Type 0 where
  pub within : (number : ℕ) → waits_in (phase_of number course) ≡ true → number < cluster.config.nodes
  pub waiting : (number : ℕ) → awaits ForAdded (own number course) ≡ waits_in (phase_of number course)
  pub first : (number : ℕ) → IsFirst (phase_of number course) (stack_of (node_at cluster number) (own number course))
  pub adds : (number : ℕ) (frame : FrameId) (index : ℕ) → under_way cluster course number frame index ≡ one (is_asked frame index (phase_of number course))
  pub olds : (such : ℤ → Bool) (number : ℕ) → to_tell cluster course such number ≡ one (is_told such (phase_of number course))

-- ---- small laws

pub equal_number : (number other : ℕ) → eqb number other ≡ true → number ≡ other
equal_number number other is = grind (arith, nat_tests)

pub own_value : (old : ℤ) → int_eq old old ≡ true
own_value old = (Decides-int_eq old old).1 refl

pub cond_same : {A : Type 0} (b : Bool) (one other : A) → one ≡ other → cond b one other ≡ other
cond_same true one other same = same
cond_same false one other same = refl

pub is_one : (b : Bool) → 1 ≤ one b → b ≡ true
is_one true some = refl
is_one false some = absurd (omega (arith, some))

pub asked_same : (frame : FrameId) (index : ℕ) (phase : Phase) → is_asked frame index phase ≡ true → phase ≡ Asked frame index
asked_same frame index Idle is = absurd (cc)
asked_same frame index (Told other acts old) is = absurd (cc)
asked_same frame index (Asked other acts) is =
    let both = both_true (same_frame other frame) (eqb acts index) is in
    let names = same_name other frame both.0 in
    let numbers = equal_number acts index both.1 in
    ap (λ it. Asked it acts) names ∙ ap (Asked frame) numbers

-- it is told this old value
pub told_same : (old : ℤ) (phase : Phase) → is_told (int_eq old) phase ≡ true → (frame : FrameId) × (acts : ℕ) × (phase ≡ Told frame acts old)
told_same old Idle is = absurd (cc)
told_same old (Asked frame acts) is = absurd (cc)
told_same old (Told frame acts other) is = (frame, acts, ap (Told frame acts) (sym ((Decides-int_eq old other).0 is)))

-- ---- the first frame stays

pub first_granted : (node : Node) (past : Past) (receiver : ℕ) (closure : Closure) (phase : Phase) → MayGrant node past receiver closure
    → IsFirst phase (stack_of node past)
    → IsFirst phase (without_bottom closure.join (stack_of node past))
first_granted node past receiver closure phase may first =
    let is : without_bottom closure.join (stack_of node past) ≡ without_bottom closure.join (may.above ++ (may.child ∷ (may.parent ∷ []))) =
    ap (without_bottom closure.join) may.stack in
    subst (IsFirst phase) (sym (is ∙ bottom_gone closure.join may.above may.child may.parent)) (on phase (subst (IsFirst phase) may.stack first))
  where
    on : (phase : Phase) → IsFirst phase (may.above ++ (may.child ∷ (may.parent ∷ [])))
        → IsFirst phase (may.above ++ (record may.child { link = link_to closure.join } ∷ []))
    on Idle first = tt
    on (Asked frame acts) first = kept_first frame acts closure.join may.above may.child may.parent first
    on (Told frame acts old) first = kept_first frame acts closure.join may.above may.child may.parent first

pub returned_none : (frame : FrameId) (acts : ℕ) (stack : List Life) → AddsFirst frame acts stack → live stack ≡ [] → ⊥
returned_none frame acts stack first none =
    let top = live_first frame acts stack first in
    let is : top.0 ∷ top.1 ≡ [] = sym top.2 ∙ none in absurd (cc)

pub wants_no_sync : (life : Life) → WantsAdd life → Wants life want.Sync → ⊥
wants_no_sync life adds sync =
    let is : Some (Asks (want.Add adds.0 adds.1)) ≡ Some (Asks want.Sync) = sym adds.2 ∙ sync in absurd (cc)

pub parked_none : (frame : FrameId) (acts : ℕ) (stack : List Life) (life : Life) → AddsFirst frame acts stack → live stack ≡ life ∷ []
    → Wants life want.Sync → ⊥
parked_none frame acts stack life first alone sync =
    let top = live_first frame acts stack first in
    let is : top.0 ∷ top.1 ≡ life ∷ [] = sym top.2 ∙ alone in
    let same : top.0 ≡ life = cc in
    wants_no_sync life (subst WantsAdd same top.3) sync

pub first_done : (phase : Phase) (stack : List Life) → live stack ≡ [] → IsFirst phase stack → IsFirst phase []
first_done Idle stack none first = tt
first_done (Asked frame acts) stack none first = absurd (returned_none frame acts stack first none)
first_done (Told frame acts old) stack none first = absurd (returned_none frame acts stack first none)

pub first_parked : (phase : Phase) (stack : List Life) (life : Life) → live stack ≡ life ∷ [] → Wants life want.Sync → IsFirst phase stack → IsFirst phase []
first_parked Idle stack life alone sync first = tt
first_parked (Asked frame acts) stack life alone sync first = absurd (parked_none frame acts stack life first alone sync)
first_parked (Told frame acts old) stack life alone sync first = absurd (parked_none frame acts stack life first alone sync)

-- ---- one event more

module _ (cluster : Cluster) (course : Course) (node : ℕ) (here : Option PostAt) (less : node < cluster.config.nodes) (phased : Phased cluster course) where
  abbrev pub past : Past
  past = own node course

  abbrev pub more : Event → Course
  more event = moved_by node event here ∷ course

  pub awaits_more : (event : Event) → awaits ForAdded (event ∷ past) ≡ awaits ForAdded past → (number : ℕ)
      → awaits ForAdded (own number (more event)) ≡ awaits ForAdded (own number course)
  awaits_more event same number = on (one_or_two number node)
    where
      on : (number ≡ node) ⊎ (number ≢ node) → awaits ForAdded (own number (more event)) ≡ awaits ForAdded (own number course)
      on (inl is) =
          subst (λ it. awaits ForAdded (own it (more event)) ≡ awaits ForAdded (own it course)) (sym is)
          (ap (awaits ForAdded) (own_first (moved_by node event here) course) ∙ same)
      on (inr not) = ap (awaits ForAdded) (own_other number (moved_by node event here) course not)

  pub stack_more : (event : Event) → stack_of (node_at cluster node) (event ∷ past) ≡ stack_of (node_at cluster node) past → (number : ℕ)
      → stack_of (node_at cluster number) (own number (more event)) ≡ stack_of (node_at cluster number) (own number course)
  stack_more event same number = on (one_or_two number node)
    where
      on : (number ≡ node) ⊎ (number ≢ node) → stack_of (node_at cluster number) (own number (more event))
          ≡ stack_of (node_at cluster number) (own number course)
      on (inl is) = subst (λ it. stack_of (node_at cluster it) (own it (more event)) ≡ stack_of (node_at cluster it) (own it course)) (sym is)
          (ap (stack_of (node_at cluster node)) (own_first (moved_by node event here) course) ∙ same)
      on (inr not) = ap (stack_of (node_at cluster number)) (own_other number (moved_by node event here) course not)

  pub first_more : (event : Event) → ((number : ℕ) → number ≢ node → phase_of number (more event) ≡ phase_of number course)
      → IsFirst (phase_of node (more event)) (stack_of (node_at cluster node) (event ∷ past)) → (number : ℕ)
      → IsFirst (phase_of number (more event)) (stack_of (node_at cluster number) (own number (more event)))
  first_more event others first number = on (one_or_two number node)
    where
      on : (number ≡ node) ⊎ (number ≢ node) → IsFirst (phase_of number (more event)) (stack_of (node_at cluster number) (own number (more event)))
      on (inl is) = subst (λ it. IsFirst (phase_of it (more event)) (stack_of (node_at cluster it) (own it (more event)))) (sym is)
          (subst (λ it. IsFirst (phase_of node (more event)) (stack_of (node_at cluster node) it)) (sym (own_first (moved_by node event here) course)) first)
      on (inr not) =
          subst (λ it. IsFirst (phase_of number (more event)) (stack_of (node_at cluster number) it))
          (sym (own_other number (moved_by node event here) course not))
          (subst (λ it. IsFirst it (stack_of (node_at cluster number) (own number course))) (sym (others number not)) (phased.first number))

  -- no phase changes
  pub kept : (event : Event) → ((number : ℕ) → phase_of number (more event) ≡ phase_of number course)
      → ((number : ℕ) (frame : FrameId) (index : ℕ) → under_way cluster (more event) number frame index ≡ under_way cluster course number frame index)
      → ((such : ℤ → Bool) (number : ℕ) → to_tell cluster (more event) such number ≡ to_tell cluster course such number)
      → awaits ForAdded (event ∷ past) ≡ awaits ForAdded past → IsFirst (phase_of node course) (stack_of (node_at cluster node) (event ∷ past))
      → Phased cluster (more event)
  kept event same adds olds waits first = record {
    within = λ number waits. phased.within number (ap waits_in (sym (same number)) ∙ waits);
    waiting = λ number. awaits_more event waits number ∙ phased.waiting number ∙ ap waits_in (sym (same number));
    first = first_more event (λ number other. same number) (subst (λ it. IsFirst it (stack_of (node_at cluster node) (event ∷ past))) (sym (same node)) first);
    adds = λ number frame index. adds number frame index ∙ phased.adds number frame index ∙ ap (λ it. one (is_asked frame index it)) (sym (same number));
    olds = λ such number. olds such number ∙ phased.olds such number ∙ ap (λ it. one (is_told such it)) (sym (same number));
  }

  pub quiet_idle : IsQuiet past → phase_of node course ≡ Idle
  quiet_idle quiet = idle_is (phase_of node course) (sym (phased.waiting node) ∙ quiet ForAdded)
