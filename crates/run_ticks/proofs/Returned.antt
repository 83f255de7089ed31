-- Where `main` has returned, no Add is under way: a frame that waits for one has not returned.
use Rattle.std.proofs.Common.{◌≡◌, ℕ, zero, suc, ℤ, List, [], ◌∷◌, Some, None, length, refl, sym, ◌∙◌, ap, subst, arith}
use Rattle.backer_order.specs.Log.{main_id}
use Rattle.cilk_meaning.specs.Parted.{IsParted}
use Rattle.cilk_meaning.specs.Resolved.{Program}
use Rattle.cilk_meaning.specs.Wants as want
use Rattle.cilk_meaning.specs.Wants.{Asks, Returns}
use Rattle.machine_code.specs.Machine.{starts}
use Rattle.machine_code.specs.StandsFor.{StandsFor}
use Rattle.page_messages.specs.declared.closure.FrameId.{FrameId}
use Rattle.cluster_rules.specs.Lives.{Life}
use Rattle.cluster_rules.specs.Frames.{stack_of}
use Rattle.cluster_rules.specs.Positions.{Course, course_of, own}
use Rattle.cluster_rules.specs.Runs.{Cluster, IsLawful, node_at}
use Rattle.cluster_rules.specs.Sendings.{adds_in}
use Rattle.cluster_rules.specs.Turns.{WholeTurn}
use Rattle.cluster_rules.proofs.Marks.{AddsFirst}
use Rattle.cluster_rules.proofs.Phases.{Asked, phase_of, waits_in, IsFirst}
use Rattle.cluster_rules.proofs.Asking.{phased, asked_by}
use Rattle.cluster_order.specs.Standing.{first}
use Rattle.cluster_order.proofs.Fronts.{first_all}
use Rattle.cluster_edges.proofs.Anywhere.{Each, Everywhere}
use Rattle.determinacy.proofs.Completed.{complete}
use Rattle.determinacy.specs.Replies.{Trace, want_at}
use Rattle.cluster_trace.specs.Instances.{trace_of}
use Rattle.cluster_trace.proofs.Spawning.{all_stepped}
use Rattle.cluster_trace.proofs.Standing.{Stacked, account_wants}
use Rattle.cluster_trace.proofs.Ahead.{ahead, lead, old_in}
use Rattle.cluster_trace.proofs.Accounted.{Accounted}
use Rattle.cluster_trace.proofs.Always.{all_so, obeys}
use Rattle.cluster_trace.proofs.Ending.{IsBorn, all_born}
use Rattle.run_ticks.specs.Posted.{adds_under_way}
use Rattle.cluster_rules.proofs.Phasing.{is_one}
use Rattle.run_ticks.proofs.Someone.{some_waits}
use Rattle.run_ticks.proofs.Ticking.{is_add, under_way_is}
use Rattle.cluster_rules.proofs.UnderWay.{waiting}

-- ---- no frame waits

module _ (cluster : Cluster) (turns : List WholeTurn) (lawful : IsLawful cluster turns) (program : Program)
    (stands : StandsFor cluster.code program) (parted : IsParted program) where
  abbrev course : Course
  course = course_of turns

  abbrev trace : Trace
  trace = trace_of cluster course

  abbrev now : ℕ
  now = length course

  all_of : first now course ≡ course
  all_of = first_all now course (omega arith)

  accounted : Accounted cluster program stands trace now course
  accounted = subst (Accounted cluster program stands trace now) all_of (all_so cluster turns lawful program stands parted now (omega arith)).1

  born : Everywhere cluster course (IsBorn cluster turns lawful now)
  born = subst (λ it. Everywhere cluster it (IsBorn cluster turns lawful now)) all_of (all_born cluster turns lawful now)

  module _ (value : ℤ) (returned : want_at (starts cluster.code) trace now main_id ≡ Some (Returns value)) where
    -- the first frame of a stack wants no add, since it has returned
    none_first : (frame : FrameId) (index : ℕ) (stack : List Life) → Stacked cluster program stands trace now course [] stack
        → Each (IsBorn cluster turns lawful now) stack → AddsFirst frame index stack → ⊥
    none_first frame index [] all born adds = absurd adds
    none_first frame index (life ∷ below) all born adds =
        let wants = account_wants cluster program stands trace now course life [] all.0 ∙ adds.2.2 in
        let keeps = obeys cluster turns lawful program stands parted in
        let ended = complete (starts cluster.code) cluster.code.main trace keeps now value returned life.id born.0 in
        let both : Some (Asks (want.Add adds.2.0 adds.2.1)) ≡ Some (Returns ended.0) = sym wants ∙ ended.1 in absurd (cc)

    none_asks : (number : ℕ) (frame : FrameId) (index : ℕ) → phase_of number course ≡ Asked frame index → ⊥
    none_asks number frame index asked =
        let stepped = all_stepped cluster turns lawful in
        let known = phased cluster course stepped in
        let less = known.within number (ap waits_in asked) in
        let stack = stack_of (node_at cluster number) (own number course) in
        let none : ahead number course ≡ None = ap old_in asked in
        none_first frame index stack
        (subst (λ led. Stacked cluster program stands trace now course [] (lead led stack)) none (accounted.nodes number less).stack)
        (born.at number less).stack
        (subst (λ it. IsFirst it stack) asked (known.first number))

    -- No Add is under way.
    pub asked_none : adds_under_way course ≡ 0
    asked_none = under_way_is cluster course (all_stepped cluster turns lawful) ∙ on (waiting is_add cluster course) refl
      where
        on : (adds : ℕ) → waiting is_add cluster course ≡ adds → adds ≡ 0
        on zero is = refl
        on (suc adds) is =
            let it = some_waits is_add (λ message some. is_one (adds_in message.body) some) cluster course (omega (arith, is)) in
            absurd (none_asks it.0.sender it.2 it.3
            (asked_by cluster course (phased cluster course (all_stepped cluster turns lawful)) it.0.sender it.2 it.3 it.4))
