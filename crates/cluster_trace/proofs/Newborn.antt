-- The account of a frame as it is spawned: it has no item before, and wants what the start of its procedure does.
use Rattle.std.proofs.Common.{◌≡◌, inl, inr, ℕ, zero, suc, ◌≤◌, List, [], Bool, true, false, refl, sym, ◌∙◌, ap, arith}
use Rattle.backer_order.specs.Log as log
use Rattle.cilk_meaning.specs.Resolved.{Program}
use Rattle.machine_code.specs.Machine.{starts}
use Rattle.machine_code.specs.StandsFor.{StandsFor}
use Rattle.page_messages.specs.declared.closure.FrameId.{FrameId}
use Rattle.cluster_rules.specs.Turns.{WholeTurn}
use Rattle.cluster_rules.specs.Positions.{course_of}
use Rattle.cluster_rules.specs.Runs.{Cluster, IsLawful}
use Rattle.determinacy.specs.Replies.{Trace, Instance, by, Born, state_at}
use Rattle.cluster_trace.specs.Instances.{trace_of}
use Rattle.cluster_trace.proofs.Spawning.{BirthAt, fresh_spawn, never_main, born_before}
use Rattle.cluster_trace.proofs.Running.{child_runs}
use Rattle.cluster_trace.proofs.Accounts.{Account}
use Rattle.cluster_trace.proofs.Syncing.{Untouched, untouched_state, untouched_children, account_first}

module _ (cluster : Cluster) (turns : List WholeTurn) (lawful : IsLawful cluster turns) (program : Program) (stands : StandsFor cluster.code program) where
  abbrev trace : Trace
  trace = trace_of cluster (course_of turns)

  module _ (position node : ℕ) (frame child : FrameId) (is : trace.events position ≡ log.Acts node frame (log.Spawn child)) where
    no_item : (at : ℕ) → at ≤ position → by child (trace.events at) ≡ true → ⊥
    no_item at less acts = on (born_before cluster turns lawful at child acts)
      where
        on : Born trace.events at child → ⊥
        on (inl main) = never_main cluster turns lawful position node frame child is main
        on (inr before) =
            let same = fresh_spawn cluster turns lawful before.at position before.node node before.parent frame child before.is is in
            let earlier = before.before in
            absurd (omega (arith, same, earlier, less))

    no_item_so : (at : ℕ) (b : Bool) → at ≤ position → by child (trace.events at) ≡ b → by child (trace.events at) ≡ false
    no_item_so at true less acts = absurd (no_item at less acts)
    no_item_so at false less none = none

    untouched : (at : ℕ) → at ≤ suc position → Untouched cluster program stands trace at child
    untouched zero less = tt
    untouched (suc at) less = (untouched at (omega (arith, less)), no_item_so at (by child (trace.events at)) (omega (arith, less)) refl)

    -- Behind its Spawn a child wants what its procedure does at its start, one deeper than its parent, and has no children.
    pub newborn_account : (it : BirthAt cluster turns lawful position node frame child)
        × Account cluster program stands trace (suc position) child (starts cluster.code (suc (trace.instance frame).depth) it.procedure it.arguments) [] [] []
    newborn_account =
        let runs = child_runs cluster turns lawful position node frame child is in
        let none = untouched (suc position) (omega arith) in
        let goes : starts cluster.code (suc (trace.instance frame).depth) runs.0.procedure runs.0.arguments ≡ state_at (starts cluster.code) trace
        (suc position) child =
        ap (λ (it : Instance). starts cluster.code it.depth it.procedure it.arguments) (sym runs.1)
        ∙ sym (untouched_state cluster program stands trace (suc position) child none) in (
          runs.0,
          account_first cluster program stands trace (suc position) child
              (starts cluster.code (suc (trace.instance frame).depth) runs.0.procedure runs.0.arguments) goes
              (untouched_children cluster program stands trace (suc position) child none),
        )
