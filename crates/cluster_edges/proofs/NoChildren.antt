-- A frame that has returned has no child of its block left.
use Rattle.std.proofs.Common.{◌≡◌, ◌⊎◌, inl, inr, ℕ, zero, suc, List, [], ◌∷◌, Option, Some, None, true, refl, sym, ◌∙◌, ap, subst}
use Rattle.cilk_meaning.specs.Parted.{IsParted}
use Rattle.cilk_meaning.specs.Resolved.{Program}
use Rattle.machine_code.specs.StandsFor.{StandsFor}
use Rattle.page_messages.specs.declared.closure.FrameId.{FrameId}
use Rattle.cluster_rules.specs.Turns.{WholeTurn}
use Rattle.cluster_rules.specs.Runs.{Cluster, IsLawful}
use Rattle.cluster_rules.specs.Positions.{Moved, Course, course_of, at, before}
use Rattle.backer_order.specs.Log as log
use Rattle.backer_order.specs.Edges.{BlockChild}
use Rattle.cluster_order.specs.Reading.{happens_to}
use Rattle.cluster_order.specs.Standing.{first, stands_returned, has_returned, returns_of}
use Rattle.cluster_order.proofs.Fronts.{first_none, first_next, first_same, first_at}
use Rattle.cluster_order.proofs.Events.{event_at}
use Rattle.cluster_order.proofs.Accesses.{ev}
use Rattle.cluster_edges.proofs.Anywhere.{Each, Everywhere, each_parts, everywhere_first}
use Rattle.cluster_edges.proofs.AskedThere.{asks_told}
use Rattle.cluster_edges.proofs.Returned.{stands_so, either}
use Rattle.cluster_edges.proofs.NoAct.{stepped_then, step_then, no_act_there}
use Rattle.cluster_edges.proofs.Meant.{meant_first}
use Rattle.cluster_edges.proofs.BlockOf.{BlockOf, block_child, IsSpawn, AddsNone, spawn_or_none, spawned_block}
use Rattle.cluster_edges.proofs.Counting.{begins, Counts, returned_none, counts_next}

module _ (cluster : Cluster) (turns : List WholeTurn) (lawful : IsLawful cluster turns) (program : Program) (stands : StandsFor cluster.code program) where
  abbrev course : Course
  course = course_of turns

  -- it is so in this course
  abbrev Counted : Course → Type 0
  Counted some = Everywhere cluster some (Counts cluster program stands (BlockOf cluster some))

  counted_first : Counted []
  counted_first = everywhere_first cluster (Counts cluster program stands (BlockOf cluster []))
      (let it = meant_first (begins cluster program stands) 0 cluster.code.main [] in (it.0, λ child block empty. block))

  pub counted : (position : ℕ) → Counted (first position course)
  counted zero = subst Counted (sym (first_none course)) counted_first
  counted (suc position) = on (at course position) refl (counted position)
    where
      on : (option : Option Moved) → at course position ≡ option → Counted (first position course) → Counted (first (suc position) course)
      on None none rest = subst Counted (sym (first_same position course none)) rest
      on (Some moved) found rest =
          subst Counted (sym (first_next position course moved found))
          (counts_next cluster program stands (before course position) moved (stepped_then cluster turns lawful position)
          (step_then cluster turns lawful position moved found)
          (λ message old is says. asks_told cluster turns lawful moved.node position message old
          (record { moved = moved; is = found; by = refl; event_is = is }) says)
          (subst Counted (first_at position course moved found) rest))

  module _ (parted : IsParted program) where
    -- what has returned on a stack has no child of its block
    standing_none : (some : Course) → Counted some → (frame child : FrameId) → stands_returned cluster frame some ≡ true → BlockOf cluster some frame child → ⊥
    standing_none some counts frame child stands_there block =
        let it = stands_so cluster frame some stands_there in
        let all = each_parts (Counts cluster program stands (BlockOf cluster some)) it.front (it.life ∷ it.back)
        (subst (Each (Counts cluster program stands (BlockOf cluster some))) it.parts (counts.at it.number it.within).stack) in
        let here = all.1.0 in
        here.1 child (subst (λ it. BlockOf cluster some it child) (sym it.name) block) (returned_none cluster program stands parted it.life.goes here.0 it.is)

    -- One event more: what had returned before makes no act.
    module _ (position : ℕ) (moved : Moved) (found : at course position ≡ Some moved) (frame child : FrameId)
        (has : has_returned cluster frame (before course position) ≡ true)
        (rest : (child : FrameId) → BlockOf cluster (before course position) frame child → ⊥) where
      still_none : BlockOf cluster (moved ∷ before course position) frame child → ⊥
      still_none block = on (spawn_or_none cluster (before course position) moved.node moved.message moved.event)
        where
          spawns : (it : IsSpawn moved.event) → it.parent ≡ frame → ⊥
          spawns it same =
              no_act_there cluster turns lawful position moved found frame has moved.node _
              (event_at cluster course position moved found
              ∙ ap (happens_to cluster (before course position) moved.node moved.message) it.is
              ∙ ap (λ (parent : FrameId). log.Acts moved.node parent (log.Spawn it.child)) same)

          by : (it : IsSpawn moved.event) → BlockOf cluster (before course position) frame child ⊎ ((it.parent ≡ frame) × (it.child ≡ child)) → ⊥
          by it (inl older) = rest child older
          by it (inr both) = spawns it both.0

          on : IsSpawn moved.event ⊎ AddsNone cluster (before course position) moved.node moved.message moved.event → ⊥
          on (inl it) = by it (spawned_block cluster (before course position) moved.node moved.message moved.event it frame child block)
          on (inr none) = rest child (none frame child block)

    no_block : (position : ℕ) (frame child : FrameId) → has_returned cluster frame (first position course) ≡ true
        → BlockOf cluster (first position course) frame child → ⊥
    no_block zero frame child has block = subst (λ it. BlockOf cluster it frame child) (first_none course) block
    no_block (suc position) frame child has block = on (at course position) refl has block (λ child. no_block position frame child)
      where
        on : (option : Option Moved) → at course position ≡ option → has_returned cluster frame (first (suc position) course) ≡ true
            → BlockOf cluster (first (suc position) course) frame child
            → ((child : FrameId) → has_returned cluster frame (first position course) ≡ true → BlockOf cluster (first position course) frame child → ⊥) → ⊥
        on None none has block rest =
            rest child (subst (λ it. has_returned cluster frame it ≡ true) (first_same position course none) has)
            (subst (λ it. BlockOf cluster it frame child) (first_same position course none) block)
        on (Some moved) found has block rest =
            by (either (has_returned cluster frame (before course position)) (stands_returned cluster frame (moved ∷ before course position))
            (subst (λ it. has_returned cluster frame it ≡ true) (first_next position course moved found) has))
          where
            here : BlockOf cluster (moved ∷ before course position) frame child
            here = subst (λ it. BlockOf cluster it frame child) (first_next position course moved found) block

            by : (has_returned cluster frame (before course position) ≡ true) ⊎ (stands_returned cluster frame (moved ∷ before course position) ≡ true) → ⊥
            by (inl earlier) =
                still_none position moved found frame child earlier
                (λ other older. rest other (subst (λ it. has_returned cluster frame it ≡ true) (sym (first_at position course moved found)) earlier)
                (subst (λ it. BlockOf cluster it frame other) (sym (first_at position course moved found)) older)) here
            by (inr now) =
                standing_none (moved ∷ before course position)
                (subst Counted (first_next position course moved found) (counted (suc position))) frame child now here

    -- A frame that has returned has no child of its block left.
    pub no_children : (now : ℕ) (frame child : FrameId) → returns_of cluster course now frame ≡ true → BlockChild (ev cluster turns lawful) now frame child → ⊥
    no_children now frame child has block = no_block now frame child has (block_child cluster course now frame child block)
