-- An add that a home serves for another node is the one that the first frame of the asker's stack wants.
use Rattle.std.proofs.Common.{List, refl, ap}
use Rattle.cilk_meaning.specs.Resolved.{Program}
use Rattle.machine_code.specs.StandsFor.{StandsFor}
use Rattle.page_messages.specs.declared.log.Item.TheVariants as item
use Rattle.cluster_rules.specs.Turns.{WholeTurn, Did}
use Rattle.cluster_rules.specs.Frames.{stack_of}
use Rattle.cluster_rules.specs.Positions.{course_of, own, before}
use Rattle.cluster_rules.specs.Runs.{Cluster, IsLawful, node_at}
use Rattle.cluster_rules.proofs.Asking.{phased, was_asked}
use Rattle.cluster_rules.proofs.UnderWay.{moved_by}
use Rattle.cluster_edges.proofs.Asking.{asks_life}
use Rattle.cluster_edges.proofs.AskedThere.{asks_served}
use Rattle.cluster_trace.proofs.Spawning.{step_then}
use Rattle.cluster_trace.proofs.Ahead.{old_in}
use Rattle.cluster_trace.proofs.Onwards.{AddsAsked}

-- A served add is the one that the first frame of the asker wants, and the execution is not ahead of the asker.
pub adds_asked : (cluster : Cluster) (turns : List WholeTurn) (lawful : IsLawful cluster turns) (program : Program) (stands : StandsFor cluster.code program)
    → AddsAsked cluster turns lawful program stands
adds_asked cluster turns lawful program stands position number here frame index word old addend found serves =
    let earlier = before (course_of turns) position in
    let stepped = step_then cluster turns lawful position (moved_by number (Did (item.Served frame index word old addend)) here) found in
    let asks = asks_served cluster turns lawful number position frame index word old addend
    (record { moved = moved_by number (Did (item.Served frame index word old addend)) here; is = found; by = refl; event_is = refl }) serves in
    let sender = serves.add.sender in
    let first = asks_life frame word addend (stack_of (node_at cluster sender) (own sender earlier)) asks.1 in (
      asks.0,
      ap old_in (was_asked cluster earlier number here stepped.1.within (phased cluster earlier stepped.0) frame index word old addend serves),
      first.0,
      first.1,
      first.2,
      first.3,
      first.4,
    )
