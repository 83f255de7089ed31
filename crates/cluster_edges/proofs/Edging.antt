-- Every run keeps the rules for edges.
use Rattle.std.proofs.Common.{List}
use Rattle.cilk_meaning.specs.Parted.{IsParted}
use Rattle.cilk_meaning.specs.Resolved.{Program}
use Rattle.machine_code.specs.StandsFor.{StandsFor}
use Rattle.cluster_rules.specs.Turns.{WholeTurn}
use Rattle.cluster_rules.specs.Positions.{course_of}
use Rattle.cluster_rules.specs.Runs.{Cluster, IsLawful}
use Rattle.cluster_rules.proofs.Stepping.{lawful_stepped}
use Rattle.backer_order.specs.Edges.{Edges}
use Rattle.cluster_order.specs.Reading.{events_of, memory_of}
use Rattle.cluster_order.specs.Standing.{returns_of, stacks_of}
use Rattle.cluster_order.proofs.Stacking.{keeps_frames}
use Rattle.cluster_order.proofs.Staying.{stays, drops}
use Rattle.cluster_edges.proofs.NoAct.{no_act}
use Rattle.cluster_edges.proofs.NoChildren.{no_children}
use Rattle.cluster_edges.proofs.Syncing.{sync_joined}

pub keeps_edges : (cluster : Cluster) (program : Program) (turns : List WholeTurn) → StandsFor cluster.code program → IsParted program → IsLawful cluster turns
    → Edges (events_of cluster (course_of turns)) (memory_of cluster) (returns_of cluster (course_of turns)) (stacks_of cluster (course_of turns))
keeps_edges cluster program turns stands parted lawful = record {
  frames = keeps_frames cluster turns lawful;
  no_act = no_act cluster turns lawful;
  stays = stays cluster turns lawful;
  no_children = no_children cluster turns lawful program stands parted;
  drops = drops cluster turns lawful;
  sync_joined = sync_joined cluster (course_of turns) (lawful_stepped cluster turns lawful) (stacks_of cluster (course_of turns));
}
