-- Every run keeps the rules for the ready list.
use Rattle.std.proofs.Common.{List}
use Rattle.cluster_rules.specs.Turns.{WholeTurn}
use Rattle.cluster_rules.specs.Positions.{course_of}
use Rattle.cluster_rules.specs.Runs.{Cluster, IsLawful}
use Rattle.cluster_rules.proofs.Stepping.{lawful_stepped}
use Rattle.backer_order.specs.Ready.{ReadyRules}
use Rattle.cluster_order.specs.Reading.{events_of}
use Rattle.cluster_order.specs.Standing.{stacks_of}
use Rattle.cluster_edges.specs.Stages.{stages_of}
use Rattle.cluster_edges.proofs.Rising.{stays_up, up, not_at_once}
use Rattle.cluster_edges.proofs.Joining.{complete}

pub keeps_ready_rules : (cluster : Cluster) (turns : List WholeTurn) → IsLawful cluster turns
    → ReadyRules (events_of cluster (course_of turns)) (stacks_of cluster (course_of turns)) (stages_of cluster (course_of turns))
keeps_ready_rules cluster turns lawful = record {
  up = up cluster (course_of turns) (lawful_stepped cluster turns lawful);
  stays_up = stays_up cluster (course_of turns) (lawful_stepped cluster turns lawful);
  not_at_once = not_at_once cluster (course_of turns) (lawful_stepped cluster turns lawful);
  complete = complete cluster (course_of turns) (lawful_stepped cluster turns lawful);
}
