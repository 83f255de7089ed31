-- An old value that a node takes is the one that its home told for it last.
use Rattle.std.proofs.Common.{List, ap}
use Rattle.cilk_meaning.specs.Resolved.{Program}
use Rattle.machine_code.specs.StandsFor.{StandsFor}
use Rattle.cluster_rules.specs.Turns.{WholeTurn, Took}
use Rattle.cluster_rules.specs.Positions.{Course, course_of, before}
use Rattle.cluster_rules.specs.Runs.{Cluster, IsLawful}
use Rattle.cluster_rules.proofs.Asking.{phased, was_told}
use Rattle.cluster_rules.proofs.UnderWay.{moved_by}
use Rattle.cluster_trace.proofs.Spawning.{step_then}
use Rattle.cluster_trace.proofs.Ahead.{old_in}
use Rattle.cluster_trace.proofs.Onwards.{OldComes}

-- The old value in an Added that a node takes is the one by which the execution is ahead of that node.
pub old_comes : (cluster : Cluster) (turns : List WholeTurn) (lawful : IsLawful cluster turns) (program : Program) (stands : StandsFor cluster.code program)
    → OldComes cluster turns lawful program stands
old_comes cluster turns lawful program stands position number here message old found is =
    let past : Course = before (course_of turns) position in
    let step = step_then cluster turns lawful position (moved_by number (Took message) here) found in
    let told = was_told cluster past number here step.1.within (phased cluster past step.0) message step.0 step.1.carries old is in
    ap old_in told.2
