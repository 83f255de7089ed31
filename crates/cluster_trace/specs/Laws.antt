-- Laws of runs as executions.
use Rattle.std.specs.Prelude.{List, length, reverse}
use Rattle.cilk_meaning.specs.declared.ends.NodeEnd.{NodeEnd}
use Rattle.cilk_meaning.specs.Parted.{IsParted}
use Rattle.cilk_meaning.specs.Resolved.{Program}
use Rattle.cluster_rules.specs.Positions.{course_of}
use Rattle.cluster_rules.specs.Runs.{Cluster, IsRun}
use Rattle.cluster_trace.specs.Ends.{HasEnd, ComesTo}
use Rattle.cluster_trace.specs.Instances.{trace_of}
use Rattle.determinacy.specs.Replies.{Obeys}
use Rattle.machine_code.specs.Machine.{starts}
use Rattle.machine_code.specs.StandsFor.{StandsFor}
use Rattle.page_messages.specs.declared.log.Turn.{Turn}

-- The events of a run are an execution of its code, whatever its nodes, pages and interleaving, ended or not, with races or without.
abbrev pub RunsObey : Type 0
RunsObey = (cluster : Cluster) (program : Program) (log : List Turn) → StandsFor cluster.code program → IsParted program → (run : IsRun cluster log) →
    Obeys (starts cluster.code) cluster.code.main (trace_of cluster (course_of (reverse run.turns)))

-- Where a run ended, its execution has come to that end behind all events.
abbrev pub RunsComeToEnds : Type 0
RunsComeToEnds =
    (cluster : Cluster) (program : Program) (log : List Turn) (end : NodeEnd) → StandsFor cluster.code program → IsParted program →
    (run : IsRun cluster log) → HasEnd log end →
    ComesTo (starts cluster.code) (trace_of cluster (course_of (reverse run.turns))) (length (course_of (reverse run.turns))) end
