-- Laws of the ticks of a run.
use Rattle.std.specs.Prelude.{◌≡◌, ◌+◌, ◌≤◌, ℕ, ℤ, Some, List, length, reverse}
use Rattle.std.specs.List.{sum}
use Rattle.backer_order.specs.Log.{main_id}
use Rattle.cilk_meaning.specs.declared.ends.NodeEnd.TheVariants.{Budget}
use Rattle.cilk_meaning.specs.Parted.{IsParted}
use Rattle.cilk_meaning.specs.Resolved.{Program}
use Rattle.cilk_meaning.specs.Wants.{Returns}
use Rattle.machine_code.specs.Machine.{starts}
use Rattle.machine_code.specs.StandsFor.{StandsFor}
use Rattle.page_messages.specs.declared.log.Turn.{Turn}
use Rattle.cluster_rules.specs.Counting.{counts_of}
use Rattle.cluster_rules.specs.Positions.{Course, course_of}
use Rattle.cluster_rules.specs.Runs.{Cluster, IsRun}
use Rattle.cluster_order.specs.Reading.{events_of}
use Rattle.determinacy.specs.Ending.{all_ticks}
use Rattle.determinacy.specs.Replies.{want_at}
use Rattle.cluster_trace.specs.Ends.{HasEnd}
use Rattle.cluster_trace.specs.Instances.{trace_of}
use Rattle.run_ticks.specs.Posted.{adds_under_way}

-- the ticks that the log counts for all nodes
abbrev pub ticks_counted : Cluster → List Turn → ℕ
ticks_counted cluster log = sum (counts_of cluster.config.nodes log).ticks

-- the items in the trace of a course
abbrev pub items_in : Cluster → Course → ℕ
items_in cluster course = all_ticks (events_of cluster course) (length course)

-- The ticks of the nodes of a run, ended or not, are together the items of its trace and the Adds under way.
abbrev pub RunTicks : Type 0
RunTicks = (cluster : Cluster) (log : List Turn) (run : IsRun cluster log) →
    ticks_counted cluster log ≡ items_in cluster (course_of (reverse run.turns)) + adds_under_way (course_of (reverse run.turns))

-- Where `main` has returned no Add is under way, so they are as many as the items.
abbrev pub ReturnedTicks : Type 0
ReturnedTicks =
    (cluster : Cluster) (program : Program) (log : List Turn) → StandsFor cluster.code program → IsParted program → (run : IsRun cluster log) → (value : ℤ) →
    want_at (starts cluster.code) (trace_of cluster (course_of (reverse run.turns))) (length (course_of (reverse run.turns))) main_id ≡ Some (Returns value) →
    ticks_counted cluster log ≡ items_in cluster (course_of (reverse run.turns))

-- Where a run ended with a spent budget, its trace has at least as many items as that, which is what one node may make.
abbrev pub SpentTicks : Type 0
SpentTicks =
    (cluster : Cluster) (log : List Turn) (run : IsRun cluster log) → HasEnd log Budget → cluster.config.budget ≤ items_in cluster (course_of (reverse run.turns))
