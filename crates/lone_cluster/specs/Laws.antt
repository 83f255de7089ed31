-- Laws of runs on one node.
use Rattle.std.specs.Prelude.{◌≡◌, Bool, true, false, None, List, [], Contains, length, reverse}
use Rattle.std.specs.List.{list_any}
use Rattle.cilk_meaning.specs.declared.ends.NodeEnd.{NodeEnd}
use Rattle.cilk_meaning.specs.Parted.{IsParted}
use Rattle.cilk_meaning.specs.Resolved.{Program}
use Rattle.machine_code.specs.Machine.{starts}
use Rattle.machine_code.specs.StandsFor.{StandsFor}
use Rattle.page_messages.specs.declared.log.Item.{Item}
use Rattle.page_messages.specs.declared.log.Item.TheVariants.{TakeUp}
use Rattle.page_messages.specs.declared.log.Turn.{Turn}
use Rattle.cluster_rules.specs.Positions.{Course, course_of}
use Rattle.cluster_rules.specs.Runs.{Cluster, IsRun}
use Rattle.cluster_order.specs.Reading.{memory_of}
use Rattle.one_node.specs.Alone.{EndsAs, OneNode}
use Rattle.cluster_trace.specs.Ends.{HasEnd}
use Rattle.cluster_trace.specs.Instances.{trace_of}

abbrev pub takes_up : Item → Bool
takes_up (TakeUp frame) = true
takes_up _ = false

-- Node 0 does all of the turn by itself: no message is posted or taken, and no frame is taken up.
pub record IsByItself (turn : Turn) : Type 0 where
  pub node : turn.node ≡ 0
  pub posts : turn.posts ≡ []
  pub took : turn.took ≡ None
  pub stays : list_any takes_up turn.items ≡ false

-- the events of a run, the latest first
abbrev pub course_in : (cluster : Cluster) (log : List Turn) → IsRun cluster log → Course
course_in cluster log run = course_of (reverse run.turns)

-- On one node, node 0 does each turn by itself.
abbrev pub OneNodeActsByItself : Type 0
OneNodeActsByItself = (cluster : Cluster) (log : List Turn) (turn : Turn) → cluster.config.nodes ≡ 1 → IsRun cluster log → Contains log turn → IsByItself turn

-- A run on one node goes depth first, within the budget, and each word is accessed by one node alone.
abbrev pub OneNodeRunsDepthFirst : Type 0
OneNodeRunsDepthFirst =
    (cluster : Cluster) (program : Program) (log : List Turn) → StandsFor cluster.code program → IsParted program → cluster.config.nodes ≡ 1 →
    (run : IsRun cluster log) →
    OneNode (starts cluster.code) cluster.code.main (trace_of cluster (course_in cluster log run)) (memory_of cluster) cluster.config.budget

-- Where it ended, the execution ends so behind all events.
abbrev pub OneNodeEnds : Type 0
OneNodeEnds =
    (cluster : Cluster) (program : Program) (log : List Turn) (end : NodeEnd) → StandsFor cluster.code program → IsParted program → cluster.config.nodes ≡ 1 →
    (run : IsRun cluster log) → HasEnd log end →
    EndsAs (starts cluster.code) (trace_of cluster (course_in cluster log run)) cluster.config.budget (length (course_in cluster log run)) end
