use Rattle.lone_cluster.proofs.Logs.{one_node_runs_depth_first}
use Rattle.lone_cluster.proofs.laws.one_node_runs_depth_first.Goals as goal

pub returns : goal.returns
returns c = one_node_runs_depth_first
