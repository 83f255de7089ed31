use Rattle.lone_cluster.proofs.Logs.{one_node_ends}
use Rattle.lone_cluster.proofs.laws.one_node_ends.Goals as goal

pub returns : goal.returns
returns c = one_node_ends
