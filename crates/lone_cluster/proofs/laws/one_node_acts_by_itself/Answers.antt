use Rattle.lone_cluster.proofs.Logs.{one_node_acts_by_itself}
use Rattle.lone_cluster.proofs.laws.one_node_acts_by_itself.Goals as goal

pub returns : goal.returns
returns c = one_node_acts_by_itself
