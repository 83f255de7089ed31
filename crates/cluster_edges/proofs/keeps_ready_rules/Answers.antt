use Rattle.cluster_edges.proofs.Readying.{keeps_ready_rules}
use Rattle.cluster_edges.proofs.keeps_ready_rules.Goals as goal

pub returns : goal.returns
returns c = keeps_ready_rules
