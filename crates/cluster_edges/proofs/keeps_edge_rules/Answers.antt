use Rattle.cluster_edges.proofs.Edging.{keeps_edges}
use Rattle.cluster_edges.proofs.keeps_edge_rules.Goals as goal

pub returns : goal.returns
returns c = keeps_edges
