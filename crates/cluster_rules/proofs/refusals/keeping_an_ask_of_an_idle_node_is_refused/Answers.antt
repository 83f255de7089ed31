use Rattle.cluster_rules.proofs.Refusing.{ask_refused}
use Rattle.cluster_rules.proofs.refusals.keeping_an_ask_of_an_idle_node_is_refused.Goals as goal

pub returns : goal.returns
returns c = ask_refused
