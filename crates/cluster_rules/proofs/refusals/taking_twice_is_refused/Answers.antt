use Rattle.cluster_rules.proofs.Refusing.{taking_refused}
use Rattle.cluster_rules.proofs.refusals.taking_twice_is_refused.Goals as goal

pub returns : goal.returns
returns c = taking_refused
