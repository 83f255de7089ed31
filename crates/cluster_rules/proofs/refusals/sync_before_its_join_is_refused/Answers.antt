use Rattle.cluster_rules.proofs.Refusing.{sync_refused}
use Rattle.cluster_rules.proofs.refusals.sync_before_its_join_is_refused.Goals as goal

pub returns : goal.returns
returns c = sync_refused
