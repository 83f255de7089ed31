use Rattle.cluster_rules.proofs.Refusing.{grant_refused}
use Rattle.cluster_rules.proofs.refusals.grant_before_reconcile_is_refused.Goals as goal

pub returns : goal.returns
returns c = grant_refused
