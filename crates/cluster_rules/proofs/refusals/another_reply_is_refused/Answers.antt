use Rattle.cluster_rules.proofs.Refusing.{reply_refused}
use Rattle.cluster_rules.proofs.refusals.another_reply_is_refused.Goals as goal

pub returns : goal.returns
returns c = reply_refused
