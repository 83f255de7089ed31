use Rattle.cluster_rules.proofs.Refusing.{drop_refused}
use Rattle.cluster_rules.proofs.refusals.dropping_a_dirty_page_is_refused.Goals as goal

pub returns : goal.returns
returns c = drop_refused
