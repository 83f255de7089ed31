use Rattle.cluster_rules.proofs.Refusing.{take_up_refused}
use Rattle.cluster_rules.proofs.refusals.keeping_a_page_at_take_up_is_refused.Goals as goal

pub returns : goal.returns
returns c = take_up_refused
