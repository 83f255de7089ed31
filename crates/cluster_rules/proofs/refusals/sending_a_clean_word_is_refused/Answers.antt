use Rattle.cluster_rules.proofs.Refusing.{sending_refused}
use Rattle.cluster_rules.proofs.refusals.sending_a_clean_word_is_refused.Goals as goal

pub returns : goal.returns
returns c = sending_refused
