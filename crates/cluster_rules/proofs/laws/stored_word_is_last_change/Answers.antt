use Rattle.cluster_rules.proofs.AsWritten.{stored_changed}
use Rattle.cluster_rules.proofs.laws.stored_word_is_last_change.Goals as goal

pub returns : goal.returns
returns c = stored_changed
