use Rattle.cluster_rules.proofs.AsWritten.{stored_at_start}
use Rattle.cluster_rules.proofs.laws.stored_word_is_start_word.Goals as goal

pub returns : goal.returns
returns c = stored_at_start
