use Rattle.cluster_rules.proofs.AsWritten.{dirty_since}
use Rattle.cluster_rules.proofs.laws.dirty_word_is_unsent.Goals as goal

pub returns : goal.returns
returns c = dirty_since
