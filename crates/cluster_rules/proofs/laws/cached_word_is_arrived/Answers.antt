use Rattle.cluster_rules.proofs.AsWritten.{cached_arrived}
use Rattle.cluster_rules.proofs.laws.cached_word_is_arrived.Goals as goal

pub returns : goal.returns
returns c = cached_arrived
