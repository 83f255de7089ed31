use Rattle.cluster_rules.proofs.AsWritten.{cached_written}
use Rattle.cluster_rules.proofs.laws.cached_word_is_last_write.Goals as goal

pub returns : goal.returns
returns c = cached_written
