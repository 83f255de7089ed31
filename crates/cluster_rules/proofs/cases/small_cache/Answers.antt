use Rattle.cluster_rules.proofs.Worked.{small_cache_runs}
use Rattle.cluster_rules.proofs.cases.small_cache.Goals as goal

pub returns : goal.returns
returns c = small_cache_runs
