use Rattle.cluster_rules.proofs.Lawful.{cut_run}
use Rattle.cluster_rules.proofs.laws.cut_is_run.Goals as goal

pub returns : goal.returns
returns c = cut_run
