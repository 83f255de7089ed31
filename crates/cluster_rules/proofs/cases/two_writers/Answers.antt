use Rattle.cluster_rules.proofs.Worked.{two_writers_run}
use Rattle.cluster_rules.proofs.cases.two_writers.Goals as goal

pub returns : goal.returns
returns c = two_writers_run
