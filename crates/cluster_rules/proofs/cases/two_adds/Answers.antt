use Rattle.cluster_rules.proofs.Worked.{two_adds_run}
use Rattle.cluster_rules.proofs.cases.two_adds.Goals as goal

pub returns : goal.returns
returns c = two_adds_run
