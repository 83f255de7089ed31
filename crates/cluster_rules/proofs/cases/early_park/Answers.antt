use Rattle.cluster_rules.proofs.Worked.{early_park_run}
use Rattle.cluster_rules.proofs.cases.early_park.Goals as goal

pub returns : goal.returns
returns c = early_park_run
