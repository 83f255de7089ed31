use Rattle.cluster_rules.proofs.Worked.{three_writes_run}
use Rattle.cluster_rules.proofs.cases.three_writes.Goals as goal

pub returns : goal.returns
returns c = three_writes_run
