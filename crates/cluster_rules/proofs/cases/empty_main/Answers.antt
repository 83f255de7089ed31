use Rattle.cluster_rules.proofs.Worked.{empty_main_runs}
use Rattle.cluster_rules.proofs.cases.empty_main.Goals as goal

pub returns : goal.returns
returns c = empty_main_runs
