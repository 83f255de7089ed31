use Rattle.cluster_rules.proofs.Lawful.{locality}
use Rattle.cluster_rules.proofs.laws.own_past_decides.Goals as goal

pub returns : goal.returns
returns c = locality
