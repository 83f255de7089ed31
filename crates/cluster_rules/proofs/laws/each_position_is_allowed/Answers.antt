use Rattle.cluster_rules.proofs.Coursing.{lawful_at}
use Rattle.cluster_rules.proofs.laws.each_position_is_allowed.Goals as goal

pub returns : goal.returns
returns c = lawful_at
