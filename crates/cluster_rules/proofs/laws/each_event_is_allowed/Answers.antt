use Rattle.cluster_rules.proofs.Lawful.{lawful_past}
use Rattle.cluster_rules.proofs.laws.each_event_is_allowed.Goals as goal

pub returns : goal.returns
returns c = lawful_past
