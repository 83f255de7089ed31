use Rattle.cluster_rules.proofs.Lawful.{lawful_with, lawful_without}
use Rattle.cluster_rules.proofs.laws.with_one_more_turn.Goals as goal

pub returns : goal.returns
returns c = λ cluster turns turn. (lawful_without cluster turns turn, λ both. lawful_with cluster turns turn both.0 both.1)
