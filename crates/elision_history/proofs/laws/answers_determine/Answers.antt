use Rattle.elision_history.proofs.Twins.{answers_determine}
use Rattle.elision_history.proofs.laws.answers_determine.Goals as goal

pub returns : goal.returns
returns c = answers_determine
