use Rattle.elision_history.proofs.Elisions.{complete_is_elision}
use Rattle.elision_history.proofs.laws.complete_is_elision.Goals as goal

pub returns : goal.returns
returns c = complete_is_elision
