use Rattle.elision_history.proofs.Elisions.{elision_is_history}
use Rattle.elision_history.proofs.laws.elision_is_history.Goals as goal

pub returns : goal.returns
returns c = elision_is_history
