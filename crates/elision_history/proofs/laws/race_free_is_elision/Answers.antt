use Rattle.elision_history.proofs.Elisions.{race_free_is_elision}
use Rattle.elision_history.proofs.laws.race_free_is_elision.Goals as goal

pub returns : goal.returns
returns c = race_free_is_elision
