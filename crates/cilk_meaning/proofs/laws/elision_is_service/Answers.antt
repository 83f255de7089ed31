use Rattle.cilk_meaning.proofs.Elisions.{elision_is_service}
use Rattle.cilk_meaning.proofs.laws.elision_is_service.Goals as goal

pub returns : goal.returns
returns c = elision_is_service
