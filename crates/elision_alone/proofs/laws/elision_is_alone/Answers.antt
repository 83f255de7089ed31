use Rattle.elision_alone.proofs.Alone.{elision_is_alone}
use Rattle.elision_alone.proofs.laws.elision_is_alone.Goals as goal

pub returns : goal.returns
returns c = elision_is_alone
