use Rattle.cilk_meaning.proofs.Wanting.{bound_is_hidden}
use Rattle.cilk_meaning.proofs.laws.bound_is_hidden.Goals as goal

pub returns : goal.returns
returns c = bound_is_hidden
