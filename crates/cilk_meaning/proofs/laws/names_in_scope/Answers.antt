use Rattle.cilk_meaning.proofs.Parting.{names_in_scope}
use Rattle.cilk_meaning.proofs.laws.names_in_scope.Goals as goal

pub returns : goal.returns
returns c = names_in_scope
