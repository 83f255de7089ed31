use Rattle.cilk_meaning.proofs.Wanting.{always_wants}
use Rattle.cilk_meaning.proofs.laws.always_wants.Goals as goal

pub returns : goal.returns
returns c = always_wants
