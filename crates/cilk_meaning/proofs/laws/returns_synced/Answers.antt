use Rattle.cilk_meaning.proofs.Wanting.{returns_synced}
use Rattle.cilk_meaning.proofs.laws.returns_synced.Goals as goal

pub returns : goal.returns
returns c = returns_synced
