use Rattle.cilk_meaning.proofs.Wanting.{wants_are_kept}
use Rattle.cilk_meaning.proofs.laws.wants_are_kept.Goals as goal

pub returns : goal.returns
returns c = wants_are_kept
