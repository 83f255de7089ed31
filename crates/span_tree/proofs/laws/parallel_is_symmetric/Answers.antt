use Rattle.span_tree.proofs.ThreePlaces.{parallel_is_symmetric}
use Rattle.span_tree.proofs.laws.parallel_is_symmetric.Goals as goal

pub returns : goal.returns
returns c = parallel_is_symmetric
