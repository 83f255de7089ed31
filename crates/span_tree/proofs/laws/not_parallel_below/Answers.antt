use Rattle.span_tree.proofs.ThreePlaces.{not_parallel_below}
use Rattle.span_tree.proofs.laws.not_parallel_below.Goals as goal

pub returns : goal.returns
returns c = not_parallel_below
