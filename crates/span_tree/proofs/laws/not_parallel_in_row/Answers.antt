use Rattle.span_tree.proofs.ThreePlaces.{not_parallel_in_row}
use Rattle.span_tree.proofs.laws.not_parallel_in_row.Goals as goal

pub returns : goal.returns
returns c = not_parallel_in_row
