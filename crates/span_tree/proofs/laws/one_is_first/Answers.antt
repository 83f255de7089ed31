use Rattle.span_tree.proofs.ThreePlaces.{one_of_two}
use Rattle.span_tree.proofs.laws.one_is_first.Goals as goal

pub returns : goal.returns
returns c = one_of_two
