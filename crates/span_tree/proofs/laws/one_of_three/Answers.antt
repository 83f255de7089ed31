use Rattle.span_tree.proofs.Deciding.{one_of_three}
use Rattle.span_tree.proofs.laws.one_of_three.Goals as goal

pub returns : goal.returns
returns c = one_of_three
