use Rattle.span_tree.proofs.Deciding.{precedes_on}
use Rattle.span_tree.proofs.laws.precedes_on.Goals as goal

pub returns : goal.returns
returns c = precedes_on
