use Rattle.span_tree.proofs.ThreePlaces.{three_places}
use Rattle.span_tree.proofs.laws.three_places.Goals as goal

pub returns : goal.returns
returns c = three_places
