use Rattle.span_tree.proofs.ThreePlaces.{order_is_of_places}
use Rattle.span_tree.proofs.laws.order_is_of_places.Goals as goal

pub returns : goal.returns
returns c = order_is_of_places
