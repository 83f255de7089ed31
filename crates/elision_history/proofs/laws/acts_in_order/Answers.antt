use Rattle.elision_history.proofs.Elisions.{acts_in_order}
use Rattle.elision_history.proofs.laws.acts_in_order.Goals as goal

pub returns : goal.returns
returns c = acts_in_order
