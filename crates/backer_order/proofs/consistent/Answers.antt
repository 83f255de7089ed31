use Rattle.backer_order.proofs.Ordered.{location_consistent}
use Rattle.backer_order.proofs.consistent.Goals as goal

pub returns : goal.returns
returns c = location_consistent
