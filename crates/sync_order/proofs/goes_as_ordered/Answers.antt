use Rattle.sync_order.proofs.Fitting as fitting
use Rattle.sync_order.proofs.goes_as_ordered.Goals as goal

pub returns : goal.returns
returns c = λ code program stands depth procedure arguments answers fit. fitting.goes_as_ordered code program stands depth procedure arguments answers fit
