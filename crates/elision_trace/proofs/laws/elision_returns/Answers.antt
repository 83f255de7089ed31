use Rattle.elision_trace.proofs.Elisions.{elision_returns}
use Rattle.elision_trace.proofs.laws.elision_returns.Goals as goal

pub returns : goal.returns
returns c = elision_returns
