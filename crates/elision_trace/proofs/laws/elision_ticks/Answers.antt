use Rattle.elision_trace.proofs.Elisions.{elision_ticks}
use Rattle.elision_trace.proofs.laws.elision_ticks.Goals as goal

pub returns : goal.returns
returns c = elision_ticks
