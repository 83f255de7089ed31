use Rattle.elision_trace.proofs.Elisions.{elision_obeys}
use Rattle.elision_trace.proofs.laws.elision_obeys.Goals as goal

pub returns : goal.returns
returns c = elision_obeys
