use Rattle.elision_trace.proofs.Elisions.{elision_remembers}
use Rattle.elision_trace.proofs.laws.elision_remembers.Goals as goal

pub returns : goal.returns
returns c = elision_remembers
