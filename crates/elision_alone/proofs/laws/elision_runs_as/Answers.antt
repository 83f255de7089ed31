use Rattle.elision_alone.proofs.RunsAs.{elision_runs_as}
use Rattle.elision_alone.proofs.laws.elision_runs_as.Goals as goal

pub returns : goal.returns
returns c = elision_runs_as
