use Rattle.cluster_trace.proofs.Always.{runs_obey}
use Rattle.cluster_trace.proofs.runs_obey.Goals as goal

pub returns : goal.returns
returns c = runs_obey
