use Rattle.cluster_trace.proofs.Ends.{runs_come_to_ends}
use Rattle.cluster_trace.proofs.runs_come_to_ends.Goals as goal

pub returns : goal.returns
returns c = runs_come_to_ends
