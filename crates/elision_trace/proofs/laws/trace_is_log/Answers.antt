use Rattle.elision_trace.proofs.Elisions.{trace_is_log}
use Rattle.elision_trace.proofs.laws.trace_is_log.Goals as goal

pub returns : goal.returns
returns c = trace_is_log
