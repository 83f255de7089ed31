use Rattle.elision_trace.proofs.Elisions.{elision_reads}
use Rattle.elision_trace.proofs.laws.elision_reads.Goals as goal

pub returns : goal.returns
returns c = elision_reads
