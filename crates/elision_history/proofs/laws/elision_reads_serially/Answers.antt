use Rattle.elision_history.proofs.Elisions.{elision_reads_serially}
use Rattle.elision_history.proofs.laws.elision_reads_serially.Goals as goal

pub returns : goal.returns
returns c = elision_reads_serially
