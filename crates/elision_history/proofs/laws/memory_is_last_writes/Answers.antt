use Rattle.elision_history.proofs.Elisions.{memory_is_last_writes}
use Rattle.elision_history.proofs.laws.memory_is_last_writes.Goals as goal

pub returns : goal.returns
returns c = memory_is_last_writes
