use Rattle.cluster_rules.proofs.AsWritten.{resident_since}
use Rattle.cluster_rules.proofs.laws.resident_page_arrived.Goals as goal

pub returns : goal.returns
returns c = resident_since
