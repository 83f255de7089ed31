use Rattle.elision_trace.proofs.NoRace.{elision_race_free}
use Rattle.elision_trace.proofs.laws.elision_race_free.Goals as goal

pub returns : goal.returns
returns c = elision_race_free
