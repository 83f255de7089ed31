use Rattle.elision_trace.proofs.NoRace.{elision_is_serial}
use Rattle.elision_trace.proofs.laws.elision_is_serial.Goals as goal

pub returns : goal.returns
returns c = elision_is_serial
