use Rattle.determinacy.proofs.then_serial.Goals as goal
use Rattle.determinacy.proofs.Determined.{then_serial}

pub returns : goal.returns
returns c = then_serial
