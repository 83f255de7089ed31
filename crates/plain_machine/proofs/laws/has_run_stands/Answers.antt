use Rattle.plain_machine.proofs.Lasting.{lasts}
use Rattle.plain_machine.proofs.laws.has_run_stands.Goals as goal

pub returns : goal.returns
returns c = lasts
