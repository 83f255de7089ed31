use Rattle.run_ticks.proofs.Runs.{returned_ticks}
use Rattle.run_ticks.proofs.laws.returned_ticks.Goals as goal

pub returns : goal.returns
returns c = returned_ticks
