use Rattle.run_ticks.proofs.Runs.{run_ticks}
use Rattle.run_ticks.proofs.laws.run_ticks.Goals as goal

pub returns : goal.returns
returns c = run_ticks
