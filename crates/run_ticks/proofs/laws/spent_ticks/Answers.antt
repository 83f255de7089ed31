use Rattle.run_ticks.proofs.Runs.{spent_ticks}
use Rattle.run_ticks.proofs.laws.spent_ticks.Goals as goal

pub returns : goal.returns
returns c = spent_ticks
