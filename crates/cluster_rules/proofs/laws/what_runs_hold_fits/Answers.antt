use Rattle.cluster_rules.proofs.Fitted.{run_fits}
use Rattle.cluster_rules.proofs.laws.what_runs_hold_fits.Goals as goal

pub returns : goal.returns
returns c = run_fits
