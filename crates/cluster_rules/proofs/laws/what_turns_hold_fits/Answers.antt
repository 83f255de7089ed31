use Rattle.cluster_rules.proofs.Fitted.{turn_fits}
use Rattle.cluster_rules.proofs.laws.what_turns_hold_fits.Goals as goal

pub returns : goal.returns
returns c = turn_fits
