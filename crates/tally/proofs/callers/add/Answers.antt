use Rattle.turnstile.proofs.Prefixes.{prefix_trans}
use Rattle.tally.proofs.callers.add.Goals as goal

pub returns-clause-seen : goal.returns-clause-seen
returns-clause-seen g c = prefix_trans _ _ _ c.enter-held.ensures.seen c.leave.ensures.grows
