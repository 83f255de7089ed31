use Rattle.std.proofs.Common.{sym, ◌∙◌}
use Rattle.race_check.proofs.access.Access.races_at.Goals as goal

pub returns-in-None : goal.returns-in-None
returns-in-None c = (
  λ t. absurd cc,
  λ race. sym (c.in-None.ensures {u = tt} c.args.self.word) ∙ race.first,
)
