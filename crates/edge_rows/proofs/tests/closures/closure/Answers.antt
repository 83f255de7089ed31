use Rattle.std.proofs.Common.{sym, ◌∙◌, subst}
use Rattle.edge_rule.specs.Joins.{AreAmong}
use Rattle.plain_machine.specs.Standing.{own_locals}
use Rattle.edge_rows.proofs.Starting.{among}
use Rattle.edge_rows.proofs.tests.closures.closure.Goals as goal

pub returns-clause-targets : goal.returns-clause-targets
returns-clause-targets c =
    subst (AreAmong (own_locals c.in_ok-frame.field-0.frame)) (sym c.in_ok-from_slice.ensures)
    (among (own_locals c.in_ok-frame.field-0.frame) 2 c.in_ok-frame.ensures.locals c.args.away.now (sym c.have_targets.ensures ∙ c.if-not-have_targets.false))
