use Rattle.edge_rows.proofs.Starting.{two_locals}
use Rattle.edge_rows.proofs.tests.closures.frame.Goals as goal

pub returns-clause-locals : goal.returns-clause-locals
returns-clause-locals c =
    two_locals c.in_ok-start.field-0 c.proc-show.result _ _ 1 (c.in_ok-start.ensures.starts c.proc-show.result c.proc-show.ensures.proc) c.if-show-ne2.false c.if-show-ne2-2.false
