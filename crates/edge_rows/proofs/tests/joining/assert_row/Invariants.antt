use Rattle.edge_rows.specs.Standing.{AllStand}
use Rattle.edge_rows.proofs.tests.joining.assert_row.Given as goal

abbrev pub invariant-loop-comes : goal.invariant-loop-comes
invariant-loop-comes g l = AllStand l.code l.joins
