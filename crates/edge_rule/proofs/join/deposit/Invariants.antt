use Rattle.std.proofs.Common.{drop}
use Rattle.edge_rule.proofs.Depositing.{Deposits}
use Rattle.edge_rule.proofs.join.deposit.Given as goal

abbrev pub invariant-loop-child : goal.invariant-loop-child
invariant-loop-child l = Deposits l.came.entries l.fn.frame l.fn.children l.frame (drop l.child-index l.children)
